-- A subvolume that is traced to itself has the places that provenance begins with.
use Rattle.std.specs.Prelude.{◌≡◌, ℕ, zero, suc, ◌+◌, List, [], ◌∷◌, map, length, Option, Some, Result, Ok, Err, IfOk}
use Rattle.std.specs.List.{range_with_len}
use Rattle.std.proofs.Common.{refl, sym, ap, ◌∙◌, arith}
use Rattle.std.proofs.lemmas.List.{length-map}
use Rattle.send_model.specs.Map.{Map}
use Rattle.send_model.specs.Subvolume.{Inode, Subvolume}
use Rattle.send_model.specs.Store as meant
use Rattle.send_model.specs.Provenance.{Place, Traced, traced_from, traced_subvolume, inode_with}
use Rattle.send_model.specs.Cells.{recelled}
use Rattle.extent_map.specs.Pieces.{run_cells}
use Rattle.inode_tree.specs.Retraced.{retraced}
use Rattle.subvol_catalog.specs.declared.key.Key.{Key}
use Rattle.subvol_catalog.specs.Entries.{key_of}
use Rattle.provenance.specs.declared.trace.Trace.{Trace}
use Rattle.provenance.specs.Traces.{advanced_by, place_in, first_of, sized}

-- The places of so many bytes of a file from a place on.
places_from : meant.Key → ℕ → ℕ → ℕ → List (Option Place)
places_from key ino offset zero = []
places_from key ino offset (suc n) = Some (record { key = key; ino = ino; offset = offset }) ∷ places_from key ino (offset + 1) n

emptied : {C : Type 0} → List C → List (Unit {0})
emptied cells = map (λ c. tt) cells

traced_places : (key : meant.Key) (ino offset : ℕ) (bytes : List ℕ) → map (λ (c : Traced). c.place) (traced_from key ino offset bytes) ≡ places_from key ino offset (length (emptied bytes))
unfolding places_from emptied
traced_places key ino offset [] = refl
traced_places key ino offset (b ∷ bytes) = ap (λ (r : List (Option Place)). Some (record { key = key; ino = ino; offset = offset }) ∷ r) (traced_places key ino (offset + 1) bytes)

run_places : (key : Key) (ino offset n : ℕ) → map place_in (map (λ k. Some (advanced_by (first_of key ino) k)) (range_with_len offset n)) ≡ places_from (key_of key) ino offset n
unfolding places_from
run_places key ino offset zero = refl
run_places key ino offset (suc n) =
    let here : 0 + offset ≡ offset = omega arith in
    let at : ℕ → List (Option Place) = λ k. Some (record { key = key_of key; ino = ino; offset = k }) ∷ map place_in (map (λ j. Some (advanced_by (first_of key ino) j)) (range_with_len (offset + 1) n)) in
    ap at here ∙ ap (λ (r : List (Option Place)). Some (record { key = key_of key; ino = ino; offset = offset }) ∷ r) (run_places key ino (offset + 1) n)

retraced_places : {C : Type 0} (key : Key) (ino : ℕ) (cells : List C) → map place_in (run_cells advanced_by (first_of key ino) (length cells)) ≡ places_from (key_of key) ino 0 (length (emptied cells))
unfolding run_cells emptied
retraced_places key ino cells = run_places key ino 0 (length cells) ∙ ap (places_from (key_of key) ino 0) (sym (length-map cells (λ c. tt)))

-- Places by the number of cells alone.
placed : meant.Key → ℕ × Inode (Unit {0}) → ℕ × Inode (Option Place)
placed key e = (e.0, inode_with e.1 (places_from key e.0 0 (length e.1.cells)))

emptied_inodes : {C : Type 0} → Map ℕ (Inode C) → Map ℕ (Inode (Unit {0}))
emptied_inodes m = map (λ e. (e.0, inode_with e.1 (map (λ c. tt) e.1.cells))) m

entry : {P : Type 0} → ℕ → Inode P → List (Option Place) → ℕ × Inode (Option Place)
entry k inode cells = (k, inode_with inode cells)

traced_inodes : (key : meant.Key) (m : Map ℕ (Inode ℕ)) → map (λ (e : ℕ × Inode Traced). (e.0, inode_with e.1 (map (λ (c : Traced). c.place) e.1.cells))) (map (λ (e : ℕ × Inode ℕ). (e.0, inode_with e.1 (traced_from key e.0 0 e.1.cells))) m) ≡ map (placed key) (emptied_inodes m)
unfolding placed emptied emptied_inodes entry
traced_inodes key [] = refl
traced_inodes key (e ∷ m) = let one = ap (entry e.0 e.1) (traced_places key e.0 0 e.1.cells) in λ i. one i ∷ traced_inodes key m i

retraced_inodes : {C : Type 0} (key : Key) (m : Map ℕ (Inode C)) → map (λ (e : ℕ × Inode (Option Trace)). (e.0, inode_with e.1 (map place_in e.1.cells))) (map (λ (e : ℕ × Inode C). (e.0, inode_with e.1 (run_cells advanced_by (first_of key e.0) (length e.1.cells)))) m) ≡ map (placed (key_of key)) (emptied_inodes m)
unfolding placed emptied emptied_inodes entry
retraced_inodes key [] = refl
retraced_inodes {C} key (e ∷ m) = let one = ap (entry e.0 e.1) (retraced_places key e.0 e.1.cells) in λ i. one i ∷ retraced_inodes key m i

-- Traced to itself by its sizes, a subvolume has the places of the definitions.
pub retraced_is_traced : {C : Type 0} (key : Key) (sub : Subvolume C) (s : Subvolume ℕ) → sized s ≡ sized sub
    → recelled place_in (retraced advanced_by (first_of key) sub) ≡ recelled (λ (c : Traced). c.place) (traced_subvolume (key_of key) s)
unfolding traced_subvolume emptied_inodes
retraced_is_traced key sub s e =
    let inodes = retraced_inodes key sub.inodes ∙ ap (λ (t : Subvolume (Unit {0})). map (placed (key_of key)) t.inodes) (sym e) ∙ sym (traced_inodes (key_of key) s.inodes) in
    λ i. record { inodes = inodes i; names = (sym e i).names; next = (sym e i).next }

pub ok_is_traced : {C E : Type 0} (key : Key) (sub : Subvolume C) (r : Result (Subvolume (Option Trace)) E) → IfOk r (λ traced. traced ≡ retraced advanced_by (first_of key) sub)
    → IfOk r (λ traced. (s : Subvolume ℕ) → sized s ≡ sized sub → recelled place_in traced ≡ recelled (λ (c : Traced). c.place) (traced_subvolume (key_of key) s))
ok_is_traced key sub (Ok traced) h = λ s e. ap (recelled place_in) h ∙ retraced_is_traced key sub s e
ok_is_traced key sub (Err why) h = tt
