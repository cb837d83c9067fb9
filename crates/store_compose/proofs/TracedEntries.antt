-- A core in which each cell of a store is traced to its own place, seen with the store's bytes, is
-- the traced store; and each cell is had.
use Rattle.std.specs.Prelude.{◌≡◌, ℕ, zero, suc, ◌+◌, ◌<◌, Bool, true, false, cond, List, [], ◌∷◌, map, length, drop, get_or, Option, None, Some, IfSome}
use Rattle.std.specs.Option.{option_map}
use Rattle.std.specs.Ordering.{nat_cmp, eq_by_cmp, is_eq}
use Rattle.std.specs.Cmp.{Equal-is, tied_itself, nat_cmp_total}
use Rattle.std.specs.List.{AllByRecursion, range_with_len}
use Rattle.std.proofs.Common.{refl, sym, ap, ap₂, subst, ◌∙◌, arith}
use Rattle.std.proofs.lemmas.List.{length-map}
use Rattle.std.proofs.lemmas.Map.Lookups.{exact_unsigned}
use Rattle.send_model.specs.Map.{Map, IsMap, value_at}
use Rattle.send_model.specs.Subvolume.{Inode, Subvolume, IsLawful, inode_at}
use Rattle.send_model.specs.Clone.{cells_of}
use Rattle.send_model.specs.Store.{Entry, Store, IsStore, find}
use Rattle.send_model.specs.Receive.{start_of}
use Rattle.send_model.specs.Provenance.{Traced, traced_from, inode_with, traced_subvolume, traced_entry, traced_store}
use Rattle.send_model.specs.Cells.{recelled, recelled_store, cell_of, Holds, AllCells}
use Rattle.send_model.proofs.CellSteps.{find-cells}
use Rattle.send_model.proofs.CellClones.{cells_of-cells}
use Rattle.send_model.proofs.Held.{goods}
use Rattle.send_model.proofs.MapLaws.{T_left, T_right, below_none}
use Rattle.extent_map.specs.Pieces.{run_cells}
use Rattle.inode_tree.specs.Retraced.{retraced}
use Rattle.subvol_catalog.specs.declared.key.Key as code
use Rattle.subvol_catalog.specs.Entries.{key_of}
use Rattle.provenance.specs.declared.trace.Trace.{Trace}
use Rattle.provenance.specs.Traces.{advanced_by, first_of, place_of}
use Rattle.clone_pieces.specs.Origins.{outside_cells, byte_of_trace, IsHad}
use Rattle.clone_pieces.specs.Seen.{seen}
use Rattle.store_commands.proofs.FoundFiles.{IsFoundIn, all_found}
use Rattle.store_compose.specs.Standing.{AreLawful, code_key, traced_to_itself}

-- ---- a map's entries are found

module _ {X : Type 0} where
  found_first : (f : ℕ × X) (m : Map ℕ X) → value_at nat_cmp f.0 (f ∷ m) ≡ Some f.1
  found_first f m = ap (λ (b : Bool). cond b (Some f.1) (value_at nat_cmp f.0 m)) (ap is_eq (tied_itself nat_cmp_total f.0))

  found_behind : (f : ℕ × X) (whole : Map ℕ X) (rest : Map ℕ X) → IsMap nat_cmp (f ∷ whole) → AllByRecursion (λ e. value_at nat_cmp e.0 whole ≡ Some e.1) rest → AllByRecursion (λ e. value_at nat_cmp e.0 (f ∷ whole) ≡ Some e.1) rest
  found_behind f whole [] h all = tt
  found_behind f whole (e ∷ rest) h all = (one (eq_by_cmp nat_cmp e.0 f.0) refl, found_behind f whole rest h all.1)
    where
      one : (b : Bool) → eq_by_cmp nat_cmp e.0 f.0 ≡ b → cond b (Some f.1) (value_at nat_cmp e.0 whole) ≡ Some e.1
      one true t = let none : value_at nat_cmp e.0 whole ≡ None = below_none nat_cmp nat_cmp_total exact_unsigned e.0 f.0 whole ((Equal-is _).0 t) (T_left _ _ h) in cc (none, all.0)
      one false t = all.0

  each_found : (m : Map ℕ X) → IsMap nat_cmp m → AllByRecursion (λ e. value_at nat_cmp e.0 m ≡ Some e.1) m
  each_found [] h = tt
  each_found (f ∷ m) h = (found_first f m, found_behind f m m h (each_found m (T_right _ _ h)))

-- ---- one file

drop_suc : (n : ℕ) (xs : List ℕ) (x : ℕ) (rest : List ℕ) → drop n xs ≡ x ∷ rest → (get_or xs n 0 ≡ x) × (drop (suc n) xs ≡ rest) × (n < length xs)
drop_suc zero [] x rest e = cc
drop_suc zero (y ∷ xs) x rest e = (cc, cc, omega arith)
drop_suc (suc n) [] x rest e = cc
drop_suc (suc n) (y ∷ xs) x rest e = let p = drop_suc n xs x rest e in (p.0, p.1, omega (arith, p.2))

drop_next : (n : ℕ) (xs : List ℕ) (x : ℕ) (rest : List ℕ) → drop n xs ≡ x ∷ rest → (get_or xs n 0 ≡ x) × (drop (n + 1) xs ≡ rest) × (n < length xs)
drop_next n xs x rest e = let p = drop_suc n xs x rest e in let s : n + 1 ≡ suc n = omega arith in (p.0, ap (λ (k : ℕ). drop k xs) s ∙ p.1, p.2)

module _ (told : List (List ℕ)) (base : Store ℕ) (key : code.Key) (ino : ℕ) where
  run_from : ℕ → ℕ → List (Option Trace)
  run_from offset n = map (λ k. Some (advanced_by (first_of key ino) k)) (range_with_len offset n)

  -- The cells of a file from an offset on, seen, are its bytes at their places.
  file_seen : (offset : ℕ) (rest : List ℕ) → drop offset (outside_cells base (key_of key) ino) ≡ rest → map (seen (byte_of_trace told base) place_of) (run_from offset (length rest)) ≡ traced_from (key_of key) ino offset rest
  unfolding run_from
  file_seen offset [] e = refl
  file_seen offset (b ∷ rest) e =
      let p = drop_next offset (outside_cells base (key_of key) ino) b rest e in
      let here : 0 + offset ≡ offset = omega arith in
      let cell : ℕ → ℕ → List Traced → List Traced = λ byte at more. record { byte = byte; place = Some (record { key = key_of key; ino = ino; offset = at }) } ∷ more in
      let more = file_seen (offset + 1) rest p.1 in
      ap (λ (k : ℕ). cell (get_or (outside_cells base (key_of key) ino) k 0) k (map (seen (byte_of_trace told base) place_of) (run_from (offset + 1) (length rest)))) here
      ∙ ap₂ (λ (x : ℕ) (y : List Traced). cell x offset y) p.0 more

  file_had : (offset : ℕ) (rest : List ℕ) → drop offset (outside_cells base (key_of key) ino) ≡ rest → AllByRecursion (IsHad 0 base) (run_from offset (length rest))
  unfolding run_from
  file_had offset [] e = tt
  file_had offset (b ∷ rest) e = let p = drop_next offset (outside_cells base (key_of key) ino) b rest e in (omega (arith, p.2), file_had (offset + 1) rest p.1)

-- ---- one subvolume

module _ {C : Type 0} (f : C → ℕ) (told : List (List ℕ)) (base : Store ℕ) (key : code.Key) where
  bytes_of_inode : ℕ × Inode C → ℕ × Inode ℕ
  bytes_of_inode e = (e.0, inode_with e.1 (map f e.1.cells))

  traced_in : ℕ × Inode C → ℕ × Inode (Option Trace)
  traced_in e = (e.0, inode_with e.1 (run_cells advanced_by (first_of key e.0) (length e.1.cells)))

  IsThere : ℕ × Inode C → Type 0
  IsThere e = outside_cells base (key_of key) e.0 ≡ map f e.1.cells

  seen_inode : ℕ × Inode (Option Trace) → ℕ × Inode Traced
  seen_inode e = (e.0, inode_with e.1 (map (seen (byte_of_trace told base) place_of) e.1.cells))

  traced_of : ℕ × Inode ℕ → ℕ × Inode Traced
  traced_of e = (e.0, inode_with e.1 (traced_from (key_of key) e.0 0 e.1.cells))

  inodes_seen : (m : Map ℕ (Inode C)) → AllByRecursion IsThere m → map seen_inode (map traced_in m) ≡ map traced_of (map bytes_of_inode m)
  unfolding seen_inode traced_of traced_in bytes_of_inode IsThere run_cells run_from
  inodes_seen [] h = refl
  inodes_seen (e ∷ m) h =
      let one : map (seen (byte_of_trace told base) place_of) (run_cells advanced_by (first_of key e.0) (length e.1.cells)) ≡ traced_from (key_of key) e.0 0 (map f e.1.cells) =
      ap (λ (n : ℕ). map (seen (byte_of_trace told base) place_of) (run_from told base key e.0 0 n)) (sym (length-map e.1.cells f)) ∙ file_seen told base key e.0 0 (map f e.1.cells) h.0 in
      let more = inodes_seen m h.1 in
      let at : List Traced → ℕ × Inode Traced = λ cells. (e.0, inode_with e.1 cells) in
      λ i. at (one i) ∷ more i

  inodes_had : (m : Map ℕ (Inode C)) → AllByRecursion IsThere m → AllByRecursion (λ e. AllByRecursion (IsHad 0 base) e.1.cells) (map traced_in m)
  unfolding traced_in IsThere run_cells run_from
  inodes_had [] h = tt
  inodes_had (e ∷ m) h =
      (subst (λ (n : ℕ). AllByRecursion (IsHad 0 base) (run_from told base key e.0 0 n)) (length-map e.1.cells f) (file_had told base key e.0 0 (map f e.1.cells) h.0), inodes_had m h.1)

  file_there : (s : Subvolume C) → find base (key_of key) ≡ Some (recelled f s) → (ino : ℕ) (inode : Inode C) → inode_at s ino ≡ Some inode → outside_cells base (key_of key) ino ≡ map f inode.cells
  unfolding cells_of
  file_there s found ino inode e =
      ap (λ (o : Option (Subvolume ℕ)). elim o as (λ x. List ℕ) [ None ↦ [] | Some t ↦ cells_of t ino ]) found
      ∙ cells_of-cells f s ino
      ∙ ap (λ (o : Option (Inode C)). map f (elim o as (λ x. List C) [ None ↦ [] | Some i ↦ i.cells ])) e

  all_there : (s : Subvolume C) → find base (key_of key) ≡ Some (recelled f s) → (m : Map ℕ (Inode C)) → AllByRecursion (λ e. inode_at s e.0 ≡ Some e.1) m → AllByRecursion IsThere m
  unfolding IsThere
  all_there s found [] h = tt
  all_there s found (e ∷ m) h = (file_there s found e.0 e.1 h.0, all_there s found m h.1)

  inodes_there : (s : Subvolume C) → find base (key_of key) ≡ Some (recelled f s) → IsMap nat_cmp s.inodes → AllByRecursion IsThere s.inodes
  inodes_there s found sorted = all_there s found s.inodes (each_found s.inodes sorted)

  -- A subvolume that the base has, traced to itself and seen with the base's bytes.
  subvolume_seen : (s : Subvolume C) → find base (key_of key) ≡ Some (recelled f s) → IsMap nat_cmp s.inodes
      → recelled (seen (byte_of_trace told base) place_of) (retraced advanced_by (first_of key) s) ≡ traced_subvolume (key_of key) (recelled f s)
  unfolding traced_subvolume seen_inode traced_of traced_in bytes_of_inode
  subvolume_seen s found sorted =
      let inodes = inodes_seen s.inodes (inodes_there s found sorted) in
      λ i. record { inodes = inodes i; names = s.names; next = s.next }

  good_inodes : (P : Option Trace → Type 0) (m : Map ℕ (Inode (Option Trace))) → AllByRecursion (λ e. AllByRecursion P e.1.cells) m
      → (g : Map ℕ (Inode ((c : Option Trace) × P c))) × (map (λ e. (e.0, inode_with e.1 (map (cell_of P) e.1.cells))) g ≡ m)
  good_inodes P [] all = ([], refl)
  good_inodes P (e ∷ m) all =
      let here = goods P e.1.cells all.0 in
      let more = good_inodes P m all.1 in
      ((e.0, inode_with e.1 here.0) ∷ more.0, λ i. (e.0, inode_with e.1 (here.1 i)) ∷ more.1 i)

  holds_from : (P : Option Trace → Type 0) (s : Subvolume (Option Trace)) → AllByRecursion (λ e. AllByRecursion P e.1.cells) s.inodes → Holds P s
  holds_from P s all =
      let m = good_inodes P s.inodes all in
      let at : Map ℕ (Inode (Option Trace)) → Subvolume (Option Trace) = λ x. record { inodes = x; names = s.names; next = s.next } in
      (record { inodes = m.0; names = s.names; next = s.next }, ap at m.1)

  subvolume_had : (s : Subvolume C) → find base (key_of key) ≡ Some (recelled f s) → IsMap nat_cmp s.inodes → Holds (IsHad 0 base) (retraced advanced_by (first_of key) s)
  unfolding traced_in
  subvolume_had s found sorted = holds_from (IsHad 0 base) (retraced advanced_by (first_of key) s) (inodes_had s.inodes (inodes_there s found sorted))

-- ---- all subvolumes

module _ {C : Type 0} (f : C → ℕ) (whole : Store C) where
  -- What an entry has is found with its bytes.
  found_bytes : (e : Entry (Subvolume C)) → IsFoundIn whole e → (s : Subvolume C) → e.contents ≡ Some s → find (recelled_store f whole) e.key ≡ Some (recelled f s)
  found_bytes e found s is = find-cells f whole e.key ∙ ap (option_map (recelled f)) (found s is)

  entries_seen : (told : List (List ℕ)) (store : Store C) → AllByRecursion (IsFoundIn whole) store → AreLawful store
      → recelled_store (seen (byte_of_trace told (recelled_store f whole)) place_of) (map traced_to_itself store) ≡ map traced_entry (recelled_store f store)
  entries_seen told [] found all = refl
  entries_seen told (e ∷ store) found all =
      let contents = one e.contents (found_bytes e found.0) all.0 in
      let more = entries_seen told store found.1 all.1 in
      λ i. record { name = e.name; key = e.key; parent = e.parent; contents = contents i } ∷ more i
    where
      one : (o : Option (Subvolume C)) → ((s : Subvolume C) → o ≡ Some s → find (recelled_store f whole) e.key ≡ Some (recelled f s)) → IfSome o IsLawful
          → option_map (recelled (seen (byte_of_trace told (recelled_store f whole)) place_of)) (option_map (retraced advanced_by (first_of (code_key e.key))) o)
          ≡ elim (option_map (recelled f) o) as (λ x. Option (Subvolume Traced)) [ None ↦ None | Some s ↦ Some (traced_subvolume e.key s) ]
      one None g h = refl
      one (Some s) g h = ap (λ (t : Subvolume Traced). Some t) (subvolume_seen f told (recelled_store f whole) (code_key e.key) s (g s refl) h.sound.inodes_in_order)

  entries_had : (store : Store C) → AllByRecursion (IsFoundIn whole) store → AreLawful store → AllByRecursion (λ e. IfSome e.contents (Holds (IsHad 0 (recelled_store f whole)))) (map traced_to_itself store)
  entries_had [] found all = tt
  entries_had (e ∷ store) found all = (one e.contents (found_bytes e found.0) all.0, entries_had store found.1 all.1)
    where
      one : (o : Option (Subvolume C)) → ((s : Subvolume C) → o ≡ Some s → find (recelled_store f whole) e.key ≡ Some (recelled f s)) → IfSome o IsLawful
          → IfSome (option_map (retraced advanced_by (first_of (code_key e.key))) o) (Holds (IsHad 0 (recelled_store f whole)))
      one None g h = tt
      one (Some s) g h = subvolume_had f [] (recelled_store f whole) (code_key e.key) s (g s refl) h.sound.inodes_in_order

  -- A core with the subvolumes of a store traced to themselves is the traced store, and each of its
  -- cells is had.
  pub store_traced : IsStore whole → AreLawful whole → (told : List (List ℕ))
      → recelled_store (seen (byte_of_trace told (recelled_store f whole)) place_of) (map traced_to_itself whole) ≡ traced_store (recelled_store f whole)
  unfolding traced_store
  store_traced distinct lawful told = entries_seen told whole (all_found whole distinct) lawful

  pub store_had : IsStore whole → AreLawful whole → AllCells (IsHad 0 (recelled_store f whole)) (start_of (map traced_to_itself whole))
  store_had distinct lawful = record { complete = entries_had whole (all_found whole distinct) lawful; part = tt }
