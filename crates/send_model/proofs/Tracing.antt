-- The traced cells of a base stand at their own places, and without their places they are its
-- bytes.
use Rattle.std.specs.Prelude.{◌≡◌, ℕ, ◌+◌, Bool, true, false, List, [], ◌∷◌, map, Option, None, Some, if◌then◌else◌}
use Rattle.std.specs.Option.{option_map}
use Rattle.std.specs.List.{AllByRecursion}
use Rattle.std.proofs.Common.{refl, sym, ap, ap₂, subst, ◌∙◌}
use Rattle.send_model.specs.Map.{Map}
use Rattle.send_model.specs.Subvolume.{Inode, Subvolume}
use Rattle.send_model.specs.Store.{Key, same_key, Entry, Store, State, find, step}
use Rattle.send_model.specs.Receive.{bytes_of}
use Rattle.send_model.specs.Command.{Command}
use Rattle.send_model.specs.Provenance.{Traced, fresh, traced_from, inode_with, traced_subvolume, traced_store}
use Rattle.send_model.specs.Cells.{recelled, recelled_entry, recelled_store, recelled_state, recelled_step, Good, cell_of, Holds}
use Rattle.send_model.proofs.Held.{goods}
use Rattle.send_model.proofs.Stores.{same_key_true}
use Rattle.send_model.proofs.Runs.{Takes, step_of}

abbrev pub byte_of : Traced → ℕ
byte_of c = c.byte

untraced_bytes : (key : Key) (ino offset : ℕ) (bytes : List ℕ) → map byte_of (traced_from key ino offset bytes) ≡ bytes
untraced_bytes key ino offset [] = refl
untraced_bytes key ino offset (b ∷ bytes) = ap (λ (r : List ℕ). b ∷ r) (untraced_bytes key ino (offset + 1) bytes)

untraced_inodes : (key : Key) (m : Map ℕ (Inode ℕ)) → map (λ (e : ℕ × Inode Traced). (e.0, inode_with e.1 (map byte_of e.1.cells))) (map (λ (e : ℕ × Inode ℕ). (e.0, inode_with e.1 (traced_from key e.0 0 e.1.cells))) m) ≡ m
untraced_inodes key [] = refl
untraced_inodes key (e ∷ m) = let one : List ℕ → ℕ × Inode ℕ = λ cells. (e.0, inode_with e.1 cells) in λ i. one (untraced_bytes key e.0 0 e.1.cells i) ∷ untraced_inodes key m i

pub untraced : (key : Key) (s : Subvolume ℕ) → recelled byte_of (traced_subvolume key s) ≡ s
unfolding traced_subvolume
untraced key s = let at : Map ℕ (Inode ℕ) → Subvolume ℕ = λ m. record { inodes = m; names = s.names; next = s.next } in ap at (untraced_inodes key s.inodes)

pub untraced_store : (store : Store ℕ) → recelled_store byte_of (traced_store store) ≡ store
unfolding traced_store
untraced_store [] = refl
untraced_store (e ∷ store) = ap₂ (λ (a : Entry (Subvolume ℕ)) (r : Store ℕ). a ∷ r) (one e.contents) (untraced_store store)
  where
    with_those : Option (Subvolume ℕ) → Entry (Subvolume ℕ)
    with_those o = record { name = e.name; key = e.key; parent = e.parent; contents = o }

    one : (o : Option (Subvolume ℕ)) → recelled_entry byte_of (record { name = e.name; key = e.key; parent = e.parent; contents = elim o as (λ x. Option (Subvolume Traced)) [ None ↦ None | Some s ↦ Some (traced_subvolume e.key s) ] }) ≡ record { name = e.name; key = e.key; parent = e.parent; contents = o }
    one None = refl
    one (Some s) = let at : Subvolume ℕ → Entry (Subvolume ℕ) = λ x. record { name = e.name; key = e.key; parent = e.parent; contents = Some x } in ap at (untraced e.key s)

-- What a traced store finds.
pub find_traced : (store : Store ℕ) (key : Key) → find (traced_store store) key ≡ option_map (traced_subvolume key) (find store key)
unfolding traced_store find
find_traced [] key = refl
find_traced (e ∷ store) key = one (same_key e.key key) refl e.contents (find_traced store key)
  where
    one : (b : Bool) → same_key e.key key ≡ b → (o : Option (Subvolume ℕ)) → find (traced_store store) key ≡ option_map (traced_subvolume key) (find store key)
        → (if b then (elim (elim o as (λ x. Option (Subvolume Traced)) [ None ↦ None | Some s ↦ Some (traced_subvolume e.key s) ]) as (λ x. Option (Subvolume Traced)) [ None ↦ find (traced_store store) key | Some s ↦ Some s ]) else find (traced_store store) key)
        ≡ option_map (traced_subvolume key) (if b then (elim o as (λ x. Option (Subvolume ℕ)) [ None ↦ find store key | Some s ↦ Some s ]) else find store key)
    one true t None more = more
    one true t (Some s) more = ap (λ (k : Key). Some (traced_subvolume k s)) (same_key_true e.key key t)
    one false t o more = more

-- ---- subvolumes whose cells all have a property

module _ {C : Type 0} (P : C → Type 0) where
  good_inodes : (m : Map ℕ (Inode C)) → AllByRecursion (λ e. AllByRecursion P e.1.cells) m → (n : Map ℕ (Inode (Good P))) × (map (λ e. (e.0, inode_with e.1 (map (cell_of P) e.1.cells))) n ≡ m)
  good_inodes [] all = ([], refl)
  good_inodes (e ∷ m) all =
      let cells = goods P e.1.cells all.0 in
      let more = good_inodes m all.1 in
      let one : List C → ℕ × Inode C = λ xs. (e.0, inode_with e.1 xs) in
      ((e.0, inode_with e.1 cells.0) ∷ more.0, λ i. one (cells.1 i) ∷ more.1 i)

  pub holds_from : (s : Subvolume C) → AllByRecursion (λ e. AllByRecursion P e.1.cells) s.inodes → Holds P s
  holds_from s all = let m = good_inodes s.inodes all in
      let at : Map ℕ (Inode C) → Subvolume C = λ x. record { inodes = x; names = s.names; next = s.next } in
      (record { inodes = m.0; names = s.names; next = s.next }, ap at m.1)

-- ---- the traced run

abbrev pub TTakes : State Traced → List Command → State Traced → Type 0
TTakes state [] end = state ≡ end
TTakes state (c ∷ cs) end = ((step (fresh 0) (map fresh (bytes_of c)) state c).refusal ≡ None) × TTakes (step (fresh 0) (map fresh (bytes_of c)) state c).state cs end

pub bytes_fresh : (bytes : List ℕ) → map byte_of (map fresh bytes) ≡ bytes
bytes_fresh [] = refl
bytes_fresh (b ∷ bytes) = ap (λ (r : List ℕ). b ∷ r) (bytes_fresh bytes)

-- With the law that no step looks at cells, what is taken is taken with its traces.
module _ (steps : (c : Command) (put : List Traced) (state : State Traced) → step 0 (map byte_of put) (recelled_state byte_of state) c ≡ recelled_step byte_of (step (fresh 0) put state c)) where
  pub takes_traced : (cs : List Command) (state : State Traced) (end : State ℕ) → Takes (recelled_state byte_of state) cs end → (last : State Traced) × TTakes state cs last × (recelled_state byte_of last ≡ end)
  takes_traced [] state end t = (state, refl, t)
  takes_traced (c ∷ cs) state end t =
      let next = step (fresh 0) (map fresh (bytes_of c)) state c in
      let same : step_of (recelled_state byte_of state) c ≡ recelled_step byte_of next = ap (λ (put : List ℕ). step 0 put (recelled_state byte_of state) c) (sym (bytes_fresh (bytes_of c))) ∙ steps c (map fresh (bytes_of c)) state in
      let t' : ((recelled_step byte_of next).refusal ≡ None) × Takes (recelled_step byte_of next).state cs end = subst (λ x. (x.refusal ≡ None) × Takes x.state cs end) same t in
      let more = takes_traced cs next.state end t'.1 in
      (more.0, (t'.0, more.1), more.2)
