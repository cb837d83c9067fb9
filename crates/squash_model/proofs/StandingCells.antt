-- Where all births of a state stand, both bytes of each cell are the same.
use Rattle.std.specs.Prelude.{◌≡◌, ℕ, ◌==◌, Bool, true, false, ◌||◌, List, [], ◌∷◌, ◌++◌, map, Option, None, Some}
use Rattle.std.specs.List.{list_any, flat_map}
use Rattle.std.specs.Option.{option_map}
use Rattle.std.proofs.Common.{refl, ap, ap₂, ◌∙◌}
use Rattle.std.proofs.lemmas.Bool.{eq-eqb}
use Rattle.send_model.specs.Map.{Map}
use Rattle.send_model.specs.Subvolume.{Inode, Subvolume}
use Rattle.send_model.specs.Store.{Entry, Store, Part, State}
use Rattle.send_model.specs.Receive.{start_of}
use Rattle.send_model.specs.Provenance.{inode_with}
use Rattle.send_model.specs.Cells.{recelled, recelled_store, recelled_part, recelled_state}
use Rattle.squash_model.specs.Squashed.{Birth, births_of, births_in, births_inside, part_births, births_left, unborn}
use Rattle.squash_model.proofs.SquashedRuns.{lives, Both, plain_of, birth_of, squashed_of, unborn_byte}

abbrev pub has : List ℕ → ℕ → Bool
has births birth = list_any (λ b. b == birth) births

pub has_left : (xs ys : List ℕ) (b : ℕ) → has xs b ≡ true → has (xs ++ ys) b ≡ true
has_left [] ys b h = cc
has_left (x ∷ xs) ys b h = one (x == b) h (has_left xs ys b)
  where
    one : (t : Bool) → t || has xs b ≡ true → (has xs b ≡ true → has (xs ++ ys) b ≡ true) → t || has (xs ++ ys) b ≡ true
    one true q more = refl
    one false q more = more q

pub has_right : (xs ys : List ℕ) (b : ℕ) → has ys b ≡ true → has (xs ++ ys) b ≡ true
has_right [] ys b h = h
has_right (x ∷ xs) ys b h = one (x == b) (has_right xs ys b h)
  where
    one : (t : Bool) → has (xs ++ ys) b ≡ true → t || has (xs ++ ys) b ≡ true
    one true q = refl
    one false q = q

-- Inodes over other cells.
abbrev re : {C D : Type 0} → (C → D) → Map ℕ (Inode C) → Map ℕ (Inode D)
re f m = map (λ e. (e.0, inode_with e.1 (map f e.1.cells))) m

-- ---- other cells twice

module _ {C D E : Type 0} (f : C → D) (g : D → E) where
  cells_twice : (cells : List C) → map g (map f cells) ≡ map (λ c. g (f c)) cells
  cells_twice [] = refl
  cells_twice (c ∷ cells) = ap (λ (r : List E). g (f c) ∷ r) (cells_twice cells)

  inodes_twice : (m : Map ℕ (Inode C)) → re g (re f m) ≡ re (λ c. g (f c)) m
  inodes_twice [] = refl
  inodes_twice (e ∷ m) = let one : List E → ℕ × Inode E = λ cells. (e.0, inode_with e.1 cells) in λ i. one (cells_twice e.1.cells i) ∷ inodes_twice m i

  pub recelled_twice : (s : Subvolume C) → recelled g (recelled f s) ≡ recelled (λ c. g (f c)) s
  recelled_twice s = let at : Map ℕ (Inode E) → Subvolume E = λ m. record { inodes = m; names = s.names; next = s.next } in ap at (inodes_twice s.inodes)

  contents_twice : (o : Option (Subvolume C)) → option_map (recelled g) (option_map (recelled f) o) ≡ option_map (recelled (λ c. g (f c))) o
  contents_twice None = refl
  contents_twice (Some s) = ap (λ (t : Subvolume E). Some t) (recelled_twice s)

  pub store_twice : (store : Store C) → recelled_store g (recelled_store f store) ≡ recelled_store (λ c. g (f c)) store
  store_twice [] = refl
  store_twice (e ∷ store) = let one : Option (Subvolume E) → Entry (Subvolume E) = λ o. record { name = e.name; key = e.key; parent = e.parent; contents = o } in
      λ i. one (contents_twice e.contents i) ∷ store_twice store i

module _ {C : Type 0} where
  cells_same : (cells : List C) → map (λ c. c) cells ≡ cells
  cells_same [] = refl
  cells_same (c ∷ cells) = ap (λ (r : List C). c ∷ r) (cells_same cells)

  inodes_same : (m : Map ℕ (Inode C)) → re (λ c. c) m ≡ m
  inodes_same [] = refl
  inodes_same (e ∷ m) = let one : List C → ℕ × Inode C = λ cells. (e.0, inode_with e.1 cells) in λ i. one (cells_same e.1.cells i) ∷ inodes_same m i

  recelled_same : (s : Subvolume C) → recelled (λ c. c) s ≡ s
  recelled_same s = let at : Map ℕ (Inode C) → Subvolume C = λ m. record { inodes = m; names = s.names; next = s.next } in ap at (inodes_same s.inodes)

  contents_same : (o : Option (Subvolume C)) → option_map (recelled (λ c. c)) o ≡ o
  contents_same None = refl
  contents_same (Some s) = ap (λ (t : Subvolume C). Some t) (recelled_same s)

  pub store_same : (store : Store C) → recelled_store (λ c. c) store ≡ store
  store_same [] = refl
  store_same (e ∷ store) = let one : Option (Subvolume C) → Entry (Subvolume C) = λ o. record { name = e.name; key = e.key; parent = e.parent; contents = o } in
      λ i. one (contents_same e.contents i) ∷ store_same store i

-- ---- a store to start from

module _ (standing : ℕ → Bool) where
  abbrev pub start_both : Store ℕ → State (Both standing)
  start_both store = start_of (recelled_store (unborn_byte standing) store)

  pub plain_start : (store : Store ℕ) → recelled_state (plain_of standing) (start_both store) ≡ start_of store
  plain_start store = ap (λ (s : Store ℕ). start_of s) (store_twice (unborn_byte standing) (plain_of standing) store ∙ store_same store)

  pub squashed_start : (store : Store ℕ) → recelled_state (squashed_of standing) (start_both store) ≡ start_of store
  squashed_start store = ap (λ (s : Store ℕ). start_of s) (store_twice (unborn_byte standing) (squashed_of standing) store ∙ store_same store)

  pub birth_start : (store : Store ℕ) → recelled_state (birth_of standing) (start_both store) ≡ unborn store
  birth_start store = ap (λ (s : Store Birth). start_of s) (store_twice (unborn_byte standing) (birth_of standing) store)

  -- ---- cells of which all births stand

  abbrev pub AllStand : List ℕ → Type 0
  AllStand births = (b : ℕ) → has births b ≡ true → standing b ≡ true

  left_stand : (xs ys : List ℕ) → AllStand (xs ++ ys) → AllStand xs
  left_stand xs ys all b h = all b (has_left xs ys b h)

  right_stand : (xs ys : List ℕ) → AllStand (xs ++ ys) → AllStand ys
  right_stand xs ys all b h = all b (has_right xs ys b h)

  cells_alike : (cells : List (Both standing)) → AllStand (births_of (map (birth_of standing) cells)) → map (squashed_of standing) cells ≡ map (plain_of standing) cells
  cells_alike [] all = refl
  cells_alike (c ∷ cells) all = one c.birth c.same all (cells_alike cells)
    where
      one : (o : Birth) → (lives standing o ≡ true → c.squashed ≡ c.plain) → AllStand (births_of (o ∷ map (birth_of standing) cells))
          → (AllStand (births_of (map (birth_of standing) cells)) → map (squashed_of standing) cells ≡ map (plain_of standing) cells)
          → map (squashed_of standing) (c ∷ cells) ≡ map (plain_of standing) (c ∷ cells)
      one None same h more = ap₂ (λ (a : ℕ) (r : List ℕ). a ∷ r) (same refl) (more h)
      one (Some b) same h more = ap₂ (λ (a : ℕ) (r : List ℕ). a ∷ r) (same (h b (ap (λ (t : Bool). t || has (births_of (map (birth_of standing) cells)) b) (eq-eqb b b refl)))) (more (right_stand (b ∷ []) (births_of (map (birth_of standing) cells)) h))

  inodes_alike : (m : Map ℕ (Inode (Both standing))) → AllStand (flat_map (λ (e : ℕ × Inode Birth). births_of e.1.cells) (re (birth_of standing) m))
      → re (squashed_of standing) m ≡ re (plain_of standing) m
  inodes_alike [] all = refl
  inodes_alike (e ∷ m) all =
      let first : List ℕ = births_of (map (birth_of standing) e.1.cells) in
      let rest : List ℕ = flat_map (λ (x : ℕ × Inode Birth). births_of x.1.cells) (re (birth_of standing) m) in
      let one : List ℕ → ℕ × Inode ℕ = λ cells. (e.0, inode_with e.1 cells) in
      let here = cells_alike e.1.cells (left_stand first rest all) in
      let more = inodes_alike m (right_stand first rest all) in
      λ i. one (here i) ∷ more i

  subvolume_alike : (s : Subvolume (Both standing)) → AllStand (births_in (recelled (birth_of standing) s)) → recelled (squashed_of standing) s ≡ recelled (plain_of standing) s
  subvolume_alike s all = let at : Map ℕ (Inode ℕ) → Subvolume ℕ = λ m. record { inodes = m; names = s.names; next = s.next } in ap at (inodes_alike s.inodes all)

  contents_alike : (o : Option (Subvolume (Both standing))) → AllStand (births_inside (option_map (recelled (birth_of standing)) o)) → option_map (recelled (squashed_of standing)) o ≡ option_map (recelled (plain_of standing)) o
  contents_alike None all = refl
  contents_alike (Some s) all = ap (λ (t : Subvolume ℕ). Some t) (subvolume_alike s all)

  store_alike : (store : Store (Both standing)) → AllStand (flat_map (λ (e : Entry (Subvolume Birth)). births_inside e.contents) (recelled_store (birth_of standing) store))
      → recelled_store (squashed_of standing) store ≡ recelled_store (plain_of standing) store
  store_alike [] all = refl
  store_alike (e ∷ store) all =
      let first : List ℕ = births_inside (option_map (recelled (birth_of standing)) e.contents) in
      let rest : List ℕ = flat_map (λ (x : Entry (Subvolume Birth)). births_inside x.contents) (recelled_store (birth_of standing) store) in
      let one : Option (Subvolume ℕ) → Entry (Subvolume ℕ) = λ o. record { name = e.name; key = e.key; parent = e.parent; contents = o } in
      let here = contents_alike e.contents (left_stand first rest all) in
      let more = store_alike store (right_stand first rest all) in
      λ i. one (here i) ∷ more i

  part_alike : (o : Option (Part (Both standing))) → AllStand (elim (option_map (recelled_part (birth_of standing)) o) as (λ x. List ℕ) [ None ↦ [] | Some part ↦ births_in part.subvolume ])
      → option_map (recelled_part (squashed_of standing)) o ≡ option_map (recelled_part (plain_of standing)) o
  part_alike None all = refl
  part_alike (Some part) all = let at : Subvolume ℕ → Option (Part ℕ) = λ s. Some (record { key = part.key; subvolume = s }) in ap at (subvolume_alike part.subvolume all)

  pub state_alike : (state : State (Both standing)) → AllStand (births_left (recelled_state (birth_of standing) state)) → recelled_state (squashed_of standing) state ≡ recelled_state (plain_of standing) state
  unfolding births_left
  state_alike state all =
      let first : List ℕ = flat_map (λ (e : Entry (Subvolume Birth)). births_inside e.contents) (recelled_store (birth_of standing) state.store) in
      let rest : List ℕ = part_births (recelled_state (birth_of standing) state) in
      let here = store_alike state.store (left_stand first rest all) in
      let more = part_alike state.part (right_stand first rest all) in
      λ i. record { store = here i; part = more i }
