-- Files by their paths, over any cells, and the entry of a key.
use Rattle.std.specs.Prelude.{◌≡◌, ℕ, ◌==◌, Bool, true, false, ◌&&◌, List, [], ◌∷◌, Option, None, Some, Result, Ok, Err, if◌then◌else◌}
use Rattle.std.specs.List.{AllByRecursion}
use Rattle.std.specs.Str.{bytes_eq}
use Rattle.std.proofs.Common.{refl, sym, ap, ◌∙◌}
use Rattle.send_model.specs.Refusal.{Refusal}
use Rattle.send_model.specs.Clone.{cells_of}
use Rattle.send_model.specs.Subvolume.{Inode, Subvolume, is_file_kind, passes_inode, inode_at, is_file, walk}
use Rattle.send_model.specs.Store.{Entry, IsStore, has_uuid, find}
use Rattle.send_model.specs.Cells.{recelled}
use Rattle.send_model.proofs.Stores.{or_parts, same_key_same}
use Rattle.send_model.proofs.MergingClones.{turned_false}
use Rattle.send_model.proofs.CellMaps.{walk-cells, is_file-cells}
use Rattle.store_model.specs.Dues.{file_of, file_at}
use Rattle.store_commands.specs.Files.{found_file}

-- ---- files

module _ {C : Type 0} (path : List ℕ) (s : Subvolume C) where
  -- what an inode that is a file has
  its_cells : (o : Option (Inode C)) (ino : ℕ) → inode_at s ino ≡ o → passes_inode (λ inode. is_file_kind inode.kind) o ≡ true → file_of s o ≡ Some (cells_of s ino)
  unfolding cells_of
  its_cells None ino is passes = cc
  its_cells (Some inode) ino is passes = sym (ap (λ (o : Option (Inode C)). Some (elim o as (λ x. List C) [ None ↦ [] | Some j ↦ j.cells ])) is)

  file_passes : (ino : ℕ) → is_file s ino ≡ true → passes_inode (λ inode. is_file_kind inode.kind) (inode_at s ino) ≡ true
  unfolding is_file
  file_passes ino is = is

  abbrev number_in : Result ℕ Refusal → Option ℕ
  number_in (Err refusal) = None
  number_in (Ok ino) = if is_file s ino then Some ino else None

  abbrev cells_in : Result ℕ Refusal → Option (List C)
  cells_in (Err refusal) = None
  cells_in (Ok ino) = if is_file s ino then file_of s (inode_at s ino) else None

  number_is : found_file path s ≡ number_in (walk s path)
  unfolding found_file
  number_is = by_walk (walk s path)
    where
      by_walk : (r : Result ℕ Refusal) → (elim r as (λ x. Option ℕ) [ Err refusal ↦ None | Ok ino ↦ if is_file s ino then Some ino else None ]) ≡ number_in r
      by_walk (Err refusal) = refl
      by_walk (Ok ino) = refl

  cells_are : file_at path s ≡ cells_in (walk s path)
  unfolding file_at
  cells_are = by_walk (walk s path)
    where
      by_walk : (r : Result ℕ Refusal) → (elim r as (λ x. Option (List C)) [ Err refusal ↦ None | Ok ino ↦ if is_file s ino then file_of s (inode_at s ino) else None ]) ≡ cells_in r
      by_walk (Err refusal) = refl
      by_walk (Ok ino) = refl

  found_in : (r : Result ℕ Refusal) (ino : ℕ) → number_in r ≡ Some ino → cells_in r ≡ Some (cells_of s ino)
  found_in (Err refusal) ino is = cc
  found_in (Ok other) ino is = by_test (is_file s other) refl is
    where
      by_test : (b : Bool) → is_file s other ≡ b → (if b then Some other else None) ≡ Some ino → (if b then file_of s (inode_at s other) else None) ≡ Some (cells_of s ino)
      by_test true is_one same = let here : other ≡ ino = cc in its_cells (inode_at s other) other refl (file_passes other is_one) ∙ ap (λ (n : ℕ). Some (cells_of s n)) here
      by_test false is_none same = cc

  none_in : (r : Result ℕ Refusal) → number_in r ≡ None → cells_in r ≡ None
  none_in (Err refusal) is = refl
  none_in (Ok other) is = by_test (is_file s other) is
    where
      by_test : (b : Bool) → (if b then Some other else None) ≡ None → (if b then file_of s (inode_at s other) else None) ≡ None
      by_test true same = cc
      by_test false same = refl

  pub file_is : (ino : ℕ) → found_file path s ≡ Some ino → file_at path s ≡ Some (cells_of s ino)
  file_is ino is = cells_are ∙ found_in (walk s path) ino (sym number_is ∙ is)

  pub no_file : found_file path s ≡ None → file_at path s ≡ None
  no_file is = cells_are ∙ none_in (walk s path) (sym number_is ∙ is)

module _ {C D : Type 0} (f : C → D) (path : List ℕ) (s : Subvolume C) where
  pub same_file : found_file path (recelled f s) ≡ found_file path s
  unfolding found_file
  same_file =
      ap (λ (r : Result ℕ Refusal). elim r as (λ x. Option ℕ) [ Err refusal ↦ None | Ok ino ↦ if is_file (recelled f s) ino then Some ino else None ]) (walk-cells f s path) ∙ by_walk (walk s path)
    where
      by_walk : (r : Result ℕ Refusal) → (elim r as (λ x. Option ℕ) [ Err refusal ↦ None | Ok ino ↦ if is_file (recelled f s) ino then Some ino else None ])
          ≡ (elim r as (λ x. Option ℕ) [ Err refusal ↦ None | Ok ino ↦ if is_file s ino then Some ino else None ])
      by_walk (Err refusal) = refl
      by_walk (Ok ino) = ap (λ (b : Bool). if b then Some ino else None) (is_file-cells f s ino)

-- ---- the entry of a key

module _ {S : Type 0} where
  abbrev pub IsFoundIn : List (Entry S) → Entry S → Type 0
  IsFoundIn store e = (s : S) → e.contents ≡ Some s → find store e.key ≡ Some s

  found_first : (e : Entry S) (store : List (Entry S)) → IsFoundIn (e ∷ store) e
  unfolding find
  found_first e store s is =
      ap (λ (b : Bool). if b then elim e.contents as (λ x. Option S) [ None ↦ find store e.key | Some t ↦ Some t ] else find store e.key) (same_key_same e.key)
      ∙ ap (λ (o : Option S). elim o as (λ x. Option S) [ None ↦ find store e.key | Some t ↦ Some t ]) is

  found_behind : (e : Entry S) (store rest : List (Entry S)) → has_uuid e.key.uuid rest ≡ false → AllByRecursion (IsFoundIn store) rest → AllByRecursion (IsFoundIn (e ∷ store)) rest
  unfolding find
  found_behind e store [] h all = tt
  found_behind e store (g ∷ rest) h all =
      let p = or_parts (bytes_eq g.key.uuid e.key.uuid) (has_uuid e.key.uuid rest) h in (
        (λ s is.
            ap (λ (b : Bool). if b && (e.key.ctransid == g.key.ctransid) then elim e.contents as (λ x. Option S) [ None ↦ find store g.key | Some t ↦ Some t ] else find store g.key) (turned_false g.key.uuid e.key.uuid p.0)
            ∙ all.0 s is),
        found_behind e store rest p.1 all.1,
      )

  -- Each complete entry of a store is found by its key.
  pub all_found : (store : List (Entry S)) → IsStore store → AllByRecursion (IsFoundIn store) store
  all_found [] h = tt
  all_found (e ∷ store) h = (found_first e store, found_behind e store store h.1 (all_found store h.2))
