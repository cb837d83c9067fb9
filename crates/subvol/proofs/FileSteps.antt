-- What the edits of contents say, from what their tests give.
use Rattle.std.specs.Prelude.{◌≡◌, ℕ, ◌+◌, Bool, true, false, List, [], Option, None, Some, Result, Ok, Err, nat_le}
use Rattle.std.proofs.Common.{refl, sym, ap, subst, ◌∙◌}
use Rattle.send_model.specs.Refusal.{Refusal, NotFile, FileTooBig, BadFallocate}
use Rattle.send_model.specs.Chain.{◌>>=◌, ◌>>◌, require, found}
use Rattle.send_model.specs.Subvolume.{Inode, Subvolume, inode_at, is_file, walk}
use Rattle.send_model.specs.Edit.{Allocation, allocation_of, greatest_end, set_inode, change_inode, set_cells, change_contents, fallocate, fallocated}
use Rattle.send_model.specs.Clone.{cells_of}
use Rattle.send_model.proofs.Fuel.{ok_same}
use Rattle.send_model.proofs.Rewriting.{cells_twice, file_there}
use Rattle.inode_tree.proofs.Chains.{goes_on, stops, finds, misses}
use Rattle.inode_tree.proofs.TreeLaws.{cells_found}
use Rattle.subvol.specs.Files.{file_at}

-- ---- chains of tests

module _ {A B : Type 0} where
  require_ok : (b : Bool) (refusal : Refusal) (a : A) (f : A → Result B Refusal) → (require b refusal >> f a) ≡ ((require b refusal >> Ok a) >>= f)
  require_ok true refusal a f = refl
  require_ok false refusal a f = refl

module _ {B : Type 0} where
  pub passed : (x : Result (Unit {0}) Refusal) (rest : Result B Refusal) → x ≡ Ok tt → (x >> rest) ≡ rest
  passed x rest e = ap (λ (y : Result (Unit {0}) Refusal). y >> rest) e

  pub failed : (x : Result (Unit {0}) Refusal) (rest : Result B Refusal) (refusal : Refusal) → x ≡ Err refusal → (x >> rest) ≡ Err refusal
  failed x rest refusal e = ap (λ (y : Result (Unit {0}) Refusal). y >> rest) e

module _ {C : Type 0} (s : Subvolume C) where
  pub file_first : {B : Type 0} (path : List ℕ) (rest : ℕ → Result B Refusal) → (walk s path >>= λ ino. require (is_file s ino) NotFile >> rest ino) ≡ (file_at s path >>= rest)
  file_first path rest = one (walk s path)
    where
      one : (x : Result ℕ Refusal) → (x >>= λ ino. require (is_file s ino) NotFile >> rest ino) ≡ ((x >>= λ ino. require (is_file s ino) NotFile >> Ok ino) >>= rest)
      one (Err refusal) = refl
      one (Ok ino) = require_ok (is_file s ino) NotFile ino rest

  pub is_file_at : (path : List ℕ) (ino : ℕ) → file_at s path ≡ Ok ino → is_file s ino ≡ true
  is_file_at path ino e = one (walk s path) e
    where
      two : (i : ℕ) (b : Bool) → is_file s i ≡ b → (require b NotFile >> Ok i) ≡ Ok ino → is_file s ino ≡ true
      two i true is q = subst (λ (j : ℕ). is_file s j ≡ true) (ok_same q) is
      two i false is q = cc

      one : (x : Result ℕ Refusal) → (x >>= λ i. require (is_file s i) NotFile >> Ok i) ≡ Ok ino → is_file s ino ≡ true
      one (Err refusal) q = cc
      one (Ok i) q = two i (is_file s i) refl q

  module _ (path : List ℕ) where
    -- ---- WRITE and TRUNCATE

    module _ (end : ℕ) (change : List C → List C) where
      by_file : change_contents path end change s ≡ (file_at s path >>= λ ino. require (nat_le end greatest_end) FileTooBig >> Ok (change_inode ino (set_cells change) s))
      unfolding change_contents
      by_file = file_first path (λ ino. require (nat_le end greatest_end) FileTooBig >> Ok (change_inode ino (set_cells change) s))

      pub contents_lost : (refusal : Refusal) → file_at s path ≡ Err refusal → change_contents path end change s ≡ Err refusal
      contents_lost refusal e = by_file ∙ stops (file_at s path) _ refusal e

      pub contents_big : (ino : ℕ) (refusal : Refusal) → file_at s path ≡ Ok ino → require (nat_le end greatest_end) FileTooBig ≡ Err refusal → change_contents path end change s ≡ Err refusal
      contents_big ino refusal e big = by_file ∙ (goes_on (file_at s path) _ ino e ∙ failed (require (nat_le end greatest_end) FileTooBig) _ refusal big)

      pub contents_made : (ino : ℕ) → file_at s path ≡ Ok ino → require (nat_le end greatest_end) FileTooBig ≡ Ok tt → change_contents path end change s ≡ Ok (change_inode ino (set_cells change) s)
      contents_made ino e fits = by_file ∙ (goes_on (file_at s path) _ ino e ∙ passed (require (nat_le end greatest_end) FileTooBig) _ fits)

    -- ---- FALLOCATE

    module _ (z : C) (at len mode : ℕ) where
      allocated_by_file : fallocate z path at len mode s
          ≡ (file_at s path >>= λ ino. found (allocation_of mode) (BadFallocate mode) >>= λ allocation. (require (nat_le (at + len) greatest_end) FileTooBig >> Ok (change_inode ino (set_cells (fallocated z allocation at len)) s)))
      unfolding fallocate
      allocated_by_file = file_first path (λ ino. found (allocation_of mode) (BadFallocate mode) >>= λ allocation. (require (nat_le (at + len) greatest_end) FileTooBig >> Ok (change_inode ino (set_cells (fallocated z allocation at len)) s)))

      pub fallocate_lost : (refusal : Refusal) → file_at s path ≡ Err refusal → fallocate z path at len mode s ≡ Err refusal
      fallocate_lost refusal e = allocated_by_file ∙ stops (file_at s path) _ refusal e

      module _ (ino : ℕ) (there : file_at s path ≡ Ok ino) where
        pub fallocate_bad : allocation_of mode ≡ None → fallocate z path at len mode s ≡ Err (BadFallocate mode)
        fallocate_bad e = allocated_by_file ∙ (goes_on (file_at s path) _ ino there ∙ misses (allocation_of mode) (BadFallocate mode) _ e)

        module _ (allocation : Allocation) (known : allocation_of mode ≡ Some allocation) where
          pub fallocate_big : (refusal : Refusal) → require (nat_le (at + len) greatest_end) FileTooBig ≡ Err refusal → fallocate z path at len mode s ≡ Err refusal
          fallocate_big refusal big =
              allocated_by_file ∙ (goes_on (file_at s path) _ ino there ∙ (finds (allocation_of mode) (BadFallocate mode) _ allocation known ∙ failed (require (nat_le (at + len) greatest_end) FileTooBig) _ refusal big))

          pub fallocate_made : require (nat_le (at + len) greatest_end) FileTooBig ≡ Ok tt → fallocate z path at len mode s ≡ Ok (change_inode ino (set_cells (fallocated z allocation at len)) s)
          fallocate_made fits =
              allocated_by_file ∙ (goes_on (file_at s path) _ ino there ∙ (finds (allocation_of mode) (BadFallocate mode) _ allocation known ∙ passed (require (nat_le (at + len) greatest_end) FileTooBig) _ fits))

  -- ---- contents that are taken out, changed and put back

  same_change : (ino : ℕ) (inode : Inode C) → inode_at s ino ≡ Some inode → (f g : Inode C → Inode C) → f inode ≡ g inode → change_inode ino f s ≡ change_inode ino g s
  unfolding change_inode
  same_change ino inode at f g e =
      let with_change : (Inode C → Inode C) → Option (Inode C) → Subvolume C = λ h o. elim o as (λ i. Subvolume C) [ None ↦ s | Some i ↦ set_inode ino (h i) s ] in
      ap (with_change f) at ∙ ap (λ (i : Inode C). set_inode ino i s) e ∙ sym (ap (with_change g) at)

  pub put_back : (ino : ℕ) → is_file s ino ≡ true → (t : Subvolume C) → t ≡ change_inode ino (set_cells (λ _. [])) s → (change : List C → List C) (old new : List C) → old ≡ cells_of s ino → new ≡ change old
      → (u : Subvolume C) → u ≡ change_inode ino (set_cells (λ _. new)) t → u ≡ change_inode ino (set_cells change) s
  put_back ino file t taken change old new was made u put =
      let found = file_there s ino file in
      put
      ∙ ap (change_inode ino (set_cells (λ _. new))) taken
      ∙ cells_twice ino (λ _. []) (λ _. new) s found.0 found.1
      ∙ same_change ino found.0 found.1 (set_cells (λ _. new)) (set_cells change) (ap (λ (cells : List C). set_cells (λ _. cells) found.0) (made ∙ ap change (was ∙ cells_found s ino found.0 found.1)))

  -- The same for the file that a path leads to, in a tree that the search for it has left as it
  -- was.
  pub put_back_at : (path : List ℕ) (ino : ℕ) → file_at s path ≡ Ok ino → (first : Subvolume C) → first ≡ s → (t : Subvolume C) → t ≡ change_inode ino (set_cells (λ _. [])) first → (change : List C → List C) (old new : List C)
      → old ≡ cells_of first ino → new ≡ change old → (u : Subvolume C) → u ≡ change_inode ino (set_cells (λ _. new)) t → ◌≡◌ {A = Result (Subvolume C) Refusal} (Ok (change_inode ino (set_cells change) s)) (Ok u)
  put_back_at path ino there first still t taken change old new was made u put =
      ap Ok (sym (put_back ino (is_file_at path ino there) t (taken ∙ ap (change_inode ino (set_cells (λ _. []))) still) change old new (was ∙ ap (λ (x : Subvolume C). cells_of x ino) still) made u put))
