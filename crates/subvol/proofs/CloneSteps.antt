-- What a clone says, from what its tests give.
use Rattle.std.specs.Prelude.{◌≡◌, ℕ, ◌==◌, ◌||◌, ◌&&◌, ◌+◌, Bool, true, false, List, length, take, drop, Some, Result, Ok, Err, nat_lt, nat_le, is_some}
use Rattle.std.proofs.Common.{refl, subst, ◌∙◌}
use Rattle.send_model.specs.Refusal.{Refusal, BadPath, NotFile, BadRange, Unaligned, FileTooBig, Overlap}
use Rattle.send_model.specs.Chain.{◌>>=◌, ◌>>◌, require, refuse_if}
use Rattle.send_model.specs.Path.{path_names}
use Rattle.send_model.specs.Subvolume.{Subvolume, is_file, walk}
use Rattle.send_model.specs.Edit.{greatest_end, overwritten, change_inode, set_cells}
use Rattle.send_model.specs.Clone.{Cloned, clone, cloned, cells_of, is_aligned, overlap, clone_values}
use Rattle.send_model.proofs.Fuel.{required, bound, ok_same}
use Rattle.inode_tree.proofs.Chains.{goes_on, stops, spares, refuses}
use Rattle.subvol.specs.Files.{file_at, clone_files, check_range}
use Rattle.subvol.proofs.FileSteps.{passed, failed, is_file_at}

-- Two chains that go on alike do so behind the same test.
module _ {A B D : Type 0} (h : A → Result D Refusal) (f : B → Result D Refusal) where
  past_require : (b : Bool) (refusal : Refusal) (x : Result A Refusal) (y : Result B Refusal) → (x >>= h) ≡ (y >>= f) → ((require b refusal >> x) >>= h) ≡ ((require b refusal >> y) >>= f)
  past_require true refusal x y e = e
  past_require false refusal x y e = refl

  past_file : (w : Result ℕ Refusal) (test : ℕ → Bool) (x : ℕ → Result A Refusal) (y : ℕ → Result B Refusal) → ((ino : ℕ) → (x ino >>= h) ≡ (y ino >>= f))
      → ((w >>= λ ino. require (test ino) NotFile >> x ino) >>= h) ≡ (((w >>= λ ino. require (test ino) NotFile >> Ok ino) >>= y) >>= f)
  past_file (Err refusal) test x y e = refl
  past_file (Ok ino) test x y e = one (test ino)
    where
      one : (b : Bool) → ((require b NotFile >> x ino) >>= h) ≡ (((require b NotFile >> Ok ino) >>= y) >>= f)
      one true = e ino
      one false = refl

-- The tests of a range, one by one and together.
module _ {A B : Type 0} (h : A → Result B Refusal) where
  in_range : (bad aligned fits own : Bool) (a : A)
      → ((refuse_if bad BadRange >> (require aligned Unaligned >> (require fits FileTooBig >> (refuse_if own Overlap >> Ok a)))) >>= h)
      ≡ ((refuse_if bad BadRange >> (require aligned Unaligned >> require fits FileTooBig)) >> (refuse_if own Overlap >> h a))
  in_range true aligned fits own a = refl
  in_range false false fits own a = refl
  in_range false true false own a = refl
  in_range false true true true a = refl
  in_range false true true false a = refl

module _ {C : Type 0} (z : C) (part other : Subvolume C) (own : Bool) (path : List ℕ) (offset : ℕ) (clone_path : List ℕ) (from len : ℕ) where
  -- The part after a clone from one file to another.
  abbrev pub cloned_part : ℕ → ℕ → Subvolume C
  cloned_part ino source = change_inode ino (set_cells (overwritten z offset (take len (drop from (cells_of other source))))) part

  abbrev pub then_clone : ℕ × ℕ → Result (Subvolume C) Refusal
  then_clone files = check_range offset from len (length (cells_of other files.1)) >> (refuse_if (own && (files.1 == files.0) && overlap offset from len) Overlap >> Ok (cloned_part files.0 files.1))

  by_files : clone z part (Some other) own (clone_values path offset clone_path from len) ≡ (clone_files part path other clone_path >>= then_clone)
  unfolding clone cloned
  by_files =
      let h : Cloned C → Result (Subvolume C) Refusal = λ range. Ok (change_inode range.ino (set_cells (overwritten z offset range.cells)) part) in
      past_require h then_clone (is_some (path_names path)) BadPath _ _
      (past_require h then_clone (is_some (path_names clone_path)) BadPath _ _
      (past_file h then_clone (walk part path) (is_file part) _ _
      (λ ino. past_file h then_clone (walk other clone_path) (is_file other) _ _
      (λ source. in_range h ((len == 0) || nat_lt (length (cells_of other source)) (from + len)) (is_aligned offset from len (length (cells_of other source))) (nat_le (offset + len) greatest_end)
      (own && (source == ino) && overlap offset from len) (record { ino = ino; cells = take len (drop from (cells_of other source)) })))))

  pub files_there : (files : ℕ × ℕ) → clone_files part path other clone_path ≡ Ok files → (is_file part files.0 ≡ true) × (is_file other files.1 ≡ true)
  files_there files e =
      let a = required (is_some (path_names path)) BadPath _ files e in
      let b = required (is_some (path_names clone_path)) BadPath _ files a.1 in
      let d = bound (file_at part path) _ files b.1 in
      let f = bound (file_at other clone_path) _ files d.2 in
      subst (λ (x : ℕ × ℕ). (is_file part x.0 ≡ true) × (is_file other x.1 ≡ true)) (ok_same f.2) (is_file_at part path d.0 d.1, is_file_at other clone_path f.0 f.1)

  pub clone_lost : (refusal : Refusal) → clone_files part path other clone_path ≡ Err refusal → clone z part (Some other) own (clone_values path offset clone_path from len) ≡ Err refusal
  clone_lost refusal e = by_files ∙ stops (clone_files part path other clone_path) then_clone refusal e

  module _ (files : ℕ × ℕ) (there : clone_files part path other clone_path ≡ Ok files) where
    pub clone_bad : (refusal : Refusal) → check_range offset from len (length (cells_of other files.1)) ≡ Err refusal → clone z part (Some other) own (clone_values path offset clone_path from len) ≡ Err refusal
    clone_bad refusal e = by_files ∙ (goes_on (clone_files part path other clone_path) then_clone files there ∙ failed (check_range offset from len (length (cells_of other files.1))) _ refusal e)

    module _ (good : check_range offset from len (length (cells_of other files.1)) ≡ Ok tt) where
      pub clone_overlaps : (own && (files.1 == files.0) && overlap offset from len) ≡ true → clone z part (Some other) own (clone_values path offset clone_path from len) ≡ Err Overlap
      clone_overlaps e =
          by_files ∙ (goes_on (clone_files part path other clone_path) then_clone files there ∙ (passed (check_range offset from len (length (cells_of other files.1))) _ good
          ∙ refuses (own && (files.1 == files.0) && overlap offset from len) Overlap _ e))

      pub clone_made : (own && (files.1 == files.0) && overlap offset from len) ≡ false → clone z part (Some other) own (clone_values path offset clone_path from len) ≡ Ok (cloned_part files.0 files.1)
      clone_made e =
          by_files ∙ (goes_on (clone_files part path other clone_path) then_clone files there ∙ (passed (check_range offset from len (length (cells_of other files.1))) _ good
          ∙ spares (own && (files.1 == files.0) && overlap offset from len) Overlap _ e))
