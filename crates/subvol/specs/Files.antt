-- The files that paths lead to, and the tests of a clone in parts. Source: this program's own; the
-- tests are those of the definitions, in their order.
use Rattle.std.specs.Prelude.{ℕ, ◌+◌, ◌==◌, ◌||◌, List, Result, Ok, nat_lt, nat_le, is_some}
use Rattle.send_model.specs.Refusal.{Refusal, BadPath, NotFile, BadRange, Unaligned, FileTooBig}
use Rattle.send_model.specs.Chain.{◌>>=◌, ◌>>◌, require, refuse_if}
use Rattle.send_model.specs.Path.{path_names}
use Rattle.send_model.specs.Subvolume.{Subvolume, is_file, walk}
use Rattle.send_model.specs.Edit.{greatest_end}
use Rattle.send_model.specs.Clone.{is_aligned}

-- The file that a path leads to.
abbrev pub file_at : {C : Type 0} → Subvolume C → List ℕ → Result ℕ Refusal
file_at s path = walk s path >>= λ ino. require (is_file s ino) NotFile >> Ok ino

-- The file that a clone changes, and the file of its source.
abbrev pub clone_files : {C : Type 0} → Subvolume C → List ℕ → Subvolume C → List ℕ
    → Result (ℕ × ℕ) Refusal
clone_files part path other clone_path =
    require (is_some (path_names path)) BadPath >>
    (require (is_some (path_names clone_path)) BadPath
    >> (file_at part path >>= λ ino. file_at other clone_path >>= λ source. Ok (ino, source)))

-- The tests of a clone's range, for the size of its source.
abbrev pub check_range : ℕ → ℕ → ℕ → ℕ → Result (Unit {0}) Refusal
check_range offset from len size =
    refuse_if ((len == 0) || nat_lt size (from + len)) BadRange >>
    (require (is_aligned offset from len size) Unaligned
    >> require (nat_le (offset + len) greatest_end) FileTooBig)
