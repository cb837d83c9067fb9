-- What CLONE does: cells of a file of the part itself, or of a complete subvolume, take the place
-- of cells of a file. The rules are this project's profile of the FICLONERANGE call,
-- ioctl_ficlonerange(2).
use Rattle.std.specs.Prelude.{ℕ, ◌+◌, ◌%◌, ◌==◌, Bool, ◌&&◌, ◌||◌, List, [], length, take, drop, Option, Some, None, Result, Ok, nat_lt, nat_le, is_some}
use Rattle.send_model.specs.Refusal.{Refusal, BadPath, NoSource, NotFile, BadRange, Unaligned, FileTooBig, Overlap}
use Rattle.send_model.specs.Chain.{◌>>=◌, ◌>>◌, require, refuse_if, found}
use Rattle.send_model.specs.Path.{path_names}
use Rattle.send_model.specs.Subvolume.{Subvolume, inode_at, is_file, walk}
use Rattle.send_model.specs.Edit.{greatest_end, overwritten, change_inode, set_cells}

-- The cells of an inode, none where it is not there.
unfoldable pub cells_of : {C : Type 0} → Subvolume C → ℕ → List C
cells_of s ino = elim (inode_at s ino) [ None ↦ [] | Some inode ↦ inode.cells ]

abbrev pub block_len : ℕ
block_len = 4_096

-- The source range and the range that it goes to are whole blocks from the start of one on, but
-- that they may be short where the source range ends at its file's end. That it lies in its file is
-- a test of its own.
abbrev pub is_aligned : ℕ → ℕ → ℕ → ℕ → Bool
is_aligned offset from len size =
    (offset % block_len == 0) && (from % block_len == 0)
    && ((len % block_len == 0) || (from + len == size))

-- Two ranges of one length share a place.
abbrev pub overlap : ℕ → ℕ → ℕ → Bool
overlap a b len = nat_lt a (b + len) && nat_lt b (a + len)

-- The inode that a clone writes to, and the cells that it puts there.
pub record Cloned (C : Type 0) : Type 0 where
  pub ino : ℕ
  pub cells : List C

-- The values of a CLONE but its key: the path of the file that it changes and the place in it, the
-- path of the file that it reads and the place in that, and how many cells it copies.
pub record CloneValues : Type 0 where
  pub path : List ℕ
  pub offset : ℕ
  pub clone_path : List ℕ
  pub from : ℕ
  pub len : ℕ

abbrev pub clone_values : (path : List ℕ) (offset : ℕ) (clone_path : List ℕ) (from len : ℕ)
    → CloneValues
clone_values path offset clone_path from len =
    record { path = path; offset = offset; clone_path = clone_path; from = from; len = len }

-- Every refusal of a CLONE in its order, for the part, the subvolume of the source (nothing where
-- there is none), whether that is the part itself, and the command's values.
unfoldable pub cloned : {C : Type 0}
    → (part : Subvolume C) (source : Option (Subvolume C)) (is_own : Bool) (values : CloneValues)
    → Result (Cloned C) Refusal
cloned part source is_own values = do
  require (is_some (path_names values.path)) BadPath
  require (is_some (path_names values.clone_path)) BadPath
  other ← found source NoSource
  ino ← walk part values.path
  require (is_file part ino) NotFile
  source_ino ← walk other values.clone_path
  require (is_file other source_ino) NotFile
  refuse_if ((values.len == 0)
      || nat_lt (length (cells_of other source_ino)) (values.from + values.len)) BadRange
  require (is_aligned values.offset values.from values.len
      (length (cells_of other source_ino))) Unaligned
  require (nat_le (values.offset + values.len) greatest_end) FileTooBig
  refuse_if (is_own && (source_ino == ino) && overlap values.offset values.from values.len) Overlap
  Ok (record { ino = ino; cells = take values.len (drop values.from (cells_of other source_ino)) })

-- The part after the clone.
unfoldable pub clone : {C : Type 0}
    → (zero_cell : C) (part : Subvolume C) (source : Option (Subvolume C)) (is_own : Bool)
    (values : CloneValues)
    → Result (Subvolume C) Refusal
clone zero_cell part source is_own values = do
  range ← cloned part source is_own values
  Ok (change_inode range.ino (set_cells (overwritten zero_cell values.offset range.cells)) part)
