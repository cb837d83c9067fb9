-- The file that the real `btrfs receive` keeps open to write to. It remembers the path by which it
-- opened it, and as long as commands write to a path of this spelling, it writes to that file,
-- whatever the path names by then. It closes the file at a head and at END. Source:
-- open_inode_for_write and its callers in cmds/receive.c of btrfs-progs 6.2, process_write,
-- process_clone and process_fallocate; finish_subvol.
use Rattle.std.specs.Prelude.{◌≡◌, ℕ, ◌+◌, ◌==◌, Bool, false, not, ◌&&◌, ◌||◌, List, [], ◌∷◌, length, take, drop, Option, None, Some, Result, Ok, Err, nat_lt, nat_le, if◌then◌else◌}
use Rattle.std.specs.Str.{bytes_eq}
use Rattle.send_model.specs.Refusal.{Refusal, NoSubvolume, NoSource, NotFile, BadRange, Unaligned, FileTooBig, Overlap, BadFallocate}
use Rattle.send_model.specs.Chain.{◌>>=◌, ◌>>◌, require, refuse_if, found}
use Rattle.send_model.specs.Command.{Command, Subvol, Snapshot, MkFile, MkDir, MkNod, MkFifo, MkSock, Symlink, Rename, Link, Unlink, Rmdir, SetXattr, RemoveXattr, Write, Clone, Truncate, Chmod, Chown, Utimes, End, UpdateExtent, Fallocate, FileAttr}
use Rattle.send_model.specs.Subvolume.{Subvolume, walk, is_file}
use Rattle.send_model.specs.Edit.{greatest_end, written_at, overwritten, allocation_of, fallocated, change_inode, set_cells}
use Rattle.send_model.specs.Clone.{cells_of, is_aligned, overlap}
use Rattle.send_model.specs.Store.{Store, Part, State, After, Stepped, key_of, step, edited, clone_source}
use Rattle.send_model.specs.Receive.{bytes_of}

-- The path of the file that a command writes to through the file that is kept open. TRUNCATE and
-- all others go by their path alone.
abbrev pub written_path : Command → Option (List ℕ)
written_path (Write path offset bytes) = Some path
written_path (Clone path offset clone_uuid clone_ctransid clone_path clone_offset clone_len) =
    Some path
written_path (Fallocate size path offset mode) = Some path
written_path (Subvol uuid ctransid path) = None
written_path (Snapshot uuid ctransid path clone_uuid clone_ctransid) = None
written_path (MkFile path) = None
written_path (MkDir path) = None
written_path (MkNod mode rdev path) = None
written_path (MkFifo path) = None
written_path (MkSock path) = None
written_path (Symlink path path_link) = None
written_path (Rename path path_to) = None
written_path (Link path path_link) = None
written_path (Unlink path) = None
written_path (Rmdir path) = None
written_path (SetXattr name value path) = None
written_path (RemoveXattr name path) = None
written_path (Truncate size path) = None
written_path (Chmod mode path) = None
written_path (Chown uid gid path) = None
written_path (Utimes mtime atime path) = None
written_path End = None
written_path (UpdateExtent size path offset) = None
written_path (FileAttr path flags) = None

-- A file that is open: the path by which it was opened, and its inode.
pub record Opened : Type 0 where
  pub path : List ℕ
  pub ino : ℕ

-- The inode that is written to without being opened anew: that of the open file, where its path is
-- spelled alike.
abbrev pub kept_at : Option Opened → Option (List ℕ) → Option ℕ
kept_at None path = None
kept_at (Some opened) None = None
kept_at (Some opened) (Some path) = if bytes_eq opened.path path then Some opened.ino else None

abbrev pub kept_for : Option Opened → Command → Option ℕ
kept_for opened command = kept_at opened (written_path command)

-- The file that is open after a path was opened in a part.
abbrev pub opened_at : {C : Type 0} → Option (Part C) → List ℕ → Option Opened
opened_at None path = None
opened_at (Some part) path =
    elim (walk part.subvolume path) [
      | Err refusal ↦ None
      | Ok ino ↦
          Some (record { path = path; ino = ino })
    ]

-- The file that is open after a command: none after a head or END; after one that writes, the one
-- that it wrote to.
abbrev pub open_after : {C : Type 0} → Option Opened → Option (Part C) → Option (List ℕ)
    → Option Opened
open_after opened part None = opened
open_after opened part (Some path) =
    elim (kept_at opened (Some path)) [ Some ino ↦ opened | None ↦ opened_at part path ]

abbrev pub opened_after : {C : Type 0} → Option Opened → Option (Part C) → Command → Option Opened
opened_after opened part (Subvol uuid ctransid path) = None
opened_after opened part (Snapshot uuid ctransid path clone_uuid clone_ctransid) = None
opened_after opened part (MkFile path) = opened
opened_after opened part (MkDir path) = opened
opened_after opened part (MkNod mode rdev path) = opened
opened_after opened part (MkFifo path) = opened
opened_after opened part (MkSock path) = opened
opened_after opened part (Symlink path path_link) = opened
opened_after opened part (Rename path path_to) = opened
opened_after opened part (Link path path_link) = opened
opened_after opened part (Unlink path) = opened
opened_after opened part (Rmdir path) = opened
opened_after opened part (SetXattr name value path) = opened
opened_after opened part (RemoveXattr name path) = opened
opened_after opened part (Write path offset bytes) =
    open_after opened part (written_path (Write path offset bytes))
opened_after opened part
    (Clone path offset clone_uuid clone_ctransid clone_path clone_offset clone_len) =
    open_after opened part
    (written_path (Clone path offset clone_uuid clone_ctransid clone_path clone_offset clone_len))
opened_after opened part (Truncate size path) = opened
opened_after opened part (Chmod mode path) = opened
opened_after opened part (Chown uid gid path) = opened
opened_after opened part (Utimes mtime atime path) = opened
opened_after opened part End = None
opened_after opened part (UpdateExtent size path offset) = opened
opened_after opened part (Fallocate size path offset mode) =
    open_after opened part (written_path (Fallocate size path offset mode))
opened_after opened part (FileAttr path flags) = opened

-- ---- the receiver's step

-- What a command does that writes to an open file. Where its inode is gone, nothing in the
-- subvolume changes.
unfoldable pub edit_open : {C : Type 0} → C → List C → Store C → Part C → ℕ → Command
    → Result (Subvolume C) Refusal
edit_open zero_cell put store part ino (Write path offset bytes) = do
  require (nat_le (offset + length put) greatest_end) FileTooBig
  Ok (change_inode ino (set_cells (written_at zero_cell offset put)) part.subvolume)
edit_open zero_cell put store part ino (Fallocate size path offset mode) = do
  allocation ← found (allocation_of mode) (BadFallocate mode)
  require (nat_le (offset + size) greatest_end) FileTooBig
  Ok (change_inode ino (set_cells (fallocated zero_cell allocation offset size)) part.subvolume)
edit_open zero_cell put store part ino
    (Clone path offset clone_uuid clone_ctransid clone_path from len) = do
      other ← found (clone_source store part (key_of clone_uuid clone_ctransid)) NoSource
      source_ino ← walk other clone_path
      require (is_file other source_ino) NotFile
      refuse_if ((len == 0) || nat_lt (length (cells_of other source_ino)) (from + len)) BadRange
      require (is_aligned offset from len (length (cells_of other source_ino))) Unaligned
      require (nat_le (offset + len) greatest_end) FileTooBig
      refuse_if (bytes_eq clone_uuid part.key.uuid && (source_ino == ino)
          && overlap offset from len) Overlap
      Ok (change_inode ino
          (set_cells
          (overwritten zero_cell offset
          (take len (drop from (cells_of other source_ino))))) part.subvolume)
edit_open zero_cell put store part ino (Subvol uuid ctransid path) = Ok part.subvolume
edit_open zero_cell put store part ino (Snapshot uuid ctransid path clone_uuid clone_ctransid) =
    Ok part.subvolume
edit_open zero_cell put store part ino (MkFile path) = Ok part.subvolume
edit_open zero_cell put store part ino (MkDir path) = Ok part.subvolume
edit_open zero_cell put store part ino (MkNod mode rdev path) = Ok part.subvolume
edit_open zero_cell put store part ino (MkFifo path) = Ok part.subvolume
edit_open zero_cell put store part ino (MkSock path) = Ok part.subvolume
edit_open zero_cell put store part ino (Symlink path path_link) = Ok part.subvolume
edit_open zero_cell put store part ino (Rename path path_to) = Ok part.subvolume
edit_open zero_cell put store part ino (Link path path_link) = Ok part.subvolume
edit_open zero_cell put store part ino (Unlink path) = Ok part.subvolume
edit_open zero_cell put store part ino (Rmdir path) = Ok part.subvolume
edit_open zero_cell put store part ino (SetXattr name value path) = Ok part.subvolume
edit_open zero_cell put store part ino (RemoveXattr name path) = Ok part.subvolume
edit_open zero_cell put store part ino (Truncate size path) = Ok part.subvolume
edit_open zero_cell put store part ino (Chmod mode path) = Ok part.subvolume
edit_open zero_cell put store part ino (Chown uid gid path) = Ok part.subvolume
edit_open zero_cell put store part ino (Utimes mtime atime path) = Ok part.subvolume
edit_open zero_cell put store part ino End = Ok part.subvolume
edit_open zero_cell put store part ino (UpdateExtent size path offset) = Ok part.subvolume
edit_open zero_cell put store part ino (FileAttr path flags) = Ok part.subvolume

abbrev pub step_open : {C : Type 0} → C → List C → State C → ℕ → Command → Stepped C
step_open zero_cell put state ino command = elim state.part [
  | None ↦ record { state = state; refusal = Some NoSubvolume }
  | Some part ↦ edited state.store part (edit_open zero_cell put state.store part ino command)
]

-- What the real receiver has while it receives: the store and the part, and the file that it keeps
-- open.
pub record Receiver (C : Type 0) : Type 0 where
  pub state : State C
  pub opened : Option Opened

-- One command: it goes to the open file, or is the plain step.
abbrev pub stepped_by : {C : Type 0} → C → List C → Receiver C → Command → Option ℕ → Stepped C
stepped_by zero_cell put r command (Some ino) = step_open zero_cell put r.state ino command
stepped_by zero_cell put r command None = step zero_cell put r.state command

unfoldable pub receiver_step : {C : Type 0} → C → List C → Receiver C → Command → After (Receiver C)
receiver_step zero_cell put r command =
    let after = stepped_by zero_cell put r command (kept_for r.opened command) in
    record {
      state = record {
        state = after.state;
        opened = opened_after r.opened r.state.part command;
      };
      refusal = after.refusal;
    }

-- ---- what goes astray

-- The open file is not the one that the path names.
abbrev pub leads_elsewhere : {C : Type 0} → Option (Part C) → ℕ → List ℕ → Bool
leads_elsewhere None ino path = false
leads_elsewhere (Some part) ino path =
    elim (walk part.subvolume path) [ Err refusal ↦ false | Ok now ↦ not (now == ino) ]

abbrev pub is_astray_at : {C : Type 0} → Option Opened → Option (Part C) → Option (List ℕ) → Bool
is_astray_at opened part None = false
is_astray_at opened part (Some path) =
    elim (kept_at opened (Some path)) [ None ↦ false | Some ino ↦ leads_elsewhere part ino path ]

-- A command would be written to a file that its path does not name.
unfoldable pub is_astray : {C : Type 0} → Option Opened → State C → Command → Bool
is_astray opened state command = is_astray_at opened state.part (written_path command)

-- Of commands in order, none goes astray, where a plain run leads from state to state.
unfoldable pub AreSteady : Option Opened → State ℕ → List Command → Type 0
AreSteady opened state [] = Unit {0}
AreSteady opened state (command ∷ commands) =
    (is_astray opened state command ≡ false)
    × AreSteady (opened_after opened state.part command)
    (step 0 (bytes_of command) state command).state commands
