-- What each command but CLONE, the heads and END does to a subvolume: the first refusal in its
-- order, or the subvolume afterwards. It looks at nothing but the subvolume of the part that is
-- being received. Cells are moved and never looked at. Source: process_.. in cmds/receive.c of
-- btrfs-progs and the manual pages of the system calls that it makes; fallocate(2) for the modes of
-- FALLOCATE, of which five are taken here.
use Rattle.std.specs.Prelude.{ℕ, zero, suc, ◌+◌, ◌-◌, ◌^◌, ◌%◌, ◌==◌, Bool, false, not, ◌&&◌, ◌||◌, List, [], ◌∷◌, ◌++◌, length, map, take, drop, replicate, Option, None, Some, Result, Ok, nat_le, if◌then◌else◌, bit_and, is_some, is_none}
use Rattle.std.specs.List.{list_any}
use Rattle.std.specs.Ordering.{nat_cmp}
use Rattle.send_model.specs.Refusal.{Refusal, BadPath, NoEntry, NotDirectory, EntryThere, IsDirectory, NotEmpty, IntoItself, NotFile, BadXattr, NoXattr, BadDevice, FileTooBig, BadFallocate, NoNumber}
use Rattle.send_model.specs.Chain.{◌>>=◌, ◌>>◌, require, refuse_if, found}
use Rattle.send_model.specs.Command.{Command, Subvol, Snapshot, MkFile, MkDir, MkNod, MkFifo, MkSock, Symlink, Rename, Link, Unlink, Rmdir, SetXattr, RemoveXattr, Write, Clone, Truncate, Chmod, Chown, Utimes, End, UpdateExtent, Fallocate, FileAttr}
use Rattle.send_model.specs.Path.{path_names}
use Rattle.send_model.specs.Map.{bytes_cmp, named_cmp, value_at, with_value, without}
use Rattle.send_model.specs.Subvolume.{NodeKind, File, SymbolicLink, CharacterDevice, BlockDevice, Fifo, Socket, Inode, Subvolume, Spot, new_inode, new_directory, root, inode_at, named, is_directory, is_file, walk, spot, all_but_last, inodes_on_way, name_count, is_empty_directory}

-- ---- lists of cells

-- The greatest end of a file's contents.
abbrev pub greatest_end : ℕ
greatest_end = 2 ^ 63 - 1

-- Cells, filled with zero cells up to a size.
abbrev pub filled : {C : Type 0} → C → ℕ → List C → List C
filled zero_cell size cells = cells ++ replicate (size - length cells) zero_cell

-- Cut, or filled with zero cells, to a size.
unfoldable pub resized : {C : Type 0} → C → ℕ → List C → List C
resized zero_cell size cells = take size (filled zero_cell size cells)

-- New cells in the place of those at an offset, a gap before them filled with zero cells.
unfoldable pub overwritten : {C : Type 0} → C → ℕ → List C → List C → List C
overwritten zero_cell offset new cells =
    take offset (filled zero_cell offset cells) ++ new ++ drop (offset + length new) cells

-- A write of no bytes changes nothing, wherever it stands.
unfoldable pub written_at : {C : Type 0} → C → ℕ → List C → List C → List C
written_at zero_cell offset [] cells = cells
written_at zero_cell offset (c ∷ new) cells = overwritten zero_cell offset (c ∷ new) cells

-- ---- changes of a subvolume

abbrev pub set_inode : {C : Type 0} → ℕ → Inode C → Subvolume C → Subvolume C
set_inode ino inode s =
    record { inodes = with_value nat_cmp ino inode s.inodes; names = s.names; next = s.next }

-- An inode that is there, changed.
unfoldable pub change_inode : {C : Type 0} → ℕ → (Inode C → Inode C) → Subvolume C → Subvolume C
change_inode ino change s =
    elim (inode_at s ino) [ None ↦ s | Some inode ↦ set_inode ino (change inode) s ]

abbrev pub add_name : {C : Type 0} → Spot → ℕ → Subvolume C → Subvolume C
add_name place ino s =
    record {
      inodes = s.inodes;
      names = with_value named_cmp (place.directory, place.name) ino s.names;
      next = s.next;
    }

abbrev pub remove_name : {C : Type 0} → Spot → Subvolume C → Subvolume C
remove_name place s =
    record {
      inodes = s.inodes;
      names = without named_cmp (place.directory, place.name) s.names;
      next = s.next;
    }

abbrev pub remove_inode : {C : Type 0} → ℕ → Subvolume C → Subvolume C
remove_inode ino s =
    record { inodes = without nat_cmp ino s.inodes; names = s.names; next = s.next }

-- A new inode of the next number under a name.
unfoldable pub add_inode : {C : Type 0} → Spot → Inode C → Subvolume C → Subvolume C
add_inode place inode s = record {
  inodes = with_value nat_cmp s.next inode s.inodes;
  names = with_value named_cmp (place.directory, place.name) s.next s.names;
  next = s.next + 1;
}

-- A name goes, and with its last name the inode.
unfoldable pub take_name : {C : Type 0} → Spot → ℕ → Subvolume C → Subvolume C
take_name place ino s =
    if nat_le (name_count s ino) 1 then remove_inode ino
    (remove_name place s) else remove_name place s

-- ---- the edits

-- No number is left where the next one is the greatest.
abbrev pub greatest_number : ℕ
greatest_number = 2 ^ 64 - 1

abbrev pub at_spot : {C : Type 0} → Subvolume C → Spot → Option ℕ
at_spot s place = named s place.directory place.name

-- MKFILE, MKDIR, MKFIFO, MKSOCK, SYMLINK, and MKNOD after its test.
unfoldable pub make : {C : Type 0} → Inode C → List ℕ → Subvolume C → Result (Subvolume C) Refusal
make inode path s = do
  place ← spot s path
  require (is_none (at_spot s place)) EntryThere
  refuse_if (s.next == greatest_number) NoNumber
  Ok (add_inode place inode s)

abbrev pub format_bits : ℕ → ℕ
format_bits mode = bit_and mode 0o170_000

-- A character or a block device, by the file type in the mode.
abbrev pub device_kind : ℕ → Option NodeKind
device_kind mode = if format_bits mode == 0o020_000 then Some CharacterDevice
    else (if format_bits mode == 0o060_000 then Some BlockDevice else None)

unfoldable pub make_device : {C : Type 0} → ℕ → ℕ → List ℕ → Subvolume C
    → Result (Subvolume C) Refusal
make_device mode rdev path s = do
  kind ← found (device_kind mode) BadDevice
  make (new_inode kind 0o600 rdev []) path s

unfoldable pub link : {C : Type 0} → List ℕ → List ℕ → Subvolume C → Result (Subvolume C) Refusal
link path existing s = do
  require (is_some (path_names path)) BadPath
  ino ← walk s existing
  refuse_if (is_directory s ino) IsDirectory
  place ← spot s path
  require (is_none (at_spot s place)) EntryThere
  Ok (add_name place ino s)

unfoldable pub unlink : {C : Type 0} → List ℕ → Subvolume C → Result (Subvolume C) Refusal
unlink path s = do
  place ← spot s path
  ino ← found (at_spot s place) NoEntry
  refuse_if (is_directory s ino) IsDirectory
  Ok (take_name place ino s)

unfoldable pub rmdir : {C : Type 0} → List ℕ → Subvolume C → Result (Subvolume C) Refusal
rmdir path s = do
  place ← spot s path
  ino ← found (at_spot s place) NoEntry
  require (is_directory s ino) NotDirectory
  require (is_empty_directory s ino) NotEmpty
  Ok (take_name place ino s)

-- The walk to the directory of a path passes an inode: the directory is that inode or lies below
-- it.
unfoldable pub lies_below : {C : Type 0} → Subvolume C → ℕ → List ℕ → Bool
lies_below s ino path =
    elim (path_names path) [
      | None ↦ false
      | Some names ↦
          list_any (λ i. i == ino) (inodes_on_way s root (all_but_last names))
    ]

-- The name of the moved inode goes from one place to another.
unfoldable pub move_name : {C : Type 0} → Spot → Spot → ℕ → Subvolume C → Subvolume C
move_name from to ino s = add_name to ino (remove_name from s)

-- What stands where the moved inode goes has to give way: another inode of a fitting kind, a
-- directory only if empty.
abbrev pub can_replace : {C : Type 0} → Subvolume C → ℕ → ℕ → Result (Unit {0}) Refusal
can_replace s moved there = do
  refuse_if (is_directory s moved && not (is_directory s there)) NotDirectory
  refuse_if (not (is_directory s moved) && is_directory s there) IsDirectory
  require (not (is_directory s there) || is_empty_directory s there) NotEmpty

-- The inode moves to a place where the given one stands, if any. Two names of one file both stay.
unfoldable pub rename_onto : {C : Type 0} → Spot → Spot → List ℕ → ℕ → Option ℕ → Subvolume C
    → Result (Subvolume C) Refusal
rename_onto from to path_to moved None s = do
  refuse_if (is_directory s moved && lies_below s moved path_to) IntoItself
  Ok (move_name from to moved s)
rename_onto from to path_to moved (Some there) s =
    if there == moved then Ok s
    else (refuse_if (is_directory s moved && lies_below s moved path_to) IntoItself >> (
    can_replace s moved there >> Ok (move_name from to moved (take_name to there s))))

unfoldable pub rename : {C : Type 0} → List ℕ → List ℕ → Subvolume C → Result (Subvolume C) Refusal
rename path path_to s = do
  from ← spot s path
  moved ← found (at_spot s from) NoEntry
  to ← spot s path_to
  rename_onto from to path_to moved (at_spot s to) s

-- A change of the inode that a path leads to.
unfoldable pub change_at : {C : Type 0} → List ℕ → (Inode C → Inode C) → Subvolume C
    → Result (Subvolume C) Refusal
change_at path change s = do
  ino ← walk s path
  Ok (change_inode ino change s)

abbrev pub is_xattr_name : List ℕ → Bool
is_xattr_name name = nat_le 1 (length name) && nat_le (length name) 255

unfoldable pub set_xattr : {C : Type 0} → List ℕ → List ℕ → List ℕ → Subvolume C
    → Result (Subvolume C) Refusal
set_xattr path name value s = do
  ino ← walk s path
  require (is_xattr_name name) BadXattr
  Ok (change_inode ino
      (λ inode. record inode { xattrs = with_value bytes_cmp name value inode.xattrs }) s)

abbrev pub has_xattr : {C : Type 0} → Subvolume C → ℕ → List ℕ → Bool
has_xattr s ino name =
    elim (inode_at s ino) [
      | None ↦ false
      | Some inode ↦
          is_some (value_at bytes_cmp name inode.xattrs)
    ]

unfoldable pub remove_xattr : {C : Type 0} → List ℕ → List ℕ → Subvolume C
    → Result (Subvolume C) Refusal
remove_xattr path name s = do
  ino ← walk s path
  require (is_xattr_name name) BadXattr
  require (has_xattr s ino name) NoXattr
  Ok (change_inode ino (λ inode. record inode { xattrs = without bytes_cmp name inode.xattrs }) s)

abbrev pub set_cells : {C : Type 0} → (List C → List C) → Inode C → Inode C
set_cells change inode = record inode { cells = change inode.cells }

-- The contents of a file change, and end at the given place at most.
unfoldable pub change_contents : {C : Type 0} → List ℕ → ℕ → (List C → List C) → Subvolume C
    → Result (Subvolume C) Refusal
change_contents path end change s = do
  ino ← walk s path
  require (is_file s ino) NotFile
  require (nat_le end greatest_end) FileTooBig
  Ok (change_inode ino (set_cells change) s)

-- What FALLOCATE does, by its whole mode: 0 fills the file up to the end of the range, 1 changes
-- nothing, 3 punches a hole within the file, 16 zeroes the range and may lengthen the file, and 17
-- zeroes it within the file.
pub data Allocation : Type 0 where
  Lengthen : Allocation
  KeepSize : Allocation
  PunchHole : Allocation
  ZeroRange : Allocation
  ZeroWithin : Allocation

-- The five modes; every other one is refused.
abbrev pub allocation_of : ℕ → Option Allocation
allocation_of mode =
    if mode == 0 then Some Lengthen
    else (if mode == 1 then Some KeepSize
    else (if mode == 3 then Some PunchHole
    else (if mode == 16 then Some ZeroRange
    else (if mode == 17 then Some ZeroWithin else None))))

-- Zero cells in place of those of a range, as far as there are any.
abbrev pub zeroed : {C : Type 0} → C → ℕ → ℕ → List C → List C
zeroed zero_cell offset size cells =
    take offset cells ++ map (λ c. zero_cell) (take size (drop offset cells))
    ++ drop (offset + size) cells

-- Filled up to the end of the range, or as they are, or zero cells in it: as far as there are
-- cells, or as a write of so many.
abbrev pub allocated : {C : Type 0} → C → Allocation → ℕ → ℕ → List C → List C
allocated zero_cell Lengthen offset size cells = filled zero_cell (offset + size) cells
allocated zero_cell KeepSize offset size cells = cells
allocated zero_cell PunchHole offset size cells = zeroed zero_cell offset size cells
allocated zero_cell ZeroRange offset size cells =
    written_at zero_cell offset (replicate size zero_cell) cells
allocated zero_cell ZeroWithin offset size cells = zeroed zero_cell offset size cells

-- A range of no cells changes nothing, wherever it stands.
unfoldable pub fallocated : {C : Type 0} → C → Allocation → ℕ → ℕ → List C → List C
fallocated zero_cell allocation offset zero cells = cells
fallocated zero_cell allocation offset (suc size) cells =
    allocated zero_cell allocation offset (suc size) cells

unfoldable pub fallocate : {C : Type 0} → C → List ℕ → ℕ → ℕ → ℕ → Subvolume C
    → Result (Subvolume C) Refusal
fallocate zero_cell path offset size mode s = do
  ino ← walk s path
  require (is_file s ino) NotFile
  allocation ← found (allocation_of mode) (BadFallocate mode)
  require (nat_le (offset + size) greatest_end) FileTooBig
  Ok (change_inode ino (set_cells (fallocated zero_cell allocation offset size)) s)

-- The edit of each command, where a WRITE puts the given cells. Heads, CLONE and END are no edits
-- of one subvolume, and stand here as the edit that changes nothing. UPDATE_EXTENT says where data
-- is, and changes nothing.
unfoldable pub edit : {C : Type 0} → C → List C → Command → Subvolume C
    → Result (Subvolume C) Refusal
edit zero_cell put (MkFile path) s = make (new_inode File 0o600 0 []) path s
edit zero_cell put (MkDir path) s = make new_directory path s
edit zero_cell put (MkNod mode rdev path) s = make_device mode rdev path s
edit zero_cell put (MkFifo path) s = make (new_inode Fifo 0o600 0 []) path s
edit zero_cell put (MkSock path) s = make (new_inode Socket 0o600 0 []) path s
edit zero_cell put (Symlink path path_link) s =
    make (new_inode SymbolicLink 0o777 0 path_link) path s
edit zero_cell put (Rename path path_to) s = rename path path_to s
edit zero_cell put (Link path path_link) s = link path path_link s
edit zero_cell put (Unlink path) s = unlink path s
edit zero_cell put (Rmdir path) s = rmdir path s
edit zero_cell put (SetXattr name value path) s = set_xattr path name value s
edit zero_cell put (RemoveXattr name path) s = remove_xattr path name s
edit zero_cell put (Write path offset bytes) s =
    change_contents path (offset + length put) (written_at zero_cell offset put) s
edit zero_cell put (Truncate size path) s = change_contents path size (resized zero_cell size) s
edit zero_cell put (Chmod mode path) s =
    change_at path (λ inode. record inode { mode = mode % 0o10_000 }) s
edit zero_cell put (Chown uid gid path) s =
    change_at path (λ inode. record inode { uid = uid; gid = gid }) s
edit zero_cell put (Utimes mtime atime path) s =
    change_at path (λ inode. record inode { atime = atime; mtime = mtime }) s
edit zero_cell put (UpdateExtent size path offset) s = Ok s
edit zero_cell put (Fallocate size path offset mode) s = fallocate zero_cell path offset size mode s
edit zero_cell put (FileAttr path flags) s =
    change_at path (λ inode. record inode { flags = flags }) s
edit zero_cell put (Subvol uuid ctransid path) s = Ok s
edit zero_cell put (Snapshot uuid ctransid path clone_uuid clone_ctransid) s = Ok s
edit zero_cell put
    (Clone path offset clone_uuid clone_ctransid clone_path clone_offset clone_len) s = Ok s
edit zero_cell put End s = Ok s
