-- Commands with short values have room in each version.
use Rattle.std.specs.Prelude.{ℕ, ◌<◌, ◌≤◌, ◌^◌, ◌==◌, Bool, true, false, List, length}
use Rattle.std.proofs.Common.{arith, zero-le}
use Rattle.send_model.specs.Attribute.{Time}
use Rattle.send_model.specs.Exported.{IsMoment}
use Rattle.send_model.specs.Command.{Command, Subvol, MkFile, MkDir, MkNod, MkFifo, MkSock, Symlink, Rename, Link, SetXattr, Write, Truncate, Chmod, Chown, Utimes, FileAttr, End, row}
use Rattle.send_model.specs.Spelling.{attributes_of, body_of, greatest_body}
use Rattle.send_model.specs.Subvolume.{NodeKind, File, Directory, SymbolicLink, CharacterDevice, BlockDevice, Fifo, Socket, Inode}
use Rattle.send_commands.specs.Writing.{IsWritable, IsShortEnough, IfSecond}
use Rattle.snapshot_model.specs.Sent.{making}
use Rattle.inode_commands.specs.Spelled.{CanPush, IsShortPath, HasLength}
use Rattle.receivable_form.proofs.Frames.{room_of, room_len}

by_version : (b : Bool) (P : Type 0) → P → IfSecond b P
by_version true P p = p
by_version false P p = tt

short_by : (version : ℕ) (c : Command) → room_of (attributes_of c) ≤ greatest_body → IsShortEnough version c
short_by version c room = let l = room_len version (attributes_of c) in by_version (version == 2) (length (body_of version (attributes_of c)) ≤ greatest_body) (omega (arith, l, room))

module _ (path : List ℕ) (p : IsShortPath path) where
  low : length path < 2 ^ 16
  low = omega (arith, p)

  made_can : (kind : NodeKind) {C : Type 0} (inode : Inode C) → HasLength inode.target → CanPush (making path kind inode)
  unfolding IsWritable attributes_of row
  made_can File inode t version = (((λ e. low), tt), short_by version (MkFile path) (omega (arith, low)))
  made_can Directory inode t version = (((λ e. low), tt), short_by version (MkDir path) (omega (arith, low)))
  made_can SymbolicLink inode t version = (((λ e. low), ((λ e. t), tt)), short_by version (Symlink path inode.target) (omega (arith, low, t)))
  made_can CharacterDevice inode t version = ((tt, (tt, ((λ e. low), tt))), short_by version (MkNod 0o020_000 inode.rdev path) (omega (arith, low)))
  made_can BlockDevice inode t version = ((tt, (tt, ((λ e. low), tt))), short_by version (MkNod 0o060_000 inode.rdev path) (omega (arith, low)))
  made_can Fifo inode t version = (((λ e. low), tt), short_by version (MkFifo path) (omega (arith, low)))
  made_can Socket inode t version = (((λ e. low), tt), short_by version (MkSock path) (omega (arith, low)))

  pub making_can : {C : Type 0} (inode : Inode C) → HasLength inode.target → CanPush (making path inode.kind inode)
  making_can inode t = made_can inode.kind inode t

  pub rename_can : (to : List ℕ) → IsShortPath to → CanPush (Rename path to)
  unfolding IsWritable attributes_of row
  rename_can to q version = (((λ e. low), ((λ e. omega (arith, q)), tt)), short_by version (Rename path to) (omega (arith, low, q)))

  pub link_can : (first : List ℕ) → IsShortPath first → CanPush (Link path first)
  unfolding IsWritable attributes_of row
  link_can first q version = (((λ e. low), ((λ e. omega (arith, q)), tt)), short_by version (Link path first) (omega (arith, low, q)))

  pub xattr_can : (name value : List ℕ) → HasLength name → HasLength value → CanPush (SetXattr name value path)
  unfolding IsWritable attributes_of row
  xattr_can name value n v version = (((λ e. n), ((λ e. v), ((λ e. low), tt))), short_by version (SetXattr name value path) (omega (arith, low, p, n, v)))

  pub write_can : (offset : ℕ) (bytes : List ℕ) → length bytes ≤ 49_152 → CanPush (Write path offset bytes)
  unfolding IsWritable attributes_of row
  write_can offset bytes b version = (((λ e. low), (tt, ((λ e. omega (arith, b)), tt))), short_by version (Write path offset bytes) (omega (arith, low, b)))

  pub truncate_can : (size : ℕ) → CanPush (Truncate size path)
  unfolding IsWritable attributes_of row
  truncate_can size version = ((tt, ((λ e. low), tt)), short_by version (Truncate size path) (omega (arith, low)))

  pub chmod_can : (mode : ℕ) → CanPush (Chmod mode path)
  unfolding IsWritable attributes_of row
  chmod_can mode version = ((tt, ((λ e. low), tt)), short_by version (Chmod mode path) (omega (arith, low)))

  pub chown_can : (uid gid : ℕ) → CanPush (Chown uid gid path)
  unfolding IsWritable attributes_of row
  chown_can uid gid version = ((tt, (tt, ((λ e. low), tt))), short_by version (Chown uid gid path) (omega (arith, low)))

  pub times_can : (mtime atime : Time) → IsMoment mtime → IsMoment atime → CanPush (Utimes mtime atime path)
  unfolding IsWritable attributes_of row
  times_can mtime atime m a version = ((m.1, (a.1, ((λ e. low), tt))), short_by version (Utimes mtime atime path) (omega (arith, low)))

  pub flags_can : (flags : ℕ) → CanPush (FileAttr path flags)
  unfolding IsWritable attributes_of row
  flags_can flags version = (((λ e. low), (tt, tt)), short_by version (FileAttr path flags) (omega (arith, low)))

pub head_can : (uuid : List ℕ) (ctransid : ℕ) (name : List ℕ) → length uuid ≤ 16 → HasLength name → CanPush (Subvol uuid ctransid name)
unfolding IsWritable attributes_of row
head_can uuid ctransid name u n version = ((tt, (tt, ((λ e. n), tt))), short_by version (Subvol uuid ctransid name) (omega (arith, u, n)))

pub end_can : CanPush End
unfolding IsWritable attributes_of row
end_can version = (tt, short_by version End zero-le)
