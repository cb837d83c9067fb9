-- What the inodes of a store have, whether or not a disk tells: values that a command can say.
use Rattle.std.specs.Prelude.{ℕ, ◌<◌, ◌^◌, List, length}
use Rattle.std.specs.List.{AllByRecursion}
use Rattle.send_model.specs.Subvolume.{Inode, Subvolume}
use Rattle.send_model.specs.Exported.{IsMoment}

-- Bytes that an attribute has room for.
abbrev pub HasLength : List ℕ → Type 0
HasLength bytes = length bytes < 2 ^ 16

-- Times with less than a second of nanoseconds; and a target, and names and values of extended
-- attributes, that are short enough.
pub record IsSaid {C : Type 0} (inode : Inode C) : Type 0 where
  pub mtime : IsMoment inode.mtime
  pub atime : IsMoment inode.atime
  pub target : HasLength inode.target
  pub xattrs : AllByRecursion (λ x. HasLength x.0 × HasLength x.1) inode.xattrs

abbrev pub AllSaid : {C : Type 0} → Subvolume C → Type 0
AllSaid s = AllByRecursion (λ e. IsSaid e.1) s.inodes
