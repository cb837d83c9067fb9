-- Commands as bytes, and which of them can be spelled. This program's own.
use Rattle.std.specs.Prelude.{ℕ, ◌<◌, ◌≤◌, ◌^◌, Bool, true, false, List, length}
use Rattle.std.specs.List.{AllByRecursion, flat_map, filter}
use Rattle.send_model.specs.Command.{Command}
use Rattle.send_model.specs.Map.{Map}
use Rattle.send_model.specs.Subvolume.{Inode}
use Rattle.send_model.specs.Exported.{IsMoment}
use Rattle.snapshot_model.specs.Restored.{is_capability, other_xattrs}
use Rattle.send_commands.specs.Writing.{IsWritable, IsShortEnough}

-- A command whose values each version has room for.
abbrev pub CanPush : Command → Type 0
CanPush command = (version : ℕ) → IsWritable version command × IsShortEnough version command

-- The bytes of commands one after the other.
abbrev pub spelled_all : (ℕ → Command → List ℕ) → ℕ → List Command → List ℕ
spelled_all spelled version commands = flat_map (spelled version) commands

-- Those of some attributes that are capabilities, or those that are not.
abbrev pub kept_by : Bool → Map (List ℕ) (List ℕ) → Map (List ℕ) (List ℕ)
kept_by true xattrs = filter is_capability xattrs
kept_by false xattrs = other_xattrs xattrs

-- A path that fits: no longer than a path may be.
abbrev pub IsShortPath : List ℕ → Type 0
IsShortPath path = length path ≤ 4_095

-- Bytes that an attribute has room for.
abbrev pub HasLength : List ℕ → Type 0
HasLength bytes = length bytes < 2 ^ 16

-- An inode whose values commands have room for.
pub record IsSaid {C : Type 0} (inode : Inode C) : Type 0 where
  pub mtime : IsMoment inode.mtime
  pub atime : IsMoment inode.atime
  pub target : HasLength inode.target
  pub xattrs : AllByRecursion (λ x. HasLength x.0 × HasLength x.1) inode.xattrs
