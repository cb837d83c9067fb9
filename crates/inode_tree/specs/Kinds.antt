-- Kinds and times of the code as those of the definitions, and with which mode an inode begins.
-- Source: inode(7); the modes are this project's.
use Rattle.std.specs.Prelude.{ℕ, List}
use Rattle.send_model.specs.Attribute.{Time}
use Rattle.send_model.specs.Subvolume as meant
use Rattle.inode_tree.specs.declared.kind.NodeKind.{NodeKind}
use Rattle.inode_tree.specs.declared.kind.NodeKind.TheVariants as made
use Rattle.inode_tree.specs.declared.time.Timestamp.{Timestamp}

abbrev pub kind_of : NodeKind → meant.NodeKind
kind_of made.File = meant.File
kind_of made.Directory = meant.Directory
kind_of made.SymbolicLink = meant.SymbolicLink
kind_of made.CharacterDevice = meant.CharacterDevice
kind_of made.BlockDevice = meant.BlockDevice
kind_of made.Fifo = meant.Fifo
kind_of made.Socket = meant.Socket

abbrev pub time_of : Timestamp → Time
time_of t = record { secs = t.secs; nanos = t.nanos }

-- The mode of a new inode.
abbrev pub mode_of : meant.NodeKind → ℕ
mode_of meant.File = 0o600
mode_of meant.Directory = 0o700
mode_of meant.SymbolicLink = 0o777
mode_of meant.CharacterDevice = 0o600
mode_of meant.BlockDevice = 0o600
mode_of meant.Fifo = 0o600
mode_of meant.Socket = 0o600

-- A new inode of a kind, with a device number and a target.
abbrev pub new_of_kind : {C : Type 0} → meant.NodeKind → ℕ → List ℕ → meant.Inode C
new_of_kind kind rdev target = meant.new_inode kind (mode_of kind) rdev target
