-- What few inodes have beside what each of them has. Source: this program's own.
use Rattle.std.specs.Prelude.{ℕ, List, []}
use Rattle.send_model.specs.Map.{Map}

-- A device number, flags, the target of a symbolic link, and extended attributes.
pub record Extras : Type 0 where
  pub rdev : ℕ
  pub flags : ℕ
  pub target : List ℕ
  pub xattrs : Map (List ℕ) (List ℕ)

-- Those of an inode that has none of them.
abbrev pub no_extras : Extras
no_extras = record { rdev = 0; flags = 0; target = []; xattrs = [] }
