-- Directories that were passed and are written last. This program's own.
use Rattle.std.specs.Prelude.{◌≡◌, ℕ, List, map, filter}
use Rattle.send_model.specs.Map.{Map}
use Rattle.send_model.specs.Subvolume.{Subvolume, is_directory_kind}
use Rattle.sx_base.specs.declared.outcome.Outcome.TheVariants as ended
use Rattle.store_commands.specs.declared.ends.StoreEnd.{StoreEnd}
use Rattle.store_commands.specs.declared.ends.StoreEnd.TheVariants as made
use Rattle.snapshot_model.specs.Listing.{listed}
use Rattle.full_send.specs.declared.restoring.Passed.{Passed}

-- A path with the number of what it leads to.
abbrev pub path_passed : Passed → List ℕ × ℕ
path_passed d = (d.path, d.ino)

abbrev pub paths_passed : List Passed → Map (List ℕ) ℕ
paths_passed ds = map path_passed ds

-- Those of some paths that lead to directories.
abbrev pub directories_in : {C : Type 0} → Subvolume C → Map (List ℕ) ℕ → Map (List ℕ) ℕ
directories_in s paths = filter (λ e. is_directory_kind (listed s e.1).inode.kind) paths

-- There was no memory.
abbrev pub LacksMemory : StoreEnd → Type 0
LacksMemory end = end ≡ made.Ends ended.NoMemory
