-- Whether a flag is sent, by the paths of a subvolume. This program's own.
use Rattle.std.specs.Prelude.{ℕ, ◌==◌, Bool, not, List, if◌then◌else◌}
use Rattle.std.specs.List.{list_any}
use Rattle.send_model.specs.Map.{Map}
use Rattle.send_model.specs.Subvolume.{Subvolume}
use Rattle.snapshot_model.specs.Listing.{listed, paths_of}

-- An inode has a flag.
abbrev pub is_flagged : {C : Type 0} → Subvolume C → ℕ → Bool
is_flagged s ino = not ((listed s ino).inode.flags == 0)

abbrev pub any_flagged : {C : Type 0} → Subvolume C → Map (List ℕ) ℕ → Bool
any_flagged s paths = list_any (λ e. is_flagged s e.1) paths

-- The version of its stream.
abbrev pub version_for : {C : Type 0} → Subvolume C → ℕ
version_for s = if any_flagged s (paths_of s) then 2 else 1
