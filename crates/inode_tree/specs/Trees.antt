-- What a tree keeps beside the inodes and names that contracts see. Source: this program's own.
use Rattle.std.specs.Prelude.{◌≡◌, ℕ, ◌-◌, Bool, true, false}
use Rattle.std.specs.Option.{unwrap_or}
use Rattle.std.specs.Ordering.{nat_cmp}
use Rattle.send_model.specs.Map.{Map, value_at}
use Rattle.send_model.specs.Subvolume.{Subvolume, IsSound, name_count}

-- How many names an inode has beyond its first.
abbrev pub further_names : Map ℕ ℕ → ℕ → ℕ
further_names further ino = unwrap_or (value_at nat_cmp ino further) 0

-- The subvolume is sound, and the names beyond the first are counted.
pub record IsTree {C : Type 0} (s : Subvolume C) (further : Map ℕ ℕ) : Type 0 where
  pub sound : IsSound s
  pub counted : (ino : ℕ) → further_names further ino ≡ name_count s ino - 1

-- A tree for which memory ran out in the middle of a change is no longer whole, and nothing is said
-- of it.
abbrev pub IsWholeTree : {C : Type 0} → Bool → Subvolume C → Map ℕ ℕ → Type 0
IsWholeTree true s further = IsTree s further
IsWholeTree false s further = Unit {0}
