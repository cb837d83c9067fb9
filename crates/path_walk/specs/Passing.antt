-- How the paths of a subvolume are passed, in order of their bytes. This program's own.
use Rattle.std.specs.Prelude.{◌≡◌, ◌⊎◌, ℕ, false, List, Option, None, Some, Ok, MatchOption, if◌then◌else◌}
use Rattle.std.specs.declared.cmp.Ordering.TheVariants.{Less}
use Rattle.std.specs.Ordering.{nat_cmp}
use Rattle.std.specs.Str.{bytes_eq}
use Rattle.send_model.specs.Map.{Map, IsMap, bytes_cmp, value_at}
use Rattle.send_model.specs.Subvolume.{Subvolume, IsLawful, walk, first_path, is_directory}
use Rattle.shared_map.specs.Sought.{entry_after}
use Rattle.snapshot_model.specs.Listing.{listed, paths_of}
use Rattle.path_walk.specs.Ahead.{IsEntry}

-- A subvolume, and the path that was passed last.
pub record Passed (C : Type 0) : Type 0 where
  pub subvolume : Subvolume C
  pub at : List ℕ

-- The next path by bytes, with the inode that it leads to.
abbrev pub next_of : {C : Type 0} → Passed C → Option (List ℕ × ℕ)
next_of p = entry_after bytes_cmp p.at (paths_of p.subvolume)

-- It is passed, or there is none.
abbrev pub StepsOn : {C : Type 0} → (old new : Passed C) → Option ℕ → Type 0
StepsOn old new result = MatchOption (next_of old) ((result ≡ None) × (new ≡ old))
    (λ e. (result ≡ Some e.1) × (new ≡ record { subvolume = old.subvolume; at = e.0 }))

-- The first path of an inode, unless it is the one that was passed last.
abbrev pub earlier : {C : Type 0} → Passed C → ℕ → Option (List ℕ)
earlier p ino =
    if bytes_eq p.at (listed p.subvolume ino).first then None else Some
    (listed p.subvolume ino).first

-- ---- what is kept

-- A path comes after another.
abbrev pub IsAfter : List ℕ → List ℕ → Type 0
IsAfter path other = bytes_cmp path other ≡ Less

-- Paths after one that was passed: each leads somewhere, and those of all entries of directories
-- that were passed are there.
pub record IsAhead {C : Type 0} (s : Subvolume C) (at : List ℕ)
    (ahead : Map (List ℕ) ℕ) : Type 0 where
  pub ordered : IsMap bytes_cmp ahead
  pub leads : (path : List ℕ) (ino : ℕ) → value_at bytes_cmp path ahead ≡ Some ino
      → (walk s path ≡ Ok ino) × IsAfter at path
  pub all : (front : List ℕ) (directory : ℕ) → walk s front ≡ Ok directory → (IsAfter at front → ⊥)
      → (path : List ℕ) (ino : ℕ)
      → IsEntry s front directory path ino → IsAfter at path
      → value_at bytes_cmp path ahead ≡ Some ino

-- The first paths of inodes, of all those at least that were passed and are no directories.
pub record AreFirsts {C : Type 0} (s : Subvolume C) (at : List ℕ)
    (firsts : Map ℕ (List ℕ)) : Type 0 where
  pub first : (ino : ℕ) (path : List ℕ) → value_at nat_cmp ino firsts ≡ Some path
      → first_path s ino ≡ Some path
  pub all : (path : List ℕ) (ino : ℕ) → walk s path ≡ Ok ino → (IsAfter at path → ⊥)
      → is_directory s ino ≡ false → (f : List ℕ) × (value_at nat_cmp ino firsts ≡ Some f)

-- The path of an inode that is no directory is kept, if none was.
pub record Learns {C : Type 0} (s : Subvolume C) (ino : ℕ) (path : List ℕ)
    (old new : Map ℕ (List ℕ)) : Type 0 where
  pub kept : (other : ℕ) (known : List ℕ) → value_at nat_cmp other old ≡ Some known
      → value_at nat_cmp other new ≡ Some known
  pub only : (other : ℕ) (known : List ℕ) → value_at nat_cmp other new ≡ Some known
      → (value_at nat_cmp other old ≡ Some known)
      ⊎ ((other ≡ ino) × (known ≡ path) × (value_at nat_cmp ino old ≡ None)
      × (is_directory s ino ≡ false))

abbrev pub IsKnown : {C : Type 0} → Subvolume C → ℕ → Map ℕ (List ℕ) → Type 0
IsKnown s ino m =
    is_directory s ino ≡ false → (path : List ℕ) × (value_at nat_cmp ino m ≡ Some path)

pub record IsPassed {C : Type 0} (s : Subvolume C) (at : List ℕ) (ahead : Map (List ℕ) ℕ)
    (firsts : Map ℕ (List ℕ)) : Type 0 where
  pub lawful : IsLawful s
  pub ahead_is : IsAhead s at ahead
  pub firsts_are : AreFirsts s at firsts
