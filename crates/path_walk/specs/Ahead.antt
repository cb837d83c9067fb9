-- Paths with the inodes that they lead to, as they are found below paths of directories. This
-- program's own.
use Rattle.std.specs.Prelude.{◌≡◌, ◌⊎◌, ℕ, ◌<◌, ◌≤◌, List, length, Option, None, Some, Ok}
use Rattle.send_model.specs.Path.{longest_path}
use Rattle.send_model.specs.Map.{Map, IsMap, bytes_cmp, value_at}
use Rattle.send_model.specs.Subvolume.{Subvolume, walk, named, path_below}

-- The path of a name, unless it is too long.
abbrev pub BelowEnd : (front name : List ℕ) → Option (List ℕ) → Type 0
BelowEnd front name None = longest_path < length (path_below front name)
BelowEnd front name (Some path) = (path ≡ path_below front name) × (length path ≤ longest_path)

-- A path of an entry of a directory, with the inode that it leads to.
pub record IsEntry {C : Type 0} (s : Subvolume C) (front : List ℕ) (directory : ℕ) (path : List ℕ)
    (ino : ℕ) : Type 0 where
  pub name : List ℕ
  pub path_is : path ≡ path_below front name
  pub there : named s directory name ≡ Some ino
  pub short : length path ≤ longest_path

-- Some paths of entries of a directory came to others, which stay where they lead to what they say.
pub record Grows {C : Type 0} (s : Subvolume C) (front : List ℕ) (directory : ℕ)
    (old new : Map (List ℕ) ℕ) : Type 0 where
  pub ordered : IsMap bytes_cmp old → IsMap bytes_cmp new
  pub kept : (path : List ℕ) (ino : ℕ) → walk s path ≡ Ok ino
      → value_at bytes_cmp path old ≡ Some ino → value_at bytes_cmp path new ≡ Some ino
  pub only : (path : List ℕ) (ino : ℕ) → value_at bytes_cmp path new ≡ Some ino
      → (value_at bytes_cmp path old ≡ Some ino) ⊎ IsEntry s front directory path ino

-- All of them are there.
abbrev pub HasEntries : {C : Type 0} → Subvolume C → List ℕ → ℕ → Map (List ℕ) ℕ → Type 0
HasEntries s front directory m =
    (path : List ℕ) (ino : ℕ) → IsEntry s front directory path ino
    → value_at bytes_cmp path m ≡ Some ino
