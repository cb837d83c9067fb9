-- Blocks that were put into files, and by what they begin with. This program's own.
use Rattle.std.specs.Prelude.{◌≡◌, ◌⊎◌, ◌↔◌, ℕ, ◌+◌, ◌*◌, ◌<◌, ◌≤◌, List, [], ◌∷◌, Option, None, Some}
use Rattle.send_model.specs.Clone.{block_len}
use Rattle.stand_index.specs.declared.blocks.Blocks.{Blocks}

-- One of some has a property.
abbrev pub OneHas : {A : Type 0} → (A → Type 0) → List A → Type 0
OneHas P [] = ⊥
OneHas P (x ∷ xs) = P x ⊎ OneHas P xs

-- One of some blocks that follow each other begins at a place of a file, with a cell from a place
-- of a source.
pub record Begins {S : Type 0} (source : S) (cell ino place : ℕ) (blocks : Blocks S) : Type 0 where
  pub block : ℕ
  pub within : block < blocks.count
  pub source_is : blocks.source ≡ source
  pub cell_is : cell ≡ blocks.first + block_len * block
  pub ino_is : blocks.ino ≡ ino
  pub place_is : place ≡ blocks.at + block_len * block

-- The same of one of several such lists of blocks.
abbrev pub IsAmong : {S : Type 0} → S → (cell ino place : ℕ) → List (Blocks S) → Type 0
IsAmong source cell ino place runs = OneHas (Begins source cell ino place) runs

-- Blocks came, and nothing else came or went.
abbrev pub Adds : {S : Type 0} → Blocks S → (old new : List (Blocks S)) → Type 0
Adds {S} blocks old new =
    (source : S) (cell ino place : ℕ)
    → IsAmong source cell ino place new
    ↔ (IsAmong source cell ino place old ⊎ Begins source cell ino place blocks)

-- A place is behind another, by inode number and then by place; each place is behind none.
abbrev pub IsBehind : Option (ℕ × ℕ) → ℕ × ℕ → Type 0
IsBehind None place = Unit {0}
IsBehind (Some last) place = (last.0 < place.0) ⊎ ((last.0 ≡ place.0) × (last.1 < place.1))

-- A place is no greater than another.
abbrev pub IsUpTo : ℕ × ℕ → ℕ × ℕ → Type 0
IsUpTo place other = (place.0 < other.0) ⊎ ((place.0 ≡ other.0) × (place.1 ≤ other.1))

-- The least of the places of a property that are behind a given one, if there is any.
abbrev pub IsNext : (ℕ × ℕ → Type 0) → Option (ℕ × ℕ) → Option (ℕ × ℕ) → Type 0
IsNext Has last None = (other : ℕ × ℕ) → Has other → IsBehind last other → ⊥
IsNext Has last (Some place) =
    Has place × IsBehind last place
    × ((other : ℕ × ℕ) → Has other → IsBehind last other → IsUpTo place other)
