-- The paths that end with one name. Source: this program's own; walks are those of the definitions.
use Rattle.std.specs.Prelude.{◌≡◌, ◌⊎◌, ℕ, Bool, true, false, List, [], ◌∷◌, ◌++◌, drop, Option, None, Some, Ok}
use Rattle.send_model.specs.Path.{path_names}
use Rattle.send_model.specs.Subvolume.{Subvolume, root, walk_names, lesser}

-- A path of which the last name stands at a place: the names before it lead to the directory of the
-- place.
pub record EndsAt {C : Type 0} (s : Subvolume C) (place : ℕ × List ℕ) (path : List ℕ) : Type 0 where
  pub before : List (List ℕ)
  pub names_are : path_names path ≡ Some (before ++ place.1 ∷ [])
  pub leads : walk_names s root before ≡ Ok place.0

-- There is just one such path, and it is the given one.
pub record IsOnlyPath {C : Type 0} (s : Subvolume C) (place : ℕ × List ℕ)
    (path : List ℕ) : Type 0 where
  pub ends : EndsAt s place path
  pub only : (other : List ℕ) → EndsAt s place other → other ≡ path

-- Whether there is such a path.
abbrev pub HasWay : {C : Type 0} → Subvolume C → ℕ × List ℕ → Bool → Type 0
HasWay s place true = (path : List ℕ) × IsOnlyPath s place path
HasWay s place false = (other : List ℕ) → EndsAt s place other → ⊥

-- The path that ends at a place stands from the given one on in a buffer, or there is none.
abbrev pub WriteEnd : {C : Type 0} → Subvolume C → ℕ × List ℕ → Option ℕ → List ℕ → Type 0
WriteEnd s place (Some start) buffer = IsOnlyPath s place (drop start buffer)
WriteEnd s place None buffer = (other : List ℕ) → EndsAt s place other → ⊥

-- The lesser of the path that ends at a place and another; the other, where there is no such path.
abbrev pub IsLesserBy : {C : Type 0} → Subvolume C → ℕ × List ℕ → Option (List ℕ) → Option (List ℕ)
    → Type 0
IsLesserBy s place least next =
    ((path : List ℕ) × IsOnlyPath s place path × (next ≡ lesser path least))
    ⊎ (((other : List ℕ) → EndsAt s place other → ⊥) × (next ≡ least))
