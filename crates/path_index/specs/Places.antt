-- The names of each inode, by its number. Source: this program's own.
use Rattle.std.specs.Prelude.{◌≡◌, ℕ, ◌==◌, List, [], ◌∷◌, ◌++◌, map}
use Rattle.std.specs.Option.{unwrap_or}
use Rattle.std.specs.Ordering.{nat_cmp}
use Rattle.std.specs.List.{filter}
use Rattle.send_model.specs.Map.{Map, value_at}
use Rattle.send_model.specs.Subvolume.{Subvolume, IsLawful}

-- Where the names of an inode stand: the directory of each and the name itself, in the order of the
-- names.
abbrev pub places_of : Map (ℕ × List ℕ) ℕ → ℕ → List (ℕ × List ℕ)
places_of names ino = map (λ e. e.0) (filter (λ e. e.1 == ino) names)

-- What an index has of an inode.
abbrev pub links_at : Map ℕ (List (ℕ × List ℕ)) → ℕ → List (ℕ × List ℕ)
links_at index ino = unwrap_or (value_at nat_cmp ino index) []

-- An index has the names of each inode.
abbrev pub IsIndexOf : Map ℕ (List (ℕ × List ℕ)) → Map (ℕ × List ℕ) ℕ → Type 0
IsIndexOf index names = (ino : ℕ) → links_at index ino ≡ places_of names ino

-- The index of a lawful subvolume.
pub record IsIndexed {C : Type 0} (s : Subvolume C)
    (index : Map ℕ (List (ℕ × List ℕ))) : Type 0 where
  pub lawful : IsLawful s
  pub indexed : IsIndexOf index s.names

-- An inode has one name more, and all others have the same.
pub record IsOneMore (old new : Map ℕ (List (ℕ × List ℕ))) (ino : ℕ)
    (place : ℕ × List ℕ) : Type 0 where
  pub here : links_at new ino ≡ links_at old ino ++ place ∷ []
  pub others : (other : ℕ) → (other ≡ ino → ⊥) → links_at new other ≡ links_at old other
