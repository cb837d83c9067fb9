-- What it means that an image stands for a store, and for none. This program's own.
use Rattle.std.specs.Prelude.{◌⊎◌, ◌≡◌, ℕ, List, [], ◌∷◌, ◌++◌, length, map, Option, None, Some}
use Rattle.std.specs.Option.{option_map}
use Rattle.send_model.specs.Attribute.{IsBytes}
use Rattle.send_model.specs.Store.{Store}
use Rattle.send_model.specs.Cells.{recelled_store}
use Rattle.send_model.specs.Lawful.{IsLawfulStore}
use Rattle.store_model.specs.States.{HasNumbers}
use Rattle.store_model.specs.Scrub.{IsScrubbed}
use Rattle.store_model.specs.Dues.{Due, IsScrubDue}
use Rattle.store_model.specs.Image.{Header, front_of}
use Rattle.store_model.specs.Stored.{Group, body_bytes, IsGroup, Putting, as_places, byte_of, made, body_at, made_all, Makes, Stands, StandsFor, StandsForNone}

-- Bytes are the body of one group at most.
abbrev pub BodyIsOneGroup : Type 0
BodyIsOneGroup =
    (format : ℕ) (g h : Group) → IsGroup format g → IsGroup format h → body_bytes g ≡ body_bytes h
    → g ≡ h

-- An image stands for one store at most, over any cells.
abbrev pub ImageIsOneStore : Type 0 → Type 0
ImageIsOneStore C =
    (zero_cell : C) (put : Putting C) (image : List ℕ) (s t : Store C)
    → Stands zero_cell put image s → Stands zero_cell put image t → s ≡ t

-- It does not stand for a store and for none.
abbrev pub ImageIsNotBoth : Type 0
ImageIsNotBoth =
    (image : List ℕ) (store : Store ℕ) (group : ℕ) → StandsFor image store
    → StandsForNone image group → ⊥

-- Where it stands for none, one group is at fault.
abbrev pub OneGroupIsAtFault : Type 0
OneGroupIsAtFault =
    (image : List ℕ) (g h : ℕ) → StandsForNone image g → StandsForNone image h → g ≡ h

-- And each image of bytes stands for one store, or for none.
abbrev pub EachImageIsDecided : Type 0
EachImageIsDecided =
    (image : List ℕ) → IsBytes image
    → ((store : Store ℕ) × StandsFor image store) ⊎ ((group : ℕ) × StandsForNone image group)

-- What it stands for is lawful.
abbrev pub StoredIsLawful : Type 0
StoredIsLawful = (image : List ℕ) (store : Store ℕ) → StandsFor image store → IsLawfulStore store

-- And each ctransid in it is a number of eight bytes.
abbrev pub StoredHasNumbers : Type 0 → Type 0
StoredHasNumbers C =
    (zero_cell : C) (put : Putting C) (image : List ℕ) (store : Store C)
    → Stands zero_cell put image store → HasNumbers store

-- Groups do not look at cells: over others, of whatever type, they make the same store.
abbrev pub GroupsKeepCells : Type 0 → Type 0 → Type 0
GroupsKeepCells C D = (f : C → D) (zero_cell : C) (put : Putting C) (other : Putting D)
    → ((place : ℕ) (bytes : List ℕ) → map f (put place bytes) ≡ other place bytes)
    → (gate : ℕ) (store : Store C) (groups : List Group)
    → made_all (f zero_cell) other gate (recelled_store f store) groups
    ≡ option_map (recelled_store f) (made_all zero_cell put gate store groups)

-- Over the places of bytes an image stands for the store that has these bytes there.
abbrev pub PlacesAreBytes : Type 0
PlacesAreBytes =
    (image : List ℕ) (places : Store (Option ℕ)) → Stands None as_places image places
    → StandsFor image (recelled_store (byte_of image) places)

-- And it does so for each store that it stands for.
abbrev pub BytesHavePlaces : Type 0
BytesHavePlaces = (image : List ℕ) (store : Store ℕ) → StandsFor image store
    → (places : Store (Option ℕ)) × Stands None as_places image places
    × (store ≡ recelled_store (byte_of image) places)

-- One group more makes of what the others made what it makes.
abbrev pub OneMoreIsMade : Type 0 → Type 0
OneMoreIsMade C =
    (zero_cell : C) (put : Putting C) (header : Header) (groups : List Group) (group : Group)
    (store next : Store C)
    → Makes zero_cell put header.format groups store → IsGroup header.format group
    → made zero_cell put
    (body_at (length (front_of header (map body_bytes groups)))) store group.content ≡ Some next
    → Makes zero_cell put header.format (groups ++ group ∷ []) next

-- Scrub has one answer.
abbrev pub OneScrub : Type 0
OneScrub = (image : List ℕ) (due other : Due) (written output : List ℕ) → IsBytes image
    → IsScrubDue image due written → IsScrubDue image other output
    → (due ≡ other) × (written ≡ output)

-- Where an image stands for a store, it finds all groups whole.
abbrev pub StoredIsWhole : Type 0
StoredIsWhole =
    (image : List ℕ) (store : Store ℕ) → StandsFor image store
    → (groups : ℕ) × (plain : ℕ) × IsScrubbed image groups plain

-- And it has one for each image of bytes.
abbrev pub EachImageIsScrubbed : Type 0
EachImageIsScrubbed =
    (image : List ℕ) → IsBytes image
    → (due : Due) × (written : List ℕ) × IsScrubDue image due written
