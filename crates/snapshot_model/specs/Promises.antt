-- What is promised of a subvolume of a store that was written as a stream. This program's own.
use Rattle.std.specs.Prelude.{◌≡◌, ℕ, List, Option, Some}
use Rattle.send_model.specs.Headline.{IsProperFrontOf}
use Rattle.send_model.specs.Subvolume.{Subvolume}
use Rattle.send_model.specs.Store.{Entry, Store}
use Rattle.store_model.specs.Dues.{complete_named}
use Rattle.snapshot_model.specs.HeldStores.{StandsHeld, Form, formed}
use Rattle.snapshot_model.specs.SentLaws.{IsNew, FileIsReceivedAs}

-- What holds of the complete subvolume of a name in the store that an image stands for, if there is
-- one.
abbrev pub OfNamed : (image name : List ℕ)
    → (Entry (Subvolume (Option ℕ)) × Subvolume (Option ℕ) → Type 0) → Type 0
OfNamed image name P =
    (store : Store (Option ℕ)) → StandsHeld image store
    → (found : Entry (Subvolume (Option ℕ)) × Subvolume (Option ℕ))
    → complete_named name store ≡ Some found → P found

-- Every store that has neither its name nor its uuid takes what was written, and has an equal
-- subvolume then, holes among its cells.
abbrev pub IsReceivedAnew : (image name written : List ℕ) → Type 0
IsReceivedAnew image name written =
    OfNamed image name (λ found. (other : Store ℕ) → IsNew found.0.name found.0.key other
    → FileIsReceivedAs found.0.name found.0.key found.1 other written)

-- Some of its stream is missing.
abbrev pub IsUnfinished : Form → (image name written : List ℕ) → Type 0
IsUnfinished form image name written =
    OfNamed image name (λ found. IsProperFrontOf (formed form (Some found)) written)
