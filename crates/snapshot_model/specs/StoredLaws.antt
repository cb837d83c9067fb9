-- What holds of the subvolumes of a store, so that each of them can be sent. This program's own.
use Rattle.std.specs.Prelude.{◌≡◌, ℕ, ◌^◌, ◌<◌, true, List, Option, None, Some, IfSome}
use Rattle.std.specs.List.{AllByRecursion}
use Rattle.send_model.specs.Attribute.{Identifier, Bytes, FieldFits, IsBytes, UUID, PATH}
use Rattle.send_model.specs.Path.{is_name}
use Rattle.send_model.specs.Subvolume.{Subvolume}
use Rattle.send_model.specs.Store.{Entry, Store}
use Rattle.send_model.specs.Cells.{recelled_store}
use Rattle.store_model.specs.Stored.{as_places, Stands, StandsFor}
use Rattle.store_model.specs.Dues.{Due, complete_named}
use Rattle.store_model.specs.Answers.{answer_of}
use Rattle.snapshot_model.specs.Listing.{byte_of}
use Rattle.snapshot_model.specs.Sent.{sent_stream}
use Rattle.snapshot_model.specs.Restored.{restored_stream}
use Rattle.snapshot_model.specs.HeldStores.{StandsHeld, held_at, Form, IsSendDue, SendSays}
use Rattle.snapshot_model.specs.SentLaws.{IsKept, IsNew, FileIsReceivedAs}

-- ---- holes and bytes

-- Seen as bytes, what an image stands for with its holes is what it stands for.
abbrev pub HeldAreBytes : Type 0
HeldAreBytes =
    (image : List ℕ) (store : Store (Option ℕ)) → StandsHeld image store
    → StandsFor image (recelled_store byte_of store)

-- And each store that it stands for has its holes.
abbrev pub BytesAreHeld : Type 0
BytesAreHeld =
    (image : List ℕ) (store : Store ℕ) → StandsFor image store
    → (holes : Store (Option ℕ)) × StandsHeld image holes × (store ≡ recelled_store byte_of holes)

-- Over the places of bytes it stands for the store that has these bytes there, and the same holes.
abbrev pub PlacesAreHeld : Type 0
PlacesAreHeld =
    (image : List ℕ) (places : Store (Option ℕ)) → Stands None as_places image places
    → StandsHeld image (recelled_store (held_at image) places)

-- It stands for one such store at most.
abbrev pub ImageIsOneHeld : Type 0
ImageIsOneHeld =
    (image : List ℕ) (s t : Store (Option ℕ)) → StandsHeld image s → StandsHeld image t → s ≡ t

-- ---- what stands can be sent

-- An entry has a name and a key that can be said; and what sending asks, its contents have, if it
-- is complete.
pub record IsStored (e : Entry (Subvolume (Option ℕ))) : Type 0 where
  pub name : is_name e.name ≡ true
  pub name_told : FieldFits 1 PATH (Bytes e.name)
  pub uuid : FieldFits 1 UUID (Identifier e.key.uuid)
  pub ctransid : e.key.ctransid < 2 ^ 64
  pub contents : IfSome e.contents IsKept

-- So is each entry of what an image stands for.
abbrev pub StoredIsKept : Type 0
StoredIsKept =
    (image : List ℕ) (store : Store (Option ℕ)) → StandsHeld image store
    → AllByRecursion IsStored store

-- A complete subvolume of a store in a form is received by every store that has neither its name
-- nor its uuid, with an equal listing.
abbrev pub StoredIsReceived : Form → Type 0
StoredIsReceived form =
    (image name : List ℕ) (store : Store (Option ℕ))
    (found : Entry (Subvolume (Option ℕ)) × Subvolume (Option ℕ)) (other : Store ℕ)
    → StandsHeld image store → complete_named name store ≡ Some found
    → IsNew found.0.name found.0.key other
    → FileIsReceivedAs found.0.name found.0.key found.1 other
    (form found.0.name found.0.key found.1)

-- So it is of both.
abbrev pub SentOfStores : Type 0
SentOfStores = StoredIsReceived sent_stream

abbrev pub RestoredOfStores : Type 0
RestoredOfStores = StoredIsReceived restored_stream

-- ---- answers

-- One answer is due, and one stream.
abbrev pub OneSendDue : Type 0
OneSendDue = (form : Form) (image name : List ℕ) (due other : Due) (written output : List ℕ)
    → IsSendDue form image name due written → IsSendDue form image name other output
    → (due ≡ other) × (written ≡ output)

-- And there is one for each image of bytes.
abbrev pub EachSendIsDue : Type 0
EachSendIsDue =
    (form : Form) (image name : List ℕ) → IsBytes image
    → (due : Due) × (written : List ℕ) × IsSendDue form image name due written

-- What is due is answered as it says.
abbrev pub SendIsAnswered : Type 0
SendIsAnswered =
    (form : Form) (image name : List ℕ) (due : Due) (written : List ℕ)
    → IsSendDue form image name due written → SendSays form image name (answer_of due) written
