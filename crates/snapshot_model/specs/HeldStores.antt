-- The store that an image stands for with its holes, and the one answer that is due to a word which
-- writes a whole subvolume of it as a stream. The order of answers is this program's own.
use Rattle.std.specs.Prelude.{◌≡◌, ℕ, List, [], Option, None, Some, get_or}
use Rattle.std.specs.Option.{option_map}
use Rattle.send_model.specs.Answer.{Done, Refused, InputFault, OutputFault, NoMemory, InputTooLong, TooMuch, InputChanged, Usage}
use Rattle.send_model.specs.Due.{DoneWhole}
use Rattle.send_model.specs.Headline.{IsFrontOf, IsProperFrontOf}
use Rattle.send_model.specs.Subvolume.{Subvolume}
use Rattle.send_model.specs.Store.{Key, Entry, Store}
use Rattle.store_model.specs.Stored.{Putting, Stands, StandsForNone}
use Rattle.store_model.specs.Dues as dues
use Rattle.store_model.specs.Dues.{Due, complete_named}
use Rattle.store_model.specs.Answers.{Answer, OfAnyWord, StoreFault, NotStore, Missing, LogFull, StoreThere, Damaged}
use Rattle.snapshot_model.specs.Listing.{held}

-- ---- a store with holes

-- WRITE commands put bytes, wherever these stand in the image; a zero cell is no byte.
abbrev pub as_held : Putting (Option ℕ)
as_held place bytes = held bytes

abbrev pub StandsHeld : List ℕ → Store (Option ℕ) → Type 0
StandsHeld image store = Stands None as_held image store

-- A cell by its place in an image: the byte there.
abbrev pub held_at : List ℕ → Option ℕ → Option ℕ
held_at image cell = option_map (λ place. get_or image place 0) cell

-- What holds where an image stands for a store, and what holds where it stands for none.
abbrev pub ByHeld : List ℕ → (Store (Option ℕ) → Type 0) → Type 0 → Type 0
ByHeld image P none =
    ((store : Store (Option ℕ)) → StandsHeld image store → P store)
    × ((group : ℕ) → StandsForNone image group → none)

-- ---- what is due

-- A form of a whole subvolume with its name and key: the stream that is sent, or the one that is
-- restored.
abbrev pub Form : Type 0
Form = List ℕ → Key → Subvolume (Option ℕ) → List ℕ

-- The bytes of the complete subvolume of a name, if there is one.
abbrev pub formed : Form → Option (Entry (Subvolume (Option ℕ)) × Subvolume (Option ℕ)) → List ℕ
formed form None = []
formed form (Some found) = form found.0.name found.0.key found.1

abbrev pub send_output : Form → List ℕ → Store (Option ℕ) → List ℕ
send_output form name store = formed form (complete_named name store)

-- Opening comes first; then the complete subvolume of the name is there, or it is missing.
abbrev pub IsSendDue : Form → (image name : List ℕ) → Due → List ℕ → Type 0
IsSendDue form image name (dues.Ends due) written = (due ≡ DoneWhole)
    × ((store : Store (Option ℕ)) × StandsHeld image store
    × ((found : Entry (Subvolume (Option ℕ)) × Subvolume (Option ℕ))
    × (complete_named name store ≡ Some found) × (written ≡ formed form (Some found))))
IsSendDue form image name (dues.Missing what) written = (what ≡ name) × (written ≡ [])
    × ((store : Store (Option ℕ)) × StandsHeld image store × (complete_named name store ≡ None))
IsSendDue form image name (dues.NotStore group) written = (written ≡ []) × StandsForNone image group
IsSendDue form image name (dues.LogFull end wanted limit) written = ⊥
IsSendDue form image name (dues.StoreThere size) written = ⊥
IsSendDue form image name (dues.Damaged group stored computed) written = ⊥

-- ---- what an answer says

-- A front part of it is written where there was no memory or the device failed, and nothing where
-- there is no store.
abbrev pub SendBefore : Form → (image name written : List ℕ) → Type 0
SendBefore form image name written =
    ByHeld image (λ store. IsFrontOf (send_output form name store) written) (written ≡ [])

-- Not all of it is written where standard output failed, which it does not where there is nothing
-- to write.
abbrev pub SendCut : Form → (image name written : List ℕ) → Type 0
SendCut form image name written =
    ByHeld image (λ store. IsProperFrontOf (send_output form name store) written) ⊥

-- An answer that the image and the name decide is the one that is due; else something outside
-- failed, or there was no memory. The image is as it was.
abbrev pub SendSays : Form → (image name : List ℕ) → Answer → List ℕ → Type 0
SendSays form image name (OfAnyWord Done) written =
    IsSendDue form image name (dues.Ends DoneWhole) written
SendSays form image name (OfAnyWord OutputFault) written = SendCut form image name written
SendSays form image name (OfAnyWord NoMemory) written = SendBefore form image name written
SendSays form image name (OfAnyWord (Refused verdict)) written = ⊥
SendSays form image name (OfAnyWord InputFault) written = ⊥
SendSays form image name (OfAnyWord (InputTooLong file)) written = ⊥
SendSays form image name (OfAnyWord (TooMuch sum)) written = ⊥
SendSays form image name (OfAnyWord (InputChanged file place)) written = ⊥
SendSays form image name (OfAnyWord Usage) written = ⊥
SendSays form image name StoreFault written = SendBefore form image name written
SendSays form image name (NotStore group) written =
    IsSendDue form image name (dues.NotStore group) written
SendSays form image name (Missing what) written =
    IsSendDue form image name (dues.Missing what) written
SendSays form image name (LogFull end wanted limit) written = ⊥
SendSays form image name (StoreThere size) written = ⊥
SendSays form image name (Damaged group stored computed) written = ⊥

abbrev pub SendAnswers : Form → (image name : List ℕ) → Answer → (written left : List ℕ) → Type 0
SendAnswers form image name answer written left =
    (left ≡ image) × SendSays form image name answer written
