-- The one answer that is due to a command which writes the own stream of a subvolume of a store,
-- and what each answer says of what was written. The order of answers is this program's own.
use Rattle.std.specs.Prelude.{◌≡◌, ℕ, List, [], None, Some}
use Rattle.send_model.specs.Answer.{Done, Refused, InputFault, OutputFault, NoMemory, InputTooLong, TooMuch, InputChanged, Usage}
use Rattle.send_model.specs.Due.{DoneWhole}
use Rattle.send_model.specs.Headline.{IsFrontOf, IsProperFrontOf}
use Rattle.send_model.specs.Subvolume.{Subvolume}
use Rattle.send_model.specs.Store.{Entry, Store}
use Rattle.store_model.specs.Stored.{StandsFor, StandsForNone}
use Rattle.store_model.specs.Dues as dues
use Rattle.store_model.specs.Dues.{Due, complete_named}
use Rattle.store_model.specs.Answers.{Answer, OfAnyWord, StoreFault, NotStore, Missing, LogFull, StoreThere, Damaged}
use Rattle.stream_model.specs.OwnStream.{Edits, last_edits, own_stream, IsBeforeEdits, IsTakenAgain}

-- A complete subvolume of a store with its entry.
abbrev pub Found : Type 0
Found = Entry (Subvolume ℕ) × Subvolume ℕ

-- Bytes are the own stream of the complete subvolume of a name in what an image stands for.
pub record IsStreamOf (image name written : List ℕ) : Type 0 where
  pub store : Store ℕ
  pub stands : StandsFor image store
  pub found : Found
  pub here : complete_named name store ≡ Some found
  pub edits : Edits
  pub has : last_edits found.0.key.uuid stands.groups ≡ Some edits
  pub is : written ≡ own_stream found.0 edits

-- There is none: an image stands for a store without a complete subvolume of the name.
pub record IsWithout (image name : List ℕ) : Type 0 where
  pub store : Store ℕ
  pub stands : StandsFor image store
  pub none : complete_named name store ≡ None

-- Opening comes first; then the complete subvolume of the name is there, or it is missing.
abbrev pub IsStreamDue : (image name : List ℕ) → Due → List ℕ → Type 0
IsStreamDue image name (dues.Ends due) written =
    (due ≡ DoneWhole) × IsStreamOf image name written
IsStreamDue image name (dues.Missing what) written =
    (what ≡ name) × (written ≡ []) × IsWithout image name
IsStreamDue image name (dues.NotStore group) written =
    (written ≡ []) × StandsForNone image group
IsStreamDue image name (dues.LogFull end wanted limit) written = ⊥
IsStreamDue image name (dues.StoreThere size) written = ⊥
IsStreamDue image name (dues.Damaged group stored computed) written = ⊥

-- ---- what an answer says

-- What was written before the end of an answer: a front part of what is due.
abbrev pub StreamBefore : (image name written : List ℕ) → Type 0
StreamBefore image name written =
    (due : Due) (whole : List ℕ) → IsStreamDue image name due whole → IsFrontOf whole written

-- Not all of it was written where standard output failed, which it does not where there is nothing
-- to write.
abbrev pub StreamCut : (image name written : List ℕ) → Type 0
StreamCut image name written =
    (due : Due) (whole : List ℕ) → IsStreamDue image name due whole
    → IsProperFrontOf whole written

-- An answer that the image and the name decide is the one that is due; else something outside
-- failed, or there was no memory.
abbrev pub StreamSays : (image name : List ℕ) → Answer → List ℕ → Type 0
StreamSays image name (OfAnyWord Done) written =
    IsStreamDue image name (dues.Ends DoneWhole) written
StreamSays image name (OfAnyWord OutputFault) written = StreamCut image name written
StreamSays image name (OfAnyWord NoMemory) written = StreamBefore image name written
StreamSays image name (OfAnyWord (Refused verdict)) written = ⊥
StreamSays image name (OfAnyWord InputFault) written = ⊥
StreamSays image name (OfAnyWord (InputTooLong file)) written = ⊥
StreamSays image name (OfAnyWord (TooMuch sum)) written = ⊥
StreamSays image name (OfAnyWord (InputChanged file place)) written = ⊥
StreamSays image name (OfAnyWord Usage) written = ⊥
StreamSays image name StoreFault written = StreamBefore image name written
StreamSays image name (NotStore group) written =
    IsStreamDue image name (dues.NotStore group) written
StreamSays image name (Missing what) written = IsStreamDue image name (dues.Missing what) written
StreamSays image name (LogFull end wanted limit) written = ⊥
StreamSays image name (StoreThere size) written = ⊥
StreamSays image name (Damaged group stored computed) written = ⊥

-- The image is as it was.
abbrev pub StreamAnswers : (image name : List ℕ) → Answer → (written left : List ℕ) → Type 0
StreamAnswers image name answer written left =
    (left ≡ image) × StreamSays image name answer written

-- ---- what is promised

-- What was written is taken again by every store that finds what was there when the edits of the
-- complete subvolume of the name were made.
abbrev pub IsStreamedBack : (image name written : List ℕ) → Type 0
IsStreamedBack image name written = (store : Store ℕ) (stands : StandsFor image store)
    (found : Found) → complete_named name store ≡ Some found
    → (edits : Edits) × (was : Store ℕ)
    × IsBeforeEdits stands.groups found.0.key.uuid edits was
    × IsTakenAgain was found.0 edits written

-- Some of its stream is missing.
abbrev pub IsUnfinishedStream : (image name written : List ℕ) → Type 0
IsUnfinishedStream image name written =
    (whole : List ℕ) → IsStreamOf image name whole → IsProperFrontOf whole written
