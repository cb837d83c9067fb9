-- What an answer to a request promises of the objects outside. This program's own.
use Rattle.std.specs.Prelude.{◌≡◌, ◌≢◌, ◌⊎◌, ⊤, ℕ, ◌==◌, ◌||◌, Bool, true, false, List, [], ◌∷◌, Option, None, Some}
use Rattle.std.specs.List.{AllByRecursion}
use Rattle.send_model.specs.Attribute.{IsBytes}
use Rattle.send_model.specs.Outside.{base_of}
use Rattle.send_model.specs.Reading.{Reading, Verdict, input}
use Rattle.send_model.specs.Overridden.{overridden}
use Rattle.send_model.specs.Store.{Store}
use Rattle.send_model.specs.Headline.{IsComposedOf, whole_output_of}
use Rattle.send_model.specs.ExportPromises.{IsExportedOf}
use Rattle.store_model.specs.Stored.{StandsFor}
use Rattle.snapshot_model.specs.HeldStores.{Form}
use Rattle.snapshot_model.specs.Sent.{sent_stream}
use Rattle.snapshot_model.specs.Restored.{restored_stream}
use Rattle.snapshot_model.specs.Promises.{IsReceivedAnew, IsUnfinished}
use Rattle.squash_model.specs.SquashedStreams.{IsSquashedOf}
use Rattle.squash_model.specs.SquashDues.{own_base}
use Rattle.archive_model.specs.Archive.{archived_form}
use Rattle.program_model.specs.AnswerMeanings.{IsArchivedOf}
use Rattle.stream_model.specs.StreamDues.{IsStreamedBack, IsUnfinishedStream}
use Rattle.program_model.specs.FileWords.{GivenFiles}
use Rattle.program_model.specs.Requests.{Base, Nothing, InStore, Request, Compose, Audit, Dump, Text, Pack, Export, Squash, Gen, Trial, Init, Drop, Receive, ListAll, Show, Cat, Scrub, Send, Restore, Stream, Tar, Interleave}
use Rattle.program_model.specs.Profiles.{profile, How, NoFiles, Once, Twice, InTurns, Makes, Changes, Reads, StoreAccess, OnlyReads}
use Rattle.program_model.specs.Answers.{Answer, Done, Refused, Usage, InputFault, OutputFault, StoreFault, NoMemory, NoStore, IsMissing, IsFull, IsThere, IsDamaged, IsTooMuch, IsTooLong, InputChanged, status_of, Says, meaning_of}
use Rattle.sx_base.specs.Asks.{Ask, AreReadOnce, AreReadTwice}
use Rattle.sx_base.specs.Calls.{IfAllTold, Wrote, IsEndOf}
use Rattle.sx_base.specs.Disk.{IsImage, settled}
use Rattle.turn_sessions.specs.Asked.{AreReadInTurns}
use Rattle.request_answers.specs.Objects.{Objects, IsSteady, HasRisen}

-- ---- what is known

-- A fact about the bytes of files, where the inputs say what they hold; of no files in any case.
abbrev pub IfKnown : Option (List (List ℕ × List ℕ)) → (names : List (List ℕ)) →
    (List (List ℕ) → Type 0) → Type 0
IfKnown known [] P = P []
IfKnown known (name ∷ names) P = IfAllTold known (name ∷ names) P

-- A fact that leans on a store's contents: it is owed where the disk says what it holds, or where
-- no store is used.
abbrev pub IfFaithful : (IsFaithful : Type 0) → Option StoreAccess → Type 0 → Type 0
IfFaithful IsFaithful None P = P
IfFaithful IsFaithful (Some store) P = IsFaithful → P

-- What is put into a store are files of bytes.
abbrev pub IfBytes : Option StoreAccess → (bytes : List (List ℕ)) → Type 0 → Type 0
IfBytes None bytes P = P
IfBytes (Some store) bytes P =
    elim store.access [ Makes ↦ P | Changes ↦ (AllByRecursion IsBytes bytes → P) | Reads ↦ P ]

-- ---- what is touched

-- Calls that read files in one of four ways.
abbrev pub AreRead : How → (known : Option (List (List ℕ × List ℕ))) → (names : List (List ℕ))
    → List Ask → Type 0
AreRead NoFiles known names = AreReadOnce []
AreRead Once known names = AreReadOnce names
AreRead Twice known names = AreReadTwice known names
AreRead InTurns known names = AreReadInTurns names

-- ---- why an answer comes

-- A number stands in a list.
unfoldable pub is_one_of : ℕ → List ℕ → Bool
is_one_of number [] = false
is_one_of number (one ∷ more) = (number == one) || is_one_of number more

-- Where all was done nothing failed, and no file ended too early; an answer that says that
-- something failed comes only where it did.
abbrev pub HasCause : Objects → Answer → Type 0
HasCause objects Done = IsSteady objects.input_faults ×
    (IsSteady objects.early_ends × (IsSteady objects.output_faults × IsSteady objects.disk_faults))
HasCause objects InputFault = HasRisen objects.input_faults
HasCause objects OutputFault = HasRisen objects.output_faults
HasCause objects StoreFault = HasRisen objects.disk_faults
HasCause objects (InputChanged file place) = HasRisen objects.early_ends
HasCause objects (Refused verdict) = ⊤
HasCause objects Usage = ⊥
HasCause objects NoMemory = ⊤
HasCause objects (NoStore group) = ⊤
HasCause objects (IsMissing what) = ⊤
HasCause objects (IsFull end wanted limit) = ⊤
HasCause objects (IsThere size) = ⊤
HasCause objects (IsDamaged group stored computed) = ⊤
HasCause objects (IsTooMuch sum) = ⊤
HasCause objects (IsTooLong file) = ⊤

-- What an answer says beside its meaning: a file that was found changed is the one of the last
-- early end, and a damaged group has another checksum than the one that is stored.
abbrev pub Details : Objects → Request → Answer → Type 0
Details objects request (InputChanged file place) =
    IsEndOf (profile request).files.files objects.last_end file place
Details objects request (IsDamaged group stored computed) = stored ≢ computed
Details objects request Done = ⊤
Details objects request (Refused verdict) = ⊤
Details objects request Usage = ⊤
Details objects request InputFault = ⊤
Details objects request OutputFault = ⊤
Details objects request StoreFault = ⊤
Details objects request NoMemory = ⊤
Details objects request (NoStore group) = ⊤
Details objects request (IsMissing what) = ⊤
Details objects request (IsFull end wanted limit) = ⊤
Details objects request (IsThere size) = ⊤
Details objects request (IsTooMuch sum) = ⊤
Details objects request (IsTooLong file) = ⊤

-- ---- the headline, and what is exported, sent and restored

-- The stores that a base may be: the one without snapshots, or one that the store's file stands
-- for.
abbrev pub IsBase : Base → (contents : List ℕ) → Store ℕ → Type 0
IsBase Nothing contents s = s ≡ []
IsBase (InStore store) contents s = StandsFor contents s

abbrev pub IfBase : (IsFaithful : Type 0) → Base → Type 0 → Type 0
IfBase IsFaithful Nothing P = P
IfBase IsFaithful (InStore store) P = IsFaithful → P

-- What holds of what was written for files over each base that there may be, where all of these are
-- known.
abbrev pub OverBase : Objects → Base → GivenFiles →
    (Store ℕ → List (List ℕ) → (written : List ℕ) → Type 0) → Type 0
OverBase objects base files P = IfBase objects.IsFaithful base
    (IfAllTold objects.known_files files.files (λ bytes.
    Wrote objects.output objects.output_after
    (λ written. (s : Store ℕ) → IsBase base objects.contents s → P s bytes written)))

-- What is read of files, with what is said in front of each.
abbrev pub reading_of : GivenFiles → List (List ℕ) → Reading
reading_of files bytes = overridden files.overrides (input bytes)

-- `compose` wrote one stream that stands for the chain; where a command is refused, it wrote all
-- that stands for the commands before.
pub record IsMergedAs (objects : Objects) (base : Base) (files : GivenFiles)
    (answer : Answer) : Type 0 where
  pub whole : answer ≡ Done → OverBase objects base files
      (λ s bytes written. let reading : Reading = reading_of files bytes in IsComposedOf
      (base_of s reading.items) reading written)
  pub front : (verdict : Verdict) → answer ≡ Refused verdict → OverBase objects base files
      (λ s bytes written. let reading : Reading = reading_of files bytes in written
      ≡ whole_output_of (base_of s reading.items) reading)

-- `squash` wrote one stream that leads to the same, without the bytes that the snapshot does not have
-- at its end.
abbrev pub IsSquashedAs : Objects → Base → GivenFiles → Answer → Type 0
IsSquashedAs objects base files answer = answer ≡ Done → OverBase objects base files
    (λ s bytes written. let reading : Reading = reading_of files bytes in IsSquashedOf
    (own_base s reading.items) reading written)

-- `export` wrote streams that every receiver of the files takes.
abbrev pub IsExportedAs : Objects → Base → GivenFiles → Answer → Type 0
IsExportedAs objects base files answer = answer ≡ Done → OverBase objects base files
    (λ s bytes written. AllByRecursion IsBytes bytes → IsExportedOf s
    (reading_of files bytes) written)

-- `send` and `restore` wrote a stream that makes the snapshot anew; or some of it is missing.
pub record IsSentAs (objects : Objects) (form : Form) (name : List ℕ)
    (answer : Answer) : Type 0 where
  pub whole : answer ≡ Done → objects.IsFaithful → Wrote objects.output objects.output_after
      (λ written. IsReceivedAnew objects.contents name written)
  pub in_part : answer ≢ Done → objects.IsFaithful → Wrote objects.output objects.output_after
      (λ written. IsUnfinished form objects.contents name written)

-- `stream` wrote the snapshot's own stream, which can be received again; or some of it is missing.
pub record IsStreamedAs (objects : Objects) (name : List ℕ) (answer : Answer) : Type 0 where
  pub whole : answer ≡ Done → objects.IsFaithful → Wrote objects.output objects.output_after
      (λ written. IsStreamedBack objects.contents name written)
  pub in_part : answer ≢ Done → objects.IsFaithful → Wrote objects.output objects.output_after
      (λ written. IsUnfinishedStream objects.contents name written)

-- `tar` wrote the archive of the snapshot, byte for byte; or some of it is missing.
pub record IsArchivedAs (objects : Objects) (name : List ℕ) (answer : Answer) : Type 0 where
  pub whole : answer ≡ Done → objects.IsFaithful → Wrote objects.output objects.output_after
      (λ written. IsArchivedOf objects.contents name written)
  pub in_part : answer ≢ Done → objects.IsFaithful → Wrote objects.output objects.output_after
      (λ written. IsUnfinished archived_form objects.contents name written)

abbrev pub Promised : Objects → Request → Answer → Type 0
Promised objects (Compose base files) answer = IsMergedAs objects base files answer
Promised objects (Export base files) answer = IsExportedAs objects base files answer
Promised objects (Squash base files) answer = IsSquashedAs objects base files answer
Promised objects (Send store name) answer = IsSentAs objects sent_stream name answer
Promised objects (Restore store name) answer = IsSentAs objects restored_stream name answer
Promised objects (Stream store name) answer = IsStreamedAs objects name answer
Promised objects (Tar store name) answer = IsArchivedAs objects name answer
Promised objects (Audit guards base files) answer = ⊤
Promised objects (Dump file) answer = ⊤
Promised objects (Text file) answer = ⊤
Promised objects (Pack file) answer = ⊤
Promised objects (Gen count seed) answer = ⊤
Promised objects (Trial count seed) answer = ⊤
Promised objects (Init store) answer = ⊤
Promised objects (Drop store name) answer = ⊤
Promised objects (Receive guards store files) answer = ⊤
Promised objects (ListAll store) answer = ⊤
Promised objects (Show store name) answer = ⊤
Promised objects (Cat store name path) answer = ⊤
Promised objects (Scrub store) answer = ⊤
Promised objects (Interleave store schedule turns) answer = ⊤

-- ---- crashes

-- An image that a crash may leave where so much was written: one that it could leave before, with
-- nothing written, or one that the request has on the way.
abbrev pub IsLeft : Objects → Request → (bytes : List (List ℕ)) → (written image : List ℕ)
    → Type 0
IsLeft objects request bytes written image =
    (IsImage objects.crash_states image × (written ≡ [])) ⊎
    (meaning_of request objects.contents bytes).crash written image

-- What a crash may leave at every moment of the call: where nothing is changed, what it could leave
-- before. Where files are put into a store, they are known, and bytes. Of a store that is made
-- where there was nothing, nothing is said.
abbrev pub AtAnyMoment : Objects → Request → Option StoreAccess → Type 0
AtAnyMoment objects request None = objects.CrashesLeave (IsImage objects.crash_states)
AtAnyMoment objects request (Some store) = elim store.access [
  | Makes ↦ (objects.contents ≢ [] → objects.CrashesLeave (IsImage objects.crash_states))
  | Changes ↦ IfKnown objects.known_files (profile request).files.files
      (λ bytes. AllByRecursion IsBytes bytes → objects.CrashesLeave (IsLeft objects request bytes []))
  | Reads ↦ objects.CrashesLeave (IsImage objects.crash_states)
]

-- Where files are put into a store, each image that a crash may leave when the call has ended has
-- each snapshot complete whose line was written.
abbrev pub Acknowledges : Objects → Request → Option StoreAccess → Type 0
Acknowledges objects request None = ⊤
Acknowledges objects request (Some store) = elim store.access [
  | Makes ↦ ⊤
  | Changes ↦ IfKnown objects.known_files (profile request).files.files
      (λ bytes. AllByRecursion IsBytes bytes →
      Wrote objects.output objects.output_after
      (λ written. (image : List ℕ) → IsImage objects.crash_states_after image
      → IsLeft objects request bytes written image))
  | Reads ↦ ⊤
]

-- ---- all

pub record Answers (objects : Objects) (request : Request) (answer : Answer) : Type 0 where
  -- no call changes what is known of files; they are read as the table of requests says, and no
  -- others are
  pub known : objects.known_after ≡ objects.known_files
  pub reads : objects.AskedInputs
      (AreRead (profile request).how objects.known_files (profile request).files.files)
  -- a request that reads no file, prints nothing, or uses no store, asks nothing of that object
  pub unread : (profile request).how ≡ NoFiles → objects.InputsSame
  pub unprinted : (profile request).prints ≡ false → objects.OutputSame
  pub unused : (profile request).store ≡ None → objects.DiskSame
  -- a store that is only read holds what it held
  pub unharmed : objects.IsFaithful → OnlyReads (profile request).store
      → objects.contents_after ≡ objects.contents
  -- the answer is one of the table, and has its cause
  pub allowed : is_one_of (status_of answer) (profile request).statuses ≡ true
  pub caused : HasCause objects answer
  -- where the files and the store are known, what was written and what is left are what it says
  pub says : IfFaithful objects.IsFaithful (profile request).store
      (IfKnown objects.known_files (profile request).files.files (λ bytes.
      Wrote objects.output objects.output_after
      (λ written. IfBytes (profile request).store bytes
      (Says (meaning_of request objects.contents bytes) answer written objects.contents_after))))
  pub details : Details objects request answer
  pub promised : Promised objects request answer
  -- what a crash leaves, during the call and after it
  pub any_moment : objects.IsFaithful → AtAnyMoment objects request (profile request).store
  pub durable : answer ≡ Done → objects.IsFaithful → (profile request).prints ≡ false
      → objects.crash_states_after ≡ settled objects.contents_after
  pub acknowledged : objects.IsFaithful → (profile request).prints ≡ true
      → Acknowledges objects request (profile request).store
