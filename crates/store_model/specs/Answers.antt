-- How the program answers any word, on streams or over a store: the exit status, the line on
-- standard error, and what the answer says of what was written and of the store's image. They are
-- this program's own.
use Rattle.std.specs.Prelude.{◌≡◌, ◌⊎◌, ⊤, ℕ, Bool, true, false, List, [], ◌∷◌, ◌++◌, codes}
use Rattle.send_model.specs.Attribute.{IsBytes}
use Rattle.send_model.specs.Store.{Store}
use Rattle.send_model.specs.Guards.{Guard, GuardSpec}
use Rattle.send_model.specs.Headline.{IsFrontOf, IsProperFrontOf}
use Rattle.send_model.specs.Printed.{escaped}
use Rattle.send_model.specs.Due as stream_dues
use Rattle.send_model.specs.Due.{DoneWhole, RefusedAt, TooLong}
use Rattle.send_model.specs.Answer as answers
use Rattle.send_model.specs.Answer.{Done, Refused, Usage, InputFault, OutputFault, NoMemory, InputTooLong, TooMuch, InputChanged, and_field, and_number, line, eight_digits}
use Rattle.send_model.specs.Sources.{Sources, StandsBeforeOf, StandsCutOf}
use Rattle.send_model.specs.Words as streams
use Rattle.send_model.specs.Words.{new_guards}
use Rattle.store_model.specs.Stored.{StandsFor}
use Rattle.store_model.specs.NamedFiles.{NamedFiles, read_of}
use Rattle.store_model.specs.States.{received_lines}
use Rattle.store_model.specs.StoreLines.{listed}
use Rattle.store_model.specs.Scrub.{IsScrubbed, scrub_line}
use Rattle.store_model.specs.Stops.{IsOnTheWay}
use Rattle.store_model.specs.Dues as dues
use Rattle.store_model.specs.Dues.{Due, Ends, show_output, cat_output, IsDropDue}
use Rattle.store_model.specs.Requests.{Request, OfStreams, InitStore, DropEntry, ReceiveFiles, ListStore, ShowEntry, CatFile, ScrubStore, word_at, store_of, reads_store, base_over, IsDue, DropLeaves, ByImage, AtEntry, Says, at_entry}

-- ---- the answers

-- How a run answers: as words on streams do; or that the store's device failed, that there is no
-- store, no such entry or file, no room, a store already, or a group whose checksum is that of
-- other bytes.
pub data Answer : Type 0 where
  OfAnyWord : answers.Answer → Answer
  StoreFault : Answer
  NotStore : (group : ℕ) → Answer
  Missing : (what : List ℕ) → Answer
  LogFull : (end wanted limit : ℕ) → Answer
  StoreThere : (size : ℕ) → Answer
  Damaged : (group stored computed : ℕ) → Answer

unfoldable pub status_of : Answer → ℕ
status_of (OfAnyWord answer) = answers.status_of answer
status_of StoreFault = 5
status_of (NotStore group) = 6
status_of (Missing what) = 8
status_of (LogFull end wanted limit) = 10
status_of (StoreThere size) = 12
status_of (Damaged group stored computed) = 14

-- The line on standard error: nothing where all went well.
unfoldable pub note_of : Answer → List ℕ
note_of (OfAnyWord answer) = answers.note_of answer
note_of StoreFault = line (codes "store fault")
note_of (NotStore group) = line (codes "not a store" ++ and_number group)
note_of (Missing what) = line (codes "missing" ++ and_field (escaped what))
note_of (LogFull end wanted limit) =
    line (codes "log full" ++ and_number end ++ and_number wanted ++ and_number limit)
note_of (StoreThere size) = line (codes "store there" ++ and_number size)
note_of (Damaged group stored computed) =
    line (codes "damaged" ++ and_number group ++ and_field (eight_digits stored)
    ++ and_field (eight_digits computed))

-- ---- the answer that is due

-- How a run answers what files decide.
abbrev pub answered : stream_dues.Due → answers.Answer
answered DoneWhole = Done
answered (RefusedAt verdict) = Refused verdict
answered (TooLong file) = InputTooLong file
answered (stream_dues.TooMuch sum) = TooMuch sum

-- And what a store decides too.
abbrev pub answer_of : Due → Answer
answer_of (Ends due) = OfAnyWord (answered due)
answer_of (dues.NotStore group) = NotStore group
answer_of (dues.Missing what) = Missing what
answer_of (dues.LogFull end wanted limit) = LogFull end wanted limit
answer_of (dues.StoreThere size) = StoreThere size
answer_of (dues.Damaged group stored computed) = Damaged group stored computed

-- ---- what stands before an end

-- Words on streams leave what they leave before an end over the store that is read, nothing where
-- the image stands for no store.
abbrev pub StreamsBefore : Bool → streams.Request → List ℕ → Sources → List ℕ → Type 0
StreamsBefore true request image read written =
    ByImage image (λ s. StandsBeforeOf request (base_over request read s) read written)
    (written ≡ [])
StreamsBefore false request image read written = StandsBeforeOf request [] read written

-- Receiving is on the way; where there is no store, nothing is written or changed.
abbrev pub ReceiveBefore : List ℕ → List Guard → NamedFiles → (written left : List ℕ) → Type 0
ReceiveBefore image guards files written left =
    ByImage image (λ s. IsOnTheWay image guards files s written left)
    ((written ≡ []) × (left ≡ image))

-- What a word that reads a store prints stands in part, and the image is as it was.
abbrev pub PrintsBefore : List ℕ → (Store ℕ → List ℕ) → (written left : List ℕ) → Type 0
PrintsBefore image whole written left =
    (left ≡ image) × ByImage image (λ s. IsFrontOf (whole s) written) (written ≡ [])

-- What stands where there was no memory. A drop that is not done has changed nothing, scrub writes
-- at its end, and making a store takes no memory.
abbrev pub StandsBefore : Request → List (List ℕ) → List ℕ → NamedFiles → (written left : List ℕ)
    → Type 0
StandsBefore (OfStreams request) words image files written left =
    (left ≡ image)
    × StreamsBefore (reads_store words (store_of request)) request image (read_of files) written
StandsBefore (InitStore store) words image files written left = ⊥
StandsBefore (DropEntry store name) words image files written left =
    (written ≡ []) × ByImage image (λ s. StandsFor left s) (left ≡ image)
StandsBefore (ReceiveFiles guards store at) words image files written left =
    ReceiveBefore image (new_guards guards) files written left
StandsBefore (ListStore store) words image files written left =
    PrintsBefore image listed written left
StandsBefore (ShowEntry store name) words image files written left =
    PrintsBefore image (show_output (word_at words name)) written left
StandsBefore (CatFile store name path) words image files written left =
    PrintsBefore image (cat_output (word_at words name) (word_at words path)) written left
StandsBefore (ScrubStore store) words image files written left = (left ≡ image) × (written ≡ [])

-- The words that read files, and those that may read bytes of them again.
abbrev pub ReadsFiles : Request → Type 0
ReadsFiles (OfStreams request) = ⊤
ReadsFiles (InitStore store) = ⊥
ReadsFiles (DropEntry store name) = ⊥
ReadsFiles (ReceiveFiles guards store at) = ⊤
ReadsFiles (ListStore store) = ⊥
ReadsFiles (ShowEntry store name) = ⊥
ReadsFiles (CatFile store name path) = ⊥
ReadsFiles (ScrubStore store) = ⊥

abbrev pub ReadsAgain : Request → Type 0
ReadsAgain (OfStreams request) = ⊤
ReadsAgain (InitStore store) = ⊥
ReadsAgain (DropEntry store name) = ⊥
ReadsAgain (ReceiveFiles guards store at) = ⊥
ReadsAgain (ListStore store) = ⊥
ReadsAgain (ShowEntry store name) = ⊥
ReadsAgain (CatFile store name path) = ⊥
ReadsAgain (ScrubStore store) = ⊥

-- ---- what stands where an input failed, or was changed

-- A word that opens a store does so before it reads a file, so there is one then.
abbrev pub StreamsInput : Bool → streams.Request → List ℕ → Sources → List ℕ → Type 0
StreamsInput true request image read written =
    ByImage image (λ s. StandsBeforeOf request (base_over request read s) read written) ⊥
StreamsInput false request image read written = StandsBeforeOf request [] read written

abbrev pub StandsInput : Request → List (List ℕ) → List ℕ → NamedFiles → (written left : List ℕ)
    → Type 0
StandsInput (OfStreams request) words image files written left =
    (left ≡ image)
    × StreamsInput (reads_store words (store_of request)) request image (read_of files) written
StandsInput (InitStore store) words image files written left = ⊥
StandsInput (DropEntry store name) words image files written left = ⊥
StandsInput (ReceiveFiles guards store at) words image files written left =
    ByImage image (λ s. IsOnTheWay image (new_guards guards) files s written left) ⊥
StandsInput (ListStore store) words image files written left = ⊥
StandsInput (ShowEntry store name) words image files written left = ⊥
StandsInput (CatFile store name path) words image files written left = ⊥
StandsInput (ScrubStore store) words image files written left = ⊥

-- ---- what stands where standard output failed

-- It does not fail where there is no store, since nothing is written then.
abbrev pub StreamsCut : Bool → streams.Request → List ℕ → Sources → List ℕ → Type 0
StreamsCut true request image read written =
    ByImage image (λ s. StandsCutOf request (base_over request read s) read written) ⊥
StreamsCut false request image read written = StandsCutOf request [] read written

abbrev pub PrintsCut : List ℕ → (Store ℕ → List ℕ) → (written left : List ℕ) → Type 0
PrintsCut image whole written left =
    (left ≡ image) × ByImage image (λ s. IsProperFrontOf (whole s) written) ⊥

-- Some of what was to be written is missing. Words that write nothing never see it fail.
abbrev pub StandsCut : Request → List (List ℕ) → List ℕ → NamedFiles → (written left : List ℕ)
    → Type 0
StandsCut (OfStreams request) words image files written left =
    (left ≡ image)
    × StreamsCut (reads_store words (store_of request)) request image (read_of files) written
StandsCut (InitStore store) words image files written left = ⊥
StandsCut (DropEntry store name) words image files written left = ⊥
StandsCut (ReceiveFiles guards store at) words image files written left =
    ByImage image
    (λ s. IsOnTheWay image (new_guards guards) files s written left
    × IsProperFrontOf (received_lines s (new_guards guards) files) written) ⊥
StandsCut (ListStore store) words image files written left = PrintsCut image listed written left
StandsCut (ShowEntry store name) words image files written left =
    PrintsCut image (show_output (word_at words name)) written left
StandsCut (CatFile store name path) words image files written left =
    PrintsCut image (cat_output (word_at words name) (word_at words path)) written left
StandsCut (ScrubStore store) words image files written left =
    (left ≡ image)
    × ((groups : ℕ) × (plain : ℕ) × IsScrubbed image groups plain
    × IsProperFrontOf (scrub_line groups plain) written)

-- ---- what stands where the store's device failed

-- Nothing is said of a store that was being made. One that is there is not touched.
abbrev pub InitFault : (image left : List ℕ) → Type 0
InitFault [] left = ⊤
InitFault (byte ∷ more) left = left ≡ byte ∷ more

-- The entry is still there, or it was to be dropped and is not.
abbrev pub DropFault : List ℕ → List ℕ → Store ℕ → List ℕ → Type 0
DropFault image name store left =
    StandsFor left store
    ⊎ (IsDropDue image name store (Ends DoneWhole) × DropLeaves (Ends DoneWhole) name store left)

-- Words that read no store touch no device.
abbrev pub StreamsFault : Bool → streams.Request → List ℕ → Sources → List ℕ → Type 0
StreamsFault true request image read written = StreamsBefore true request image read written
StreamsFault false request image read written = ⊥

-- The image is any that a crash may leave then.
abbrev pub StandsFault : Request → List (List ℕ) → List ℕ → NamedFiles → (written left : List ℕ)
    → Type 0
StandsFault (OfStreams request) words image files written left =
    (left ≡ image)
    × StreamsFault (reads_store words (store_of request)) request image (read_of files) written
StandsFault (InitStore store) words image files written left = (written ≡ []) × InitFault image left
StandsFault (DropEntry store name) words image files written left =
    (written ≡ []) × ByImage image (λ s. DropFault image (word_at words name) s left) (left ≡ image)
StandsFault (ReceiveFiles guards store at) words image files written left =
    ReceiveBefore image (new_guards guards) files written left
StandsFault (ListStore store) words image files written left =
    PrintsBefore image listed written left
StandsFault (ShowEntry store name) words image files written left =
    PrintsBefore image (show_output (word_at words name)) written left
StandsFault (CatFile store name path) words image files written left =
    PrintsBefore image (cat_output (word_at words name) (word_at words path)) written left
StandsFault (ScrubStore store) words image files written left = (left ≡ image) × (written ≡ [])

-- ---- what an answer says

-- This is due, and what stands is what it says.
abbrev pub DueSays : Request → AtEntry → Due → (written left : List ℕ) → Type 0
DueSays request met due written left =
    IsDue request met.words met.image met.files due × Says request met due written left

-- An answer that words, files and image decide is the one that is due. Else an object of the
-- outside failed or was changed, or there was no memory. A request that is asked for is never
-- answered as one that means nothing.
abbrev pub Answers : Request → AtEntry → Answer → (written left : List ℕ) → Type 0
Answers request met (OfAnyWord Done) written left =
    DueSays request met (Ends DoneWhole) written left
Answers request met (OfAnyWord (Refused verdict)) written left =
    DueSays request met (Ends (RefusedAt verdict)) written left
Answers request met (OfAnyWord (InputTooLong file)) written left =
    DueSays request met (Ends (TooLong file)) written left
Answers request met (OfAnyWord (TooMuch sum)) written left =
    DueSays request met (Ends (stream_dues.TooMuch sum)) written left
Answers request met (NotStore group) written left =
    DueSays request met (dues.NotStore group) written left
Answers request met (Missing what) written left =
    DueSays request met (dues.Missing what) written left
Answers request met (LogFull end wanted limit) written left =
    DueSays request met (dues.LogFull end wanted limit) written left
Answers request met (StoreThere size) written left =
    DueSays request met (dues.StoreThere size) written left
Answers request met (Damaged group stored computed) written left =
    DueSays request met (dues.Damaged group stored computed) written left
Answers request met (OfAnyWord InputFault) written left =
    ReadsFiles request × StandsInput request met.words met.image met.files written left
Answers request met (OfAnyWord (InputChanged file place)) written left =
    ReadsAgain request × StandsInput request met.words met.image met.files written left
Answers request met (OfAnyWord OutputFault) written left =
    StandsCut request met.words met.image met.files written left
Answers request met (OfAnyWord NoMemory) written left =
    StandsBefore request met.words met.image met.files written left
Answers request met StoreFault written left =
    StandsFault request met.words met.image met.files written left
Answers request met (OfAnyWord Usage) written left = ⊥

-- ---- laws

-- What is due is answered as it says.
abbrev pub DueIsAnswered : Type 0
DueIsAnswered =
    (request : Request) (words : List (List ℕ)) (image : List ℕ) (files : NamedFiles) (due : Due)
    (written left : List ℕ)
    → DueSays request (at_entry words image files) due written left
    → Answers request (at_entry words image files) (answer_of due) written left

-- Of the answers that are due, one is given, whatever was written. So one status and one note are
-- due.
abbrev pub OneIsAnswered : Type 0
OneIsAnswered =
    (request : Request) (words : List (List ℕ)) (image : List ℕ) (files : NamedFiles)
    (due other : Due) (written left more_written more_left : List ℕ)
    → IsBytes image → Answers request (at_entry words image files) (answer_of due) written left
    → Answers request (at_entry words image files) (answer_of other) more_written more_left
    → due ≡ other

-- Status 0 is that of one answer alone.
abbrev pub DoneAlone : Type 0
DoneAlone = (answer : Answer) → status_of answer ≡ 0 → answer ≡ OfAnyWord Done

-- Before anything was done nothing is written, and the image is as it was: each word but the one
-- that makes a store may have no memory then.
abbrev pub NothingStandsBefore : Type 0
NothingStandsBefore =
    (request : Request) (words : List (List ℕ)) (image : List ℕ) (files : NamedFiles)
    → ((store : ℕ) × (request ≡ InitStore store)) ⊎ StandsBefore request words image files [] image

-- And so the device of each word over a store may fail.
abbrev pub NothingStandsAtFault : Type 0
NothingStandsAtFault =
    (request : Request) (words : List (List ℕ)) (image : List ℕ) (files : NamedFiles)
    → ((of_streams : streams.Request) × (request ≡ OfStreams of_streams))
    ⊎ StandsFault request words image files [] image

-- No answer of a word that reads a store, or none, changes the image.
abbrev pub ReadsOnly : Request → Type 0
ReadsOnly (OfStreams request) = ⊤
ReadsOnly (InitStore store) = ⊥
ReadsOnly (DropEntry store name) = ⊥
ReadsOnly (ReceiveFiles guards store at) = ⊥
ReadsOnly (ListStore store) = ⊤
ReadsOnly (ShowEntry store name) = ⊤
ReadsOnly (CatFile store name path) = ⊤
ReadsOnly (ScrubStore store) = ⊤

abbrev pub ReadersKeepTheImage : Type 0
ReadersKeepTheImage =
    (request : Request) (words : List (List ℕ)) (image : List ℕ) (files : NamedFiles)
    (answer : Answer) (written left : List ℕ)
    → ReadsOnly request → Answers request (at_entry words image files) answer written left
    → left ≡ image

-- Receiving over a store gives an answer that is due, or it is on the way.
abbrev pub ReceiveIsOnTheWay : Type 0
ReceiveIsOnTheWay =
    (guards : List GuardSpec) (place at : ℕ) (words : List (List ℕ)) (image : List ℕ)
    (files : NamedFiles) (store : Store ℕ) (answer : Answer) (written left : List ℕ)
    → StandsFor image store
    → Answers (ReceiveFiles guards place at) (at_entry words image files) answer written left
    → ((due : Due) × (answer ≡ answer_of due))
    ⊎ IsOnTheWay image (new_guards guards) files store written left

-- And where standard output failed, some of the lines is missing.
abbrev pub ReceiveIsCut : Type 0
ReceiveIsCut =
    (guards : List GuardSpec) (place at : ℕ) (words : List (List ℕ)) (image : List ℕ)
    (files : NamedFiles) (store : Store ℕ) (written left : List ℕ)
    → StandsFor image store
    → Answers (ReceiveFiles guards place at) (at_entry words image files)
    (OfAnyWord OutputFault) written left
    → IsProperFrontOf (received_lines store (new_guards guards) files) written

-- A drop that lacks memory has left the store as it was, and so has one whose device failed, unless
-- it was due.
abbrev pub DropKeeps : Type 0
DropKeeps = (place name : ℕ) (words : List (List ℕ)) (image : List ℕ) (files : NamedFiles)
    (store : Store ℕ) (written left : List ℕ) → StandsFor image store
    → (Answers (DropEntry place name) (at_entry words image files) (OfAnyWord NoMemory) written left
    → StandsFor left store)
    × (Answers (DropEntry place name) (at_entry words image files) StoreFault written left
    → StandsFor left store
    ⊎ (IsDropDue image (word_at words name) store (Ends DoneWhole)
    × DropLeaves (Ends DoneWhole) (word_at words name) store left))

-- All that a word which prints of a store has to print.
abbrev pub IsPrinted : Request → List (List ℕ) → Store ℕ → List ℕ → Type 0
IsPrinted (OfStreams request) words s whole = ⊥
IsPrinted (InitStore store) words s whole = ⊥
IsPrinted (DropEntry store name) words s whole = ⊥
IsPrinted (ReceiveFiles guards store at) words s whole = ⊥
IsPrinted (ListStore store) words s whole = whole ≡ listed s
IsPrinted (ShowEntry store name) words s whole = whole ≡ show_output (word_at words name) s
IsPrinted (CatFile store name path) words s whole =
    whole ≡ cat_output (word_at words name) (word_at words path) s
IsPrinted (ScrubStore store) words s whole = ⊥

-- It has printed a front part of that without memory or where the device failed, and not all of it
-- where standard output failed.
abbrev pub PrintsInFront : Type 0
PrintsInFront =
    (request : Request) (words : List (List ℕ)) (image : List ℕ) (files : NamedFiles)
    (store : Store ℕ) (whole written left : List ℕ)
    → StandsFor image store → IsPrinted request words store whole
    → (Answers request (at_entry words image files) (OfAnyWord NoMemory) written left
    → IsFrontOf whole written)
    × (Answers request (at_entry words image files) StoreFault written left
    → IsFrontOf whole written)
    × (Answers request (at_entry words image files) (OfAnyWord OutputFault) written left
    → IsProperFrontOf whole written)
