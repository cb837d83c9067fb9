-- What all words ask for, and what is due to them: by the words, the image of the store that they
-- name, and the files. The words are this program's own.
use Rattle.std.specs.Prelude.{◌<◌, ◌+◌, ◌⊎◌, ◌≡◌, ℕ, Bool, true, false, not, List, [], ◌∷◌, ◌++◌, Option, None, Some, codes, slice_index_or, if◌then◌else◌}
use Rattle.send_model.specs.Store.{Store}
use Rattle.send_model.specs.Attribute.{IsBytes}
use Rattle.send_model.specs.Receive.{byte_cells}
use Rattle.store_model.specs.States.{IsBetween, complete_behind, received, IsStateOf}
use Rattle.send_model.specs.Due as dues
use Rattle.send_model.specs.Due.{audit_due_of}
use Rattle.send_model.specs.Guards.{Guard, GuardSpec}
use Rattle.send_model.specs.Outside.{base_of}
use Rattle.send_model.specs.Words as streams
use Rattle.send_model.specs.Words.{Compose, Audit, Dump, Export, Gen, Trial, is_word, guards_and_files, new_guards}
use Rattle.send_model.specs.Sources.{Sources, due_of, EndSaysOf}
use Rattle.store_model.specs.NamedFiles.{NamedFiles, read_of, AreGiven}
use Rattle.store_model.specs.Image.{reserve, header_of, usual_header}
use Rattle.store_model.specs.Stored.{StandsForNone, StandsFor, dropped}
use Rattle.store_model.specs.StoreLines.{listed}
use Rattle.store_model.specs.Dues.{receive_left, receive_due, Due, Ends, NotStore, Missing, LogFull, StoreThere, Damaged, OverStore, list_due, show_due, cat_due, show_output, cat_output, init_due, IsReceiveDue, IsDropDue, IsScrubDue, ReceiveSays}

-- A request: one on streams, or one over a store. A store, a name, a path and the first of some
-- files are given by their places in the words, counted from 0.
pub data Request : Type 0 where
  OfStreams : (request : streams.Request) → Request
  InitStore : (store : ℕ) → Request
  DropEntry : (store name : ℕ) → Request
  ReceiveFiles : (guards : List GuardSpec) (store files : ℕ) → Request
  ListStore : (store : ℕ) → Request
  ShowEntry : (store name : ℕ) → Request
  CatFile : (store name path : ℕ) → Request
  ScrubStore : (store : ℕ) → Request

-- A word, two or three, and no more.
abbrev pub of_one : Request → List (List ℕ) → Option Request
of_one request (store ∷ []) = Some request
of_one request (store ∷ more ∷ words) = None
of_one request [] = None

abbrev pub of_two : Request → List (List ℕ) → Option Request
of_two request (store ∷ words) = of_one request words
of_two request [] = None

abbrev pub of_three : Request → List (List ℕ) → Option Request
of_three request (store ∷ words) = of_two request words
of_three request [] = None

-- Receive takes the words that audit takes.
abbrev pub as_receive : Option streams.Request → Option Request
as_receive None = None
as_receive (Some (Audit guards store files)) = Some (ReceiveFiles guards store files)
as_receive (Some (Compose store files)) = None
as_receive (Some (Dump file)) = None
as_receive (Some (Export store files)) = None
as_receive (Some (Gen count seed)) = None
as_receive (Some (Trial count seed)) = None

-- `init STORE`, `drop STORE NAME`, `receive [GUARD..] STORE FILE..`, `list STORE`, `show STORE
-- NAME`, `cat STORE NAME PATH` and `scrub STORE`.
unfoldable pub over_store : List (List ℕ) → Option Request
over_store [] = None
over_store (word ∷ words) =
    if is_word (codes "init") word then of_one (InitStore 1) words
    else (if is_word (codes "drop") word then of_two (DropEntry 1 2) words
    else (if is_word (codes "receive") word then as_receive (guards_and_files 1 words)
    else (if is_word (codes "list") word then of_one (ListStore 1) words
    else (if is_word (codes "show") word then of_two (ShowEntry 1 2) words
    else (if is_word (codes "cat") word then of_three (CatFile 1 2 3) words
    else (if is_word (codes "scrub") word then of_one (ScrubStore 1) words else None))))))

-- And the words on streams; no other words mean anything.
abbrev pub or_over_store : Option streams.Request → Option Request → Option Request
or_over_store (Some request) other = Some (OfStreams request)
or_over_store None other = other

unfoldable pub request_of : List (List ℕ) → Option Request
request_of words = or_over_store (streams.request_of words) (over_store words)

abbrev pub word_at : List (List ℕ) → ℕ → List ℕ
word_at words place = slice_index_or words place []

-- ---- words on streams

-- The place of the word that names a store, in words that name one.
abbrev pub store_of : streams.Request → Option ℕ
store_of (Compose store files) = Some store
store_of (Audit guards store files) = Some store
store_of (Export store files) = Some store
store_of (Dump file) = None
store_of (Gen count seed) = None
store_of (Trial count seed) = None

-- A store's file is read, unless that word is `none`.
abbrev pub reads_store : List (List ℕ) → Option ℕ → Bool
reads_store words None = false
reads_store words (Some place) = not (is_word (codes "none") (word_at words place))

-- The base that they have over a store: to compose, the store without the parts of what was read.
abbrev pub base_over : streams.Request → Sources → Store ℕ → Store ℕ
base_over (Compose store at) read s = base_of s read.reading.items
base_over (Audit guards store at) read s = s
base_over (Export store at) read s = s
base_over (Dump at) read s = s
base_over (Gen count seed) read s = s
base_over (Trial count seed) read s = s

-- What is due to them, where a store is read, and where none is.
abbrev pub IsStreamsDue : Bool → streams.Request → List ℕ → Sources → Due → Type 0
IsStreamsDue true request image read due =
    OverStore image (λ s d. d ≡ Ends (due_of request (base_over request read s) read)) due
IsStreamsDue false request image read due = due ≡ Ends (due_of request [] read)

-- What is written then. There is no other answer than one that files decide, where there is a
-- store.
abbrev pub StreamsWrite : streams.Request → Store ℕ → Sources → Due → List ℕ → Type 0
StreamsWrite request base read (Ends due) written = EndSaysOf request base read due written
StreamsWrite request base read (NotStore group) written = ⊥
StreamsWrite request base read (Missing what) written = ⊥
StreamsWrite request base read (LogFull end wanted limit) written = ⊥
StreamsWrite request base read (StoreThere size) written = ⊥
StreamsWrite request base read (Damaged group stored computed) written = ⊥

-- ---- all words

-- What is due, over the image at entry.
abbrev pub IsDue : Request → List (List ℕ) → List ℕ → NamedFiles → Due → Type 0
IsDue (OfStreams request) words image files due =
    IsStreamsDue (reads_store words (store_of request)) request image (read_of files) due
IsDue (InitStore store) words image files due = due ≡ init_due image
IsDue (DropEntry store name) words image files due =
    OverStore image (IsDropDue image (word_at words name)) due
IsDue (ReceiveFiles guards store at) words image files due =
    OverStore image (IsReceiveDue image (new_guards guards) files) due
IsDue (ListStore store) words image files due = OverStore image (λ s d. d ≡ list_due s) due
IsDue (ShowEntry store name) words image files due =
    OverStore image (λ s d. d ≡ show_due (word_at words name) s) due
IsDue (CatFile store name path) words image files due =
    OverStore image (λ s d. d ≡ cat_due (word_at words name) (word_at words path) s) due
IsDue (ScrubStore store) words image files due = (written : List ℕ) × IsScrubDue image due written

-- What a word that reads writes where all was done, and nothing where something is missing or there
-- is no store.
abbrev pub Printed : Due → List ℕ → List ℕ → Type 0
Printed (Ends due) whole written = written ≡ whole
Printed (NotStore group) whole written = written ≡ []
Printed (Missing what) whole written = written ≡ []
Printed (LogFull end wanted limit) whole written = written ≡ []
Printed (StoreThere size) whole written = written ≡ []
Printed (Damaged group stored computed) whole written = written ≡ []

-- The image is that of a new store, or as it was.
abbrev pub InitLeaves : Due → List ℕ → List ℕ → Type 0
InitLeaves (Ends due) image left = left ≡ header_of usual_header ++ 0 ∷ []
InitLeaves (NotStore group) image left = left ≡ image
InitLeaves (Missing what) image left = left ≡ image
InitLeaves (LogFull end wanted limit) image left = left ≡ image
InitLeaves (StoreThere size) image left = left ≡ image
InitLeaves (Damaged group stored computed) image left = left ≡ image

-- The image stands for the store without the entry, or for the store as it was.
abbrev pub DropLeaves : Due → List ℕ → Store ℕ → List ℕ → Type 0
DropLeaves (Ends due) name store left =
    (next : Store ℕ) × (dropped store name ≡ Some next) × StandsFor left next
DropLeaves (NotStore group) name store left = ⊥
DropLeaves (Missing what) name store left = StandsFor left store
DropLeaves (LogFull end wanted limit) name store left = StandsFor left store
DropLeaves (StoreThere size) name store left = ⊥
DropLeaves (Damaged group stored computed) name store left = ⊥

-- What holds where an image stands for a store, and what holds where it stands for none.
abbrev pub ByImage : List ℕ → (Store ℕ → Type 0) → Type 0 → Type 0
ByImage image P none =
    ((store : Store ℕ) → StandsFor image store → P store)
    × ((group : ℕ) → StandsForNone image group → none)

-- Words on streams write what they say, and nothing where the image that is read stands for no
-- store.
abbrev pub StreamsSay : Bool → streams.Request → List ℕ → Sources → Due → List ℕ → Type 0
StreamsSay true request image read due written =
    ByImage image (λ s. StreamsWrite request (base_over request read s) read due written)
    (written ≡ [])
StreamsSay false request image read due written = StreamsWrite request [] read due written

-- What a request meets when it begins: its words, the image of the store, and the files that it
-- names.
pub record AtEntry : Type 0 where
  pub words : List (List ℕ)
  pub image : List ℕ
  pub files : NamedFiles

abbrev pub at_entry : (words : List (List ℕ)) (image : List ℕ) (files : NamedFiles) → AtEntry
at_entry words image files = record { words = words; image = image; files = files }

-- What was written, and what the image is or stands for afterwards. Where it stands for no store,
-- nothing is written or changed.
abbrev pub Says : Request → AtEntry → Due → (written left : List ℕ) → Type 0
Says (OfStreams request) met due written left =
    (left ≡ met.image)
    × StreamsSay (reads_store met.words (store_of request)) request met.image
    (read_of met.files) due written
Says (InitStore store) met due written left = (written ≡ []) × InitLeaves due met.image left
Says (DropEntry store name) met due written left =
    (written ≡ [])
    × ByImage met.image (λ s. DropLeaves due (word_at met.words name) s left) (left ≡ met.image)
Says (ReceiveFiles guards store at) met due written left =
    ByImage met.image (λ s. ReceiveSays met.image (new_guards guards) met.files s written left)
    ((written ≡ []) × (left ≡ met.image))
Says (ListStore store) met due written left =
    (left ≡ met.image) × ByImage met.image (λ s. Printed due (listed s) written) (written ≡ [])
Says (ShowEntry store name) met due written left =
    (left ≡ met.image)
    × ByImage met.image (λ s. Printed due (show_output (word_at met.words name) s) written)
    (written ≡ [])
Says (CatFile store name path) met due written left =
    (left ≡ met.image)
    × ByImage met.image
    (λ s. Printed due (cat_output (word_at met.words name) (word_at met.words path) s) written)
    (written ≡ [])
Says (ScrubStore store) met due written left = (left ≡ met.image) × IsScrubDue met.image due written

-- ---- laws

-- One answer is due.
abbrev pub OneDue : Type 0
OneDue = (request : Request) (words : List (List ℕ)) (image : List ℕ) (files : NamedFiles)
    (due other : Due) → IsBytes image
    → IsDue request words image files due → IsDue request words image files other → due ≡ other

-- What is due to receiving is what is due to an audit over the same store, unless there is no room.
abbrev pub ReceiveIsAudit : Type 0
ReceiveIsAudit = (limit gate : ℕ) (store : Store ℕ) (guards : List Guard) (files : NamedFiles)
    → (receive_due limit gate store guards files
    ≡ Ends (audit_due_of store guards (read_of files).limited))
    ⊎ ((end : ℕ) × (wanted : ℕ)
    × (receive_due limit gate store guards files ≡ LogFull end wanted limit)
    × (limit < end + wanted + reserve))

-- The store that is left is one that receiving passes through, with all parts complete that are
-- complete in it.
abbrev pub LeftIsPassed : Type 0
LeftIsPassed = (limit gate : ℕ) (store : Store ℕ) (guards : List Guard) (files : NamedFiles)
    → let left = receive_left limit gate store guards files in
    IsBetween (complete_behind store left) store
    (received 0 byte_cells store guards (read_of files).limited.items).state.state.store left

-- So it is of files of bytes, with names that an attribute has room for.
abbrev pub LeftIsState : Type 0
LeftIsState =
    (limit gate : ℕ) (store : Store ℕ) (guards : List Guard) (files : NamedFiles) → AreGiven files
    → let left = receive_left limit gate store guards files in
    IsStateOf (complete_behind store left) store guards files left

-- Where there was room, it is what receiving leaves.
abbrev pub LeftIsReceived : Type 0
LeftIsReceived =
    (limit gate : ℕ) (store : Store ℕ) (guards : List Guard) (files : NamedFiles) (due : dues.Due)
    → receive_due limit gate store guards files ≡ Ends due
    → receive_left limit gate store guards files
    ≡ (received 0 byte_cells store guards (read_of files).limited.items).state.state.store
