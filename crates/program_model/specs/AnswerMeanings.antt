-- What an answer to a request means to whoever reads it: each request that names a snapshot did its
-- part with that one, a store that is only read stays as it is, and a stream that is sent makes the
-- snapshot anew. This program's own.
use Rattle.std.specs.Prelude.{◌≡◌, ◌⊎◌, ℕ, List, [], ◌∷◌, Option, Some}
use Rattle.std.specs.List.{AllByRecursion}
use Rattle.send_model.specs.Attribute.{IsBytes}
use Rattle.send_model.specs.Subvolume.{Subvolume}
use Rattle.send_model.specs.Store.{Entry, Store}
use Rattle.send_model.specs.Reading.{Verdict}
use Rattle.text_model.specs.Texts.{canonical_in}
use Rattle.store_model.specs.Stored.{StandsFor}
use Rattle.store_model.specs.Dues.{complete_named}
use Rattle.store_model.specs.Meanings.{IsShown, IsFileOf, IsWithout}
use Rattle.store_model.specs.TurnAnswers.{taken_turns, taken_lines}
use Rattle.snapshot_model.specs.Sent.{sent_stream}
use Rattle.snapshot_model.specs.Restored.{restored_stream}
use Rattle.snapshot_model.specs.HeldStores.{StandsHeld, Form}
use Rattle.snapshot_model.specs.Promises.{IsReceivedAnew}
use Rattle.archive_model.specs.Archive.{archive}
use Rattle.stream_model.specs.StreamDues.{IsStreamOf, IsStreamedBack}
use Rattle.program_model.specs.TurnWords.{TurnFiles}
use Rattle.program_model.specs.Requests.{Request, Text, Pack, Drop, Show, Cat, Send, Restore, Stream, Tar, Interleave}
use Rattle.program_model.specs.Profiles.{profile, OnlyReads}
use Rattle.program_model.specs.Answers.{Answer, Done, Refused, IsMissing, InputFault, Says, meaning_of, turns_of}

-- ---- stores that are only read

-- No answer to a request that changes no store changes the image.
abbrev pub ReadersKeepTheImage : Type 0
ReadersKeepTheImage =
    (request : Request) (image : List ℕ) (bytes : List (List ℕ)) (answer : Answer)
    (written left : List ℕ) → OnlyReads (profile request).store
    → Says (meaning_of request image bytes) answer written left → left ≡ image

-- ---- requests with a name

-- With status 0 `show`, `cat` and `drop` did their part with the snapshot of that name.
abbrev pub ShowIsOfNamed : Type 0
ShowIsOfNamed =
    (file name : List ℕ) (image : List ℕ) (bytes : List (List ℕ)) (store : Store ℕ)
    (written left : List ℕ) → StandsFor image store
    → Says (meaning_of (Show file name) image bytes) Done written left
    → IsShown name store written × (left ≡ image)

abbrev pub CatIsOfNamed : Type 0
CatIsOfNamed =
    (file name path : List ℕ) (image : List ℕ) (bytes : List (List ℕ)) (store : Store ℕ)
    (written left : List ℕ) → StandsFor image store
    → Says (meaning_of (Cat file name path) image bytes) Done written left
    → IsFileOf name path store written × (left ≡ image)

abbrev pub DropIsOfNamed : Type 0
DropIsOfNamed =
    (file name : List ℕ) (image : List ℕ) (bytes : List (List ℕ)) (store : Store ℕ)
    (written left : List ℕ) → StandsFor image store
    → Says (meaning_of (Drop file name) image bytes) Done written left
    → ((next : Store ℕ) × IsWithout name store next × StandsFor left next) × (written ≡ [])

-- What is missing is this name, or this path.
abbrev pub MissingIsNamed : Type 0
MissingIsNamed =
    (file name path : List ℕ) (image : List ℕ) (bytes : List (List ℕ)) (store : Store ℕ)
    (what written left : List ℕ) → StandsFor image store
    → (Says (meaning_of (Show file name) image bytes) (IsMissing what) written left → what ≡ name)
    × (Says (meaning_of (Drop file name) image bytes) (IsMissing what) written left → what ≡ name)
    × (Says (meaning_of (Cat file name path) image bytes) (IsMissing what) written left
    → (what ≡ name) ⊎ (what ≡ path))

-- With status 0 `send` wrote what is sent of the complete snapshot of that name, and `restore` what
-- is restored.
abbrev pub IsFormed : Form → (name : List ℕ) → Store (Option ℕ) → (written : List ℕ) → Type 0
IsFormed form name store written =
    (found : Entry (Subvolume (Option ℕ)) × Subvolume (Option ℕ))
    × (complete_named name store ≡ Some found) × (written ≡ form found.0.name found.0.key found.1)

abbrev pub SendIsOfNamed : Type 0
SendIsOfNamed =
    (file name : List ℕ) (image : List ℕ) (bytes : List (List ℕ)) (store : Store (Option ℕ))
    (written left : List ℕ) → StandsHeld image store
    → Says (meaning_of (Send file name) image bytes) Done written left
    → IsFormed sent_stream name store written × (left ≡ image)

abbrev pub RestoreIsOfNamed : Type 0
RestoreIsOfNamed =
    (file name : List ℕ) (image : List ℕ) (bytes : List (List ℕ)) (store : Store (Option ℕ))
    (written left : List ℕ) → StandsHeld image store
    → Says (meaning_of (Restore file name) image bytes) Done written left
    → IsFormed restored_stream name store written × (left ≡ image)

-- Each is one stream that makes the snapshot anew.
abbrev pub SentIsReceivedAnew : Type 0
SentIsReceivedAnew =
    (file name : List ℕ) (image : List ℕ) (bytes : List (List ℕ)) (written left : List ℕ)
    → Says (meaning_of (Send file name) image bytes) Done written left
    → IsReceivedAnew image name written

abbrev pub RestoredIsReceivedAnew : Type 0
RestoredIsReceivedAnew =
    (file name : List ℕ) (image : List ℕ) (bytes : List (List ℕ)) (written left : List ℕ)
    → Says (meaning_of (Restore file name) image bytes) Done written left
    → IsReceivedAnew image name written

-- With status 0 `stream` wrote the own stream of the complete snapshot of that name, and each store
-- that finds what was there when it was received takes it again; what is missing is this name.
abbrev pub StreamIsOfNamed : Type 0
StreamIsOfNamed =
    (file name : List ℕ) (image : List ℕ) (bytes : List (List ℕ)) (written left : List ℕ)
    → Says (meaning_of (Stream file name) image bytes) Done written left
    → IsStreamOf image name written × (IsStreamedBack image name written × (left ≡ image))

abbrev pub NoStreamIsNamed : Type 0
NoStreamIsNamed =
    (file name : List ℕ) (image : List ℕ) (bytes : List (List ℕ)) (what written left : List ℕ)
    → Says (meaning_of (Stream file name) image bytes) (IsMissing what) written left
    → (what ≡ name) × (written ≡ [])

-- The complete snapshot of that name, as the image has it, is written as an archive.
abbrev pub IsArchivedOf : (image name written : List ℕ) → Type 0
IsArchivedOf image name written =
    (store : Store (Option ℕ)) × StandsHeld image store
    × ((found : Entry (Subvolume (Option ℕ)) × Subvolume (Option ℕ))
    × (complete_named name store ≡ Some found) × (written ≡ archive found.1))

-- With status 0 `tar` wrote the archive of the complete snapshot of that name; what is missing is
-- this name.
abbrev pub TarIsOfNamed : Type 0
TarIsOfNamed =
    (file name : List ℕ) (image : List ℕ) (bytes : List (List ℕ)) (written left : List ℕ)
    → Says (meaning_of (Tar file name) image bytes) Done written left
    → IsArchivedOf image name written × (left ≡ image)

abbrev pub NoTarIsNamed : Type 0
NoTarIsNamed =
    (file name : List ℕ) (image : List ℕ) (bytes : List (List ℕ)) (what written left : List ℕ)
    → Says (meaning_of (Tar file name) image bytes) (IsMissing what) written left
    → (what ≡ name) × (written ≡ [])

-- They read no files.
abbrev pub NoFilesAreSent : Type 0
NoFilesAreSent =
    (file name : List ℕ) (image : List ℕ) (bytes : List (List ℕ)) (written left : List ℕ)
    → (Says (meaning_of (Send file name) image bytes) InputFault written left → ⊥)
    × (Says (meaning_of (Restore file name) image bytes) InputFault written left → ⊥)
    × (Says (meaning_of (Stream file name) image bytes) InputFault written left → ⊥)
    × (Says (meaning_of (Tar file name) image bytes) InputFault written left → ⊥)

-- ---- texts of streams

-- With status 0 `pack` made the streams of a text, and `text` of these is that text.
abbrev pub PackedIsText : Type 0
PackedIsText =
    (file other : List ℕ) (image left other_image other_left : List ℕ)
    (text packed printed : List ℕ)
    → Says (meaning_of (Pack file) image (text ∷ [])) Done packed left
    → Says (meaning_of (Text other) other_image (packed ∷ [])) Done printed other_left
    → printed ≡ text

-- With status 0 `text` printed a file that is read whole. `pack` of this is the file's canonical
-- bytes, and refuses no line of it.
abbrev pub TextIsPacked : Type 0
TextIsPacked =
    (file other : List ℕ) (image left other_image other_left : List ℕ)
    (bytes text packed : List ℕ) → IsBytes bytes
    → Says (meaning_of (Text file) image (bytes ∷ [])) Done text left
    → Says (meaning_of (Pack other) other_image (text ∷ [])) Done packed other_left
    → packed ≡ canonical_in bytes

abbrev pub TextIsTaken : Type 0
TextIsTaken =
    (file other : List ℕ) (image left other_image other_left : List ℕ)
    (bytes text packed : List ℕ) (verdict : Verdict) → IsBytes bytes
    → Says (meaning_of (Text file) image (bytes ∷ [])) Done text left
    → Says (meaning_of (Pack other) other_image (text ∷ [])) (Refused verdict) packed other_left
    → ⊥

-- ---- files that take turns

-- With status 0 all lines of all turns were written, under the guards of the words, and the image
-- stands for the store that the turns leave.
abbrev pub TurnsAreDone : Type 0
TurnsAreDone =
    (file : List ℕ) (schedule : List ℕ) (turns : TurnFiles) (image : List ℕ)
    (bytes : List (List ℕ)) (store : Store ℕ) (written left : List ℕ)
    → AllByRecursion IsBytes bytes → StandsFor image store
    → Says (meaning_of (Interleave file schedule turns) image bytes) Done written left
    → (written ≡ taken_lines (turns_of schedule turns bytes) store)
    × StandsFor left (taken_turns (turns_of schedule turns bytes) store).store
