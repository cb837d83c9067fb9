-- The words of files, and what they say in front of each: `name:NEW`, and what NEW means is then
-- the name of the part or parts in the file; and `parent:UUID:CTRANSID`, and this CTRANSID is meant
-- where the file names this UUID as a parent or as the source of a clone. This program's own.
use Rattle.std.specs.Prelude.{◌≡◌, ◌≢◌, ℕ, Bool, true, false, ◌||◌, List, [], ◌∷◌, ◌++◌, length, take, drop, map, Option, None, Some, is_some, nat_lt, ◌^◌, codes, ◌<◌, if◌then◌else◌}
use Rattle.std.specs.List.{AllByRecursion}
use Rattle.std.specs.Str.{bytes_eq}
use Rattle.std.specs.Fmt.{decimal}
use Rattle.uuid.specs.Text.{parsed, hyphenated_text, lower}
use Rattle.send_model.specs.Attribute.{IsBytes}
use Rattle.send_model.specs.Store.{Key}
use Rattle.send_model.specs.Outside.{is_among}
use Rattle.send_model.specs.Guards.{number_word}
use Rattle.send_model.specs.NamedWords.{is_name_word}
use Rattle.send_model.specs.Overridden.{Override, no_override, says_nothing, Overrides, uuids_of, AreLawfulOverrides}
use Rattle.send_model.specs.Words as streams
use Rattle.send_model.specs.Words.{Compose, Audit, Dump, Export, Gen, Trial}
use Rattle.store_model.specs.Requests as stored
use Rattle.store_model.specs.Requests.{OfStreams, InitStore, DropEntry, ReceiveFiles, ListStore, ShowEntry, CatFile, ScrubStore}
use Rattle.program_model.specs.EscapedWords.{meant_by}

-- ---- what one word says

-- The name that a word gives: what is meant behind `name:`, unless that is nothing or an attribute
-- has no room for it.
abbrev pub if_short : List ℕ → Option (List ℕ)
if_short name = if nat_lt (length name) (2 ^ 16) then Some name else None

abbrev pub given_name : List ℕ → Option (List ℕ)
given_name word = elim (meant_by (drop 5 word)) [ None ↦ None | Some name ↦ if_short name ]

-- Words that say a parent begin with this, whether or not they say one.
abbrev pub is_parent_word : List ℕ → Bool
is_parent_word word = bytes_eq (take 7 word) (codes "parent:")

-- The word that says a parent: the UUID as `list` prints it, a colon, and the CTRANSID in decimal.
abbrev pub parent_word : Key → List ℕ
parent_word key =
    codes "parent:" ++ (hyphenated_text lower key.uuid ++ (codes ":" ++ decimal key.ctransid))

-- The parent that a word says, which has to be spelled in just this way.
abbrev pub if_spelled : List ℕ → Key → Option Key
if_spelled word key = if bytes_eq word (parent_word key) then Some key else None

abbrev pub with_number : List ℕ → List ℕ → Option ℕ → Option Key
with_number word uuid None = None
with_number word uuid (Some ctransid) =
    if_spelled word (record { uuid = uuid; ctransid = ctransid })

abbrev pub given_parent : List ℕ → Option Key
given_parent word =
    elim (parsed (take 36 (drop 7 word))) [
      | None ↦ None
      | Some uuid ↦
          with_number word uuid (number_word (drop 44 word))
    ]

-- ---- what words say in front of a file

-- Words that stand in front of a file, whether or not they say anything.
abbrev pub stands_in_front : List ℕ → Bool
stands_in_front word = is_name_word word || is_parent_word word

-- What is said with a name, or with a parent, beside what was said: one name at most, and no UUID
-- twice.
abbrev pub name_too : Override → Option (List ℕ) → Option Override
name_too said None = None
name_too said (Some name) =
    if is_some said.name then None else Some (record said { name = Some name })

abbrev pub parent_too : Override → Option Key → Option Override
parent_too said None = None
parent_too said (Some key) =
    if is_among (uuids_of said.parents) key.uuid then None else Some
    (record said { parents = said.parents ++ key ∷ [] })

abbrev pub said_too : Override → List ℕ → Option Override
said_too said word =
    if is_name_word word then name_too said (given_name word) else parent_too said
    (given_parent word)

-- ---- files

-- The names of files, and beside each what is said in front of it.
pub record GivenFiles : Type 0 where
  pub files : List (List ℕ)
  pub overrides : Overrides

-- No files; and one in front of others.
abbrev pub no_files : GivenFiles
no_files = record { files = []; overrides = [] }

abbrev pub with_file : List ℕ → Override → Option GivenFiles → Option GivenFiles
with_file file said None = None
with_file file said (Some given) =
    Some (record { files = file ∷ given.files; overrides = said ∷ given.overrides })

-- Words that are files, with what is said in front of each, in any order; what is said in front of
-- the first already is given. What stands in front of no file means nothing; nor does a second
-- name, a UUID a second time, a name of 65,536 bytes or more or that is no escaped form, or a
-- parent in another spelling.
unfoldable pub given_from : Override → List (List ℕ) → Option GivenFiles
given_from said [] = if says_nothing said then Some no_files else None
given_from said (word ∷ words) = if stands_in_front word
    then (elim (said_too said word) [ None ↦ None | Some more ↦ given_from more words ])
    else with_file word said (given_from no_override words)

abbrev pub given_in : List (List ℕ) → Option GivenFiles
given_in words = given_from no_override words

-- The files among words, and what is said in front of them.
abbrev pub files_of : Option GivenFiles → List (List ℕ)
files_of None = []
files_of (Some given) = given.files

abbrev pub overrides_of : Option GivenFiles → Overrides
overrides_of None = []
overrides_of (Some given) = given.overrides

abbrev pub files_in : List (List ℕ) → List (List ℕ)
files_in words = files_of (given_in words)

abbrev pub overrides_in : List (List ℕ) → Overrides
overrides_in words = overrides_of (given_in words)

-- ---- the words in front of which that may stand

-- The place of the first word that may stand in front of a file, in words in which one may.
abbrev pub streams_named_at : streams.Request → Option ℕ
streams_named_at (Compose store files) = Some files
streams_named_at (Audit guards store files) = Some files
streams_named_at (Dump file) = None
streams_named_at (Export store files) = Some files
streams_named_at (Gen count seed) = None
streams_named_at (Trial count seed) = None

abbrev pub named_at : stored.Request → Option ℕ
named_at (OfStreams request) = streams_named_at request
named_at (InitStore store) = None
named_at (DropEntry store name) = None
named_at (ReceiveFiles guards store files) = Some files
named_at (ListStore store) = None
named_at (ShowEntry store name) = None
named_at (CatFile store name path) = None
named_at (ScrubStore store) = None

-- Whether the words from there on are files with what is said in front of them.
abbrev pub names_stand : Option ℕ → List (List ℕ) → Bool
names_stand None words = true
names_stand (Some place) words = is_some (given_in (drop place words))

-- ---- laws

-- Words of which none stands in front of a file are files, in their order, and nothing is said.
abbrev pub PlainWordsAreFiles : Type 0
PlainWordsAreFiles =
    (words : List (List ℕ)) → AllByRecursion (λ word. stands_in_front word ≡ false) words
    → given_in words ≡ Some (record { files = words; overrides = map (λ word. no_override) words })

-- Words that stand give a file, if there are any.
abbrev pub WordsGiveFiles : Type 0
WordsGiveFiles =
    (words : List (List ℕ)) (given : GivenFiles) → words ≢ [] → given_in words ≡ Some given
    → given.files ≢ []

-- As much is said as there are files, or nothing for one; and what words of bytes say can be said
-- in commands.
abbrev pub GivenAreAsMany : Type 0
GivenAreAsMany = (words : List (List ℕ)) → length (overrides_in words) ≡ length (files_in words)

abbrev pub GivenAreLawful : Type 0
GivenAreLawful =
    (words : List (List ℕ)) → AllByRecursion IsBytes words → AreLawfulOverrides (overrides_in words)

-- Each parent can be said, and in one way.
abbrev pub ParentsAreRead : Type 0
ParentsAreRead =
    (key : Key) → length key.uuid ≡ 16 → IsBytes key.uuid → key.ctransid < 2 ^ 64
    → given_parent (parent_word key) ≡ Some key

abbrev pub ReadIsSpelled : Type 0
ReadIsSpelled = (word : List ℕ) (key : Key) → given_parent word ≡ Some key → word ≡ parent_word key
