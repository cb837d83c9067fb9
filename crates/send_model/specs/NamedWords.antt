-- The words that give names alone with files: `name:NEW` in front of a file, and NEW is the name of
-- the part or parts in it. What is due to such words, and what they write. `FileWords` of
-- `program_model` has all words that stand in front of a file. This program's own.
use Rattle.std.specs.Prelude.{◌≡◌, ◌<◌, ℕ, ◌+◌, ◌^◌, Bool, false, List, [], ◌∷◌, map, take, drop, length, Option, None, Some, codes, nat_lt, if◌then◌else◌}
use Rattle.std.specs.List.{AllByRecursion}
use Rattle.std.specs.Str.{bytes_eq}
use Rattle.send_model.specs.Attribute.{IsBytes}
use Rattle.send_model.specs.Store.{Store}
use Rattle.send_model.specs.Guards.{GuardSpec, guard_of, is_guard_word}
use Rattle.send_model.specs.Due.{Due}
use Rattle.send_model.specs.Words.{Request, Compose, Audit, Export, is_word, request_of, due, whole_of}
use Rattle.send_model.specs.Overridden.{Overrides, AreLawfulOverrides}
use Rattle.send_model.specs.Sources.{Sources, sources, overridden_sources, due_of, whole_from}

-- A file, by its place in the words, counted from 0, and the name that is given with it.
pub record GivenFile : Type 0 where
  pub at : ℕ
  pub name : Option (List ℕ)

-- A request. A store and files are given by their places in the words.
pub data NamedRequest : Type 0 where
  ComposeAs : (store : ℕ) (files : List GivenFile) → NamedRequest
  AuditAs : (guards : List GuardSpec) (store : ℕ) (files : List GivenFile) → NamedRequest
  ExportAs : (store : ℕ) (files : List GivenFile) → NamedRequest
  ReceiveAs : (guards : List GuardSpec) (store : ℕ) (files : List GivenFile) → NamedRequest
  Plain : Request → NamedRequest

-- ---- words

-- Words that give a name begin with this, whether or not they give one.
abbrev pub is_name_word : List ℕ → Bool
is_name_word word = bytes_eq (take 5 word) (codes "name:")

-- The name that such a word gives, unless an attribute has no room for it.
abbrev pub new_name : List ℕ → Option (List ℕ)
new_name word = if nat_lt (length (drop 5 word)) (2 ^ 16) then Some (drop 5 word) else None

abbrev pub onto_files : GivenFile → Option (List GivenFile) → Option (List GivenFile)
onto_files file None = None
onto_files file (Some files) = Some (file ∷ files)

-- Files, each with at most one name in front of it, from a place on; the name that stands in front
-- already is given first. A name in front of no file, or in front of another name, means nothing.
unfoldable pub files_from : Option (List ℕ) → ℕ → List (List ℕ) → Option (List GivenFile)
files_from None at [] = Some []
files_from (Some name) at [] = None
files_from None at (word ∷ words) =
    if is_name_word word then
    (elim (new_name word) [ None ↦ None | Some name ↦ files_from (Some name) (at + 1) words ])
    else onto_files (record { at = at; name = None }) (files_from None (at + 1) words)
files_from (Some name) at (word ∷ words) =
    if is_name_word word then None else onto_files (record { at = at; name = Some name })
    (files_from None (at + 1) words)

-- A store, and behind it at least one file.
abbrev pub with_files : (List GivenFile → NamedRequest) → Option (List GivenFile)
    → Option NamedRequest
with_files request None = None
with_files request (Some []) = None
with_files request (Some (file ∷ files)) = Some (request (file ∷ files))

abbrev pub store_and_given : (ℕ → List GivenFile → NamedRequest) → ℕ → List (List ℕ)
    → Option NamedRequest
store_and_given request at [] = None
store_and_given request at (store ∷ words) =
    with_files (request at) (files_from None (at + 1) words)

-- Guard words, and behind them a store and files: the first word that does not begin as a guard's
-- is the store.
unfoldable pub guards_and_given : (List GuardSpec → ℕ → List GivenFile → NamedRequest) → ℕ
    → List (List ℕ) → Option NamedRequest
guards_and_given request at [] = None
guards_and_given request at (word ∷ words) =
    if is_guard_word word
    then (elim (guard_of word) [
      | None ↦ None
      | Some guard ↦
          guards_and_given (λ guards. request (guard ∷ guards)) (at + 1) words
    ])
    else store_and_given (request []) at (word ∷ words)

-- `compose STORE [name:NEW] FILE ..`, `export STORE [name:NEW] FILE ..`, `audit [GUARD..] STORE
-- [name:NEW] FILE ..` and `receive [GUARD..] STORE [name:NEW] FILE ..`; other words mean what they
-- mean without names.
unfoldable pub named_request_of : List (List ℕ) → Option NamedRequest
named_request_of [] = None
named_request_of (word ∷ words) =
    if is_word (codes "compose") word then store_and_given ComposeAs 1 words
    else (if is_word (codes "audit") word then guards_and_given AuditAs 1 words
    else (if is_word (codes "receive") word then guards_and_given ReceiveAs 1 words
    else (if is_word (codes "export") word then store_and_given ExportAs 1 words
    else (elim (request_of (word ∷ words)) [ None ↦ None | Some request ↦ Some (Plain request) ]))))

-- ---- answers

abbrev pub names_of : List GivenFile → Overrides
names_of files = map (λ file. record { name = file.name; parents = [] }) files

-- What is read of the files, with the names that are given.
abbrev pub sources_as : List GivenFile → List (List ℕ) → Sources
sources_as given files = overridden_sources (names_of given) (sources files)

-- The answer that is due over a base, for the bytes of the files. To receive it is what is due to
-- an audit, unless the store is full.
unfoldable pub named_due : NamedRequest → Store ℕ → List (List ℕ) → Due
named_due (ComposeAs store given) base files =
    due_of (Compose store 0) base (sources_as given files)
named_due (AuditAs guards store given) base files =
    due_of (Audit guards store 0) base (sources_as given files)
named_due (ExportAs store given) base files = due_of (Export store 0) base (sources_as given files)
named_due (ReceiveAs guards store given) base files =
    due_of (Audit guards store 0) base (sources_as given files)
named_due (Plain request) base files = due request base files

-- All that a request may write to standard output. The lines of receive stand with the store.
unfoldable pub named_whole : NamedRequest → Store ℕ → List (List ℕ) → List ℕ
named_whole (ComposeAs store given) base files =
    whole_from (Compose store 0) base (sources_as given files)
named_whole (AuditAs guards store given) base files =
    whole_from (Audit guards store 0) base (sources_as given files)
named_whole (ExportAs store given) base files =
    whole_from (Export store 0) base (sources_as given files)
named_whole (ReceiveAs guards store given) base files = []
named_whole (Plain request) base files = whole_of request base files

-- ---- laws

-- Words without names are files, in their order.
abbrev pub places_from : ℕ → List (List ℕ) → List GivenFile
places_from at [] = []
places_from at (word ∷ words) = record { at = at; name = None } ∷ places_from (at + 1) words

abbrev pub PlainFilesAreGiven : Type 0
PlainFilesAreGiven =
    (at : ℕ) (words : List (List ℕ)) → AllByRecursion (λ word. is_name_word word ≡ false) words
    → files_from None at words ≡ Some (places_from at words)

-- Each name that is given is one that an attribute has room for, where the words are bytes.
abbrev pub GivenNamesFit : Type 0
GivenNamesFit =
    (at : ℕ) (words : List (List ℕ)) (given : List GivenFile) → AllByRecursion IsBytes words
    → files_from None at words ≡ Some given
    → AreLawfulOverrides (names_of given)

-- And each that an attribute has room for can be given.
abbrev pub ShortNamesAreGiven : Type 0
ShortNamesAreGiven =
    (word : List ℕ) → length (drop 5 word) < 2 ^ 16 → new_name word ≡ Some (drop 5 word)
