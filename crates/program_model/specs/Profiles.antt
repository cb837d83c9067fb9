-- What a request does outside, as one table: which files it reads and how often, what it does to a
-- store, whether it prints, and the exit statuses that it may have. This program's own.
use Rattle.std.specs.Prelude.{⊤, ℕ, Bool, true, false, List, [], ◌∷◌, ◌++◌, Option, None, Some}
use Rattle.send_model.specs.Guards.{GuardSpec}
use Rattle.program_model.specs.FileWords.{GivenFiles, no_files}
use Rattle.program_model.specs.Requests.{Base, Nothing, InStore, Request, Compose, Audit, Dump, Text, Pack, Export, Squash, Gen, Trial, Init, Drop, Receive, ListAll, Show, Cat, Scrub, Send, Restore, Stream, Tar, Interleave}

-- How files are read: not at all; once, in their order, so that a pipe serves; twice, and parts of
-- them again; or once each, in turns.
pub data How : Type 0 where
  NoFiles : How
  Once : How
  Twice : How
  InTurns : How

-- What is done to the store of a file: it is made, changed, or only read.
pub data Access : Type 0 where
  Makes : Access
  Changes : Access
  Reads : Access

pub record StoreAccess : Type 0 where
  pub file : List ℕ
  pub access : Access

-- A store is used only to be read, if one is used.
abbrev pub OnlyReads : Option StoreAccess → Type 0
OnlyReads None = ⊤
OnlyReads (Some store) = elim store.access [ Makes ↦ ⊥ | Changes ↦ ⊥ | Reads ↦ ⊤ ]

pub record Profile : Type 0 where
  -- the guards that are asked about each command of a stream
  pub guards : List GuardSpec
  -- the files that are read, with what is said in front of each
  pub files : GivenFiles
  pub how : How
  -- the store, where there is one
  pub store : Option StoreAccess
  -- whether something may be written to standard output
  pub prints : Bool
  -- the exit statuses that it may have
  pub statuses : List ℕ

-- Files in front of which nothing is said.
abbrev pub plain_files : List (List ℕ) → GivenFiles
plain_files files = record { files = files; overrides = [] }

-- The store of a base, which is only read; and the statuses of a store that is read, beside others.
abbrev pub store_of : Base → Option StoreAccess
store_of Nothing = None
store_of (InStore store) = Some (record { file = store; access = Reads })

abbrev pub over : Base → List ℕ → List ℕ
over Nothing statuses = statuses
over (InStore store) statuses = statuses ++ 5 ∷ 6 ∷ []

abbrev pub reads : List ℕ → Option StoreAccess
reads store = Some (record { file = store; access = Reads })

abbrev pub changes : List ℕ → Option StoreAccess
changes store = Some (record { file = store; access = Changes })

abbrev pub makes : List ℕ → Option StoreAccess
makes store = Some (record { file = store; access = Makes })

-- The table: guards, files and how they are read, the store, whether it prints, and the statuses.
abbrev pub does : List GuardSpec → GivenFiles → How → Option StoreAccess → Bool → List ℕ → Profile
does guards files how store prints statuses =
    record {
      guards = guards;
      files = files;
      how = how;
      store = store;
      prints = prints;
      statuses = statuses;
    }

unfoldable pub profile : Request → Profile
profile (Compose base files) =
    does [] files Twice (store_of base) true (over base (0 ∷ 1 ∷ 3 ∷ 4 ∷ 7 ∷ 9 ∷ 11 ∷ 13 ∷ []))
profile (Audit guards base files) =
    does guards files Once (store_of base) true (over base (0 ∷ 1 ∷ 3 ∷ 4 ∷ 7 ∷ 11 ∷ []))
profile (Export base files) =
    does [] files Once (store_of base) true (over base (0 ∷ 1 ∷ 3 ∷ 4 ∷ 7 ∷ 11 ∷ []))
profile (Squash base files) =
    does [] files Twice (store_of base) true (over base (0 ∷ 1 ∷ 3 ∷ 4 ∷ 7 ∷ 11 ∷ []))
profile (Dump file) = does [] (plain_files (file ∷ [])) Once None true (0 ∷ 1 ∷ 3 ∷ 4 ∷ 7 ∷ 11 ∷ [])
profile (Text file) = does [] (plain_files (file ∷ [])) Once None true (0 ∷ 1 ∷ 3 ∷ 4 ∷ 7 ∷ 11 ∷ [])
profile (Pack file) = does [] (plain_files (file ∷ [])) Once None true (0 ∷ 1 ∷ 3 ∷ 4 ∷ 7 ∷ 11 ∷ [])
profile (Gen count seed) = does [] no_files NoFiles None true (0 ∷ 4 ∷ 7 ∷ [])
profile (Trial count seed) = does [] no_files NoFiles None true (0 ∷ 4 ∷ 7 ∷ [])
profile (Init store) = does [] no_files NoFiles (makes store) false (0 ∷ 5 ∷ 12 ∷ [])
profile (Receive guards store files) =
    does guards files Once (changes store) true (0 ∷ 1 ∷ 3 ∷ 4 ∷ 5 ∷ 6 ∷ 7 ∷ 10 ∷ 11 ∷ [])
profile (Interleave store schedule turns) =
    does turns.guards (plain_files turns.files) InTurns (changes store) true
    (0 ∷ 1 ∷ 3 ∷ 4 ∷ 5 ∷ 6 ∷ 7 ∷ 10 ∷ 11 ∷ [])
profile (Drop store name) =
    does [] no_files NoFiles (changes store) false (0 ∷ 5 ∷ 6 ∷ 7 ∷ 8 ∷ 10 ∷ [])
profile (ListAll store) = does [] no_files NoFiles (reads store) true (0 ∷ 4 ∷ 5 ∷ 6 ∷ 7 ∷ [])
profile (Show store name) = does [] no_files NoFiles (reads store) true (0 ∷ 4 ∷ 5 ∷ 6 ∷ 7 ∷ 8 ∷ [])
profile (Cat store name path) =
    does [] no_files NoFiles (reads store) true (0 ∷ 4 ∷ 5 ∷ 6 ∷ 7 ∷ 8 ∷ [])
profile (Scrub store) = does [] no_files NoFiles (reads store) true (0 ∷ 4 ∷ 5 ∷ 6 ∷ 7 ∷ 14 ∷ [])
profile (Send store name) = does [] no_files NoFiles (reads store) true (0 ∷ 4 ∷ 5 ∷ 6 ∷ 7 ∷ 8 ∷ [])
profile (Restore store name) =
    does [] no_files NoFiles (reads store) true (0 ∷ 4 ∷ 5 ∷ 6 ∷ 7 ∷ 8 ∷ [])
profile (Stream store name) =
    does [] no_files NoFiles (reads store) true (0 ∷ 4 ∷ 5 ∷ 6 ∷ 7 ∷ 8 ∷ [])
profile (Tar store name) =
    does [] no_files NoFiles (reads store) true (0 ∷ 4 ∷ 5 ∷ 6 ∷ 7 ∷ 8 ∷ [])
