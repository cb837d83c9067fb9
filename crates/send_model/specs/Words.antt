-- What the program's words ask for, guards among them; the one answer that is due to a request over
-- a base, where no device fails and memory is there; and what stands on standard output then. The
-- words are this program's own.
use Rattle.std.specs.Prelude.{◌≡◌, ℕ, ◌+◌, Bool, ◌&&◌, List, [], ◌∷◌, Option, None, Some, codes, nat_le, if◌then◌else◌}
use Rattle.std.specs.Str.{bytes_eq}
use Rattle.send_model.specs.Store.{Store}
use Rattle.send_model.specs.Guards.{GuardSpec, Guard, new_guard, number_word, guard_of, is_guard_word}
use Rattle.send_model.specs.Lines.{dump_of}
use Rattle.send_model.specs.Exported.{exported}
use Rattle.send_model.specs.Generated.{chain_of, trial_line}
use Rattle.send_model.specs.Headline.{IsFrontOf, IsStopped, whole_output, IsProperFrontOf}
use Rattle.send_model.specs.Due.{Due, DoneWhole, RefusedAt, TooLong, TooMuch, compose_due, audit_due, accepted_line, file_due}

-- A request. A store, a file and the first of some files are given by their places in the words,
-- counted from 0.
pub data Request : Type 0 where
  Compose : (store : ℕ) (files : ℕ) → Request
  Audit : (guards : List GuardSpec) (store : ℕ) (files : ℕ) → Request
  Dump : (file : ℕ) → Request
  Export : (store : ℕ) (files : ℕ) → Request
  Gen : (count seed : ℕ) → Request
  Trial : (count seed : ℕ) → Request

-- A word that is given says this.
abbrev pub is_word : List ℕ → List ℕ → Bool
is_word text word = bytes_eq word text

-- A store and at least one file, the store at a place.
abbrev pub store_and_files : (ℕ → ℕ → Request) → ℕ → List (List ℕ) → Option Request
store_and_files request at (store ∷ file ∷ files) = Some (request at (at + 1))
store_and_files request at (store ∷ []) = None
store_and_files request at [] = None

-- Guard words, and behind them a store and files: the first word that does not begin as a guard's
-- is the store.
abbrev pub with_guard : GuardSpec → Request → Request
with_guard guard (Audit guards store files) = Audit (guard ∷ guards) store files
with_guard guard (Compose store files) = Compose store files
with_guard guard (Dump file) = Dump file
with_guard guard (Export store files) = Export store files
with_guard guard (Gen count seed) = Gen count seed
with_guard guard (Trial count seed) = Trial count seed

unfoldable pub guards_and_files : ℕ → List (List ℕ) → Option Request
guards_and_files at [] = None
guards_and_files at (word ∷ words) =
    if is_guard_word word
    then elim (guard_of word) [
      | None ↦ None
      | Some guard ↦
          elim (guards_and_files (at + 1) words) [
            | None ↦ None
            | Some request ↦
                Some (with_guard guard request)
          ]
    ]
    else store_and_files (Audit []) at (word ∷ words)

-- One file, and nothing more.
abbrev pub one_file : (ℕ → Request) → List (List ℕ) → Option Request
one_file request (file ∷ []) = Some (request 1)
one_file request (file ∷ more ∷ words) = None
one_file request [] = None

-- How many parts a chain may have, and the number that it is made from.
abbrev pub is_count : ℕ → Bool
is_count count = nat_le 1 count && nat_le count 4_096

abbrev pub of_numbers : (ℕ → ℕ → Request) → Option ℕ → Option ℕ → Option Request
of_numbers request None seed = None
of_numbers request (Some count) None = None
of_numbers request (Some count) (Some seed) =
    if is_count count then Some (request count seed) else None

abbrev pub count_and_seed : (ℕ → ℕ → Request) → List (List ℕ) → Option Request
count_and_seed request (count ∷ seed ∷ []) =
    of_numbers request (number_word count) (number_word seed)
count_and_seed request (count ∷ seed ∷ more ∷ words) = None
count_and_seed request (count ∷ []) = None
count_and_seed request [] = None

-- `compose STORE FILE..`, `audit [GUARD..] STORE FILE..`, `export STORE FILE..`, `dump FILE`, `gen
-- COUNT SEED` and `trial COUNT SEED`; no other words mean anything.
unfoldable pub request_of : List (List ℕ) → Option Request
request_of [] = None
request_of (word ∷ words) =
    if is_word (codes "compose") word then store_and_files Compose 1 words
    else (if is_word (codes "audit") word then guards_and_files 1 words
    else (if is_word (codes "dump") word then one_file Dump words
    else (if is_word (codes "export") word then store_and_files Export 1 words
    else (if is_word (codes "gen") word then count_and_seed Gen words
    else (if is_word (codes "trial") word then count_and_seed Trial words else None)))))

-- ---- answers

abbrev pub new_guards : List GuardSpec → List Guard
new_guards [] = []
new_guards (spec ∷ specs) = new_guard spec ∷ new_guards specs

-- The bytes of the first file.
abbrev pub first_file : List (List ℕ) → List ℕ
first_file [] = []
first_file (bytes ∷ files) = bytes

-- The answer that is due to a request, over a base, for the bytes of the files that it names. The
-- base is the store without the files' own parts for compose, and the store itself for audit and
-- export. Export refuses what audit refuses.
unfoldable pub due : Request → Store ℕ → List (List ℕ) → Due
due (Compose store at) base files = compose_due base files
due (Audit guards store at) base files = audit_due base (new_guards guards) files
due (Dump at) base files = file_due (first_file files)
due (Export store at) base files = audit_due base [] files
due (Gen count seed) base files = DoneWhole
due (Trial count seed) base files = DoneWhole

-- All that a request may write.
unfoldable pub whole_of : Request → Store ℕ → List (List ℕ) → List ℕ
whole_of (Compose store at) base files = whole_output base files
whole_of (Audit guards store at) base files = accepted_line files
whole_of (Dump at) base files = dump_of (first_file files)
whole_of (Export store at) base files = exported base files
whole_of (Gen count seed) base files = chain_of seed count
whole_of (Trial count seed) base files = trial_line seed count

-- What stands on standard output before the end of the answer: of compose what is no whole stream,
-- of audit nothing, of the others a front part.
abbrev pub StandsBefore : Request → Store ℕ → List (List ℕ) → List ℕ → Type 0
StandsBefore (Compose store at) base files written = IsStopped base files written
StandsBefore (Audit guards store at) base files written = written ≡ []
StandsBefore (Dump at) base files written = IsFrontOf (dump_of (first_file files)) written
StandsBefore (Export store at) base files written = IsFrontOf (exported base files) written
StandsBefore (Gen count seed) base files written = IsFrontOf (chain_of seed count) written
StandsBefore (Trial count seed) base files written = IsFrontOf (trial_line seed count) written

-- What stands there where a command is refused: of dump and export all that stands before it.
abbrev pub StandsRefused : Request → Store ℕ → List (List ℕ) → List ℕ → Type 0
StandsRefused (Compose store at) base files written = IsStopped base files written
StandsRefused (Audit guards store at) base files written = written ≡ []
StandsRefused (Dump at) base files written = written ≡ dump_of (first_file files)
StandsRefused (Export store at) base files written = written ≡ exported base files
StandsRefused (Gen count seed) base files written = ⊥
StandsRefused (Trial count seed) base files written = ⊥

-- What stands there where standard output itself failed. Audit writes where all is accepted, and
-- only then; its line was cut short.
abbrev pub StandsCut : Request → Store ℕ → List (List ℕ) → List ℕ → Type 0
StandsCut (Compose store at) base files written = IsStopped base files written
StandsCut (Audit guards store at) base files written =
    (audit_due base (new_guards guards) files ≡ DoneWhole)
    × IsProperFrontOf (accepted_line files) written
StandsCut (Dump at) base files written = IsFrontOf (dump_of (first_file files)) written
StandsCut (Export store at) base files written = IsFrontOf (exported base files) written
StandsCut (Gen count seed) base files written = IsFrontOf (chain_of seed count) written
StandsCut (Trial count seed) base files written = IsFrontOf (trial_line seed count) written

-- What stands on standard output after an answer that the files decide.
abbrev pub EndSays : Request → Store ℕ → List (List ℕ) → Due → List ℕ → Type 0
EndSays request base files DoneWhole written = written ≡ whole_of request base files
EndSays request base files (RefusedAt verdict) written = StandsRefused request base files written
EndSays request base files (TooLong file) written = StandsBefore request base files written
EndSays request base files (TooMuch sum) written = StandsBefore request base files written
