-- What the words after the program's name ask for. The words are this program's own.
use Rattle.std.specs.Prelude.{ℕ, List, [], ◌∷◌, length, Option, None, Some, Bool, ◌&&◌, ◌==◌, codes, nat_le, if◌then◌else◌}
use Rattle.std.specs.Option.{option_map}
use Rattle.send_model.specs.Guards.{GuardSpec, guard_of, is_guard_word, number_word}
use Rattle.send_model.specs.Words.{is_word}
use Rattle.store_model.specs.Turns.{schedule_of}
use Rattle.program_model.specs.EscapedWords.{meant_by}
use Rattle.program_model.specs.FileWords.{GivenFiles, given_in}
use Rattle.program_model.specs.TurnWords.{TurnFiles, turn_files, are_turns}

-- What the first stream of a chain may build on: nothing, or the snapshots of a store, which is
-- given by the name of its file.
pub data Base : Type 0 where
  Nothing : Base
  InStore : (store : List ℕ) → Base

-- A request. A store and a file are given by their names; a snapshot and a path by their bytes.
pub data Request : Type 0 where
  Compose : (base : Base) (files : GivenFiles) → Request
  Audit : (guards : List GuardSpec) (base : Base) (files : GivenFiles) → Request
  Dump : (file : List ℕ) → Request
  Text : (file : List ℕ) → Request
  Pack : (file : List ℕ) → Request
  Export : (base : Base) (files : GivenFiles) → Request
  Squash : (base : Base) (files : GivenFiles) → Request
  Gen : (count seed : ℕ) → Request
  Trial : (count seed : ℕ) → Request
  Init : (store : List ℕ) → Request
  Drop : (store name : List ℕ) → Request
  Receive : (guards : List GuardSpec) (store : List ℕ) (files : GivenFiles) → Request
  ListAll : (store : List ℕ) → Request
  Show : (store name : List ℕ) → Request
  Cat : (store name path : List ℕ) → Request
  Scrub : (store : List ℕ) → Request
  Send : (store name : List ℕ) → Request
  Restore : (store name : List ℕ) → Request
  Stream : (store name : List ℕ) → Request
  Tar : (store name : List ℕ) → Request
  Interleave : (store : List ℕ) (schedule : List ℕ) (turns : TurnFiles) → Request

-- ---- arguments

-- Arguments, and the request that they make, if they make one.
abbrev pub Arguments : Type 0
Arguments = List (List ℕ) → Option Request

-- `STORE`
abbrev pub a_store : (List ℕ → Request) → Arguments
a_store request (store ∷ []) = Some (request store)
a_store request (store ∷ more ∷ words) = None
a_store request [] = None

-- `STORE NAME`
abbrev pub a_snapshot : (List ℕ → List ℕ → Request) → Arguments
a_snapshot request (store ∷ name ∷ []) = option_map (request store) (meant_by name)
a_snapshot request (store ∷ name ∷ more ∷ words) = None
a_snapshot request (store ∷ []) = None
a_snapshot request [] = None

-- `STORE NAME PATH`
abbrev pub a_path : (List ℕ → List ℕ → List ℕ → Request) → Arguments
a_path request (store ∷ name ∷ path ∷ []) =
    elim (meant_by name) [
      | None ↦ None
      | Some bytes ↦ option_map (request store bytes) (meant_by path)
    ]
a_path request (store ∷ name ∷ path ∷ more ∷ words) = None
a_path request (store ∷ name ∷ []) = None
a_path request (store ∷ []) = None
a_path request [] = None

-- `FILE`
abbrev pub a_file : (List ℕ → Request) → Arguments
a_file request (file ∷ []) = Some (request file)
a_file request (file ∷ more ∷ words) = None
a_file request [] = None

-- `FILE..`: one file at least, each with what is said in front of it.
abbrev pub some_files : (GivenFiles → Request) → Arguments
some_files request [] = None
some_files request (word ∷ words) = option_map request (given_in (word ∷ words))

-- `STORE FILE..`, where STORE may be `none`.
abbrev pub base_of_word : List ℕ → Base
base_of_word word = if is_word (codes "none") word then Nothing else InStore word

abbrev pub a_base_and_files : (Base → GivenFiles → Request) → Arguments
a_base_and_files request [] = None
a_base_and_files request (store ∷ words) = some_files (request (base_of_word store)) words

-- `STORE FILE`, where STORE may be `none`: one file, with what is said in front of it.
abbrev pub if_one : (GivenFiles → Request) → GivenFiles → Option Request
if_one request given = if length given.files == 1 then Some (request given) else None

abbrev pub one_file : (GivenFiles → Request) → Arguments
one_file request [] = None
one_file request (word ∷ words) =
    elim (given_in (word ∷ words)) [ None ↦ None | Some given ↦ if_one request given ]

abbrev pub a_base_and_file : (Base → GivenFiles → Request) → Arguments
a_base_and_file request [] = None
a_base_and_file request (store ∷ words) = one_file (request (base_of_word store)) words

-- `STORE FILE..`, where STORE is a store's file.
abbrev pub a_store_and_files : (List ℕ → GivenFiles → Request) → Arguments
a_store_and_files request [] = None
a_store_and_files request (store ∷ words) = some_files (request store) words

-- `[GUARD..]` and what follows: a word that begins as a guard's is one, up to the first that does
-- not.
abbrev pub with_one_more : (List GuardSpec → Arguments) → GuardSpec → List GuardSpec → Arguments
with_one_more request guard guards words = request (guard ∷ guards) words

unfoldable pub guarded : (List GuardSpec → Arguments) → Arguments
guarded request [] = request [] []
guarded request (word ∷ words) = if is_guard_word word
    then elim (guard_of word) [
      | None ↦ None
      | Some guard ↦ guarded (with_one_more request guard) words
    ]
    else request [] (word ∷ words)

-- `COUNT SEED`: up to 4,096 streams.
abbrev pub is_count : ℕ → Bool
is_count count = nat_le 1 count && nat_le count 4_096

abbrev pub of_numbers : (ℕ → ℕ → Request) → Option ℕ → Option ℕ → Option Request
of_numbers request None seed = None
of_numbers request (Some count) None = None
of_numbers request (Some count) (Some seed) =
    if is_count count then Some (request count seed) else None

abbrev pub two_numbers : (ℕ → ℕ → Request) → Arguments
two_numbers request (count ∷ seed ∷ []) = of_numbers request (number_word count) (number_word seed)
two_numbers request (count ∷ seed ∷ more ∷ words) = None
two_numbers request (count ∷ []) = None
two_numbers request [] = None

-- `STORE SCHEDULE [GUARD..] FILE ..`: the schedule says whose turn it is, by a letter for each
-- file, and is kept as numbers counted from 0.
abbrev pub scheduled : (List ℕ → TurnFiles → Request) → List ℕ → TurnFiles → Option Request
scheduled request word turns = if are_turns turns
    then option_map (λ schedule. request schedule turns) (schedule_of (length turns.files) word)
    else None

abbrev pub a_schedule : (List ℕ → List ℕ → TurnFiles → Request) → Arguments
a_schedule request (store ∷ schedule ∷ words) =
    elim (turn_files words) [ None ↦ None | Some turns ↦ scheduled (request store) schedule turns ]
a_schedule request (store ∷ []) = None
a_schedule request [] = None

-- ---- commands

-- A command of the program: its name, and its arguments.
pub record Usage : Type 0 where
  pub name : List ℕ
  pub takes : Arguments

abbrev pub usage : List ℕ → Arguments → Usage
usage name takes = record { name = name; takes = takes }

-- All commands.
unfoldable pub commands : List Usage
commands =
    usage (codes "compose") (a_base_and_files Compose)
    ∷ usage (codes "audit") (guarded (λ guards. a_base_and_files (Audit guards)))
    ∷ usage (codes "dump") (a_file Dump)
    ∷ usage (codes "text") (a_file Text)
    ∷ usage (codes "pack") (a_file Pack)
    ∷ usage (codes "export") (a_base_and_files Export)
    ∷ usage (codes "squash") (a_base_and_file Squash)
    ∷ usage (codes "gen") (two_numbers Gen)
    ∷ usage (codes "trial") (two_numbers Trial)
    ∷ usage (codes "init") (a_store Init)
    ∷ usage (codes "drop") (a_snapshot Drop)
    ∷ usage (codes "receive") (guarded (λ guards. a_store_and_files (Receive guards)))
    ∷ usage (codes "list") (a_store ListAll)
    ∷ usage (codes "show") (a_snapshot Show)
    ∷ usage (codes "cat") (a_path Cat)
    ∷ usage (codes "scrub") (a_store Scrub)
    ∷ usage (codes "send") (a_snapshot Send)
    ∷ usage (codes "restore") (a_snapshot Restore)
    ∷ usage (codes "stream") (a_snapshot Stream)
    ∷ usage (codes "tar") (a_snapshot Tar)
    ∷ usage (codes "interleave") (a_schedule Interleave)
    ∷ []

-- What the command of a name makes of arguments; no other name means anything.
unfoldable pub taken_by : List Usage → (name : List ℕ) → Arguments
taken_by [] name words = None
taken_by (command ∷ commands) name words =
    if is_word command.name name then command.takes words else taken_by commands name words

-- What words ask for; `None` where they mean nothing.
unfoldable pub request_in : List (List ℕ) → Option Request
request_in [] = None
request_in (name ∷ words) = taken_by commands name words
