-- A request that puts files into a store names some.
use Rattle.std.specs.Prelude.{◌≡◌, ◌≢◌, ⊤, ℕ, Bool, true, false, ◌&&◌, List, [], ◌∷◌, length, ◌==◌, Option, None, Some, nat_le, if◌then◌else◌}
use Rattle.std.specs.Option.{option_map}
use Rattle.std.proofs.Common.{refl, subst}
use Rattle.send_model.specs.Guards.{GuardSpec, guard_of, is_guard_word, number_word}
use Rattle.send_model.specs.Words.{is_word}
use Rattle.send_model.proofs.Sorts.{same_inside}
use Rattle.store_model.specs.Turns.{schedule_of}
use Rattle.program_model.specs.EscapedWords.{meant_by}
use Rattle.program_model.specs.FileWords.{GivenFiles, given_in}
use Rattle.program_model.specs.TurnWords.{TurnFiles, turn_files, are_turns}
use Rattle.program_model.specs.Requests.{Base, Request, Arguments, Usage, Compose, Audit, Dump, Text, Pack, Export, Squash, Gen, Trial, Init, Drop, Receive, ListAll, Show, Cat, Scrub, Send, Restore, Stream, Tar, Interleave, a_store, a_snapshot, a_path, a_file, some_files, base_of_word, a_base_and_files, if_one, a_base_and_file, a_store_and_files, with_one_more, guarded, is_count, of_numbers, two_numbers, scheduled, a_schedule, commands, taken_by, request_in}
use Rattle.program_model.proofs.GivenWords.{files_stand}

abbrev NamesSome : Request → Type 0
NamesSome (Compose base files) = ⊤
NamesSome (Audit guards base files) = ⊤
NamesSome (Dump file) = ⊤
NamesSome (Text file) = ⊤
NamesSome (Pack file) = ⊤
NamesSome (Export base files) = ⊤
NamesSome (Squash base files) = ⊤
NamesSome (Gen count seed) = ⊤
NamesSome (Trial count seed) = ⊤
NamesSome (Init store) = ⊤
NamesSome (Drop store name) = ⊤
NamesSome (Receive guards store files) = files.files ≢ []
NamesSome (ListAll store) = ⊤
NamesSome (Show store name) = ⊤
NamesSome (Cat store name path) = ⊤
NamesSome (Scrub store) = ⊤
NamesSome (Send store name) = ⊤
NamesSome (Restore store name) = ⊤
NamesSome (Stream store name) = ⊤
NamesSome (Tar store name) = ⊤
NamesSome (Interleave store schedule turns) = turns.files ≢ []

abbrev Gives : Arguments → Type 0
Gives takes = (words : List (List ℕ)) (request : Request) → takes words ≡ Some request → NamesSome request

-- One that is made of some value, if there is a value.
of_map : {A : Type 0} (make : A → Request) (value : Option A) (request : Request) → ((a : A) → value ≡ Some a → NamesSome (make a)) → option_map make value ≡ Some request → NamesSome request
of_map make None request good e = cc
of_map make (Some a) request good e = subst NamesSome (same_inside e) (good a refl)

store_gives : (make : List ℕ → Request) → ((store : List ℕ) → NamesSome (make store)) → Gives (a_store make)
store_gives make good [] request e = cc
store_gives make good (store ∷ []) request e = subst NamesSome (same_inside e) (good store)
store_gives make good (store ∷ more ∷ words) request e = cc

file_gives : (make : List ℕ → Request) → ((file : List ℕ) → NamesSome (make file)) → Gives (a_file make)
file_gives make good [] request e = cc
file_gives make good (file ∷ []) request e = subst NamesSome (same_inside e) (good file)
file_gives make good (file ∷ more ∷ words) request e = cc

snapshot_gives : (make : List ℕ → List ℕ → Request) → ((store name : List ℕ) → NamesSome (make store name)) → Gives (a_snapshot make)
snapshot_gives make good [] request e = cc
snapshot_gives make good (store ∷ []) request e = cc
snapshot_gives make good (store ∷ name ∷ []) request e = of_map (make store) (meant_by name) request (λ a is. good store a) e
snapshot_gives make good (store ∷ name ∷ more ∷ words) request e = cc

path_gives : (make : List ℕ → List ℕ → List ℕ → Request) → ((store name path : List ℕ) → NamesSome (make store name path)) → Gives (a_path make)
path_gives make good [] request e = cc
path_gives make good (store ∷ []) request e = cc
path_gives make good (store ∷ name ∷ []) request e = cc
path_gives make good (store ∷ name ∷ path ∷ []) request e = one (meant_by name) e
  where
    one : (meant : Option (List ℕ)) → elim meant [ None ↦ None | Some bytes ↦ option_map (make store bytes) (meant_by path) ] ≡ Some request → NamesSome request
    one None e = cc
    one (Some bytes) e = of_map (make store bytes) (meant_by path) request (λ a is. good store bytes a) e
path_gives make good (store ∷ name ∷ path ∷ more ∷ words) request e = cc

files_give : (make : GivenFiles → Request) → ((files : GivenFiles) → files.files ≢ [] → NamesSome (make files)) → Gives (some_files make)
files_give make good [] request e = cc
files_give make good (word ∷ words) request e = of_map make (given_in (word ∷ words)) request (λ files is. good files (files_stand (word ∷ words) files (λ none. cc) is)) e

base_gives : (make : Base → GivenFiles → Request) → ((base : Base) (files : GivenFiles) → NamesSome (make base files)) → Gives (a_base_and_files make)
base_gives make good [] request e = cc
base_gives make good (store ∷ words) request e = files_give (make (base_of_word store)) (λ files some. good (base_of_word store) files) words request e

store_files_give : (make : List ℕ → GivenFiles → Request) → ((store : List ℕ) (files : GivenFiles) → files.files ≢ [] → NamesSome (make store files)) → Gives (a_store_and_files make)
store_files_give make good [] request e = cc
store_files_give make good (store ∷ words) request e = files_give (make store) (good store) words request e

unfoldable guarded_give : (make : List GuardSpec → Arguments) → ((guards : List GuardSpec) → Gives (make guards)) → Gives (guarded make)
unfolding guarded
guarded_give make good [] request e = good [] [] request e
guarded_give make good (word ∷ words) request e = one (λ guard. guarded_give (with_one_more make guard) (λ guards. good (guard ∷ guards)) words request) (is_guard_word word) (guard_of word) e
  where
    one : ((guard : GuardSpec) → guarded (with_one_more make guard) words ≡ Some request → NamesSome request) → (is : Bool) (guard : Option GuardSpec)
        → (if is then elim guard [ None ↦ None | Some guard ↦ guarded (with_one_more make guard) words ] else make [] (word ∷ words)) ≡ Some request → NamesSome request
    one recur true None e = cc
    one recur true (Some guard) e = recur guard e
    one recur false guard e = good [] (word ∷ words) request e

numbers_give : (make : ℕ → ℕ → Request) → ((count seed : ℕ) → NamesSome (make count seed)) → Gives (two_numbers make)
numbers_give make good [] request e = cc
numbers_give make good (count ∷ []) request e = cc
numbers_give make good (count ∷ seed ∷ []) request e = one (number_word count) (number_word seed) e
  where
    two : (count seed : ℕ) (fits : Bool) → (if fits then Some (make count seed) else None) ≡ Some request → NamesSome request
    two count seed true e = subst NamesSome (same_inside e) (good count seed)
    two count seed false e = cc

    one : (count seed : Option ℕ) → of_numbers make count seed ≡ Some request → NamesSome request
    one None seed e = cc
    one (Some count) None e = cc
    one (Some count) (Some seed) e = two count seed (is_count count) e
numbers_give make good (count ∷ seed ∷ more ∷ words) request e = cc

-- Turns are of some files.
some_turns : (files : List (List ℕ)) → nat_le 1 (length files) && nat_le (length files) 10 ≡ true → files ≢ []
some_turns [] are = cc
some_turns (file ∷ files) are = λ none. cc

schedule_gives : Gives (a_schedule Interleave)
schedule_gives [] request e = cc
schedule_gives (store ∷ []) request e = cc
schedule_gives (store ∷ schedule ∷ words) request e = one (turn_files words) e
  where
    two : (turns : TurnFiles) (are : Bool) → are_turns turns ≡ are
        → (if are then option_map (λ schedule. Interleave store schedule turns) (schedule_of (length turns.files) schedule) else None) ≡ Some request → NamesSome request
    two turns true are e = of_map (λ numbers. Interleave store numbers turns) (schedule_of (length turns.files) schedule) request (λ numbers is. some_turns turns.files are) e
    two turns false are e = cc

    one : (turns : Option TurnFiles) → elim turns [ None ↦ None | Some turns ↦ scheduled (Interleave store) schedule turns ] ≡ Some request → NamesSome request
    one None e = cc
    one (Some turns) e = two turns (are_turns turns) refl e

one_gives : (make : Base → GivenFiles → Request) → ((base : Base) (files : GivenFiles) → NamesSome (make base files)) → Gives (a_base_and_file make)
one_gives make good [] request e = cc
one_gives make good (store ∷ []) request e = cc
one_gives make good (store ∷ word ∷ words) request e = one (given_in (word ∷ words)) e
  where
    two : (given : GivenFiles) (is : Bool) → (if is then Some (make (base_of_word store) given) else None) ≡ Some request → NamesSome request
    two given true e = subst NamesSome (same_inside e) (good (base_of_word store) given)
    two given false e = cc

    one : (given : Option GivenFiles) → elim given [ None ↦ None | Some given ↦ if_one (make (base_of_word store)) given ] ≡ Some request → NamesSome request
    one None e = cc
    one (Some given) e = two given (length given.files == 1) e

-- ---- all commands

abbrev AllGive : List Usage → Type 0
AllGive [] = ⊤
AllGive (command ∷ commands) = Gives command.takes × AllGive commands

unfoldable taken_gives : (all : List Usage) → AllGive all → (name : List ℕ) → Gives (taken_by all name)
unfolding taken_by
taken_gives [] good name words request e = cc
taken_gives (command ∷ more) good name words request e = one (is_word command.name name) (taken_gives more good.1 name words request) e
  where
    one : (is : Bool) → (taken_by more name words ≡ Some request → NamesSome request) → (if is then command.takes words else taken_by more name words) ≡ Some request → NamesSome request
    one true recur e = good.0 words request e
    one false recur e = recur e

all_give : AllGive commands
unfolding commands
all_give = (
  base_gives Compose (λ base files. tt),
  (
    guarded_give (λ guards. a_base_and_files (Audit guards)) (λ guards. base_gives (Audit guards) (λ base files. tt)),
    (
      file_gives Dump (λ file. tt),
      (
        file_gives Text (λ file. tt),
        (
          file_gives Pack (λ file. tt),
          (
            base_gives Export (λ base files. tt),
            (
              one_gives Squash (λ base files. tt),
              (
                numbers_give Gen (λ count seed. tt),
                (
                  numbers_give Trial (λ count seed. tt),
                  (
                    store_gives Init (λ store. tt),
                    (
                      snapshot_gives Drop (λ store name. tt),
                      (
                        guarded_give (λ guards. a_store_and_files (Receive guards)) (λ guards. store_files_give (Receive guards) (λ store files some. some)),
                        (
                          store_gives ListAll (λ store. tt),
                          (
                            snapshot_gives Show (λ store name. tt),
                            (
                              path_gives Cat (λ store name path. tt),
                              (
                                store_gives Scrub (λ store. tt),
                                (
                                  snapshot_gives Send (λ store name. tt),
                                  (
                                    snapshot_gives Restore (λ store name. tt),
                                    (
                                      snapshot_gives Stream (λ store name. tt),
                                      (snapshot_gives Tar (λ store name. tt), (schedule_gives, tt)),
                                    ),
                                  ),
                                ),
                              ),
                            ),
                          ),
                        ),
                      ),
                    ),
                  ),
                ),
              ),
            ),
          ),
        ),
      ),
    ),
  ),
)

names_some : (words : List (List ℕ)) (request : Request) → request_in words ≡ Some request → NamesSome request
unfolding request_in
names_some [] request e = cc
names_some (name ∷ words) request e = taken_gives commands all_give name words request e

pub received_some : (words : List (List ℕ)) (guards : List GuardSpec) (store : List ℕ) (files : GivenFiles) → request_in words ≡ Some (Receive guards store files) → files.files ≢ []
received_some words guards store files e = names_some words (Receive guards store files) e

pub turns_some : (words : List (List ℕ)) (store schedule : List ℕ) (turns : TurnFiles) → request_in words ≡ Some (Interleave store schedule turns) → turns.files ≢ []
turns_some words store schedule turns e = names_some words (Interleave store schedule turns) e
