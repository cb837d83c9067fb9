-- What arguments mean. Of the definitions of `program_model` alone.
use Rattle.std.specs.Prelude.{ℕ, List, [], ◌∷◌, length, ◌==◌, Option, None, Some, if◌then◌else◌}
use Rattle.std.specs.List.{filter_map}
use Rattle.std.specs.Option.{option_map, unwrap_or}
use Rattle.send_model.specs.Guards.{GuardSpec, guard_of}
use Rattle.store_model.specs.Turns.{schedule_of}
use Rattle.program_model.specs.FileWords.{GivenFiles, given_in, no_files}
use Rattle.program_model.specs.TurnWords.{TurnFiles, turn_files, are_turns}
use Rattle.program_model.specs.Requests.{is_count}

-- Words that are files, one at least, with what is said in front of each.
abbrev pub some_given : List (List ℕ) → Option GivenFiles
some_given [] = None
some_given (word ∷ words) = given_in (word ∷ words)

-- Those of words that are.
abbrev pub files_given : List (List ℕ) → GivenFiles
files_given words = unwrap_or (some_given words) no_files

-- The guards among words, in order.
abbrev pub guards_in : List (List ℕ) → List GuardSpec
guards_in words = filter_map guard_of words

-- Files that take turns, each with its guards, and whose turn it is.
pub record Turns : Type 0 where
  pub schedule : List ℕ
  pub files : TurnFiles

-- A schedule of these files, and the files, if there are one to ten.
abbrev pub with_schedule : List ℕ → TurnFiles → Option Turns
with_schedule word turns = if are_turns turns
    then option_map (λ schedule. record { schedule = schedule; files = turns })
    (schedule_of (length turns.files) word)
    else None

-- What a word for the schedule and the words of the files mean.
abbrev pub turns_in : List ℕ → List (List ℕ) → Option Turns
turns_in schedule words =
    elim (turn_files words) [ None ↦ None | Some turns ↦ with_schedule schedule turns ]

abbrev pub no_turns : Turns
no_turns = record { schedule = []; files = record { guards = []; shares = []; files = [] } }

abbrev pub turns_given : List ℕ → List (List ℕ) → Turns
turns_given schedule words = unwrap_or (turns_in schedule words) no_turns

-- The files of words that take turns.
abbrev pub turns_among : List (List ℕ) → TurnFiles
turns_among words = unwrap_or (turn_files words) no_turns.files

-- A number of parts.
abbrev pub count_in : ℕ → Option ℕ
count_in count = if is_count count then Some count else None

-- Words that are one file.
abbrev pub lone_of : Option GivenFiles → Option GivenFiles
lone_of None = None
lone_of (Some given) = if length given.files == 1 then Some given else None

abbrev pub one_given : List (List ℕ) → Option GivenFiles
one_given words = lone_of (some_given words)
