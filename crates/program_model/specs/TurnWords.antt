-- The words of files that are received in turns: each file with its guards in front. This program's
-- own.
use Rattle.std.specs.Prelude.{ℕ, suc, List, [], ◌∷◌, length, Option, None, Some, Bool, ◌&&◌, nat_le, if◌then◌else◌}
use Rattle.send_model.specs.Guards.{GuardSpec, guard_of, is_guard_word}

-- Files that take turns: all their guards in order, how many of these each file has, and the files'
-- names.
pub record TurnFiles : Type 0 where
  pub guards : List GuardSpec
  pub shares : List ℕ
  pub files : List (List ℕ)

-- A guard in front of the first file, and a file with no guards in front of the others. A guard
-- behind which there is no file is none.
abbrev pub with_guard : GuardSpec → TurnFiles → Option TurnFiles
with_guard guard turns = elim turns.shares [
  | [] ↦ None
  | share ∷ shares ↦
      Some (record {
        guards = guard ∷ turns.guards;
        shares = suc share ∷ shares;
        files = turns.files;
      })
]

abbrev pub with_file : List ℕ → TurnFiles → TurnFiles
with_file name turns =
    record { guards = turns.guards; shares = 0 ∷ turns.shares; files = name ∷ turns.files }

-- `[GUARD..] FILE ..`: a word that begins as a guard's is one, of the next file; the others are
-- files.
unfoldable pub turn_files : List (List ℕ) → Option TurnFiles
turn_files [] = Some (record { guards = []; shares = []; files = [] })
turn_files (word ∷ words) = elim (turn_files words) [
  | None ↦ None
  | Some turns ↦ if is_guard_word word
      then elim (guard_of word) [ None ↦ None | Some guard ↦ with_guard guard turns ]
      else Some (with_file word turns)
]

-- One to ten files.
abbrev pub are_turns : TurnFiles → Bool
are_turns turns = nat_le 1 (length turns.files) && nat_le (length turns.files) 10
