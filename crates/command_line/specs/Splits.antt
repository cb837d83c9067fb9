-- Guard words in front of others.
use Rattle.std.specs.Prelude.{ℕ, List, [], ◌∷◌, Option, None, Some, if◌then◌else◌}
use Rattle.std.specs.Option.{option_map}
use Rattle.send_model.specs.Guards.{GuardSpec, guard_of, is_guard_word}

-- The guards that words begin with, and the words behind them.
pub record Split : Type 0 where
  pub guards : List GuardSpec
  pub words : List (List ℕ)

abbrev pub with_guard : GuardSpec → Split → Split
with_guard guard split = record { guards = guard ∷ split.guards; words = split.words }

-- A word that begins as a guard's is one, up to the first that does not.
abbrev pub guards_split : List (List ℕ) → Option Split
guards_split [] = Some (record { guards = []; words = [] })
guards_split (word ∷ words) = if is_guard_word word
    then elim (guard_of word) [
      | None ↦ None
      | Some guard ↦
          option_map (with_guard guard) (guards_split words)
    ]
    else Some (record { guards = []; words = word ∷ words })
