-- The verdict on what is to be squashed: the first command that its step refuses, the head of a
-- second part, or what comes behind END; or the fault with which reading ended; or that there is no
-- part. This program's own.
use Rattle.std.specs.Prelude.{◌≡◌, ◌≢◌, ℕ, Bool, false, ◌&&◌, ◌||◌, List, [], ◌∷◌, length, Option, None, Some, is_some}
use Rattle.send_model.specs.Attribute.{IsBytes}
use Rattle.send_model.specs.Reading.{Item, Verdict, Reading, Whole, input}
use Rattle.send_model.specs.Store.{Store, State, head_of, step}
use Rattle.send_model.specs.Receive.{byte_cells, fault_of, first_of, start_of, receive_of, IsAccepted}
use Rattle.send_model.specs.Order.{heads, commands_of, then_judge, without_parts}
use Rattle.send_model.specs.Outside.{keys_outside, FindsLawful, base}
use Rattle.send_model.specs.Counts.{is_end, streams}
use Rattle.send_model.specs.Lawful.{IsLawfulStore}
use Rattle.send_model.specs.Laws.{IsWhole}
use Rattle.squash_model.specs.SquashedStreams.{squashed_output, IsSquashedOf}

-- What was passed so far: a head, and END.
pub record Passed : Type 0 where
  pub begun : Bool
  pub closed : Bool

abbrev pub nothing_passed : Passed
nothing_passed = record { begun = false; closed = false }

abbrev pub passed_with : Passed → Item → Passed
passed_with passed item =
    record {
      begun = passed.begun || is_some (head_of item.command);
      closed = passed.closed || is_end item.command;
    }

-- A second head, or a command behind END.
abbrev pub is_second : Passed → Item → Bool
is_second passed item = passed.closed || (passed.begun && is_some (head_of item.command))

unfoldable pub judge_one : State ℕ → Passed → List Item → Option Verdict
judge_one state passed [] = None
judge_one state passed (item ∷ items) = let stepped = step 0 (byte_cells item) state item.command in
    then_judge item stepped (is_second passed item)
    (judge_one stepped.state (passed_with passed item) items)

abbrev pub squash_judge : Store ℕ → Reading → Option Verdict
squash_judge base reading =
    first_of (judge_one (start_of base) nothing_passed reading.items)
    (first_of (fault_of reading.end) (without_parts reading.items (heads reading.items)))

-- All that is written: nothing where there is a verdict.
abbrev pub squash_output_for : Option Verdict → Store ℕ → List Item → List ℕ
squash_output_for None base items = squashed_output base items
squash_output_for (Some verdict) base items = []

-- ---- laws

-- A whole reading without a verdict is one stream with one part, which the base takes; and what is
-- written is what squash promises.
pub record IsOneStream (base : Store ℕ) (reading : Reading) : Type 0 where
  pub one_part : length (heads reading.items) ≡ 1
  pub one_stream : streams (commands_of reading.items) ≡ 1
  pub accepted : IsAccepted (receive_of base reading)

abbrev pub JudgedIsOneStream : Type 0
JudgedIsOneStream =
    (base : Store ℕ) (reading : Reading) → IsWhole reading → squash_judge base reading ≡ None
    → IsOneStream base reading

abbrev pub JudgedIsSquashed : Type 0
JudgedIsSquashed =
    (base : Store ℕ) (reading : Reading) → IsWhole reading → squash_judge base reading ≡ None
    → FindsLawful base (keys_outside reading.items)
    → IsSquashedOf base reading (squash_output_for (squash_judge base reading) base reading.items)

-- So it is of a file of bytes that holds a part, over a lawful store without that part.
abbrev pub LawfulStoresSquash : Type 0
LawfulStoresSquash =
    (store : Store ℕ) (file : List ℕ) → IsLawfulStore store → IsBytes file
    → (input (file ∷ [])).end ≡ Whole
    → heads (input (file ∷ [])).items ≢ []
    → squash_judge (base store (file ∷ [])) (input (file ∷ [])) ≡ None
    → IsSquashedOf (base store (file ∷ [])) (input (file ∷ []))
    (squash_output_for (squash_judge (base store (file ∷ [])) (input (file ∷ [])))
    (base store (file ∷ [])) (input (file ∷ [])).items)
