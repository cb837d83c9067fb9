-- The steps of commands on places. This program's own.
use Rattle.std.specs.Prelude.{List, [], Result, Option, None, Some, ℕ}
use Rattle.send_model.specs.Command.{Command}
use Rattle.send_model.specs.Guards.{Guard, guarded}
use Rattle.send_model.specs.Cells.{recelled_state}
use Rattle.send_model.specs.Reading.{Item}
use Rattle.send_model.specs.Store.{State, After, step_edit, step}
use Rattle.clone_resolve.specs.Steps.{cells_put}
use Rattle.store_model.specs.Stored.{Group}
use Rattle.store_model.specs.Written.{begun_by}
use Rattle.group_replay.specs.declared.place.Place.{Place}
use Rattle.group_replay.specs.Placing.{further}
use Rattle.store_journal.specs.Shown.{StoreState}
use Rattle.receiver.specs.declared.opened.Opened.{Opened}
use Rattle.receiver.specs.declared.outcome.Received.{Received}
use Rattle.receiver.specs.Standing.{state_of, line_by}
use Rattle.receiver.specs.Answers.{StepSays}

-- An edit puts the places from one on.
abbrev pub EditsAs : Result (Unit {0}) Received → Item → State (Option Place) → State (Option Place)
    → Type 0
EditsAs result item old new =
    (place : Place)
    × StepSays result item new
    (step_edit None (cells_put further place item.command) old item.command)

-- So does a command.
abbrev pub TakesAs : Result (Unit {0}) Received → Item → State (Option Place) → State (Option Place)
    → Type 0
TakesAs result item old new =
    (place : Place)
    × StepSays result item new (step None (cells_put further place item.command) old item.command)

-- The state over cells that carry nothing.
abbrev pub blank_of : StoreState → Option Opened → State (Unit {0})
blank_of store current = recelled_state (λ _. tt) (state_of store current)

-- The line that a command brings which no guard refuses.
abbrev pub line_under : List Guard → Option Opened → Command → List ℕ
line_under guards current command =
    elim (guarded guards command) [ Some refusal ↦ [] | None ↦ line_by current command ]

-- The group that a head brings which is not refused.
abbrev pub begun_if : {S : Type 0} → After S → Command → List Group
begun_if after command = elim after.refusal [ Some refusal ↦ [] | None ↦ begun_by command ]
