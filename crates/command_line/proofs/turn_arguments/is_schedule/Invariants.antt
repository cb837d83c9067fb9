use Rattle.std.proofs.Common.{◌≡◌, drop}
use Rattle.std.specs.List.{list_all}
use Rattle.store_model.specs.Turns.{is_turn}
use Rattle.command_line.proofs.turn_arguments.is_schedule.Given as goal

abbrev pub invariant-loop-place : goal.invariant-loop-place
invariant-loop-place l = list_all (is_turn l.files) l.word ≡ list_all (is_turn l.files) (drop l.place l.word)
