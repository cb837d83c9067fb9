use Rattle.std.proofs.Common.{map, drop}
use Rattle.std.specs.String.{string_bytes}
use Rattle.guard_rules.specs.AnyKind.{any_kept}
use Rattle.program_model.proofs.TurnWords.{Split}
use Rattle.command_line.specs.Given.{turns_among}
use Rattle.command_line.proofs.turn_arguments.sessions_in.Given as goal

abbrev pub invariant-loop-place : goal.invariant-loop-place
invariant-loop-place l =
    Split (map string_bytes l.files.items) (map (λ own. map any_kept own.items) l.guards.items) (map any_kept l.own.items) (drop l.place (map string_bytes l.words)) (turns_among (map string_bytes l.words))
