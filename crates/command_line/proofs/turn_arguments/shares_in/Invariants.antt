use Rattle.std.proofs.Common.{map, drop, ◌≤◌}
use Rattle.std.specs.String.{string_bytes}
use Rattle.command_line.specs.Given.{turns_among}
use Rattle.command_line.proofs.TurnsAmong.{AreShared}
use Rattle.command_line.proofs.turn_arguments.shares_in.Given as goal

abbrev pub invariant-loop-place : goal.invariant-loop-place
invariant-loop-place l = AreShared l.shares.items l.own (drop l.place (map string_bytes l.words)) (turns_among (map string_bytes l.words)) × (l.own ≤ l.place)
