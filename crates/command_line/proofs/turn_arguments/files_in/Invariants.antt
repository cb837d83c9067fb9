use Rattle.std.proofs.Common.{map, length, ◌+◌, ◌≤◌}
use Rattle.std.specs.String.{string_bytes}
use Rattle.program_model.proofs.TurnGuards.{Counted}
use Rattle.command_line.proofs.turn_arguments.files_in.Given as goal

abbrev pub invariant-loop-place : goal.invariant-loop-place
invariant-loop-place l = Counted (map string_bytes l.words) l.place l.files × (l.files + l.place ≤ length l.words)

abbrev pub decreases-loop-place : goal.decreases-loop-place
decreases-loop-place l = l.place
