use Rattle.std.proofs.Common.{map}
use Rattle.std.specs.String.{string_bytes}
use Rattle.command_line.proofs.Splitting.{IsPassed}
use Rattle.command_line.proofs.arguments.guards_end.Given as goal

abbrev pub invariant-loop-place : goal.invariant-loop-place
invariant-loop-place l = IsPassed (map string_bytes l.words) l.place
