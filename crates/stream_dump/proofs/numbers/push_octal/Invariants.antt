use Rattle.stream_dump.proofs.Octal.{IsOctalTo}
use Rattle.stream_dump.proofs.numbers.push_octal.Given as goal

abbrev pub invariant-loop-left : goal.invariant-loop-left
invariant-loop-left l = IsOctalTo l.fn.n l.digits l.at l.left

abbrev pub decreases-loop-left : goal.decreases-loop-left
decreases-loop-left l = l.left
