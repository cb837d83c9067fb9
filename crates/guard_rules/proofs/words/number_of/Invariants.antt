use Rattle.guard_rules.proofs.Numerals.{IsReadTo}
use Rattle.guard_rules.proofs.words.number_of.Given as goal

abbrev pub invariant-loop-place : goal.invariant-loop-place
invariant-loop-place l = IsReadTo l.digits l.place l.number
