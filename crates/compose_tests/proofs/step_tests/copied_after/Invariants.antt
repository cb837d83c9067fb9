use Rattle.clone_resolve.specs.Steps.{Fits}
use Rattle.compose_tests.proofs.step_tests.copied_after.Given as goal

abbrev pub invariant-loop-row : goal.invariant-loop-row
invariant-loop-row g l = Fits l.core l.part
