use Rattle.std.proofs.Common.{◌≡◌, ◌≤◌, drop, length}
use Rattle.squash_log.proofs.KeptCells.{IsWithFront}
use Rattle.squash_log.proofs.file_lives.add_part.Given as goal

abbrev pub invariant-loop-origin : goal.invariant-loop-origin
invariant-loop-origin l = record {
  within : l.have ≤ length l.part;
  left : l.origin-iterator ≡ drop l.have l.part;
  front : IsWithFront l.fn.from l.have l.part l.initial.cells l.cells;
}
