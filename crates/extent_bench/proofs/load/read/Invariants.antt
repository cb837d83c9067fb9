use Rattle.std.proofs.Common.{◌≡◌, ◌+◌, length}
use Rattle.extent_bench.proofs.load.read.Given as goal

-- the cells that were read, and those that are left
abbrev pub invariant-loop-origin : goal.invariant-loop-origin
invariant-loop-origin l = record {
  can : goal.iterator-loop-origin.can_next l.origin-iterator;
  finite : goal.iterator-loop-origin.is_finite l.origin-iterator;
  cells : l.cells + length l.origin-iterator ≡ length l.file;
}
