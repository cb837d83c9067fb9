use Rattle.std.proofs.Common.{◌≡◌, ◌-◌, ◌≤◌, ◌++◌, None, length, max}
use lib.ListN.{replicate}
use Rattle.tree_tests.proofs.plain.fill.Given as goal

abbrev pub invariant-loop-have : goal.invariant-loop-have
invariant-loop-have g l = record {
  cells : l.cells.items ≡ l.fn.cells.items ++ replicate (l.have - length l.fn.cells.items) None;
  end : l.have ≤ max (length l.fn.cells.items) l.size;
}
