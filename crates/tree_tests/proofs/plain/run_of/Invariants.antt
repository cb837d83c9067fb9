use Rattle.std.proofs.Common.{◌≡◌}
use Rattle.extent_map.specs.Pieces.{run_cells}
use Rattle.tree_tests.proofs.plain.run_of.Given as goal

abbrev pub invariant-loop-k : goal.invariant-loop-k
invariant-loop-k g l = l.cells.items ≡ run_cells g.O.Origin.advanced l.origin l.k
