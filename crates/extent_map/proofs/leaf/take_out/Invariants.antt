use Rattle.std.proofs.Common.{◌≡◌, ◌≤◌, ◌++◌, take, drop}
use Rattle.extent_map.proofs.leaf.take_out.Given as goal

abbrev pub invariant-loop : goal.invariant-loop
invariant-loop g l = (l.from ≤ l.counter) × (l.pieces.items ≡ take l.from l.fn.pieces.items ++ drop l.counter l.fn.pieces.items)
