use Rattle.std.proofs.Common.{◌≡◌, ◌≤◌, ◌-◌, length}
use Rattle.send_model.specs.Separated.{own_name, free_from, free_name}
use Rattle.stream_export.proofs.separators.free_name.Given as goal

-- The names of the numbers before this one are taken.
abbrev pub invariant-loop-number : goal.invariant-loop-number
invariant-loop-number g l = record {
  within : l.number ≤ l.most;
  name : l.name ≡ own_name l.number;
  short : length l.name ≤ 28;
  rest : free_name l.fn.tree ≡ free_from (l.most - l.number) l.number l.fn.tree;
}

abbrev pub decreases-loop-number : goal.decreases-loop-number
decreases-loop-number g l = l.most - l.number
