use Rattle.std.proofs.Common.{length}
use Rattle.send_model.specs.Map.{named_cmp}
use Rattle.shared_map.specs.Sought.{entries_above}
use Rattle.path_walk.specs.Ahead.{Grows}
use Rattle.path_walk.proofs.Adding.{HasUpTo}
use Rattle.path_walk.proofs.ahead.add_entries.Given as goal

-- The paths of the names up to the last one are there.
abbrev pub invariant-loop-next : goal.invariant-loop-next
invariant-loop-next g l = record {
  grows : Grows l.tree l.front l.fn.directory l.fn.ahead l.ahead;
  has : HasUpTo l.tree l.front l.fn.directory l.last l.ahead;
}

abbrev pub decreases-loop-next : goal.decreases-loop-next
decreases-loop-next g l = length (entries_above named_cmp (l.fn.directory, l.last) l.tree.names)
