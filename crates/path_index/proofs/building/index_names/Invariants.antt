use Rattle.std.proofs.Common.{length}
use Rattle.send_model.specs.Map.{named_cmp}
use Rattle.shared_map.specs.Sought.{entries_above}
use Rattle.path_index.proofs.Indexing.{IsIndexedUpTo}
use Rattle.path_index.proofs.building.index_names.Given as goal

-- The names up to the last one are in the index.
abbrev pub invariant-loop-next : goal.invariant-loop-next
invariant-loop-next g l = IsIndexedUpTo l.index (l.directory, l.last) l.tree.names

-- The names that are left get fewer.
abbrev pub decreases-loop-next : goal.decreases-loop-next
decreases-loop-next g l = length (entries_above named_cmp (l.directory, l.last) l.tree.names)
