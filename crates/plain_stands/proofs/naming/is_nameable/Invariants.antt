use Rattle.std.proofs.Common.{length}
use Rattle.send_model.specs.Map.{named_cmp}
use Rattle.shared_map.specs.Sought.{entries_above}
use Rattle.path_index.specs.Places.{places_of}
use Rattle.path_index.proofs.Leasts.{HasNone}
use Rattle.plain_stands.proofs.naming.is_nameable.Given as goal

-- No path ends with one of the names that were passed.
abbrev pub invariant-loop-next : goal.invariant-loop-next
invariant-loop-next g l =
    HasNone l.tree (places_of (entries_above named_cmp (l.directory, l.last) l.tree.names) l.ino)
    → HasNone l.tree (places_of l.tree.names l.ino)

abbrev pub decreases-loop-next : goal.decreases-loop-next
decreases-loop-next g l = length (entries_above named_cmp (l.directory, l.last) l.tree.names)
