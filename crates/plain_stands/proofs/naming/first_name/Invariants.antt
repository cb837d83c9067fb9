use Rattle.std.proofs.Common.{◌≡◌, length}
use Rattle.send_model.specs.Map.{named_cmp}
use Rattle.shared_map.specs.Sought.{entries_above}
use Rattle.path_index.specs.Places.{places_of}
use Rattle.plain_stands.proofs.naming.first_name.Given as goal

-- No name of the inode was passed.
abbrev pub invariant-loop-next : goal.invariant-loop-next
invariant-loop-next g l =
    places_of (entries_above named_cmp (l.directory, l.last) l.tree.names) l.ino
    ≡ places_of l.tree.names l.ino

-- The names that are left get fewer.
abbrev pub decreases-loop-next : goal.decreases-loop-next
decreases-loop-next g l = length (entries_above named_cmp (l.directory, l.last) l.tree.names)
