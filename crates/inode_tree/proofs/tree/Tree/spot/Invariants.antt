-- What is left of the walk to the place gives the place that all of it gives.
use Rattle.std.proofs.Common.{◌≡◌}
use Rattle.send_model.specs.Subvolume.{spot}
use Rattle.inode_tree.specs.Places.{spot_from}
use Rattle.inode_tree.proofs.tree.Tree.spot.Given as goal

abbrev pub invariant-loop-further : goal.invariant-loop-further
invariant-loop-further g l = spot l.self l.path ≡ spot_from l.self l.directory l.name l.further-iterator
