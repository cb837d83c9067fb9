-- What the path is known to lead to.
use Rattle.std.proofs.Common.{sym}
use Rattle.inode_tree.specs.Places.{spot_of}
use Rattle.inode_tree.proofs.Known.{what_stands}
use Rattle.inode_tree.proofs.tree.Tree.standing.Goals as goal

pub returns-in-Some : goal.returns-in-Some
returns-in-Some g c = sym (what_stands c.args.self.now c.args.path.now (spot_of c.args.place.now) c.requires c.in-Some.ino c.in-Some.ensures)
