-- The other way is from the root.
use Rattle.inode_tree.proofs.Known.{root_begins}
use Rattle.inode_tree.proofs.Walks.{spot_refused}
use Rattle.inode_tree.proofs.tree.Tree.begin.Goals as goal

pub returns-in-Ok : goal.returns-in-Ok
returns-in-Ok g c = root_begins c.args.self.now c.args.path.now c.in-Ok.names c.in-Ok.ensures

pub returns-in-Err : goal.returns-in-Err
returns-in-Err g c = spot_refused c.args.self.now c.args.path.now c.in-Err.ensures
