-- The other contents in their tree.
use Rattle.std.proofs.Common.{length, refl}
use Rattle.extent_map.specs.Pieces.{run_cells}
use Rattle.inode_tree.proofs.OtherContents.{other_whole}
use Rattle.inode_tree.proofs.KnownEdits.{new_remembers}
use Rattle.inode_tree.proofs.tree.Tree.retraced.Goals as goal

pub invariant_of-result : goal.invariant_of-result
invariant_of-result g c =
    let tree = (other_whole (λ ino cells. run_cells g.P.Origin.advanced (g.S.Starts.starts c.args.starts.now ino) (length cells)) _ _ c.self.view_is c.self.inside.whole c.self.inside.further _ c.self.invariant.0 _
    c.in_ok-retraced_inodes.ensures c.in_ok-copy.ensures refl c.in_ok-copy-2.ensures).0 in
    (tree, new_remembers _ _ _ _ c.new.ensures tree)

pub returns : goal.returns
returns g c =
    (other_whole (λ ino cells. run_cells g.P.Origin.advanced (g.S.Starts.starts c.args.starts.now ino) (length cells)) _ _ c.self.view_is c.self.inside.whole c.self.inside.further _ c.self.invariant.0 _
    c.in_ok-retraced_inodes.ensures c.in_ok-copy.ensures refl c.in_ok-copy-2.ensures).1
