-- What is left of the way passes the inode where all of it does.
use Rattle.std.proofs.Common.{◌≡◌, ◌∷◌}
use Rattle.send_model.specs.Edit.{lies_below}
use Rattle.inode_tree.proofs.RenameSteps.{passes_on}
use Rattle.inode_tree.proofs.tree.Tree.lies_below.Given as goal

abbrev pub invariant-loop-further : goal.invariant-loop-further
invariant-loop-further g l = lies_below l.self l.ino l.path ≡ passes_on l.self l.ino l.directory (l.name ∷ l.further-iterator)
