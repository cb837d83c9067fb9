-- Nothing is remembered of a copy.
use Rattle.std.proofs.Common.{rules}
use Rattle.inode_tree.proofs.KnownEdits.{new_remembers}
use Rattle.inode_tree.proofs.tree.Tree.copy.Goals as goal

pub invariant_of-result : goal.invariant_of-result
invariant_of-result g c = (search rules, new_remembers c.self.inside.whole _ c.in_ok-copy-3.field-0 _ c.new.ensures (search rules))
