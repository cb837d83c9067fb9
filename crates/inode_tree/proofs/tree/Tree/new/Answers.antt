-- A root alone is a tree.
use Rattle.std.proofs.Common.{true, [], ◌∷◌, ap, ◌∙◌}
use Rattle.std.specs.Ordering.{nat_cmp}
use Rattle.send_model.specs.Map.{with_value}
use Rattle.inode_tree.proofs.TreeLaws.{new_tree}
use Rattle.inode_tree.proofs.KnownEdits.{new_remembers}
use Rattle.inode_tree.proofs.tree.Tree.new.Goals as goal

pub invariant_of-result : goal.invariant_of-result
invariant_of-result g c =
    let tree = new_tree _ _ _ (c.in_ok-insert.ensures.ok ∙ ap (with_value nat_cmp 256 c.in_ok-new.field-0) c.new-inodes.ensures
    ∙ ap (λ i. (256, i) ∷ []) (c.in_ok-new.ensures ∙ c.in_ok-root.ensures)) c.new-3.ensures c.new-4.ensures in
    (tree, new_remembers true _ _ _ c.new-5.ensures tree)
