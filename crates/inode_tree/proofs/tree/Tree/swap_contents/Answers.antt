-- The inode with the given contents in its tree.
use Rattle.std.proofs.Common.{◌≡◌, Some, true, refl, ap, ◌∙◌, rules, sym, subst}
use Rattle.std.specs.Ordering.{nat_cmp}
use Rattle.send_model.specs.Map.{value_at, with_value}
use Rattle.send_model.specs.Subvolume.{is_file}
use Rattle.send_model.specs.Edit.{set_cells}
use Rattle.shared_map.proofs.Editing.{was_there}
use Rattle.inode_tree.proofs.TreeLaws.{whole_is, changed_whole, cells_found}
use Rattle.inode_tree.proofs.Known.{known_grows}
use Rattle.inode_tree.proofs.KnownEdits.{remembered, changed_grows}
use Rattle.inode_tree.proofs.Standing.{never_missed, file_inside}
use Rattle.inode_tree.proofs.tree.Tree.swap_contents.Goals as goal

pub unreachable-requires : goal.unreachable-requires
unreachable-requires g c =
    let file : is_file c.args.self.now c.args.ino ≡ true = search rules in
    let made = c.new-edit.result in
    absurd (never_missed (set_cells (λ _. made)) (λ inode. inode.cells) (value_at nat_cmp c.args.ino c.self.inside.inodes) (λ inode. with_value nat_cmp c.args.ino inode c.self.inside.inodes) _ c.edit.new.self _ c.edit.new.edit c.in_ok-edit.field-0
    (file_inside _ _ c.self.view_is c.args.ino file) c.in_ok-edit.ensures c.if-not-branch.true)

pub invariant_of-self-2 : goal.invariant_of-self-2
invariant_of-self-2 g c =
    let whole : c.self.inside.whole ≡ true = search rules in
    let made = c.new-edit.result in
    let there = was_there (set_cells (λ _. made)) (λ inode. inode.cells) (value_at nat_cmp c.args.ino c.self.inside.inodes) (λ inode. with_value nat_cmp c.args.ino inode c.self.inside.inodes) _ c.edit.new.self _ c.edit.new.edit c.in_ok-edit.field-0 c.if-not-branch.false c.in_ok-edit.ensures in
    let inodes = there.made ∙ ap (λ x. with_value nat_cmp c.args.ino (set_cells (λ _. x) there.value) c.self.inside.inodes) (c.new-edit.ensures ∙ c.new-2.ensures ∙ c.replace-given.ensures.value) in (
      (changed_whole _ _ c.self.view_is c.self.inside.further (whole_is _ _ _ whole c.self.invariant.0) c.args.ino (set_cells (λ _. c.args.contents.now)) (λ inode. refl) there.value there.was_is _ inodes refl refl).tree,
      known_grows _ _ (changed_grows _ _ c.args.ino there.value (set_cells (λ _. c.args.contents.now) there.value) refl there.was_is inodes refl) c.self.inside.last
          (remembered _ _ c.self.inside.last whole c.self.invariant.1),
    )

pub returns-clause-tree : goal.returns-clause-tree
returns-clause-tree g c =
    let whole : c.self.inside.whole ≡ true = search rules in
    let made = c.new-edit.result in
    let there = was_there (set_cells (λ _. made)) (λ inode. inode.cells) (value_at nat_cmp c.args.ino c.self.inside.inodes) (λ inode. with_value nat_cmp c.args.ino inode c.self.inside.inodes) _ c.edit.new.self _ c.edit.new.edit c.in_ok-edit.field-0 c.if-not-branch.false c.in_ok-edit.ensures in
    let inodes = there.made ∙ ap (λ x. with_value nat_cmp c.args.ino (set_cells (λ _. x) there.value) c.self.inside.inodes) (c.new-edit.ensures ∙ c.new-2.ensures ∙ c.replace-given.ensures.value) in
    (changed_whole _ _ c.self.view_is c.self.inside.further (whole_is _ _ _ whole c.self.invariant.0) c.args.ino (set_cells (λ _. c.args.contents.now)) (λ inode. refl) there.value there.was_is _ inodes refl refl).is

pub returns-clause-contents : goal.returns-clause-contents
returns-clause-contents g c =
    let made = c.new-edit.result in
    let there = was_there (set_cells (λ _. made)) (λ inode. inode.cells) (value_at nat_cmp c.args.ino c.self.inside.inodes) (λ inode. with_value nat_cmp c.args.ino inode c.self.inside.inodes) _ c.edit.new.self _ c.edit.new.edit c.in_ok-edit.field-0 c.if-not-branch.false c.in_ok-edit.ensures in
    let found = subst (λ x. value_at nat_cmp c.args.ino x.inodes ≡ Some there.value) c.self.view_is there.was_is in
    c.into_contents.ensures ∙ c.into_inner.ensures ∙ there.edit ∙ sym (cells_found c.args.self.now c.args.ino there.value found)
