-- The changed inode in its tree.
use Rattle.std.proofs.Common.{◌≡◌, true, refl, ap, ◌∙◌, rules}
use Rattle.std.specs.Ordering.{nat_cmp}
use Rattle.send_model.specs.Map.{value_at, with_value}
use Rattle.inode_tree.specs.Changes.{changed}
use Rattle.shared_map.proofs.Editing.{was_there}
use Rattle.inode_tree.proofs.ChangeLaws.{same_kind}
use Rattle.inode_tree.proofs.TreeLaws.{whole_is, changed_whole}
use Rattle.inode_tree.proofs.Known.{known_grows}
use Rattle.inode_tree.proofs.KnownEdits.{remembered, changed_grows}
use Rattle.inode_tree.proofs.RenameSteps.{sound_of}
use Rattle.inode_tree.proofs.Standing.{never_missed, there_inside}
use Rattle.inode_tree.proofs.tree.Tree.change.Goals as goal

pub unreachable-requires : goal.unreachable-requires
unreachable-requires g c =
    let whole : c.self.inside.whole ≡ true = search rules in
    let made = c.new-edit.result in
    let sound = sound_of _ _ c.self.view_is _ _ whole c.self.invariant.0 in
    absurd (never_missed (changed made) (λ inode. made) (value_at nat_cmp c.args.ino c.self.inside.inodes) (λ inode. with_value nat_cmp c.args.ino inode c.self.inside.inodes) _ c.edit.new.self _ c.edit.new.edit c.in_ok-edit.field-0
    (there_inside _ _ c.self.view_is c.args.ino (c.requires sound)) c.in_ok-edit.ensures c.if-not-branch.true)

pub invariant_of-self-2 : goal.invariant_of-self-2
invariant_of-self-2 g c =
    let whole : c.self.inside.whole ≡ true = search rules in
    let made = c.new-edit.result in
    let there = was_there (changed made) (λ inode. made) (value_at nat_cmp c.args.ino c.self.inside.inodes) (λ inode. with_value nat_cmp c.args.ino inode c.self.inside.inodes) _ c.edit.new.self _ c.edit.new.edit c.in_ok-edit.field-0 c.if-not-branch.false c.in_ok-edit.ensures in
    let inodes = there.made ∙ ap (λ x. with_value nat_cmp c.args.ino (changed x there.value) c.self.inside.inodes) (c.new-edit.ensures ∙ c.new.ensures) in (
      (changed_whole _ _ c.self.view_is c.self.inside.further (whole_is _ _ _ whole c.self.invariant.0) c.args.ino (changed c.args.change.now) (same_kind c.args.change.now) there.value there.was_is _ inodes refl refl).tree,
      known_grows _ _ (changed_grows _ _ c.args.ino there.value (changed c.args.change.now there.value) (same_kind c.args.change.now there.value) there.was_is inodes refl) c.self.inside.last
          (remembered _ _ c.self.inside.last whole c.self.invariant.1),
    )

pub returns : goal.returns
returns g c =
    let whole : c.self.inside.whole ≡ true = search rules in
    let made = c.new-edit.result in
    let there = was_there (changed made) (λ inode. made) (value_at nat_cmp c.args.ino c.self.inside.inodes) (λ inode. with_value nat_cmp c.args.ino inode c.self.inside.inodes) _ c.edit.new.self _ c.edit.new.edit c.in_ok-edit.field-0 c.if-not-branch.false c.in_ok-edit.ensures in
    let inodes = there.made ∙ ap (λ x. with_value nat_cmp c.args.ino (changed x there.value) c.self.inside.inodes) (c.new-edit.ensures ∙ c.new.ensures) in
    (changed_whole _ _ c.self.view_is c.self.inside.further (whole_is _ _ _ whole c.self.invariant.0) c.args.ino (changed c.args.change.now) (same_kind c.args.change.now) there.value there.was_is _ inodes refl refl).is
