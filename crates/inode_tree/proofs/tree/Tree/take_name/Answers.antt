-- What stays a tree without the name.
use Rattle.std.proofs.Common.{◌≡◌, ◌≢◌, ◌-◌, true, refl, ap, ◌∙◌, rules}
use Rattle.std.specs.Ordering.{nat_cmp}
use Rattle.send_model.specs.Map.{with_value}
use Rattle.inode_tree.specs.Trees.{further_names}
use Rattle.inode_tree.proofs.TreeLaws.{whole_is, last_whole, one_whole}
use Rattle.inode_tree.proofs.KnownEdits.{remembered, taken_known}
use Rattle.inode_tree.proofs.tree.Tree.take_name.Goals as goal

pub invariant_of-self-then-further-eq0 : goal.invariant_of-self-then-further-eq0
invariant_of-self-then-further-eq0 g c =
    let whole : c.self.inside.whole ≡ true = search rules in
    let none : further_names c.self.inside.further c.args.ino ≡ 0 = search rules in
    let became = last_whole _ _ c.self.view_is c.self.inside.further (whole_is _ _ _ whole c.self.invariant.0) c.args.place.now c.args.ino c.requires.there c.requires.leaf none _ c.in_ok-_inode.ensures.ok c.in_ok-_ino.ensures.ok refl in (
      became.tree,
      taken_known _ _ c.self.view_is c.self.inside.last (remembered _ _ c.self.inside.last whole c.self.invariant.1) c.args.place.now c.args.ino c.args.directory c.requires.there c.requires.kind _ became.is became.tree.sound _ c.forget_name.ensures,
    )

pub returns-then-further-eq0 : goal.returns-then-further-eq0
returns-then-further-eq0 g c =
    let whole : c.self.inside.whole ≡ true = search rules in
    let none : further_names c.self.inside.further c.args.ino ≡ 0 = search rules in
    (last_whole _ _ c.self.view_is c.self.inside.further (whole_is _ _ _ whole c.self.invariant.0) c.args.place.now c.args.ino c.requires.there c.requires.leaf none _ c.in_ok-_inode.ensures.ok c.in_ok-_ino.ensures.ok refl).is

pub invariant_of-self-2 : goal.invariant_of-self-2
invariant_of-self-2 g c =
    let whole : c.self.inside.whole ≡ true = search rules in
    let some : further_names c.self.inside.further c.args.ino ≢ 0 = search rules in
    let became = one_whole _ _ c.self.view_is c.self.inside.further (whole_is _ _ _ whole c.self.invariant.0) c.args.place.now c.args.ino c.requires.there c.requires.leaf some
    _ refl c.in_ok-_ino.ensures.ok refl _ (c.in_ok-insert.ensures.ok ∙ ap (λ n. with_value nat_cmp c.args.ino (n - 1) c.self.inside.further) c.further_names-further.ensures) in (
      became.tree,
      taken_known _ _ c.self.view_is c.self.inside.last (remembered _ _ c.self.inside.last whole c.self.invariant.1) c.args.place.now c.args.ino c.args.directory c.requires.there c.requires.kind _ became.is became.tree.sound _ c.forget_name.ensures,
    )

pub returns : goal.returns
returns g c =
    let whole : c.self.inside.whole ≡ true = search rules in
    let some : further_names c.self.inside.further c.args.ino ≢ 0 = search rules in
    (one_whole _ _ c.self.view_is c.self.inside.further (whole_is _ _ _ whole c.self.invariant.0) c.args.place.now c.args.ino c.requires.there c.requires.leaf some
    _ refl c.in_ok-_ino.ensures.ok refl _ refl).is
