-- The tree with the name in its new place.
use Rattle.std.proofs.Common.{◌≡◌, Some, None, true, refl, sym, subst, rules}
use Rattle.send_model.specs.Subvolume.{named}
use Rattle.send_model.specs.Edit as meant
use Rattle.inode_tree.specs.Places.{spot_of}
use Rattle.inode_tree.proofs.FreePlaces.{was_free, has_moved, stands_in, moved_names}
use Rattle.inode_tree.proofs.RenameSteps.{moved_whole}
use Rattle.inode_tree.proofs.TreeLaws.{Became, whole_is}
use Rattle.inode_tree.proofs.KnownEdits.{remembered, moved_known}
use Rattle.inode_tree.proofs.tree.Tree.move_name.Given.{Over}
use Rattle.inode_tree.proofs.tree.Tree.move_name.Goals.{After-forget_name}
use Rattle.inode_tree.proofs.tree.Tree.move_name.Goals as goal

-- The name stood nowhere at its new place, and has moved there.
moved : (g : Over) (c : After-forget_name g)
    → (named c.args.self.now c.args.to.now.0 c.args.to.now.1 ≡ None)
    × Became (record { inodes = c.self.inside.inodes; names = c.remove.new.self; next = c.self.inside.next }) c.self.inside.further (meant.move_name (spot_of c.args.from.now) (spot_of c.args.to.now) c.args.moved c.args.self.now)
moved g c =
    let whole : c.self.inside.whole ≡ true = search rules in
    let tree = whole_is _ _ _ whole c.self.invariant.0 in
    let fresh : c.in_ok-insert_new.field-0 ≡ true = search rules in
    let puts = was_free _ _ _ _ _ fresh c.in_ok-insert_new.ensures.ok in
    let free = stands_in _ _ c.self.view_is c.args.to.now None puts.0 in
    let mine = subst (λ s. named s c.args.from.now.0 c.args.from.now.1 ≡ Some c.args.moved) (sym c.self.view_is) c.requires.there in
    let names = moved_names c.args.from.now c.args.to.now c.args.moved c.self.inside.names _ _ tree.sound.names_in_order mine puts.0 puts.1 c.in_ok-_moved.ensures.ok in
    (free, moved_whole _ _ c.self.view_is c.self.inside.further tree c.args.from.now c.args.to.now c.args.moved c.requires.there free (c.requires.sound free) _ refl names refl)

pub invariant_of-self-2 : goal.invariant_of-self-2
invariant_of-self-2 g c =
    let m = moved g (goal.at.invariant_of-self-2 g c).After-forget_name in
    let whole : c.self.inside.whole ≡ true = search rules in (
      m.1.tree,
      moved_known _ _ c.self.view_is c.self.inside.last (remembered _ _ c.self.inside.last whole c.self.invariant.1) c.args.from.now c.args.to.now c.args.moved c.args.directory c.requires.there m.0 c.requires.kind
          _ m.1.is m.1.tree.sound _ c.forget_name.ensures,
    )

pub returns : goal.returns
returns g c = let m = moved g (goal.at.returns g c).After-forget_name in has_moved _ _ _ _ m.0 m.1.is
