-- What stands at the place where the other name was.
use Rattle.std.proofs.Common.{◌≡◌, Some, None, ap, ◌∙◌, subst, sym}
use Rattle.send_model.specs.Subvolume.{IsSound, named}
use Rattle.send_model.specs.Edit.{move_name}
use Rattle.inode_tree.specs.Places.{spot_of}
use Rattle.inode_tree.proofs.FreePlaces.{moved_there_free}
use Rattle.inode_tree.proofs.RenameSteps.{stays_named, place_freed}
use Rattle.inode_tree.proofs.tree.Tree.move_onto.Goals as goal

pub move_name-requires-clause-there : goal.move_name-requires-clause-there
move_name-requires-clause-there g c =
    subst (λ x. named x c.args.from.now.0 c.args.from.now.1 ≡ Some c.args.moved) (sym c.in_ok-take_name.ensures)
    (stays_named c.args.self.now (spot_of c.args.from.now) (spot_of c.args.to.now) c.args.moved c.args.there c.requires.mine c.requires.stands c.requires.differ)

pub move_name-requires-clause-sound : goal.move_name-requires-clause-sound
move_name-requires-clause-sound g c = λ free.
    subst (λ x. IsSound (move_name (spot_of c.args.from.now) (spot_of c.args.to.now) c.args.moved x)) (sym c.in_ok-take_name.ensures) c.requires.sound

pub returns : goal.returns
returns g c =
    let free = subst (λ x. named x c.args.to.now.0 c.args.to.now.1 ≡ None) (sym c.in_ok-take_name.ensures) (place_freed c.args.self.now (spot_of c.args.to.now) c.args.there) in
    moved_there_free _ _ _ _ _ free c.in_ok-_free.ensures ∙ ap (move_name (spot_of c.args.from.now) (spot_of c.args.to.now) c.args.moved) c.in_ok-take_name.ensures
