-- The path leads to what moved there.
use Rattle.std.proofs.Common.{◌≡◌, Ok, true, false, subst, sym, rules}
use Rattle.send_model.specs.Subvolume.{is_directory, walk}
use Rattle.inode_tree.specs.Places.{spot_of}
use Rattle.inode_tree.proofs.FreePlaces.{if_free}
use Rattle.inode_tree.proofs.KnownEdits.{moved_there}
use Rattle.inode_tree.proofs.tree.Tree.move_to.Goals as goal

pub learn-requires : goal.learn-requires
learn-requires g c =
    let plain : is_directory c.args.self.now c.args.moved ≡ false = search rules in
    let was_free : c.in_ok-free.free ≡ true = search rules in
    let moves = if_free _ _ _ _ _ was_free c.in_ok-free.ensures in
    subst (λ s. walk s c.args.path_to.now ≡ Ok c.args.moved) (sym moves.1)
    (moved_there c.args.self.now c.args.path_to.now (spot_of c.args.from.now) (spot_of c.args.to.now) c.args.moved c.requires.at c.requires.there moves.0 plain)
