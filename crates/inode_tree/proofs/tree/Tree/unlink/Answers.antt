-- What is taken from the place of a path.
use Rattle.std.proofs.lemmas.Result.{err_from_is_err_and}
use Rattle.inode_tree.specs.Places.{spot_of}
use Rattle.inode_tree.proofs.EditSteps.{unlink_nowhere}
use Rattle.inode_tree.proofs.PlainSteps.{unlink_placed}
use Rattle.inode_tree.proofs.tree.Tree.unlink.Goals as goal

pub returns-in_err-place : goal.returns-in_err-place
returns-in_err-place g c =
    let p = err_from_is_err_and c.from_residual.result c.from_residual.ensures.1 in
    rw (p.1, p.2) (unlink_nowhere c.args.self.now c.args.path.now _ c.in_err-place.ensures.found, c.in_err-place.ensures.same)

pub returns : goal.returns
returns g c = unlink_placed c.take_plain.result c.place.new.self c.args.self.now c.in_ok-place.ensures.same c.take_plain.new.self c.args.path.now (spot_of c.in_ok-place.place) c.in_ok-place.ensures.found c.take_plain.ensures
