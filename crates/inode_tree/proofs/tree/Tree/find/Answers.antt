-- Each way out of the walk.
use Rattle.std.proofs.Common.{◌≡◌, ◌≢◌, Some, None, length, rules}
use Rattle.std.proofs.lemmas.Result.{err_from_is_err_and}
use Rattle.send_model.specs.Subvolume.{named}
use Rattle.inode_tree.specs.Places.{spot_of}
use Rattle.inode_tree.proofs.Known.{walk_empty, walk_lost, walk_misses, walk_finds}
use Rattle.inode_tree.proofs.tree.Tree.find.Goals as goal

pub returns-then-is_empty : goal.returns-then-is_empty
returns-then-is_empty g c =
    let none : length c.args.path.now ≡ 0 = search rules in
    walk_empty c.args.self.now c.args.path.now none

pub returns-in_err-place : goal.returns-in_err-place
returns-in_err-place g c =
    let some : length c.args.path.now ≢ 0 = search rules in
    let p = err_from_is_err_and c.from_residual.result c.from_residual.ensures.1 in
    rw (p.1, p.2) (walk_lost c.args.self.now c.args.path.now some _ c.in_err-place.ensures)

pub returns-in-Some-named : goal.returns-in-Some-named
returns-in-Some-named g c =
    let place = c.in_ok-place.place in
    let there : named c.args.self.now place.0 place.1 ≡ Some c.in-Some-named.ino = search rules in
    walk_finds c.args.self.now c.args.path.now (spot_of place) c.in_ok-place.ensures c.in-Some-named.ino there

pub returns-in-None : goal.returns-in-None
returns-in-None g c =
    let place = c.in_ok-place.place in
    let none : named c.args.self.now place.0 place.1 ≡ None = search rules in
    walk_misses c.args.self.now c.args.path.now (spot_of place) c.in_ok-place.ensures none
