-- The bytes in front of the name lead to its directory.
use Rattle.std.proofs.Common.{◌-◌, length, take, subst, sym}
use Rattle.inode_tree.specs.Places.{spot_of}
use Rattle.inode_tree.specs.Walked.{IsFront}
use Rattle.inode_tree.proofs.Known.{place_front}
use Rattle.inode_tree.proofs.KnownEdits.{front_remembered}
use Rattle.inode_tree.proofs.tree.Tree.place.Goals as goal

pub slice_bounds-front-count : goal.slice_bounds-front-count
slice_bounds-front-count g c =
    let front = place_front c.args.self.now c.args.path.now (spot_of c.in_ok-place.place) c.in_ok-place.ensures in
    rw c.name.ensures front.0

pub invariant_of-self : goal.invariant_of-self
invariant_of-self g c =
    let front = place_front c.args.self.now c.args.path.now (spot_of c.in_ok-place.place) c.in_ok-place.ensures in
    let cut = subst (λ n. IsFront c.args.self.now (take (length c.args.path.now - length n) c.args.path.now) c.in_ok-place.place.0) (sym c.name.ensures) front.1 in
    let is = subst (λ d. IsFront c.args.self.now (take (length c.args.path.now - length c.name.result.now) c.args.path.now) d) (sym c.directory.ensures) cut in
    front_remembered c.self.inside.whole _ _ c.self.view_is c.self.inside.further c.self.inside.last c.learn_front.new.self _ c.directory.result c.self.invariant is c.learn_front.ensures
