-- Each way out of the walk.
use Rattle.std.proofs.Common.{◌≡◌, ◌≢◌, Some, None, Ok, length, rules, sym, subst}
use Rattle.std.proofs.lemmas.Result.{err_from_is_err_and}
use Rattle.send_model.specs.Subvolume.{named, walk}
use Rattle.inode_tree.specs.Places.{spot_of}
use Rattle.inode_tree.proofs.Known.{walk_empty, walk_lost, walk_misses, walk_finds}
use Rattle.inode_tree.proofs.tree.Tree.reach.Goals as goal

pub returns-then-is_empty-clause-found : goal.returns-then-is_empty-clause-found
returns-then-is_empty-clause-found g c =
    let none : length c.args.path.now ≡ 0 = search rules in
    walk_empty c.args.self.now c.args.path.now none

pub returns-in_err-place-clause-found : goal.returns-in_err-place-clause-found
returns-in_err-place-clause-found g c =
    let some : length c.args.path.now ≢ 0 = search rules in
    let p = err_from_is_err_and c.from_residual.result c.from_residual.ensures.1 in
    rw (p.1, p.2) (walk_lost c.args.self.now c.args.path.now some _ c.in_err-place.ensures.found)

pub returns-in_default-named-clause-found : goal.returns-in_default-named-clause-found
returns-in_default-named-clause-found g c =
    let place = c.in_ok-place.place in
    let none : named c.place.new.self place.0 place.1 ≡ None = search rules in
    walk_misses c.args.self.now c.args.path.now (spot_of place) c.in_ok-place.ensures.found (subst (λ s. named s place.0 place.1 ≡ None) c.in_ok-place.ensures.same none)

pub learn-requires : goal.learn-requires
learn-requires g c =
    let place = c.in_ok-place.place in
    let same = c.in_ok-place.ensures.same in
    let there : named c.place.new.self place.0 place.1 ≡ Some c.in-Some-named.ino = search rules in
    subst (λ s. walk s c.args.path.now ≡ Ok c.in-Some-named.ino) (sym same)
    (walk_finds c.args.self.now c.args.path.now (spot_of place) c.in_ok-place.ensures.found c.in-Some-named.ino (subst (λ s. named s place.0 place.1 ≡ Some c.in-Some-named.ino) same there))

pub returns-clause-found : goal.returns-clause-found
returns-clause-found g c =
    let place = c.in_ok-place.place in
    let same = c.in_ok-place.ensures.same in
    let there : named c.place.new.self place.0 place.1 ≡ Some c.in-Some-named.ino = search rules in
    walk_finds c.args.self.now c.args.path.now (spot_of place) c.in_ok-place.ensures.found c.in-Some-named.ino (subst (λ s. named s place.0 place.1 ≡ Some c.in-Some-named.ino) same there)
