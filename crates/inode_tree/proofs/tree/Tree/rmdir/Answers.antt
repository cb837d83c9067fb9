-- Each way out of an rmdir.
use Rattle.std.proofs.Common.{◌≡◌, Some, None, Ok, true, false, ap, ◌∙◌, rules, sym}
use Rattle.std.proofs.lemmas.Result.{err_from_is_err_and}
use Rattle.send_model.specs.Subvolume.{named, is_directory, is_empty_directory}
use Rattle.send_model.proofs.SoundEdits.{empty_is_leaf}
use Rattle.inode_tree.specs.Places.{spot_of}
use Rattle.inode_tree.proofs.EditSteps.{rmdir_nowhere, rmdir_absent, rmdir_plain, rmdir_full, rmdir_made}
use Rattle.inode_tree.proofs.tree.Tree.rmdir.Goals as goal

pub returns-in_err-place : goal.returns-in_err-place
returns-in_err-place g c =
    let p = err_from_is_err_and c.from_residual.result c.from_residual.ensures.1 in
    rw (p.1, p.2) (rmdir_nowhere c.args.self.now c.args.path.now _ c.in_err-place.ensures.found, c.in_err-place.ensures.same)

pub returns-in_default : goal.returns-in_default
returns-in_default g c =
    let place = c.in_ok-place.place in
    let same = c.in_ok-place.ensures.same in
    let absent : named c.place.new.self place.0 place.1 ≡ None = search rules in
    (rmdir_absent c.args.self.now c.args.path.now c.place.new.self same (spot_of place) c.in_ok-place.ensures.found absent, same)

pub returns-then-not-is_directory : goal.returns-then-not-is_directory
returns-then-not-is_directory g c =
    let place = c.in_ok-place.place in
    let same = c.in_ok-place.ensures.same in
    let there : named c.place.new.self place.0 place.1 ≡ Some c.in-Some.ino = search rules in
    let d : is_directory c.place.new.self c.in-Some.ino ≡ false = search rules in
    (rmdir_plain c.args.self.now c.args.path.now c.place.new.self same (spot_of place) c.in_ok-place.ensures.found c.in-Some.ino there d, same)

pub returns-then-not-is_empty : goal.returns-then-not-is_empty
returns-then-not-is_empty g c =
    let place = c.in_ok-place.place in
    let same = c.in_ok-place.ensures.same in
    let there : named c.place.new.self place.0 place.1 ≡ Some c.in-Some.ino = search rules in
    let d : is_directory c.place.new.self c.in-Some.ino ≡ true = search rules in
    let full : is_empty_directory c.place.new.self c.in-Some.ino ≡ false = search rules in
    (rmdir_full c.args.self.now c.args.path.now c.place.new.self same (spot_of place) c.in_ok-place.ensures.found c.in-Some.ino there d full, same)

pub take_name-requires-clause-leaf : goal.take_name-requires-clause-leaf
take_name-requires-clause-leaf g c =
    let empty : is_empty_directory c.place.new.self c.in-Some.ino ≡ true = search rules in
    empty_is_leaf c.place.new.self c.in-Some.ino empty

pub returns : goal.returns
returns g c =
    let place = c.in_ok-place.place in
    let same = c.in_ok-place.ensures.same in
    let there : named c.place.new.self place.0 place.1 ≡ Some c.in-Some.ino = search rules in
    let d : is_directory c.place.new.self c.in-Some.ino ≡ true = search rules in
    let empty : is_empty_directory c.place.new.self c.in-Some.ino ≡ true = search rules in
    rmdir_made c.args.self.now c.args.path.now c.place.new.self same (spot_of place) c.in_ok-place.ensures.found c.in-Some.ino there d empty ∙ ap Ok (sym c.in_ok-take_name.ensures)
