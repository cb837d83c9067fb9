-- Each way out of the walk to a place.
use Rattle.std.proofs.Common.{◌≡◌, true, false, sym, ap, ◌∙◌, rules}
use Rattle.std.proofs.lemmas.Result.{err_from_is_err_and}
use Rattle.send_model.specs.Subvolume.{is_directory}
use Rattle.inode_tree.specs.Places.{spot_from}
use Rattle.inode_tree.specs.Walked.{spot_below}
use Rattle.inode_tree.proofs.Walks.{spot_goes_on, spot_stops, spot_ends_there, spot_ends_nowhere}
use Rattle.inode_tree.proofs.tree.Tree.spot.Goals as goal

pub returns-in_default-next : goal.returns-in_default-next
returns-in_default-next g c = c.in_ok-start.ensures ∙ ap (spot_below c.args.self.now c.in_ok-start.start) c.in_default-next.ensures.steps.0

pub loop-further-init : goal.loop-further-init
loop-further-init g c =
    let s = c.args.self.now in
    c.in_ok-start.ensures ∙ ap (spot_below s c.in_ok-start.start) c.in-Some-next.ensures.steps
    ∙ ap (spot_from s c.in_ok-start.start c.in-Some-next.name.now) (sym c.into_iter-further-iterator.ensures.into_iter_gives)

pub returns-in_err-directory : goal.returns-in_err-directory
returns-in_err-directory g c =
    let s = c.args.self.now in
    let p = err_from_is_err_and c.from_residual-in_err-directory.result c.from_residual-in_err-directory.ensures.1 in
    rw (p.1, p.2) (c.loop-further.invariant ∙ ap (spot_from s c.loop-further.directory c.loop-further.name.now) c.in-Some-further.ensures.steps
    ∙ spot_stops s c.loop-further.directory c.loop-further.name.now c.in-Some-further.further.now c.next-in-loop-further.new.self _ c.in_err-directory.ensures)

pub loop-further-preserved : goal.loop-further-preserved
loop-further-preserved g c =
    let s = c.args.self.now in
    c.loop-further.invariant ∙ ap (spot_from s c.loop-further.directory c.loop-further.name.now) c.in-Some-further.ensures.steps
    ∙ spot_goes_on s c.loop-further.directory c.loop-further.name.now c.in-Some-further.further.now c.next-in-loop-further.new.self c.in_ok-directory.directory c.in_ok-directory.ensures

pub returns-then-not-is_directory : goal.returns-then-not-is_directory
returns-then-not-is_directory g c =
    let s = c.args.self.now in
    let none : is_directory s c.loop-further.directory ≡ false = search rules in
    c.loop-further.invariant ∙ ap (spot_from s c.loop-further.directory c.loop-further.name.now) c.in-None.ensures.steps.0
    ∙ spot_ends_nowhere s c.loop-further.directory c.loop-further.name.now none

pub returns : goal.returns
returns g c =
    let s = c.args.self.now in
    let there : is_directory s c.loop-further.directory ≡ true = search rules in
    rw c.new.ensures (c.loop-further.invariant ∙ ap (spot_from s c.loop-further.directory c.loop-further.name.now) c.in-None.ensures.steps.0
    ∙ spot_ends_there s c.loop-further.directory c.loop-further.name.now there)
