-- What a head leaves.
use Rattle.std.proofs.lemmas.Result.{err_from_is_err_and}
use Rattle.clone_resolve.specs.declared.done.Done.{Done}
use Rattle.clone_resolve.specs.Heads.{head_meant}
use Rattle.clone_resolve.proofs.StepLaws.{enter_stops, enter_taken, enter_fits}
use Rattle.clone_resolve.proofs.edit_core.EditCore.enter.Goals as goal

pub returns-in_err-begun-clause-entered : goal.returns-in_err-begun-clause-entered
returns-in_err-begun-clause-entered g c =
    let p = err_from_is_err_and c.from_residual.result c.from_residual.ensures.1 in
    rw (p.1, p.2, c.complete_open.ensures.none) (enter_stops Done c.in_err-begun.field-0.0 _ c.complete_open.new.self c.begin_head.new.self (head_meant c.args.head.now) c.complete_open.ensures.complete c.in_err-begun.ensures)

pub returns-clause-fits : goal.returns-clause-fits
returns-clause-fits g c = let a = c.in_ok-begun.ensures in enter_fits c.complete_open.new.self c.begin_head.new.self (head_meant c.args.head.now) c.in_ok-begun.begun a.1 a.2

pub returns-clause-entered : goal.returns-clause-entered
returns-clause-entered g c =
    let a = c.in_ok-begun.ensures in
    enter_taken _ c.complete_open.new.self c.begin_head.new.self (head_meant c.args.head.now) c.in_ok-begun.begun c.complete_open.ensures.complete a.0 a.1 a.2
