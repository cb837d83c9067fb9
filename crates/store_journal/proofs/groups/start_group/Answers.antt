use Rattle.std.proofs.Common.{[], sym, subst}
use Rattle.std.proofs.lemmas.Result.{err_from_is_err_and}
use Rattle.sx_base.proofs.DiskMoments.{joins}
use Rattle.group_log.specs.State.{LogState}
use Rattle.group_log.specs.Journal.{Rests}
use Rattle.store_journal.proofs.Stopped.{full_keeps, grown_rests}
use Rattle.store_journal.proofs.groups.start_group.Goals as goal

pub returns-in_err-append-clause-any_moment : goal.returns-in_err-append-clause-any_moment
returns-in_err-append-clause-any_moment g c tells header bodies rests =
    joins (c.body.ensures.any_moment tells header bodies rests) (c.append.ensures.any_moment tells header bodies [] (c.in_ok-body.ensures.grows tells header bodies rests))

pub returns-clause-any_moment : goal.returns-clause-any_moment
returns-clause-any_moment g c tells header bodies rests =
    joins (c.body.ensures.any_moment tells header bodies rests) (c.append.ensures.any_moment tells header bodies [] (c.in_ok-body.ensures.grows tells header bodies rests))

pub returns-clause-grows : goal.returns-clause-grows
returns-clause-grows g c tells header bodies rests = c.in_ok-append.ensures.grows tells header bodies [] (c.in_ok-body.ensures.grows tells header bodies rests)

pub returns-in_err-append-clause-held : goal.returns-in_err-append-clause-held
returns-in_err-append-clause-held g c tells header bodies rests =
    let p = err_from_is_err_and c.from_residual-in_err-append.result c.from_residual-in_err-append.ensures.1 in
    let grown = c.in_ok-body.ensures.grows tells header bodies rests in
    rw (p.1, p.2)
    (full_keeps (λ d. Rests header bodies c.append.new.self (g.D.Disk.seen d) (g.D.Disk.pending d)) c.body.new.disk c.append.new.disk _ _ _ _ c.in_err-append.field-0.0 c.in_err-append.ensures.full c.in_err-append.ensures.fault
    (subst (λ (l : LogState). Rests header bodies l (g.D.Disk.seen c.body.new.disk) (g.D.Disk.pending c.body.new.disk)) (sym c.in_err-append.ensures.kept) (grown_rests header bodies [] c.body.new.self c.body.new.self _ _ grown.behind grown)))
