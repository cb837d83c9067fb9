use Rattle.std.specs.Prelude.{length}
use Rattle.std.proofs.Common.{inl, []}
use Rattle.std.proofs.lemmas.Result.{err_from_is_err_and}
use Rattle.sx_base.proofs.DiskMoments.{joins, weakens}
use Rattle.group_log.specs.Journal.{Rests}
use Rattle.store_journal.specs.Filling.{first_full, group_asks}
use Rattle.store_journal.proofs.Stopped.{full_keeps, grown_rests, whether_full}
use Rattle.store_journal.proofs.groups.write_group.Goals as goal

pub returns-in_err-body-clause-any_moment : goal.returns-in_err-body-clause-any_moment
returns-in_err-body-clause-any_moment g c tells header bodies rests = weakens (c.body.ensures.any_moment tells header bodies rests) (λ image has. inl has)

pub returns-in_err-append-clause-any_moment : goal.returns-in_err-append-clause-any_moment
returns-in_err-append-clause-any_moment g c tells header bodies rests =
    let begun = weakens (c.body.ensures.any_moment tells header bodies rests) (λ image has. inl has) in
    let empty = c.in_ok-body.ensures.grows tells header bodies rests in
    joins begun (weakens (c.append.ensures.any_moment tells header bodies [] empty) (λ image has. inl has))

pub returns-in_err-prepare-clause-any_moment : goal.returns-in_err-prepare-clause-any_moment
returns-in_err-prepare-clause-any_moment g c tells header bodies rests =
    let begun = weakens (c.body.ensures.any_moment tells header bodies rests) (λ image has. inl has) in
    let empty = c.in_ok-body.ensures.grows tells header bodies rests in
    let filled = c.in_ok-append.ensures.grows tells header bodies [] empty in
    joins (joins begun (weakens (c.append.ensures.any_moment tells header bodies [] empty) (λ image has. inl has)))
    (weakens (c.prepare.ensures.any_moment tells header bodies _ filled) (λ image has. inl has))

pub returns-clause-any_moment : goal.returns-clause-any_moment
returns-clause-any_moment g c tells header bodies rests =
    let begun = weakens (c.body.ensures.any_moment tells header bodies rests) (λ image has. inl has) in
    let empty = c.in_ok-body.ensures.grows tells header bodies rests in
    let filled = c.in_ok-append.ensures.grows tells header bodies [] empty in
    joins (joins (joins begun (weakens (c.append.ensures.any_moment tells header bodies [] empty) (λ image has. inl has)))
    (weakens (c.prepare.ensures.any_moment tells header bodies _ filled) (λ image has. inl has)))
    (c.publish.ensures.any_moment tells header bodies _ (c.in_ok-prepare.ensures.ready tells header bodies _ filled))

pub returns-clause-rests : goal.returns-clause-rests
returns-clause-rests g c tells header bodies rests =
    c.publish.ensures.rests tells header bodies _
    (c.in_ok-prepare.ensures.ready tells header bodies _ (c.in_ok-append.ensures.grows tells header bodies [] (c.in_ok-body.ensures.grows tells header bodies rests)))

-- Before the group is prepared there are the groups that there were.
pub returns-in_err-append-clause-held : goal.returns-in_err-append-clause-held
returns-in_err-append-clause-held g c tells header bodies rests =
    let p = err_from_is_err_and c.from_residual-in_err-append.result c.from_residual-in_err-append.ensures.1 in
    let grown = c.in_ok-body.ensures.grows tells header bodies rests in
    rw (p.1, p.2)
    (full_keeps (λ d. Rests header bodies c.args.log.now (g.D.Disk.seen d) (g.D.Disk.pending d)) c.body.new.disk c.append.new.disk _ _ _ _ c.in_err-append.field-0.0 c.in_err-append.ensures.full c.in_err-append.ensures.fault
    (grown_rests header bodies [] c.args.log.now c.body.new.self _ _ rests.behind grown))

pub returns-in_err-body-clause-no_room : goal.returns-in_err-body-clause-no_room
returns-in_err-body-clause-no_room g c tells header bodies rests = whether_full _ (first_full c.args.log.now.limit (group_asks c.args.log.now.gate (length c.args.bytes.now))) (c.body.ensures.any_moment tells header bodies rests)

pub returns-in_err-append-clause-no_room : goal.returns-in_err-append-clause-no_room
returns-in_err-append-clause-no_room g c tells header bodies rests =
    whether_full _ (first_full c.args.log.now.limit (group_asks c.args.log.now.gate (length c.args.bytes.now)))
    (joins (c.body.ensures.any_moment tells header bodies rests) (c.append.ensures.any_moment tells header bodies [] (c.in_ok-body.ensures.grows tells header bodies rests)))
