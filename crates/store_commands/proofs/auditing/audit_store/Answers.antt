use Rattle.std.specs.Prelude.{ℕ, List, Option, map}
use Rattle.std.specs.String.{string_bytes}
use Rattle.std.proofs.Common.{sym, subst}
use Rattle.sx_base.proofs.Asking.{asked_nothing, once_none}
use Rattle.send_model.specs.Store.{Store}
use Rattle.auditor.specs.Following.{HaveSameShape}
use Rattle.group_replay.specs.declared.place.Place.{Place}
use Rattle.store_journal.specs.Standing.{with_bytes}
use Rattle.store_commands.specs.Ending.{audit_ways, EndCaused}
use Rattle.store_commands.proofs.Opened.{opening_stops}
use Rattle.store_commands.proofs.AuditAnswers.{same_shape, not_audited, is_audited}
use Rattle.store_commands.proofs.auditing.audit_store.Goals as goal

pub returns-in-Err-clause-answered : goal.returns-in-Err-clause-answered
returns-in-Err-clause-answered g c tells =
    not_audited _ _ (g.D.Disk.seen c.args.disk.now) (g.D.Disk.seen c.open.new.disk) c.args.given.now.overrides.now _ (c.open.ensures.seen tells) (g.O.Sink.taken c.args.out.now) _ c.in-Err.stop c.ended_by.result c.ended_by.ensures c.in-Err.ensures.not_refused
    c.in-Err.ensures.stops (c.in-Err.ensures.says tells)

pub returns-in-Err-clause-cause : goal.returns-in-Err-clause-cause
returns-in-Err-clause-cause g c =
    subst (EndCaused audit_ways _ _ _ _) (sym c.ended_by.ensures) (opening_stops audit_ways _ _ _ _ c.in-Err.stop tt tt c.in-Err.ensures.not_refused c.in-Err.ensures.stops)

pub returns-clause-answered : goal.returns-clause-answered
returns-clause-answered g c tells =
    let seen : List ℕ = g.D.Disk.seen c.args.disk.now in
    let core = c.in-Ok.store.core in
    let shape : HaveSameShape c.into_core-core.result (with_bytes seen core) = subst (λ (s : Store (Option Place)). HaveSameShape s (with_bytes seen core)) (sym c.into_core-core.ensures.core) (same_shape seen core) in
    is_audited _ _ seen (g.D.Disk.seen c.open.new.disk) c.args.given.now.overrides.now _ (c.open.ensures.seen tells) _ _ (with_bytes seen core) c.audit.result (c.in-Ok.ensures.says tells) (c.audit.ensures.audited (with_bytes seen core) shape)

pub returns-in-Err-clause-asked : goal.returns-in-Err-clause-asked
returns-in-Err-clause-asked g c = asked_nothing g.I.Inputs c.args.inputs.now (once_none (map string_bytes c.args.given.now.files.now))
