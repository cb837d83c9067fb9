use Rattle.std.specs.Prelude.{ℕ, List, Option, map}
use Rattle.std.specs.String.{string_bytes}
use Rattle.std.proofs.Common.{sym, subst}
use Rattle.sx_base.proofs.Asking.{asked_nothing, once_none}
use Rattle.send_model.specs.Store.{Store}
use Rattle.auditor.specs.Following.{HaveSameShape}
use Rattle.group_replay.specs.declared.place.Place.{Place}
use Rattle.group_replay.specs.Kept.{AreKept}
use Rattle.store_journal.specs.Standing.{with_bytes}
use Rattle.store_commands.specs.Ending.{audit_ways, EndCaused}
use Rattle.store_commands.proofs.Opened.{opening_stops}
use Rattle.store_commands.proofs.AuditAnswers.{same_shape}
use Rattle.store_commands.proofs.ExportAnswers.{map_some, not_exported, is_exported, no_promise, is_promised}
use Rattle.store_commands.proofs.exporting.export_store.Goals as goal

pub returns-in-Err-clause-answered : goal.returns-in-Err-clause-answered
returns-in-Err-clause-answered g c tells =
    not_exported _ _ (g.D.Disk.seen c.args.disk.now) (g.D.Disk.seen c.open.new.disk) c.args.given.now.overrides.now (c.open.ensures.seen tells) (g.O.Sink.taken c.args.out.now) _ c.in-Err.stop c.ended_by.result c.ended_by.ensures c.in-Err.ensures.not_refused
    c.in-Err.ensures.stops (c.in-Err.ensures.says tells)

pub returns-in-Err-clause-exported : goal.returns-in-Err-clause-exported
returns-in-Err-clause-exported g c tells =
    no_promise _ (map string_bytes c.args.given.now.files.now) (g.D.Disk.seen c.args.disk.now) c.args.given.now.overrides.now (g.O.Sink.taken c.args.out.now) c.in-Err.stop c.ended_by.result c.ended_by.ensures c.in-Err.ensures.not_refused

pub returns-in-Err-clause-cause : goal.returns-in-Err-clause-cause
returns-in-Err-clause-cause g c =
    subst (EndCaused audit_ways _ _ _ _) (sym c.ended_by.ensures) (opening_stops audit_ways _ _ _ _ c.in-Err.stop tt tt c.in-Err.ensures.not_refused c.in-Err.ensures.stops)

pub returns-clause-answered : goal.returns-clause-answered
returns-clause-answered g c tells =
    let seen : List ℕ = g.D.Disk.seen c.args.disk.now in
    let core = c.in-Ok.store.core in
    let shape : HaveSameShape c.into_core-core.result (with_bytes seen core) = subst (λ (s : Store (Option Place)). HaveSameShape s (with_bytes seen core)) (sym c.into_core-core.ensures.core) (same_shape seen core) in
    is_exported _ _ seen (g.D.Disk.seen c.open.new.disk) c.args.given.now.overrides.now (c.open.ensures.seen tells) _ _ (with_bytes seen core) c.export.result (c.in-Ok.ensures.says tells) (c.export.ensures.exported (with_bytes seen core) shape)

pub returns-clause-exported : goal.returns-clause-exported
returns-clause-exported g c tells =
    let seen : List ℕ = g.D.Disk.seen c.args.disk.now in
    let core = c.in-Ok.store.core in
    let shape : HaveSameShape c.into_core-core.result (with_bytes seen core) = subst (λ (s : Store (Option Place)). HaveSameShape s (with_bytes seen core)) (sym c.into_core-core.ensures.core) (same_shape seen core) in
    let kept : AreKept c.in-Ok.store.log.gate core = subst (λ (s : Store (Option Place)). AreKept c.in-Ok.store.log.gate s) c.into_core-core.ensures.core c.into_core-core.ensures.kept in
    is_promised _ _ seen c.args.given.now.overrides.now _ _ c.in-Ok.store.log.gate core c.export.result c.are_given.ensures.given (map_some string_bytes c.args.given.now.files.now c.requires.some) kept (c.in-Ok.ensures.says tells)
    (c.export.ensures.exported (with_bytes seen core) shape) (c.export.ensures.small (with_bytes seen core) shape)

pub returns-in-Err-clause-asked : goal.returns-in-Err-clause-asked
returns-in-Err-clause-asked g c = asked_nothing g.I.Inputs c.args.inputs.now (once_none (map string_bytes c.args.given.now.files.now))
