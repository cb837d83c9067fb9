use Rattle.std.specs.Prelude.{ℕ, List, Option, [], ◌∷◌}
use Rattle.std.proofs.Common.{refl, sym, subst}
use Rattle.sx_base.proofs.Asking.{asked_nothing, once_none}
use Rattle.send_model.specs.Store.{Store}
use Rattle.send_model.specs.Outside.{keys_outside, FindsLawful}
use Rattle.sx_base.specs.Calls.{Wrote}
use Rattle.cmd_reader.specs.Places.{IfTold}
use Rattle.squash_model.specs.SquashDues.{own_base}
use Rattle.squasher.specs.Judging.{HaveSameShape, read_with}
use Rattle.squasher.specs.Squashing.{SquashEnds}
use Rattle.group_replay.specs.declared.place.Place.{Place}
use Rattle.store_journal.specs.Standing.{with_bytes}
use Rattle.store_commands.specs.Ending.{audit_ways, EndCaused}
use Rattle.store_commands.proofs.Opened.{opening_stops}
use Rattle.store_commands.proofs.AuditAnswers.{same_shape}
use Rattle.store_compose.proofs.SquashAnswers.{not_squashed, nothing_squashed, is_squashed, is_promised}
use Rattle.store_compose.proofs.squashing.squash_store.Goals as goal

pub returns-in-Err-clause-answered : goal.returns-in-Err-clause-answered
returns-in-Err-clause-answered g c tells =
    not_squashed _ c.args.file.now.name.now (g.D.Disk.seen c.args.disk.now) (g.D.Disk.seen c.open.new.disk) c.args.file.now.said.now (c.open.ensures.seen tells) (g.O.Sink.taken c.args.out.now) _ c.in-Err.stop c.ended_by.result c.ended_by.ensures c.in-Err.ensures.not_refused
    c.in-Err.ensures.stops (c.in-Err.ensures.says tells)

pub returns-in-Err-clause-squashed : goal.returns-in-Err-clause-squashed
returns-in-Err-clause-squashed g c tells =
    nothing_squashed _ c.args.file.now.name.now (g.D.Disk.seen c.args.disk.now) (g.D.Disk.seen c.open.new.disk) c.args.file.now.said.now (c.open.ensures.seen tells) (g.O.Sink.taken c.args.out.now) c.in-Err.stop c.ended_by.result c.ended_by.ensures c.in-Err.ensures.not_refused

pub returns-in-Err-clause-cause : goal.returns-in-Err-clause-cause
returns-in-Err-clause-cause g c =
    subst (EndCaused audit_ways _ _ _ _) (sym c.ended_by.ensures) (opening_stops audit_ways _ _ _ _ c.in-Err.stop tt tt c.in-Err.ensures.not_refused c.in-Err.ensures.stops)

pub returns-in-Err-clause-asked : goal.returns-in-Err-clause-asked
returns-in-Err-clause-asked g c =
    let names : List (List ℕ) = c.args.file.now.name.now ∷ [] in
    asked_nothing g.I.Inputs c.args.inputs.now ([], [], refl, once_none names, record { once = once_none names; ranges = tt })

pub returns-clause-answered : goal.returns-clause-answered
returns-clause-answered g c tells =
    let seen : List ℕ = g.D.Disk.seen c.args.disk.now in
    let core = c.in-Ok.store.core in
    let shape : HaveSameShape c.into_core-core.result (with_bytes seen core) = subst (λ (s : Store (Option Place)). HaveSameShape s (with_bytes seen core)) (sym c.into_core-core.ensures.core) (same_shape seen core) in
    is_squashed _ c.args.file.now.name.now seen (g.D.Disk.seen c.open.new.disk) c.args.file.now.said.now (c.open.ensures.seen tells) _ _ (with_bytes seen core) (c.in-Ok.ensures.says tells) c.squash.result
    (subst (λ (n : ℕ). IfTold (g.I.Inputs.told c.args.inputs.now) c.args.file.now.name.now (λ bytes. FindsLawful (own_base (with_bytes seen core) (read_with c.args.file.now.said.now n bytes).items) (keys_outside (read_with c.args.file.now.said.now n bytes).items)
    → Wrote (g.O.Sink.taken c.args.out.now) (g.O.Sink.taken c.squash.new.out) (SquashEnds (own_base (with_bytes seen core) (read_with c.args.file.now.said.now n bytes).items) (read_with c.args.file.now.said.now n bytes) c.squash.result))) c.requires.first (c.squash.ensures.squashed (with_bytes seen core) shape)) _ _ _ _ c.squash.ensures.cause

pub returns-clause-squashed : goal.returns-clause-squashed
returns-clause-squashed g c tells =
    let seen : List ℕ = g.D.Disk.seen c.args.disk.now in
    let core = c.in-Ok.store.core in
    let shape : HaveSameShape c.into_core-core.result (with_bytes seen core) = subst (λ (s : Store (Option Place)). HaveSameShape s (with_bytes seen core)) (sym c.into_core-core.ensures.core) (same_shape seen core) in
    is_promised _ c.args.file.now.name.now seen (g.D.Disk.seen c.open.new.disk) c.args.file.now.said.now (c.open.ensures.seen tells) _ _ (with_bytes seen core) (c.in-Ok.ensures.says tells) c.squash.result
    (subst (λ (n : ℕ). IfTold (g.I.Inputs.told c.args.inputs.now) c.args.file.now.name.now (λ bytes. FindsLawful (own_base (with_bytes seen core) (read_with c.args.file.now.said.now n bytes).items) (keys_outside (read_with c.args.file.now.said.now n bytes).items)
    → Wrote (g.O.Sink.taken c.args.out.now) (g.O.Sink.taken c.squash.new.out) (SquashEnds (own_base (with_bytes seen core) (read_with c.args.file.now.said.now n bytes).items) (read_with c.args.file.now.said.now n bytes) c.squash.result))) c.requires.first (c.squash.ensures.squashed (with_bytes seen core) shape))
