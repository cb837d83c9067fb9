use Rattle.std.specs.Prelude.{ℕ, List, map}
use Rattle.std.specs.String.{string_bytes}
use Rattle.std.proofs.Common.{sym, subst}
use Rattle.sx_base.proofs.Asking.{asked_nothing, once_none}
use Rattle.sx_base.specs.Calls.{IfAllTold, Wrote}
use Rattle.sx_base.proofs.DiskMoments.{leaves_now}
use Rattle.store_journal.specs.Standing.{with_bytes}
use Rattle.store_commands.specs.Ending.{receive_ways, EndCaused}
use Rattle.store_commands.proofs.AuditAnswers.{same_shape}
use Rattle.store_commands.proofs.Opened.{opening_stops}
use Rattle.store_commands.proofs.ReceiveAnswers.{ReceiveSaid, ReceiveLeaves, MomentsLeave, not_received, none_left, none_moments, is_received, is_left, its_moments, receive_caused}
use Rattle.store_commands.proofs.receiving.receive_store.Goals as goal

-- ---- the store does not open

pub returns-in-Err-clause-answered : goal.returns-in-Err-clause-answered
returns-in-Err-clause-answered g c tells =
    not_received (g.I.Inputs.told c.args.inputs.now) (map string_bytes c.args.given.now.files.now) (g.D.Disk.seen c.args.disk.now) (g.D.Disk.seen c.open.new.disk) (g.G.Guarding.kept c.args.guards.now) c.args.given.now.overrides.now (g.O.Sink.taken c.args.out.now) _ c.in-Err.stop c.ended_by.result
    (c.open.ensures.seen tells) c.ended_by.ensures c.in-Err.ensures.not_refused c.in-Err.ensures.stops (c.in-Err.ensures.says tells)

pub returns-in-Err-clause-acknowledged : goal.returns-in-Err-clause-acknowledged
returns-in-Err-clause-acknowledged g c tells =
    none_left (g.I.Inputs.told c.args.inputs.now) (map string_bytes c.args.given.now.files.now) (g.D.Disk.seen c.args.disk.now) (g.D.Disk.seen c.open.new.disk) (g.G.Guarding.kept c.args.guards.now) c.args.given.now.overrides.now (g.D.Disk.pending c.args.disk.now) (g.D.Disk.pending c.open.new.disk) (g.O.Sink.taken c.args.out.now)
    (λ image is. leaves_now g.D.Disk.pending (c.open.ensures.any_moment tells) (λ image later is. g.met.D.Disk.counts_now c.open.new.disk (g.D.Disk.moment c.args.disk.now) image tells later is) image is)

pub returns-in-Err-clause-any_moment : goal.returns-in-Err-clause-any_moment
returns-in-Err-clause-any_moment g c tells =
    none_moments (g.I.Inputs.told c.args.inputs.now) (map string_bytes c.args.given.now.files.now) (g.D.Disk.seen c.args.disk.now) (g.D.Disk.seen c.open.new.disk) (g.G.Guarding.kept c.args.guards.now) c.args.given.now.overrides.now (g.D.Disk.pending c.args.disk.now) (c.open.ensures.any_moment tells)

pub returns-in-Err-clause-cause : goal.returns-in-Err-clause-cause
returns-in-Err-clause-cause g c =
    subst (EndCaused receive_ways _ _ _ _) (sym c.ended_by.ensures) (opening_stops receive_ways _ _ _ _ c.in-Err.stop tt tt c.in-Err.ensures.not_refused c.in-Err.ensures.stops)

-- ---- it opens

pub returns-clause-answered : goal.returns-clause-answered
returns-clause-answered g c tells =
    let seen : List ℕ = g.D.Disk.seen c.open.new.disk in
    let guards = g.G.Guarding.kept c.args.guards.now in
    let told = g.I.Inputs.told c.args.inputs.now in
    let names = map string_bytes c.args.given.now.files.now in
    let old = g.O.Sink.taken c.args.out.now in
    let new = g.O.Sink.taken c.receive.new.out in
    subst (λ (before : List ℕ). IfAllTold told names (λ files. Wrote old new (ReceiveSaid before (g.D.Disk.seen c.receive.new.disk) guards c.args.given.now.overrides.now c.ended_received.result files))) (c.open.ensures.seen tells)
    (is_received c.receiving_passes_states.ensures.lines g.D.Disk.tells tells g.D.Disk.seen g.D.Disk.pending c.open.new.disk c.receive.new.disk c.in-Ok.store c.receive.new.store (c.in-Ok.ensures.holds tells) told names guards c.args.given.now.overrides.now c.are_given.ensures.given c.receive.result c.ended_received.result old new
    c.ended_received.ensures (g.met.D.Disk.seen_is_image c.receive.new.disk tells) (c.receive.ensures.received (with_bytes seen c.in-Ok.store.core) (same_shape seen c.in-Ok.store.core)))

pub returns-clause-acknowledged : goal.returns-clause-acknowledged
returns-clause-acknowledged g c tells =
    let seen : List ℕ = g.D.Disk.seen c.open.new.disk in
    let guards = g.G.Guarding.kept c.args.guards.now in
    let told = g.I.Inputs.told c.args.inputs.now in
    let names = map string_bytes c.args.given.now.files.now in
    let old = g.O.Sink.taken c.args.out.now in
    let new = g.O.Sink.taken c.receive.new.out in
    subst (λ (before : List ℕ). IfAllTold told names (λ files. Wrote old new (ReceiveLeaves (g.D.Disk.pending c.args.disk.now) (g.D.Disk.pending c.receive.new.disk) before guards c.args.given.now.overrides.now files))) (c.open.ensures.seen tells)
    (is_left c.receiving_passes_states.ensures.lines g.D.Disk.tells tells g.D.Disk.seen g.D.Disk.pending c.open.new.disk c.receive.new.disk c.in-Ok.store c.receive.new.store (c.in-Ok.ensures.holds tells) told names guards c.args.given.now.overrides.now c.are_given.ensures.given (g.D.Disk.pending c.args.disk.now) c.receive.result old new
    (c.receive.ensures.received (with_bytes seen c.in-Ok.store.core) (same_shape seen c.in-Ok.store.core)))

pub returns-clause-any_moment : goal.returns-clause-any_moment
returns-clause-any_moment g c tells =
    let seen : List ℕ = g.D.Disk.seen c.open.new.disk in
    let guards = g.G.Guarding.kept c.args.guards.now in
    let told = g.I.Inputs.told c.args.inputs.now in
    let names = map string_bytes c.args.given.now.files.now in
    let h = c.in-Ok.ensures.holds tells in
    subst (λ (before : List ℕ). IfAllTold told names (MomentsLeave g.D.Disk.moment g.D.Disk.left_since c.args.disk.now c.receive.new.disk (g.D.Disk.pending c.args.disk.now) before guards c.args.given.now.overrides.now)) (c.open.ensures.seen tells)
    (its_moments c.receiving_passes_states.ensures.lines g.D.Disk.tells tells g.D.Disk.seen g.D.Disk.pending c.open.new.disk c.receive.new.disk c.in-Ok.store c.receive.new.store h told names guards c.args.given.now.overrides.now c.are_given.ensures.given (g.D.Disk.pending c.args.disk.now) (c.open.ensures.any_moment tells)
    (c.receive.ensures.any_moment tells h.header h.groups h.holds (with_bytes seen c.in-Ok.store.core) (same_shape seen c.in-Ok.store.core)))

pub returns-clause-cause : goal.returns-clause-cause
returns-clause-cause g c =
    let r = c.receive.ensures in
    subst (EndCaused receive_ways _ _ _ _) (sym c.ended_received.ensures)
    (receive_caused _ _ _ _ _ _ _ _ _ c.receive.result c.in-Ok.ensures.steady r.cause r.steady r.ends_steady r.out_steady r.disk_steady)

pub returns-in-Err-clause-asked : goal.returns-in-Err-clause-asked
returns-in-Err-clause-asked g c = asked_nothing g.I.Inputs c.args.inputs.now (once_none (map string_bytes c.args.given.now.files.now))
