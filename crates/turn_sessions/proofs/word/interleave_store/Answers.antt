use Rattle.std.specs.Prelude.{ℕ, List, map}
use Rattle.std.specs.String.{string_bytes}
use Rattle.std.proofs.Common.{sym, subst}
use Rattle.sx_base.specs.Calls.{IfAllTold, Wrote}
use Rattle.sx_base.proofs.Asking.{asked_nothing, turn_none}
use Rattle.sx_base.proofs.DiskMoments.{leaves_now}
use Rattle.store_journal.specs.Standing.{with_bytes}
use Rattle.store_commands.specs.Ending.{receive_ways, EndCaused}
use Rattle.store_commands.proofs.AuditAnswers.{same_shape}
use Rattle.store_commands.proofs.Opened.{opening_stops}
use Rattle.store_commands.proofs.ReceiveAnswers.{receive_caused}
use Rattle.turn_sessions.specs.Asked.{unread}
use Rattle.turn_sessions.specs.Ends.{places_of}
use Rattle.turn_sessions.proofs.Answering.{TurnsSaid, TurnsLeave, MomentsLeave, not_turned, none_left, none_moments, is_turned, is_left, its_moments}
use Rattle.turn_sessions.proofs.word.interleave_store.Goals as goal

-- ---- the store does not open

pub returns-in-Err-clause-asked : goal.returns-in-Err-clause-asked
returns-in-Err-clause-asked g c = asked_nothing g.I.Inputs c.args.inputs.now (map unread (map string_bytes c.args.task.now.files.now), turn_none (map unread (map string_bytes c.args.task.now.files.now)))

pub returns-in-Err-clause-answered : goal.returns-in-Err-clause-answered
returns-in-Err-clause-answered g c tells all shares own =
    not_turned (places_of c.args.task.now.schedule.now) all shares (g.I.Inputs.told c.args.inputs.now) (map string_bytes c.args.task.now.files.now) (g.D.Disk.seen c.args.disk.now) (g.D.Disk.seen c.open.new.disk) (g.O.Sink.taken c.args.out.now) _ c.in-Err.stop c.ended_open.result
    (c.open.ensures.seen tells) c.ended_open.ensures c.in-Err.ensures.not_refused c.in-Err.ensures.stops (c.in-Err.ensures.says tells)

pub returns-in-Err-clause-acknowledged : goal.returns-in-Err-clause-acknowledged
returns-in-Err-clause-acknowledged g c tells all shares own =
    none_left (places_of c.args.task.now.schedule.now) all shares (g.I.Inputs.told c.args.inputs.now) (map string_bytes c.args.task.now.files.now) (g.D.Disk.seen c.args.disk.now) (g.D.Disk.seen c.open.new.disk) (g.D.Disk.pending c.args.disk.now) (g.D.Disk.pending c.open.new.disk) (g.O.Sink.taken c.args.out.now)
    (λ image is. leaves_now g.D.Disk.pending (c.open.ensures.any_moment tells) (λ image later is. g.met.D.Disk.counts_now c.open.new.disk (g.D.Disk.moment c.args.disk.now) image tells later is) image is)

pub returns-in-Err-clause-any_moment : goal.returns-in-Err-clause-any_moment
returns-in-Err-clause-any_moment g c tells all shares own =
    none_moments (places_of c.args.task.now.schedule.now) all shares (g.I.Inputs.told c.args.inputs.now) (map string_bytes c.args.task.now.files.now) (g.D.Disk.seen c.args.disk.now) (g.D.Disk.seen c.open.new.disk) (g.D.Disk.pending c.args.disk.now) (c.open.ensures.any_moment tells)

pub returns-in-Err-clause-cause : goal.returns-in-Err-clause-cause
returns-in-Err-clause-cause g c =
    subst (EndCaused receive_ways _ _ _ _) (sym c.ended_open.ensures) (opening_stops receive_ways _ _ _ _ c.in-Err.stop tt tt c.in-Err.ensures.not_refused c.in-Err.ensures.stops)

-- ---- it opens

pub returns-clause-answered : goal.returns-clause-answered
returns-clause-answered g c tells all shares own =
    let seen : List ℕ = g.D.Disk.seen c.open.new.disk in
    let told = g.I.Inputs.told c.args.inputs.now in
    let names = map string_bytes c.args.task.now.files.now in
    let old = g.O.Sink.taken c.args.out.now in
    let new = g.O.Sink.taken c.interleave.new.out in
    subst (λ (before : List ℕ). IfAllTold told names (λ files. Wrote old new (TurnsSaid (places_of c.args.task.now.schedule.now) all shares before (g.D.Disk.seen c.interleave.new.disk) c.ended_received.result files))) (c.open.ensures.seen tells)
    (is_turned (places_of c.args.task.now.schedule.now) all shares c.receiving_passes_states.ensures.lines g.D.Disk.tells tells g.D.Disk.seen g.D.Disk.pending c.open.new.disk c.interleave.new.disk c.in-Ok.store c.interleave.new.store (c.in-Ok.ensures.holds tells) told names c.interleave.result c.ended_received.result old new
    c.ended_received.ensures (g.met.D.Disk.seen_is_image c.interleave.new.disk tells) (c.interleave.ensures.interleaved (with_bytes seen c.in-Ok.store.core) (same_shape seen c.in-Ok.store.core) all shares own))

pub returns-clause-acknowledged : goal.returns-clause-acknowledged
returns-clause-acknowledged g c tells all shares own =
    let seen : List ℕ = g.D.Disk.seen c.open.new.disk in
    let told = g.I.Inputs.told c.args.inputs.now in
    let names = map string_bytes c.args.task.now.files.now in
    let old = g.O.Sink.taken c.args.out.now in
    let new = g.O.Sink.taken c.interleave.new.out in
    subst (λ (before : List ℕ). IfAllTold told names (λ files. Wrote old new (TurnsLeave (places_of c.args.task.now.schedule.now) all shares (g.D.Disk.pending c.args.disk.now) (g.D.Disk.pending c.interleave.new.disk) before files))) (c.open.ensures.seen tells)
    (is_left (places_of c.args.task.now.schedule.now) all shares c.receiving_passes_states.ensures.lines g.D.Disk.tells tells g.D.Disk.seen g.D.Disk.pending c.open.new.disk c.interleave.new.disk c.in-Ok.store c.interleave.new.store (c.in-Ok.ensures.holds tells) told names (g.D.Disk.pending c.args.disk.now) c.interleave.result old new
    (c.interleave.ensures.interleaved (with_bytes seen c.in-Ok.store.core) (same_shape seen c.in-Ok.store.core) all shares own))

pub returns-clause-any_moment : goal.returns-clause-any_moment
returns-clause-any_moment g c tells all shares own =
    let seen : List ℕ = g.D.Disk.seen c.open.new.disk in
    let told = g.I.Inputs.told c.args.inputs.now in
    let names = map string_bytes c.args.task.now.files.now in
    let h = c.in-Ok.ensures.holds tells in
    subst (λ (before : List ℕ). IfAllTold told names (MomentsLeave (places_of c.args.task.now.schedule.now) all shares g.D.Disk.moment g.D.Disk.left_since c.args.disk.now c.interleave.new.disk (g.D.Disk.pending c.args.disk.now) before)) (c.open.ensures.seen tells)
    (its_moments (places_of c.args.task.now.schedule.now) all shares c.receiving_passes_states.ensures.lines g.D.Disk.tells tells g.D.Disk.seen g.D.Disk.pending c.open.new.disk c.interleave.new.disk c.in-Ok.store c.interleave.new.store h told names (g.D.Disk.pending c.args.disk.now) (c.open.ensures.any_moment tells)
    (c.interleave.ensures.any_moment tells h.header h.groups h.holds (with_bytes seen c.in-Ok.store.core) (same_shape seen c.in-Ok.store.core) all shares own))

pub returns-clause-cause : goal.returns-clause-cause
returns-clause-cause g c =
    let r = c.interleave.ensures in
    subst (EndCaused receive_ways _ _ _ _) (sym c.ended_received.ensures)
    (receive_caused (g.D.Disk.faults c.args.disk.now) (g.D.Disk.faults c.open.new.disk) (g.D.Disk.faults c.interleave.new.disk)
    (g.I.Inputs.faults c.args.inputs.now) (g.I.Inputs.faults c.interleave.new.inputs) (g.I.Inputs.ends c.args.inputs.now) (g.I.Inputs.ends c.interleave.new.inputs)
    (g.O.Sink.faults c.args.out.now) (g.O.Sink.faults c.interleave.new.out) c.interleave.result c.in-Ok.ensures.steady r.cause r.steady r.ends_steady r.out_steady r.disk_steady)
