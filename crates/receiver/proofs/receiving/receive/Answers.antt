use Rattle.std.specs.Prelude.{map}
use Rattle.std.specs.String.{string_bytes}
use Rattle.std.proofs.Common.{refl}
use Rattle.receiver.specs.Running.{first_spot}
use Rattle.receiver.proofs.Answering.{at_first, on_first, told_done, told_ended, told_moments, early_steady}
use Rattle.receiver.proofs.receiving.receive.Goals as goal

pub returns-in-Ok-clause-received : goal.returns-in-Ok-clause-received
returns-in-Ok-clause-received g c base same =
    let guards = g.G.Guarding.kept c.args.guards.now in
    let gate = c.args.store.now.log.gate in
    told_done c.args.store.now.log.limit gate base guards c.args.given.now.overrides.now g.D.Disk c.args.disk.now c.receive_files.new.disk (g.G.Guarding.kept c.receive_files.new.guards) c.args.store.now c.receive_files.new.store (g.O.Sink.taken c.args.out.now) (g.O.Sink.taken c.receive_files.new.out)
    (g.I.Inputs.told c.args.inputs.now) (map string_bytes c.args.given.now.files.now) c.receive_files.result c.in-Ok.field-0 c.in-Ok.is
    (c.receive_files.ensures.received base (first_spot gate base guards) (at_first gate base guards c.args.store.now refl same) (on_first base) refl)

pub returns-in-Err-clause-received : goal.returns-in-Err-clause-received
returns-in-Err-clause-received g c base same =
    let guards = g.G.Guarding.kept c.args.guards.now in
    let gate = c.args.store.now.log.gate in
    told_ended c.args.store.now.log.limit gate base guards c.args.given.now.overrides.now g.D.Disk c.args.disk.now c.receive_files.new.disk (g.G.Guarding.kept c.receive_files.new.guards) c.args.store.now c.receive_files.new.store (g.O.Sink.taken c.args.out.now) (g.O.Sink.taken c.receive_files.new.out)
    (g.I.Inputs.told c.args.inputs.now) (map string_bytes c.args.given.now.files.now) c.receive_files.result c.in-Err.ended c.in-Err.is
    (c.receive_files.ensures.received base (first_spot gate base guards) (at_first gate base guards c.args.store.now refl same) (on_first base) refl)

pub returns-in-Ok-clause-any_moment : goal.returns-in-Ok-clause-any_moment
returns-in-Ok-clause-any_moment g c tells header groups holds base same =
    let guards = g.G.Guarding.kept c.args.guards.now in
    let gate = c.args.store.now.log.gate in
    told_moments c.args.store.now.log.limit gate base guards c.args.given.now.overrides.now g.D.Disk c.args.disk.now c.receive_files.new.disk (g.G.Guarding.kept c.receive_files.new.guards) c.args.store.now c.receive_files.new.store (g.O.Sink.taken c.args.out.now) (g.O.Sink.taken c.receive_files.new.out)
    (g.I.Inputs.told c.args.inputs.now) (map string_bytes c.args.given.now.files.now) c.receive_files.result tells header groups holds
    (c.receive_files.ensures.received base (first_spot gate base guards) (at_first gate base guards c.args.store.now refl same) (on_first base) refl)

pub returns-in-Err-clause-any_moment : goal.returns-in-Err-clause-any_moment
returns-in-Err-clause-any_moment g c tells header groups holds base same =
    let guards = g.G.Guarding.kept c.args.guards.now in
    let gate = c.args.store.now.log.gate in
    told_moments c.args.store.now.log.limit gate base guards c.args.given.now.overrides.now g.D.Disk c.args.disk.now c.receive_files.new.disk (g.G.Guarding.kept c.receive_files.new.guards) c.args.store.now c.receive_files.new.store (g.O.Sink.taken c.args.out.now) (g.O.Sink.taken c.receive_files.new.out)
    (g.I.Inputs.told c.args.inputs.now) (map string_bytes c.args.given.now.files.now) c.receive_files.result tells header groups holds
    (c.receive_files.ensures.received base (first_spot gate base guards) (at_first gate base guards c.args.store.now refl same) (on_first base) refl)

pub returns-in-Err-clause-steady : goal.returns-in-Err-clause-steady
returns-in-Err-clause-steady g c = early_steady _ _ c.in-Err.ended c.in-Err.ensures.stops

pub returns-in-Err-clause-ends_steady : goal.returns-in-Err-clause-ends_steady
returns-in-Err-clause-ends_steady g c = early_steady _ _ c.in-Err.ended c.in-Err.ensures.stops

pub returns-in-Err-clause-out_steady : goal.returns-in-Err-clause-out_steady
returns-in-Err-clause-out_steady g c = early_steady _ _ c.in-Err.ended c.in-Err.ensures.stops

pub returns-in-Err-clause-disk_steady : goal.returns-in-Err-clause-disk_steady
returns-in-Err-clause-disk_steady g c = early_steady _ _ c.in-Err.ended c.in-Err.ensures.stops
