use Rattle.std.specs.Prelude.{None}
use Rattle.receiver.proofs.FileStops.{file_abandoned}
use Rattle.receiver.proofs.DiskRuns.{run_abandons}
use Rattle.receiver.proofs.files.receive_file.Goals as goal

pub returns-in-Some-clause-received : goal.returns-in-Some-clause-received
returns-in-Some-clause-received g c base spot at on none =
    file_abandoned _ (c.args.file.now.said.now) c.args.file.now.number c.args.store.now.log.limit c.args.file.now.name.now base spot _ c.receive_items-end.new.store c.abandon.new.self c.receive_items-end.result.current c.in-Some.opened _ _ _ _ _ _ _ c.receive_items-end.result.ended
    c.in-Some.is c.receive_items-end.ensures.closed c.abandon.ensures.core
    (λ why W follows stops. run_abandons g.D.Disk c.args.disk.now c.receive_items-end.new.disk None c.args.store.now c.receive_items-end.new.store c.abandon.new.self c.receive_items-end.result.current c.in-Some.opened why W c.in-Some.is c.abandon.ensures.holds follows stops)
    (c.receive_items-end.ensures.received base spot at on none)

pub returns-in_default-clause-received : goal.returns-in_default-clause-received
returns-in_default-clause-received g c base spot here on none = rw c.in_default.is at (c.receive_items-end.ensures.received base spot here on none)
