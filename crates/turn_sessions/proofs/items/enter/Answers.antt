use Rattle.clone_resolve.specs.Heads.{head_meant}
use Rattle.cmd_reader.specs.Next.{item_of}
use Rattle.turn_sessions.proofs.Taking.{head_says, head_stopped}
use Rattle.turn_sessions.proofs.items.enter.Goals as goal

pub returns-in-Err-clause-done : goal.returns-in-Err-clause-done
returns-in-Err-clause-done g c p are held =
    head_stopped g.D.Disk c.args.disk.now c.close.new.disk c.close.new.disk c.args.store.now c.close.new.store c.close.new.store (g.O.Sink.taken c.args.out.now) (g.O.Sink.taken c.close.new.out) (g.O.Sink.taken c.close.new.out) (item_of c.args.read.now.file c.args.read.now.item.now) (head_meant c.args.head.now) p c.requires.head
    c.close.new.current c.in-Err.why (c.in-Err.ensures.closed p are held)

pub returns-clause-done : goal.returns-clause-done
returns-clause-done g c p are held =
    head_says g.D.Disk c.args.disk.now c.close.new.disk c.begin.new.disk c.args.store.now c.close.new.store c.begin.new.store (g.O.Sink.taken c.args.out.now) (g.O.Sink.taken c.close.new.out) (g.O.Sink.taken c.close.new.out) (item_of c.args.read.now.file c.args.read.now.item.now) (head_meant c.args.head.now) p c.requires.head
    c.begin.new.current c.begin.result (c.in-Ok.ensures.closed p are held) (c.begin.ensures.begun (g.O.Sink.taken c.close.new.out))
