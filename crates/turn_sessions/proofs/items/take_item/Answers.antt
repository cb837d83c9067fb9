use Rattle.send_model.specs.Guards.{guarded}
use Rattle.send_commands.specs.Meaning.{meaning_of}
use Rattle.cmd_reader.specs.Next.{item_of}
use Rattle.turn_sessions.proofs.Taking.{look_refused, look_allowed}
use Rattle.turn_sessions.proofs.items.take_item.Goals as goal

pub returns-in-Some-clause-taken : goal.returns-in-Some-clause-taken
returns-in-Some-clause-taken g c p are held =
    look_refused g.D.Disk c.args.disk.now c.args.store.now (g.O.Sink.taken c.args.out.now) (item_of c.args.read.now.file c.args.read.now.item.now) p (guarded (g.G.Guarding.kept c.args.guards.now) (meaning_of c.args.read.now.item.now.command)) c.in-Some.refusal c.args.current.now
    (λ is_told image. g.met.D.Disk.only_now c.args.disk.now image is_told) c.in-Some.ensures.refused

pub returns-clause-taken : goal.returns-clause-taken
returns-clause-taken g c p are held =
    look_allowed g.D.Disk c.args.disk.now c.do_item.new.disk c.args.store.now c.do_item.new.store (g.O.Sink.taken c.args.out.now) (g.O.Sink.taken c.do_item.new.out) (item_of c.args.read.now.file c.args.read.now.item.now) p (guarded (g.G.Guarding.kept c.args.guards.now) (meaning_of c.args.read.now.item.now.command)) c.do_item.new.current c.do_item.result
    c.in_default.ensures.refused (c.do_item.ensures.done p are held)
