use Rattle.std.proofs.Common.{sym}
use Rattle.cmd_reader.specs.Next.{item_of}
use Rattle.turn_sessions.proofs.Taking.{end_taken, edit_says}
use Rattle.turn_sessions.proofs.items.do_item.Goals as goal

pub returns-in-Ok-clause-done : goal.returns-in-Ok-clause-done
returns-in-Ok-clause-done g c p are held =
    end_taken g.D.Disk c.args.disk.now c.close.new.disk c.args.store.now c.close.new.store (g.O.Sink.taken c.args.out.now) (g.O.Sink.taken c.close.new.out) (item_of c.args.read.now.file c.args.read.now.item.now) p (sym c.if-ends.ensures)
    c.close.new.current c.close.ensures.none (c.in-Ok.ensures.closed p are held)

pub returns-in-None-clause-done : goal.returns-in-None-clause-done
returns-in-None-clause-done g c p are held =
    edit_says g.D.Disk c.args.disk.now c.args.store.now (g.O.Sink.taken c.args.out.now) (item_of c.args.read.now.file c.args.read.now.item.now) p (sym c.in-None.ensures) (sym c.if-ends.ensures) (λ is_told image. g.met.D.Disk.only_now c.args.disk.now image is_told)
    c.edit.new.current c.edit.result (c.edit.ensures.edited p are) c.edit.ensures.memory
