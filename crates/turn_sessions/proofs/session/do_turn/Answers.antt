use Rattle.std.specs.Prelude.{true, false, Option, Ok, None}
use Rattle.std.proofs.Common.{refl, subst}
use Rattle.sx_base.specs.declared.refusal.Refusal as code
use Rattle.send_model.specs.Guards.{guarded}
use Rattle.store_model.specs.Turns.{Receiving}
use Rattle.auditor.specs.Following.{blank}
use Rattle.cmd_reader.specs.Next.{item_of}
use Rattle.turn_sessions.specs.Standing.{Blank, AreParts, AreHeld, session_with}
use Rattle.turn_sessions.proofs.Unpacked.{LookSays}
use Rattle.turn_sessions.proofs.OneTurn.{going_held, turn_taken, turn_refused, turn_stopped}
use Rattle.turn_sessions.proofs.session.do_turn.Goals as goal

pub returns-in-Ok-None-clause-turned : goal.returns-in-Ok-None-clause-turned
returns-in-Ok-None-clause-turned g c reader s of held items is =
    let own = going_held s of.over in
    let part = subst (λ (p : Option (Receiving Blank)). AreParts p c.args.current.now) own of.part in
    let hold = subst (λ (p : Option (Receiving Blank)). AreHeld (blank c.args.store.now.core) p) own held in
    let item = item_of c.args.read.now.file c.args.read.now.item.now in
    turn_taken g.D.Disk c.args.disk.now c.take_item.new.disk c.args.store.now c.take_item.new.store (g.O.Sink.taken c.args.out.now) (g.O.Sink.taken c.take_item.new.out) g.G.Guarding.kept s
    (session_with c.args.read.now.file reader c.args.guards.now c.args.current.now false) (session_with c.args.read.now.file reader c.take_item.new.guards c.take_item.new.current false) item items is of refl c.take_item.ensures.looked refl
    (subst (λ (o : Option code.Refusal). LookSays g.D.Disk c.args.disk.now c.take_item.new.disk c.args.store.now c.take_item.new.store (g.O.Sink.taken c.args.out.now) (g.O.Sink.taken c.take_item.new.out) item s.part (guarded (g.G.Guarding.kept c.args.guards.now) item.command) c.take_item.new.current (Ok o)) c.in-Ok-None.field-0-is (c.in-Ok-None.ensures.taken s.part part hold))

pub returns-in-Ok-Some-clause-turned : goal.returns-in-Ok-Some-clause-turned
returns-in-Ok-Some-clause-turned g c reader s of held items is =
    let own = going_held s of.over in
    let part = subst (λ (p : Option (Receiving Blank)). AreParts p c.args.current.now) own of.part in
    let hold = subst (λ (p : Option (Receiving Blank)). AreHeld (blank c.args.store.now.core) p) own held in
    let item = item_of c.args.read.now.file c.args.read.now.item.now in
    turn_refused g.D.Disk c.args.disk.now c.take_item.new.disk c.args.store.now c.take_item.new.store (g.O.Sink.taken c.args.out.now) (g.O.Sink.taken c.take_item.new.out) g.G.Guarding.kept s
    (session_with c.args.read.now.file reader c.args.guards.now c.args.current.now false) (session_with c.args.read.now.file reader c.take_item.new.guards None true) item items is of refl c.take_item.ensures.looked
    c.in-Ok-Some.refusal c.verdict_at.result refl refl c.verdict_at.ensures c.take_item.new.current
    (subst (λ (o : Option code.Refusal). LookSays g.D.Disk c.args.disk.now c.take_item.new.disk c.args.store.now c.take_item.new.store (g.O.Sink.taken c.args.out.now) (g.O.Sink.taken c.take_item.new.out) item s.part (guarded (g.G.Guarding.kept c.args.guards.now) item.command) c.take_item.new.current (Ok o)) c.in-Ok-Some.field-0-is (c.in-Ok-Some.ensures.taken s.part part hold))

pub returns-in-Err-clause-turned : goal.returns-in-Err-clause-turned
returns-in-Err-clause-turned g c reader s of held items is =
    let own = going_held s of.over in
    let part = subst (λ (p : Option (Receiving Blank)). AreParts p c.args.current.now) own of.part in
    let hold = subst (λ (p : Option (Receiving Blank)). AreHeld (blank c.args.store.now.core) p) own held in
    let item = item_of c.args.read.now.file c.args.read.now.item.now in
    turn_stopped g.D.Disk c.args.disk.now c.take_item.new.disk c.args.store.now c.take_item.new.store (g.O.Sink.taken c.args.out.now) (g.O.Sink.taken c.take_item.new.out) g.G.Guarding.kept s
    (session_with c.args.read.now.file reader c.args.guards.now c.args.current.now false) (session_with c.args.read.now.file reader c.take_item.new.guards c.take_item.new.current false) item items is of refl c.take_item.ensures.looked
    c.in-Err.why c.take_item.new.current (c.in-Err.ensures.taken s.part part hold)
