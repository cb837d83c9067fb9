use Rattle.std.proofs.Math.Seq.{lt-length-set}
use Rattle.std.proofs.Common.{arith}
use Rattle.guard_rules.proofs.Questions.{allowed, refused, ended}
use Rattle.receiver.proofs.GuardRefusals.{refusal_at}
use Rattle.receiver.proofs.guarding.look_list.Goals as goal

pub loop-place-preserved : goal.loop-place-preserved
loop-place-preserved g c =
    allowed g.G.Guard.kept _ c.loop-place.guards c.loop-place.place _ c.index-guards-place.result c.look_one.new.guard c.look_one.result c.loop-place.invariant (omega arith) c.look_one.ensures.allows c.look_one.ensures.counts c.if-not-look_one.false

pub returns-clause-refused : goal.returns-clause-refused
returns-clause-refused g c = (ended g.G.Guard.kept _ c.loop-place.guards c.loop-place.place _ c.loop-place.invariant (omega arith)).0

pub returns-clause-counted : goal.returns-clause-counted
returns-clause-counted g c = (ended g.G.Guard.kept _ c.loop-place.guards c.loop-place.place _ c.loop-place.invariant (omega arith)).1

pub returns-then-not-look_one-clause-counted : goal.returns-then-not-look_one-clause-counted
returns-then-not-look_one-clause-counted g c =
    (refused g.G.Guard.kept _ c.loop-place.guards c.loop-place.place _ c.index-guards-place.result c.look_one.new.guard c.look_one.result c.loop-place.invariant (omega arith) c.look_one.ensures.allows c.look_one.ensures.counts c.if-not-look_one.true).1

pub returns-then-not-look_one-clause-refused : goal.returns-then-not-look_one-clause-refused
returns-then-not-look_one-clause-refused g c =
    refusal_at g.G.Guard.kept _ _ _ c.loop-place.place c.used_of-used.result _
    (refused g.G.Guard.kept _ c.loop-place.guards c.loop-place.place _ c.index-guards-place.result c.look_one.new.guard c.look_one.result c.loop-place.invariant (omega arith) c.look_one.ensures.allows c.look_one.ensures.counts c.if-not-look_one.true).0
    (lt-length-set c.loop-place.guards c.loop-place.place c.look_one.new.guard (omega arith)) c.used_of-used.ensures
