use Rattle.std.proofs.Common.{arith}
use Rattle.guard_rules.proofs.Questions.{allowed, refused, ended}
use Rattle.guard_rules.proofs.asking.look_all.Goals as goal

pub returns-then-not-look_one-clause-refused : goal.returns-then-not-look_one-clause-refused
returns-then-not-look_one-clause-refused g c =
    (refused (λ b. (goal.Guard-dyn g (b.vtable, b.value)).kept b.value) _ c.loop-place.guards c.loop-place.place _ c.index-guards-place.result c.look_one.new.guard c.look_one.result c.loop-place.invariant (omega arith) c.look_one.ensures.allows c.look_one.ensures.counts c.if-not-look_one.true).0

pub returns-then-not-look_one-clause-counted : goal.returns-then-not-look_one-clause-counted
returns-then-not-look_one-clause-counted g c =
    (refused (λ b. (goal.Guard-dyn g (b.vtable, b.value)).kept b.value) _ c.loop-place.guards c.loop-place.place _ c.index-guards-place.result c.look_one.new.guard c.look_one.result c.loop-place.invariant (omega arith) c.look_one.ensures.allows c.look_one.ensures.counts c.if-not-look_one.true).1

pub loop-place-preserved : goal.loop-place-preserved
loop-place-preserved g c =
    allowed (λ b. (goal.Guard-dyn g (b.vtable, b.value)).kept b.value) _ c.loop-place.guards c.loop-place.place _ c.index-guards-place.result c.look_one.new.guard c.look_one.result c.loop-place.invariant (omega arith) c.look_one.ensures.allows c.look_one.ensures.counts c.if-not-look_one.false

pub returns-clause-refused : goal.returns-clause-refused
returns-clause-refused g c = (ended (λ b. (goal.Guard-dyn g (b.vtable, b.value)).kept b.value) _ c.loop-place.guards c.loop-place.place _ c.loop-place.invariant (omega arith)).0

pub returns-clause-counted : goal.returns-clause-counted
returns-clause-counted g c = (ended (λ b. (goal.Guard-dyn g (b.vtable, b.value)).kept b.value) _ c.loop-place.guards c.loop-place.place _ c.loop-place.invariant (omega arith)).1
