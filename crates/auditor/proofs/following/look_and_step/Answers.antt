use Rattle.cmd_reader.specs.Next.{item_of}
use Rattle.auditor.proofs.Steps.{guard_refuses_item}
use Rattle.auditor.proofs.following.look_and_step.Goals as goal

pub returns-in-Some : goal.returns-in-Some
returns-in-Some g c = record {
  followed = λ file. guard_refuses_item (λ b. (goal.Guard-dyn g (b.vtable, b.value)).kept b.value) _ c.look_all.new.guards c.in-Some.place c.index-guards-place.result c.count_of.result c.args.follower.now (item_of file c.args.item.now)
      c.in-Some.ensures.refused c.in-Some.ensures.within c.count_of.ensures;
}
