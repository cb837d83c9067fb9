use Rattle.std.proofs.Common.{sym, subst, map}
use Rattle.send_model.specs.Reading as reading
use Rattle.part_names.specs.Overriding.{IsOverridden}
use Rattle.auditor.specs.Following.{beside}
use Rattle.auditor.specs.Answers.{ItemEnds}
use Rattle.auditor.proofs.Named.{still_short}
use Rattle.auditor.proofs.following.follow_named.Goals as goal

pub follow_item-requires : goal.follow_item-requires
follow_item-requires g c =
    let given = subst (IsOverridden (c.args.file.now.said.now) c.args.item.now) (sym c.given_or-meant.ensures) c.override_item-changed.ensures.meant in
    record { short = still_short c.args.file.now.number 262144 (c.args.file.now.said.now) c.args.item.now c.given_or-meant.result.now (given.meant c.args.file.now.number) c.requires.short }

pub returns-clause-followed : goal.returns-clause-followed
returns-clause-followed g c =
    let given = subst (IsOverridden (c.args.file.now.said.now) c.args.item.now) (sym c.given_or-meant.ensures) c.override_item-changed.ensures.meant in
    subst (λ (item : reading.Item). ItemEnds (beside (map (λ b. (goal.Guard-dyn g (b.vtable, b.value)).kept b.value) c.args.guards.now) c.args.follower.now)
    (beside (map (λ b. (goal.Guard-dyn g (b.vtable, b.value)).kept b.value) c.follow_item.new.guards) c.follow_item.new.follower) item c.follow_item.result) (given.meant c.args.file.now.number) c.follow_item.ensures.followed
