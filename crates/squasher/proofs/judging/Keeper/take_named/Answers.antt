use Rattle.std.proofs.Common.{sym, subst}
use Rattle.send_model.specs.Reading as reading
use Rattle.part_names.specs.Overriding.{IsOverridden}
use Rattle.auditor.proofs.Named.{still_short}
use Rattle.squasher.specs.Judging.{Takes}
use Rattle.squasher.proofs.judging.Keeper.take_named.Goals as goal

pub take-requires : goal.take-requires
take-requires g c =
    let given = subst (IsOverridden c.args.file.now.said.now c.args.item.now) (sym c.given_or-meant.ensures) c.override_item-changed.ensures.meant in
    record { short = still_short c.args.file.now.number 262144 c.args.file.now.said.now c.args.item.now c.given_or-meant.result.now (given.meant c.args.file.now.number) c.requires.short }

pub returns-clause-taken : goal.returns-clause-taken
returns-clause-taken g c =
    let given = subst (IsOverridden c.args.file.now.said.now c.args.item.now) (sym c.given_or-meant.ensures) c.override_item-changed.ensures.meant in
    subst (λ (item : reading.Item). Takes c.args.self.now c.take.new.self item c.take.result) (given.meant c.args.file.now.number) c.take.ensures.taken
