use Rattle.std.proofs.Common.{◌≡◌, [], sym, ◌∙◌, ap, arith}
use Rattle.std.proofs.lemmas.List.{nil_from_length}
use Rattle.squash_log.specs.Stacks.{logged, AreLogged}
use Rattle.squash_log.proofs.StackLaws.{logged_more, less_logged, last_fits, opened_logged, opened_some, opened_same}
use Rattle.squash_log.proofs.log.Log.pop.Goals as goal
use Rattle.squash_log.proofs.log.Log.pop.Goals.{After-pop-3}

pub invariant_of-self : goal.invariant_of-self
invariant_of-self c =
    less_logged c.self.inside.full.items c.self.inside.last.items c.pop.new.self.items c.in-Some.change c.in-Some.ensures.items c.self.invariant

pub returns-in-Some-clause-fits : goal.returns-in-Some-clause-fits
returns-in-Some-clause-fits c =
    last_fits c.self.inside.full.items c.self.inside.last.items c.pop.new.self.items c.in-Some.change c.in-Some.ensures.items c.self.invariant

-- The last block had no change.
empty : (c : After-pop-3) → c.self.inside.last.items ≡ []
empty c = nil_from_length c.self.inside.last.items (omega (arith, c.in_default.ensures.cases.0, c.self.inside.last.ok.0))

opened : (c : After-pop-3) → AreLogged c.pop-2.new.self.items c.in-Some-pop.block.items
opened c =
    opened_logged c.self.inside.full.items c.pop-2.new.self.items c.in-Some-pop.block c.self.inside.last.items (empty c) c.in-Some-pop.ensures.items c.self.invariant

pub unreachable-requires : goal.unreachable-requires
unreachable-requires c =
    let some = opened_some c.self.inside.full.items c.pop-2.new.self.items c.in-Some-pop.block c.self.inside.last.items c.in-Some-pop.ensures.items c.self.invariant in
    omega (arith, some, c.in_default-pop-2.ensures.cases.0, c.in-Some-pop.block.ok.0)

pub invariant_of-self-2 : goal.invariant_of-self-2
invariant_of-self-2 c =
    less_logged c.pop-2.new.self.items c.in-Some-pop.block.items c.pop-3.new.self.items c.in-Some-pop-2.change c.in-Some-pop-2.ensures.items (opened (goal.at.invariant_of-self-2 c).After-pop-3)

pub returns-clause-popped : goal.returns-clause-popped
returns-clause-popped c =
    sym c.self.view_is
    ∙ opened_same c.self.inside.full.items c.pop-2.new.self.items c.in-Some-pop.block c.self.inside.last.items (empty (goal.at.returns-clause-popped c).After-pop-3) c.in-Some-pop.ensures.items
    ∙ ap (λ l. logged c.pop-2.new.self.items l) c.in-Some-pop-2.ensures.items
    ∙ logged_more c.pop-2.new.self.items c.pop-3.new.self.items c.in-Some-pop-2.change

pub returns-clause-fits : goal.returns-clause-fits
returns-clause-fits c =
    last_fits c.pop-2.new.self.items c.in-Some-pop.block.items c.pop-3.new.self.items c.in-Some-pop-2.change c.in-Some-pop-2.ensures.items (opened (goal.at.returns-clause-fits c).After-pop-3)
