use Rattle.std.proofs.Common.{◌≡◌, [], sym, ◌∙◌, arith}
use Rattle.provenance.proofs.Found.{none_left}
use Rattle.provenance.proofs.plan_iter.PlanIterIterator.next.Goals as goal

pub returns-then-self-clause-steps : goal.returns-then-self-clause-steps
returns-then-self-clause-steps g c =
    let i = c.self.inside in
    let e : c.args.self.now ≡ [] = sym c.self.view_is ∙ none_left (g.E.Ends.ends i.ends.now) i.contents.now i.at i.end c.self.invariant.within (omega (arith, c.self.invariant.order, c.if-self.true)) in
    (e, e)
