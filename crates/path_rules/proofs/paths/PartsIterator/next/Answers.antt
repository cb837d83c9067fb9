-- The piece before the first slash, and those after it.
use Rattle.std.proofs.Common.{arith, ap, sym, ◌∙◌, length}
use Rattle.path_rules.specs.Pieces.{pieces_left}
use Rattle.path_rules.proofs.PieceLemmas.{slash_at, no_slash}
use Rattle.path_rules.proofs.paths.PartsIterator.next.Goals as goal

pub returns-in-Some-clause-steps : goal.returns-in-Some-clause-steps
returns-in-Some-clause-steps c =
    sym c.self.view_is ∙ ap pieces_left c.in_ok-left.was
    ∙ slash_at c.in_ok-left.left.now c.in-Some.at (sym c.slash_in.ensures ∙ c.in-Some.is)

pub returns-in-Some-clause-goes : goal.returns-in-Some-clause-goes
returns-in-Some-clause-goes c = let first = returns-in-Some-clause-steps c in
    record { on = λ _. (tt, tt, omega (arith, ap length first)); keeps = tt; rests = λ _. tt }

pub returns-in-None-clause-steps : goal.returns-in-None-clause-steps
returns-in-None-clause-steps c =
    sym c.self.view_is ∙ ap pieces_left c.in_ok-left.was
    ∙ no_slash c.in_ok-left.left.now (sym c.slash_in.ensures ∙ c.in-None.is)

pub returns-in-None-clause-goes : goal.returns-in-None-clause-goes
returns-in-None-clause-goes c = let first = returns-in-None-clause-steps c in
    record { on = λ _. (tt, tt, omega (arith, ap length first)); keeps = tt; rests = λ _. tt }
