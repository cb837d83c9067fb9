use Rattle.std.proofs.Common.{◌%◌, ℕ, ap, ◌∙◌}
use Rattle.send_model.specs.Generated.{drawn}
use Rattle.stream_gen.proofs.DrawnNumbers.{Seven, seven}
use Rattle.stream_gen.proofs.draws.draw.Goals.{After-drawn_from-7}
use Rattle.stream_gen.proofs.draws.draw.Goals as goal

-- The seven numbers that the calls gave, one after the other.
numbers : (c : After-drawn_from-7)
    → Seven c.args.number c.next_of-first.result c.next_of-second.result c.next_of-third.result c.next_of-fourth.result c.next_of-fifth.result c.next_of-sixth.result c.next_of-seventh.result
numbers c =
    seven c.args.number c.next_of-first.result c.next_of-second.result c.next_of-third.result c.next_of-fourth.result c.next_of-fifth.result c.next_of-sixth.result c.next_of-seventh.result
    c.next_of-first.ensures.next c.next_of-second.ensures.next c.next_of-third.ensures.next c.next_of-fourth.ensures.next c.next_of-fifth.ensures.next c.next_of-sixth.ensures.next c.next_of-seventh.ensures.next

pub returns-clause-file : goal.returns-clause-file
returns-clause-file c = c.drawn_from.ensures.drawn ∙ ap (λ (n : ℕ). drawn n % 8) (numbers (goal.at.returns-clause-file c).After-drawn_from-7).first

pub returns-clause-block : goal.returns-clause-block
returns-clause-block c = c.drawn_from-2.ensures.drawn ∙ ap (λ (n : ℕ). drawn n % 3) (numbers (goal.at.returns-clause-block c).After-drawn_from-7).second

pub returns-clause-byte : goal.returns-clause-byte
returns-clause-byte c = c.drawn_from-3.ensures.drawn ∙ ap (λ (n : ℕ). drawn n % 256) (numbers (goal.at.returns-clause-byte c).After-drawn_from-7).third

pub returns-clause-source : goal.returns-clause-source
returns-clause-source c = c.drawn_from-4.ensures.drawn ∙ ap (λ (n : ℕ). drawn n % 8) (numbers (goal.at.returns-clause-source c).After-drawn_from-7).fourth

pub returns-clause-source_block : goal.returns-clause-source_block
returns-clause-source_block c = c.drawn_from-5.ensures.drawn ∙ ap (λ (n : ℕ). drawn n % 3) (numbers (goal.at.returns-clause-source_block c).After-drawn_from-7).fifth

pub returns-clause-goal : goal.returns-clause-goal
returns-clause-goal c = c.drawn_from-6.ensures.drawn ∙ ap (λ (n : ℕ). drawn n % 8) (numbers (goal.at.returns-clause-goal c).After-drawn_from-7).sixth

pub returns-clause-goal_block : goal.returns-clause-goal_block
returns-clause-goal_block c = c.drawn_from-7.ensures.drawn ∙ ap (λ (n : ℕ). drawn n % 3) (numbers (goal.at.returns-clause-goal_block c).After-drawn_from-7).seventh

pub returns-clause-number : goal.returns-clause-number
returns-clause-number c = (numbers (goal.at.returns-clause-number c).After-drawn_from-7).seventh
