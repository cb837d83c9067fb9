use Rattle.std.proofs.Common.{◌≤◌, ◌∙◌, sym, arith}
use Rattle.stream_gen.proofs.DrawnNumbers.{number_second, number_next}
use Rattle.stream_gen.proofs.chain.number_past.Goals as goal

pub returns-then-parts-eq0 : goal.returns-then-parts-eq0
returns-then-parts-eq0 c = record { next = c.requires.number ∙ sym (number_second c.args.seed c.args.parts c.if-parts-eq0.true) }

pub returns : goal.returns
returns c =
    let some : 1 ≤ c.args.parts = let no = c.if-parts-eq0.false in grind arith in
    record { next = number_next c.args.seed c.args.parts c.args.number c.draw.result.number some c.requires.number c.draw.ensures.number }
