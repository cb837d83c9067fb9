use Rattle.std.proofs.Common.{arith, sym, ◌∙◌}
use Rattle.guard_rules.proofs.Numerals.{too_great, sum_too_great, all_read}
use Rattle.guard_rules.proofs.words.number_of.Goals as goal

pub returns-in_default : goal.returns-in_default
returns-in_default c = too_great c.args.digits.now c.loop-place.place c.loop-place.number c.loop-place.invariant (omega arith) (omega arith)

pub returns-in_default-checked_add : goal.returns-in_default-checked_add
returns-in_default-checked_add c =
    sum_too_great c.args.digits.now c.loop-place.place c.loop-place.number c.loop-place.invariant (omega arith) (sym c.is_ascii_digit.ensures.value ∙ c.if-not-is_ascii_digit.false) c.in-Some.tens (c.in-Some.ensures).1 c.in_default-checked_add.ensures

pub returns : goal.returns
returns c = all_read c.args.digits.now c.loop-place.place c.loop-place.number c.loop-place.invariant (omega arith) (grind arith) (omega arith)
