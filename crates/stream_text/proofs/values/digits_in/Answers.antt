use Rattle.std.proofs.Common.{rules, ◌≡◌, ℕ, ◌+◌, ◌*◌, ◌^◌, drop, ◌≤◌, length, arith, ap, ◌∙◌}
use Rattle.std.specs.Prelude.{Some}
use Rattle.std.specs.Str.Parse.{digits_value_after}
use Rattle.stream_text.proofs.Digits.{digit_there, value_next, sum_within, value_end}
use Rattle.stream_text.proofs.values.digits_in.Goals as goal

pub returns-then-is_empty : goal.returns-then-is_empty
returns-then-is_empty c = record {
  says = λ m small n.
      let none : length c.args.text.now ≡ 0 = search rules in
      absurd (omega (arith, n.some, none));
}

pub returns-then-digit-base : goal.returns-then-digit-base
returns-then-digit-base c = record {
  says = λ m small n.
      let d = digit_there c.args.base c.args.text.now c.loop-place.place c.requires.base n.all c.loop-place-test.true in
      absurd (omega (arith, d.1, c.digit_of-digit.ensures.value, c.if-digit-base.true));
}

pub returns-in_err-checked_mul : goal.returns-in_err-checked_mul
returns-in_err-checked_mul c = record {
  says = λ m small n.
      let most = sum_within c.args.base c.loop-place.number c.digit_of-digit.result c.loop-place.place m c.args.text.now c.requires.base c.loop-place-test.true c.digit_of-digit.ensures.value c.loop-place.invariant.value n in
      let over : 2 ^ 64 ≤ c.loop-place.number * c.args.base = search rules in
      absurd (omega (arith, most, over, small));
}

pub returns-in_err-number : goal.returns-in_err-number
returns-in_err-number c = record {
  says = λ m small n.
      let most = sum_within c.args.base c.loop-place.number c.digit_of-digit.result c.loop-place.place m c.args.text.now c.requires.base c.loop-place-test.true c.digit_of-digit.ensures.value c.loop-place.invariant.value n in
      let over : 2 ^ 64 ≤ c.loop-place.number * c.args.base + c.digit_of-digit.result = search rules in
      absurd (omega (arith, most, over, small));
}

pub loop-place-preserved : goal.loop-place-preserved
loop-place-preserved c = record {
  value = λ all.
      let sum : c.in_ok-number.number ≡ c.loop-place.number * c.args.base + c.digit_of-digit.result = search rules in
      ap (λ (n : ℕ). digits_value_after c.args.base n (drop (c.loop-place.place + 1) c.args.text.now)) sum
      ∙ value_next c.args.base c.loop-place.number c.digit_of-digit.result c.loop-place.place c.args.text.now c.requires.base c.loop-place-test.true c.digit_of-digit.ensures.value c.loop-place.invariant.value all;
}

pub returns : goal.returns
returns c = record {
  says = λ m small n.
      ap Some (value_end c.args.base c.loop-place.number c.loop-place.place m c.args.text.now c.loop-place-test.false c.loop-place.invariant.value n);
}
