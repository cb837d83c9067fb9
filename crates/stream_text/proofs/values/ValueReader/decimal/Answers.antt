use Rattle.std.specs.Prelude.{◌≡◌, ◌≢◌, ℕ, ◌++◌, List, None, Some}
use Rattle.std.specs.Fmt.{decimal}
use Rattle.std.proofs.Common.{rules, refl, ap, ◌∙◌}
use Rattle.stream_text.proofs.Digits.{numeral_of}
use Rattle.stream_text.proofs.values.ValueReader.decimal.Goals as goal

pub returns-in_default-clause-none : goal.returns-in_default-clause-none
returns-in_default-clause-none c = λ m small e.
    let found : c.digits_in.result ≡ Some m = c.digits_in.ensures.says m small (numeral_of 10 m c.args.text.now refl small e) in
    let none : c.digits_in.result ≡ None = search rules in
    cc

pub returns-then-ne-clause-none : goal.returns-then-ne-clause-none
returns-then-ne-clause-none c = λ m small e.
    let found : c.digits_in.result ≡ Some m = c.digits_in.ensures.says m small (numeral_of 10 m c.args.text.now refl small e) in
    let is : c.digits_in.result ≡ Some c.in-Some.n = c.in-Some.is in
    let same : c.in-Some.n ≡ m = cc in
    let shown : c.as_slice.result.now ≡ decimal c.in-Some.n = c.as_slice.ensures.bytes ∙ c.in_ok-push_decimal.ensures.pushed ∙ ap (λ (l : List ℕ). l ++ decimal c.in-Some.n) c.clear.ensures.empty in
    let other : c.as_slice.result.now ≢ c.args.text.now = search rules in
    other (shown ∙ ap decimal same ∙ e)
