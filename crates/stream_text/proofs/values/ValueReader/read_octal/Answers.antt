use Rattle.std.specs.Prelude.{◌≡◌, ◌≢◌, ℕ, ◌^◌, ◌<◌, ◌++◌, List, Bool, true, None, Some}
use Rattle.std.specs.Int.{w64, to_le_bytes}
use Rattle.std.proofs.Common.{rules, refl, sym, ap, subst, ◌∙◌}
use Rattle.send_model.specs.Printed.{octal}
use Rattle.stream_text.specs.ValueReading.{AddsAttribute}
use Rattle.stream_text.proofs.Digits.{numeral_of}
use Rattle.stream_text.proofs.Numbers.{number_none, number_read}
use Rattle.stream_text.proofs.values.ValueReader.read_octal.Goals as goal

pub returns-in_default-clause-read : goal.returns-in_default-clause-read
returns-in_default-clause-read c =
    number_none c.args.frame.now.version c.args.kind true c.args.text.now c.args.to.now c.args.to.now c.requires.form c.requires.mode
    (λ m small e.
    let found : c.digits_in.result ≡ Some m = c.digits_in.ensures.says m small (numeral_of 8 m c.args.text.now refl small e) in
    let none : c.digits_in.result ≡ None = search rules in
    cc)

pub returns-then-ne-clause-read : goal.returns-then-ne-clause-read
returns-then-ne-clause-read c =
    number_none c.args.frame.now.version c.args.kind true c.args.text.now c.args.to.now c.args.to.now c.requires.form c.requires.mode
    (λ m small e.
    let found : c.digits_in.result ≡ Some m = c.digits_in.ensures.says m small (numeral_of 8 m c.args.text.now refl small e) in
    let is : c.digits_in.result ≡ Some c.in-Some.n = c.in-Some.is in
    let same : c.in-Some.n ≡ m = cc in
    let shown : c.as_slice.result.now ≡ octal c.in-Some.n = c.as_slice.ensures.bytes ∙ c.in_ok-push_octal.ensures.pushed ∙ ap (λ (l : List ℕ). l ++ octal c.in-Some.n) c.clear.ensures.empty in
    let other : c.as_slice.result.now ≢ c.args.text.now = search rules in
    other (shown ∙ ap octal same ∙ e))

pub returns-clause-read : goal.returns-clause-read
returns-clause-read c =
    let small : c.in-Some.n < 2 ^ 64 = search rules in
    let shown : c.as_slice.result.now ≡ octal c.in-Some.n = c.as_slice.ensures.bytes ∙ c.in_ok-push_octal.ensures.pushed ∙ ap (λ (l : List ℕ). l ++ octal c.in-Some.n) c.clear.ensures.empty in
    let same : c.as_slice.result.now ≡ c.args.text.now = search rules in
    let bytes : c.to_le_bytes.result ≡ to_le_bytes w64 c.in-Some.n = search rules in
    number_read c.args.frame.now.version c.args.kind true c.in-Some.n c.args.text.now c.args.to.now c.add.new.to c.requires.form c.requires.mode small (sym shown ∙ same)
    (subst (λ (l : List ℕ). AddsAttribute c.args.frame.now.version c.args.kind l c.args.to.now c.add.new.to true) bytes
    (subst (λ (b : Bool). AddsAttribute c.args.frame.now.version c.args.kind c.to_le_bytes.result c.args.to.now c.add.new.to b) c.if-not-branch.false c.in_ok-add.ensures.added))
