use Rattle.std.specs.Prelude.{◌≡◌, ◌≢◌, ℕ, ◌^◌, ◌<◌, ◌++◌, List, Bool, true, None, Some}
use Rattle.std.proofs.Common.{rules, sym, ap, subst, ◌∙◌, arith}
use Rattle.send_model.specs.Attribute.{Time}
use Rattle.send_model.specs.Printed.{time_text}
use Rattle.stream_text.specs.ValueReading.{AddsAttribute}
use Rattle.stream_text.proofs.Numbers.{time_none}
use Rattle.stream_text.proofs.Moments.{time_parts, nanos_there, time_read}
use Rattle.stream_text.proofs.values.ValueReader.read_time.Goals as goal

pub returns-then-text-lt11-clause-read : goal.returns-then-text-lt11-clause-read
returns-then-text-lt11-clause-read c =
    time_none c.args.frame.now.version c.args.kind c.args.text.now c.args.to.now c.args.to.now c.requires.form
    (λ t secs nanos says. let p = time_parts t c.args.text.now secs nanos says in omega (arith, p.long, c.if-text-lt11.true))

pub returns-in_default-clause-read : goal.returns-in_default-clause-read
returns-in_default-clause-read c =
    time_none c.args.frame.now.version c.args.kind c.args.text.now c.args.to.now c.args.to.now c.requires.form
    (λ t secs nanos says.
    let p = time_parts t c.args.text.now secs nanos says in
    let found : c.digits_in.result ≡ Some t.secs = c.digits_in.ensures.says t.secs secs p.secs in
    let none : c.digits_in.result ≡ None = search rules in
    cc)

pub returns-in_default-digits_in-clause-read : goal.returns-in_default-digits_in-clause-read
returns-in_default-digits_in-clause-read c =
    time_none c.args.frame.now.version c.args.kind c.args.text.now c.args.to.now c.args.to.now c.requires.form
    (λ t secs nanos says.
    let p = time_parts t c.args.text.now secs nanos says in
    let found : c.digits_in-2.result ≡ Some t.nanos = c.digits_in-2.ensures.says t.nanos (omega (arith, nanos)) (nanos_there t c.args.text.now p) in
    let none : c.digits_in-2.result ≡ None = c.in_default-digits_in.is in
    cc)

pub returns-then-nanos-ge-SECOND-clause-read : goal.returns-then-nanos-ge-SECOND-clause-read
returns-then-nanos-ge-SECOND-clause-read c =
    time_none c.args.frame.now.version c.args.kind c.args.text.now c.args.to.now c.args.to.now c.requires.form
    (λ t secs nanos says.
    let p = time_parts t c.args.text.now secs nanos says in
    let found : c.digits_in-2.result ≡ Some t.nanos = c.digits_in-2.ensures.says t.nanos (omega (arith, nanos)) (nanos_there t c.args.text.now p) in
    let is : c.digits_in-2.result ≡ Some c.in-Some-digits_in.nanos = c.in-Some-digits_in.is in
    let same : c.in-Some-digits_in.nanos ≡ t.nanos = cc in
    omega (arith, same, nanos, c.if-nanos-ge-SECOND.true))

pub returns-then-ne-clause-read : goal.returns-then-ne-clause-read
returns-then-ne-clause-read c =
    time_none c.args.frame.now.version c.args.kind c.args.text.now c.args.to.now c.args.to.now c.requires.form
    (λ t secs nanos says.
    let p = time_parts t c.args.text.now secs nanos says in
    let first : c.digits_in.result ≡ Some t.secs = c.digits_in.ensures.says t.secs secs p.secs in
    let first_is : c.digits_in.result ≡ Some c.in-Some.secs = c.in-Some.is in
    let last : c.digits_in-2.result ≡ Some t.nanos = c.digits_in-2.ensures.says t.nanos (omega (arith, nanos)) (nanos_there t c.args.text.now p) in
    let last_is : c.digits_in-2.result ≡ Some c.in-Some-digits_in.nanos = c.in-Some-digits_in.is in
    let same_secs : c.in-Some.secs ≡ t.secs = cc in
    let same_nanos : c.in-Some-digits_in.nanos ≡ t.nanos = cc in
    let here : Time = record { secs = c.in-Some.secs; nanos = c.in-Some-digits_in.nanos } in
    let same : here ≡ t = λ i. record { secs = same_secs i; nanos = same_nanos i } in
    let shown : c.as_slice.result.now ≡ time_text here = c.as_slice.ensures.bytes ∙ c.in_ok-push_time.ensures.pushed ∙ ap (λ (l : List ℕ). l ++ time_text here) c.clear.ensures.empty in
    let other : c.as_slice.result.now ≢ c.args.text.now = search rules in
    other (shown ∙ ap time_text same ∙ says))

pub returns-clause-read : goal.returns-clause-read
returns-clause-read c =
    let here : Time = record { secs = c.in-Some.secs; nanos = c.in-Some-digits_in.nanos } in
    let small : c.in-Some.secs < 2 ^ 64 = search rules in
    let shown : c.as_slice.result.now ≡ time_text here = c.as_slice.ensures.bytes ∙ c.in_ok-push_time.ensures.pushed ∙ ap (λ (l : List ℕ). l ++ time_text here) c.clear.ensures.empty in
    let same : c.as_slice.result.now ≡ c.args.text.now = search rules in
    time_read c.args.frame.now.version c.args.kind here c.args.text.now c.args.to.now c.add.new.to c.requires.form small c.if-nanos-ge-SECOND.false (sym shown ∙ same)
    (subst (λ (l : List ℕ). AddsAttribute c.args.frame.now.version c.args.kind l c.args.to.now c.add.new.to true) c.bytes.ensures
    (subst (λ (b : Bool). AddsAttribute c.args.frame.now.version c.args.kind c.bytes.result c.args.to.now c.add.new.to b) c.if-not-branch.false c.in_ok-add.ensures.added))
