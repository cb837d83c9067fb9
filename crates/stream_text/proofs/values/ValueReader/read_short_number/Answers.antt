use Rattle.std.specs.Fmt.{decimal}
use Rattle.std.specs.Int.{w32, to_le_bytes}
use Rattle.std.proofs.Common.{rules, ◌≡◌, ◌^◌, ◌<◌, ℕ, List, Bool, true, subst, sym, ◌∙◌, arith}
use Rattle.stream_text.specs.ValueReading.{AddsAttribute}
use Rattle.stream_text.proofs.Numbers.{short_read, short_none}
use Rattle.text_model.proofs.Glyphs.{digits_once, decimal_small}
use Rattle.stream_text.proofs.values.ValueReader.read_short_number.Goals as goal

pub returns-clause-read : goal.returns-clause-read
returns-clause-read c =
    let small : c.in-Some.n < 2 ^ 32 = search rules in
    let says : decimal c.in-Some.n ≡ c.args.text.now = search rules in
    let bytes : c.to_le_bytes.result ≡ to_le_bytes w32 c.in-Some.n = search rules in
    short_read c.args.frame.now.version c.args.kind c.in-Some.n c.args.text.now c.args.to.now c.add.new.to c.requires.form small says
    (subst (λ (l : List ℕ). AddsAttribute c.args.frame.now.version c.args.kind l c.args.to.now c.add.new.to true) bytes
    (subst (λ (b : Bool). AddsAttribute c.args.frame.now.version c.args.kind c.to_le_bytes.result c.args.to.now c.add.new.to b) c.if-not-branch.false c.in_ok-add.ensures.added))

pub returns-then-n-clause-read : goal.returns-then-n-clause-read
returns-then-n-clause-read c =
    short_none c.args.frame.now.version c.args.kind c.args.text.now c.args.to.now c.args.to.now c.requires.form
    (λ m small e.
    let says : decimal c.in-Some.n ≡ c.args.text.now = search rules in
    let wide : c.in-Some.n < 2 ^ 64 = search rules in
    let same : m ≡ c.in-Some.n = digits_once 10 m c.in-Some.n (omega arith) (omega arith) (decimal_small m (omega (arith, small))) (decimal_small c.in-Some.n wide) (e ∙ sym says) in
    omega (arith, same, small, c.if-n.true))
