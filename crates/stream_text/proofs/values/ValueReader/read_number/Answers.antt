use Rattle.std.specs.Fmt.{decimal}
use Rattle.std.specs.Int.{w64, to_le_bytes}
use Rattle.std.proofs.Common.{rules, ◌≡◌, ◌^◌, ◌<◌, ℕ, List, Bool, true, false, subst}
use Rattle.stream_text.specs.ValueReading.{AddsAttribute}
use Rattle.stream_text.proofs.Numbers.{number_read}
use Rattle.stream_text.proofs.values.ValueReader.read_number.Goals as goal

pub returns-clause-read : goal.returns-clause-read
returns-clause-read c =
    let small : c.in-Some.n < 2 ^ 64 = search rules in
    let says : decimal c.in-Some.n ≡ c.args.text.now = search rules in
    let bytes : c.to_le_bytes.result ≡ to_le_bytes w64 c.in-Some.n = search rules in
    number_read c.args.frame.now.version c.args.kind false c.in-Some.n c.args.text.now c.args.to.now c.add.new.to c.requires.form c.requires.other small says
    (subst (λ (l : List ℕ). AddsAttribute c.args.frame.now.version c.args.kind l c.args.to.now c.add.new.to true) bytes
    (subst (λ (b : Bool). AddsAttribute c.args.frame.now.version c.args.kind c.to_le_bytes.result c.args.to.now c.add.new.to b) c.if-not-branch.false c.in_ok-add.ensures.added))
