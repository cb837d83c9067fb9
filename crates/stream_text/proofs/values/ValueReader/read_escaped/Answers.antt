use Rattle.std.proofs.Common.{rules, ◌≡◌, ◌++◌, ℕ, List, Bool, true, subst, sym, ap, ◌∙◌}
use Rattle.send_model.specs.Attribute.{IsBytes}
use Rattle.send_model.specs.Printed.{escaped}
use Rattle.stream_text.specs.ValueReading.{AddsAttribute}
use Rattle.stream_text.proofs.Contents.{escaped_end}
use Rattle.stream_text.proofs.values.ValueReader.read_escaped.Goals as goal

pub returns-clause-read : goal.returns-clause-read
returns-clause-read c =
    let are : IsBytes c.as_slice-3.result.now = c.add.ensures.bytes in
    let again : c.escape_into.new.to ≡ escaped c.as_slice.result.now = c.in_ok-escape_into.ensures.appended ∙ ap (λ (l : List ℕ). l ++ escaped c.as_slice.result.now) c.clear-2.ensures.empty in
    let same : c.as_slice-3.result.now ≡ c.as_slice.result.now = c.as_slice-3.ensures.bytes ∙ sym c.as_slice.ensures.bytes in
    let shown : c.as_slice-2.result.now ≡ c.args.text.now = search rules in
    let says : escaped c.as_slice-3.result.now ≡ c.args.text.now = ap escaped same ∙ sym again ∙ sym c.as_slice-2.ensures.bytes ∙ shown in
    escaped_end c.args.frame.now.version c.args.kind c.args.text.now c.as_slice-3.result.now c.args.to.now c.add.new.to c.requires.form c.requires.name are says true
    (subst (λ (b : Bool). AddsAttribute c.args.frame.now.version c.args.kind c.as_slice-3.result.now c.args.to.now c.add.new.to b) c.if-not-branch.false c.in_ok-add.ensures.added)
