use Rattle.std.proofs.Common.{rules, ◌≡◌, ◌≢◌, Bool, length, sym, ap, subst, ◌∙◌}
use Rattle.send_model.specs.Attribute.{IsBytes}
use Rattle.send_model.specs.Printed.{uuid_text}
use Rattle.stream_text.specs.ValueReading.{AddsAttribute}
use Rattle.stream_text.proofs.Identifiers.{uuid_none, uuid_read, uuid_text_len}
use Rattle.stream_text.proofs.values.ValueReader.read_uuid.Goals as goal

pub returns-then-text-ne-UUID_LEN-clause-read : goal.returns-then-text-ne-UUID_LEN-clause-read
returns-then-text-ne-UUID_LEN-clause-read c =
    uuid_none c.args.frame.now.version c.args.kind c.args.text.now c.args.to.now c.args.to.now c.requires.form
    (λ bytes len are says. c.if-text-ne-UUID_LEN.true (sym (ap length says) ∙ uuid_text_len bytes len))

pub returns-then-ne-clause-read : goal.returns-then-ne-clause-read
returns-then-ne-clause-read c =
    uuid_none c.args.frame.now.version c.args.kind c.args.text.now c.args.to.now c.args.to.now c.requires.form
    (λ bytes len are says.
    let same : c.uuid_in-bytes.result ≡ bytes = c.uuid_in-bytes.ensures.meant bytes len are says in
    let shown : c.as_slice.result.now ≡ uuid_text c.uuid_in-bytes.result = search rules in
    let other : c.as_slice.result.now ≢ c.args.text.now = search rules in
    other (shown ∙ ap uuid_text same ∙ says))

pub returns-clause-read : goal.returns-clause-read
returns-clause-read c =
    let shown : c.as_slice.result.now ≡ uuid_text c.uuid_in-bytes.result = search rules in
    let same : c.as_slice.result.now ≡ c.args.text.now = search rules in
    let len : length c.uuid_in-bytes.result ≡ 16 = search rules in
    let are : IsBytes c.uuid_in-bytes.result = c.add.ensures.bytes in
    uuid_read c.args.frame.now.version c.args.kind c.uuid_in-bytes.result c.args.text.now c.args.to.now c.add.new.to c.requires.form len are (sym shown ∙ same)
    (subst (λ (b : Bool). AddsAttribute c.args.frame.now.version c.args.kind c.uuid_in-bytes.result c.args.to.now c.add.new.to b) c.if-not-branch.false c.in_ok-add.ensures.added)
