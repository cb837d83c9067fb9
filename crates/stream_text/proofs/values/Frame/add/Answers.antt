use Rattle.std.proofs.Common.{◌++◌, ℕ, length, subst, sym, ap, ◌∙◌}
use Rattle.send_model.specs.Attribute.{HasRoom}
use Rattle.send_model.specs.Spelling.{attribute_bytes}
use Rattle.stream_text.proofs.values.Frame.add.Goals as goal

pub attr_bytes-requires : goal.attr_bytes-requires
attr_bytes-requires c = record {
  short = subst (λ (v : ℕ). HasRoom v c.args.kind (length c.args.bytes.now)) (sym c.requires.version) (c.has_room.ensures.room.0 c.if-not-has_room.false);
}

pub returns-clause-added : goal.returns-clause-added
returns-clause-added c = (
  c.has_room.ensures.room.0 c.if-not-has_room.false,
  c.in_ok-attr_bytes.ensures.appended
      ∙ ap (λ (v : ℕ). c.args.to.now ++ attribute_bytes v (record { kind = c.args.kind; bytes = c.args.bytes.now })) c.requires.version,
)
