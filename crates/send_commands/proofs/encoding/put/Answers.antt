use Rattle.std.proofs.Common.{◌≡◌, ℕ, ◌<◌, ◌≤◌, ◌==◌, ◌++◌, List, length, map, get_or, sym, ap, subst, ◌∙◌, arith, append_assoc}
use Rattle.std.proofs.lemmas.List.{length-map}
use Rattle.std.proofs.Math.ListN.{get_or-map}
use Rattle.send_model.specs.Attribute.{Field, field_bytes}
use Rattle.send_model.specs.Command.{row}
use Rattle.send_model.specs.Spelling.{attribute_bytes, frame_of, body_of, with_fields}
use Rattle.tlv_frame.specs.Frame.{Begun, head_room}
use Rattle.send_commands.specs.Meaning.{kind_meant}
use Rattle.send_commands.specs.Writing.{FieldShort, field_of}
use Rattle.send_commands.proofs.Spelled.{none_written, one_written, all_written, room_written, short_at}
use Rattle.send_commands.proofs.encoding.put.Goals as goal

pub loop-i-init : goal.loop-i-init
loop-i-init c = record {
  written = none_written c.args.to.now c.begin.new.to c.in_ok-writer.writer (kind_meant c.args.kind) c.args.version (map field_of c.args.fields.now)
      (c.in_ok-writer.ensures.begun ∙ ap (λ (n : ℕ). record { start = length c.args.to.now; number = n; version = c.args.version }) c.number.ensures.number) c.in_ok-writer.ensures.room;
  front = (head_room, c.in_ok-writer.ensures.room);
}

pub put_field-requires : goal.put_field-requires
put_field-requires c =
    let fields = c.args.fields.now in
    let f = c.index-fields-i.result in
    let i = c.loop-i.i in
    let kinds : List ℕ = (row (kind_meant c.args.kind)).wanted in
    let value : get_or (map field_of fields) i (field_of f) ≡ field_of f = get_or-map field_of fields i f ∙ ap field_of (sym c.index-fields-i.is) in
    let within : i < length (map field_of fields) = rw (length-map fields field_of) c.loop-i-test.true in
    let version : c.loop-i.writer.version ≡ c.args.version = ap (λ (w : Begun). w.version) c.loop-i.invariant.written.begun in
    let short = short_at c.args.version kinds (map field_of fields) i (field_of f) c.requires.values within in
    record {
      short = subst (λ (v : ℕ). FieldShort v (get_or c.wanted-wanted.result.now i 0) (field_of f)) (sym version)
          (subst (λ (list : List ℕ). FieldShort c.args.version (get_or list i 0) (field_of f)) (sym c.wanted-wanted.ensures.wanted) (subst (λ (x : Field). FieldShort c.args.version (get_or kinds i 0) x) value short));
    }

pub returns-in_err-put_field-clause-front : goal.returns-in_err-put_field-clause-front
returns-in_err-put_field-clause-front c =
    let front = c.loop-i.invariant.front in
    let more = c.put_field.ensures.front in
    (front.0 ++ more.0, more.1 ∙ ap (λ (l : List ℕ). l ++ more.0) front.1 ∙ append_assoc c.args.to.now front.0 more.0)

pub loop-i-preserved : goal.loop-i-preserved
loop-i-preserved c =
    let fields = c.args.fields.now in
    let f = c.index-fields-i.result in
    let i = c.loop-i.i in
    let value : get_or (map field_of fields) i (field_of f) ≡ field_of f = get_or-map field_of fields i f ∙ ap field_of (sym c.index-fields-i.is) in
    let within : i < length (map field_of fields) = rw (length-map fields field_of) c.loop-i-test.true in
    let wanted : i < length (row (kind_meant c.args.kind)).wanted = rw (← c.requires.count) c.loop-i-test.true in
    let appended : c.put_field.new.to ≡ c.loop-i.to ++ attribute_bytes c.args.version (record { kind = get_or (row (kind_meant c.args.kind)).wanted i 0; bytes = field_bytes (get_or (map field_of fields) i (field_of f)) }) =
    c.in_ok-put_field.ensures.appended
    ∙ ap (λ (v : ℕ). c.loop-i.to ++ attribute_bytes v (record { kind = get_or c.wanted-wanted.result.now i 0; bytes = field_bytes (field_of f) })) (ap (λ (w : Begun). w.version) c.loop-i.invariant.written.begun)
    ∙ ap (λ (kinds : List ℕ). c.loop-i.to ++ attribute_bytes c.args.version (record { kind = get_or kinds i 0; bytes = field_bytes (field_of f) })) c.wanted-wanted.ensures.wanted
    ∙ ap (λ (x : Field). c.loop-i.to ++ attribute_bytes c.args.version (record { kind = get_or (row (kind_meant c.args.kind)).wanted i 0; bytes = field_bytes x })) (sym value) in
    let front = c.loop-i.invariant.front in
    let more = c.put_field.ensures.front in
    record {
      written = one_written c.args.to.now c.loop-i.to c.put_field.new.to c.loop-i.writer c.put_field.new.writer (kind_meant c.args.kind) c.args.version (map field_of fields) i (field_of f)
          c.loop-i.invariant.written c.put_field.ensures.writer wanted within appended
          (λ first. c.in_ok-put_field.ensures.short (ap (λ (w : Begun). w.version == 2) c.loop-i.invariant.written.begun ∙ first));
      front = (front.0 ++ more.0, more.1 ∙ ap (λ (l : List ℕ). l ++ more.0) front.1 ∙ append_assoc c.args.to.now front.0 more.0);
    }

pub finish-requires-clause-begun : goal.finish-requires-clause-begun
finish-requires-clause-begun c =
    let few : c.loop-i.i ≤ 7 = omega (arith, c.loop-i.auto.i-end, c.requires.count, c.wanted-wanted.ensures.few, ap (λ (l : List ℕ). length l) c.wanted-wanted.ensures.wanted) in
    (room_written c.args.to.now c.loop-i.to c.loop-i.writer (kind_meant c.args.kind) c.args.version (map field_of c.args.fields.now) c.loop-i.i c.loop-i.invariant.written
    (rw (← c.requires.count) c.loop-i-test.false) (rw (length-map c.args.fields.now field_of) c.loop-i-test.false) few c.requires.short).0

pub finish-requires-clause-short : goal.finish-requires-clause-short
finish-requires-clause-short c =
    let few : c.loop-i.i ≤ 7 = omega (arith, c.loop-i.auto.i-end, c.requires.count, c.wanted-wanted.ensures.few, ap (λ (l : List ℕ). length l) c.wanted-wanted.ensures.wanted) in
    (room_written c.args.to.now c.loop-i.to c.loop-i.writer (kind_meant c.args.kind) c.args.version (map field_of c.args.fields.now) c.loop-i.i c.loop-i.invariant.written
    (rw (← c.requires.count) c.loop-i-test.false) (rw (length-map c.args.fields.now field_of) c.loop-i-test.false) few c.requires.short).1

whole : (c : goal.After-finish) → c.finish.new.to ≡ c.args.to.now ++ frame_of (row (kind_meant c.args.kind)).number (body_of c.args.version (with_fields (row (kind_meant c.args.kind)).wanted (map field_of c.args.fields.now)))
whole c = all_written c.args.to.now c.loop-i.to c.finish.new.to c.loop-i.writer (kind_meant c.args.kind) c.args.version (map field_of c.args.fields.now) c.loop-i.i c.loop-i.invariant.written
    (rw (← c.requires.count) c.loop-i-test.false) (rw (length-map c.args.fields.now field_of) c.loop-i-test.false) c.finish.ensures.framed

pub returns-clause-appended : goal.returns-clause-appended
returns-clause-appended c = whole c

pub returns-clause-front : goal.returns-clause-front
returns-clause-front c = (frame_of (row (kind_meant c.args.kind)).number (body_of c.args.version (with_fields (row (kind_meant c.args.kind)).wanted (map field_of c.args.fields.now))), whole c)
