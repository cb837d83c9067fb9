use Rattle.std.proofs.Common.{◌≡◌, ◌++◌, ◌+◌, ℕ, List, length, take, drop, ap, ◌∙◌, arith}
use Rattle.send_model.specs.Command.{row}
use Rattle.send_model.specs.Attribute.{MODE, RDEV, PATH}
use Rattle.send_model.specs.Spelling.{attribute_bytes, body_of, frame_of}
use Rattle.send_model.specs.Receivable.{number_zero}
use Rattle.tlv_frame.specs.Frame.{Begun, head_room}
use Rattle.receivable_form.proofs.Frames.{text_of, count_of, device_attributes, device_is, four_body, by_writer, can_finish, finished}
use Rattle.receivable_form.proofs.spelling.push_device.Goals.{In_ok-attr_bytes}
use Rattle.receivable_form.proofs.spelling.push_device.Goals as goal

-- Where the frame begins, and what stands there before its header is put in.
unfinished : (c : In_ok-attr_bytes) → (c.attr_bytes.new.self.start ≡ length c.args.to.now) × (c.attr_bytes.new.self.number ≡ 5) × (c.attr_bytes.new.to ≡ (c.args.to.now ++ head_room) ++ body_of c.args.version (device_attributes c.args.mode c.args.rdev c.args.path.now))
unfolding row
unfinished c =
    let begun = c.in_ok-writer.ensures.begun in
    let v0 : c.in_ok-writer.writer.version ≡ c.args.version = ap (λ (w : Begun). w.version) begun in
    let v1 : c.attr_u64.new.self.version ≡ c.args.version = ap (λ (w : Begun). w.version) c.attr_u64.ensures.writer ∙ v0 in
    let v2 : c.attr_u64-2.new.self.version ≡ c.args.version = ap (λ (w : Begun). w.version) c.attr_u64-2.ensures.writer ∙ v1 in
    let v3 : c.attr_u64-3.new.self.version ≡ c.args.version = ap (λ (w : Begun). w.version) c.attr_u64-3.ensures.writer ∙ v2 in (
      ap (λ (w : Begun). w.start) (c.attr_bytes.ensures.writer ∙ c.attr_u64-3.ensures.writer ∙ c.attr_u64-2.ensures.writer ∙ c.attr_u64.ensures.writer ∙ begun),
      ap (λ (w : Begun). w.number) (c.attr_bytes.ensures.writer ∙ c.attr_u64-3.ensures.writer ∙ c.attr_u64-2.ensures.writer ∙ c.attr_u64.ensures.writer ∙ begun) ∙ c.number.ensures.number,
      four_body c.args.version c.args.to.now number_zero (count_of MODE c.args.mode) (count_of RDEV c.args.rdev) (text_of PATH c.args.path.now) c.attr_u64.new.to c.attr_u64-2.new.to c.attr_u64-3.new.to c.attr_bytes.new.to
          (by_writer c.args.version c.in_ok-writer.writer.version c.begin.new.to c.attr_u64.new.to number_zero v0 c.in_ok-attr_u64.ensures.appended ∙ ap (λ (l : List ℕ). l ++ attribute_bytes c.args.version number_zero) c.in_ok-writer.ensures.room)
          (by_writer c.args.version c.attr_u64.new.self.version c.attr_u64.new.to c.attr_u64-2.new.to (count_of MODE c.args.mode) v1 c.in_ok-attr_u64-2.ensures.appended)
          (by_writer c.args.version c.attr_u64-2.new.self.version c.attr_u64-2.new.to c.attr_u64-3.new.to (count_of RDEV c.args.rdev) v2 c.in_ok-attr_u64-3.ensures.appended)
          (by_writer c.args.version c.attr_u64-3.new.self.version c.attr_u64-3.new.to c.attr_bytes.new.to (text_of PATH c.args.path.now) v3 c.in_ok-attr_bytes.ensures.appended),
    )

pub finish-requires-clause-short : goal.finish-requires-clause-short
finish-requires-clause-short c =
    let (start, number, bytes) = unfinished (goal.at.finish-requires-clause-short c).In_ok-attr_bytes in
    (can_finish c.args.version c.attr_bytes.new.self.start (device_attributes c.args.mode c.args.rdev c.args.path.now) c.args.to.now c.attr_bytes.new.to start bytes (omega (arith, c.requires.short))).1

-- The frame.
framed : (c : goal.After-finish) → c.finish.new.to ≡ c.args.to.now ++ frame_of 5 (body_of c.args.version (device_attributes c.args.mode c.args.rdev c.args.path.now))
framed c =
    let (start, number, bytes) = unfinished (goal.at.returns-clause-added c).In_ok-attr_bytes in
    finished 5 c.attr_bytes.new.self.start c.args.to.now (body_of c.args.version (device_attributes c.args.mode c.args.rdev c.args.path.now)) c.attr_bytes.new.to c.finish.new.to start bytes
    (c.finish.ensures.framed ∙ ap (λ (n : ℕ). take c.attr_bytes.new.self.start c.attr_bytes.new.to ++ frame_of n (drop (c.attr_bytes.new.self.start + 10) c.attr_bytes.new.to)) number)

pub returns-clause-added : goal.returns-clause-added
returns-clause-added c = framed c ∙ ap (λ (l : List ℕ). c.args.to.now ++ l) (device_is c.args.version c.args.mode c.args.rdev c.args.path.now)

pub returns-clause-kept : goal.returns-clause-kept
returns-clause-kept c = (frame_of 5 (body_of c.args.version (device_attributes c.args.mode c.args.rdev c.args.path.now)), framed c)
