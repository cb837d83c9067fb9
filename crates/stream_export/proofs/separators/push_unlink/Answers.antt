use Rattle.std.proofs.Common.{[], ◌∷◌, ◌≡◌, ◌++◌, ◌+◌, ℕ, List, length, take, drop, ap, ◌∙◌, arith}
use Rattle.send_model.specs.Command.{row}
use Rattle.send_model.specs.Attribute.{PATH}
use Rattle.send_model.specs.Spelling.{attribute_bytes, body_of, frame_of}
use Rattle.tlv_frame.specs.Frame.{Begun, head_room}
use Rattle.receivable_form.proofs.Frames.{text_of, one_body, by_writer, can_finish, finished}
use Rattle.stream_export.proofs.Frames.{unlink_is}
use Rattle.stream_export.proofs.separators.push_unlink.Goals.{In_ok-attr_bytes}
use Rattle.stream_export.proofs.separators.push_unlink.Goals as goal

-- Where the frame begins, and what stands there before its header is put in.
unfinished : (c : In_ok-attr_bytes) → (c.attr_bytes.new.self.start ≡ length c.args.to.now) × (c.attr_bytes.new.self.number ≡ 11) × (c.attr_bytes.new.to ≡ (c.args.to.now ++ head_room) ++ body_of c.args.version (text_of PATH c.args.path.now ∷ []))
unfolding row
unfinished c =
    let begun = c.in_ok-writer.ensures.begun in
    let v0 : c.in_ok-writer.writer.version ≡ c.args.version = ap (λ (w : Begun). w.version) begun in (
      ap (λ (w : Begun). w.start) (c.attr_bytes.ensures.writer ∙ begun),
      ap (λ (w : Begun). w.number) (c.attr_bytes.ensures.writer ∙ begun) ∙ c.number.ensures.number,
      one_body c.args.version c.args.to.now (text_of PATH c.args.path.now) c.attr_bytes.new.to
          (by_writer c.args.version c.in_ok-writer.writer.version c.begin.new.to c.attr_bytes.new.to (text_of PATH c.args.path.now) v0 c.in_ok-attr_bytes.ensures.appended ∙ ap (λ (l : List ℕ). l ++ attribute_bytes c.args.version (text_of PATH c.args.path.now)) c.in_ok-writer.ensures.room),
    )

pub finish-requires-clause-short : goal.finish-requires-clause-short
finish-requires-clause-short c =
    let (start, number, bytes) = unfinished (goal.at.finish-requires-clause-short c).In_ok-attr_bytes in
    (can_finish c.args.version c.attr_bytes.new.self.start (text_of PATH c.args.path.now ∷ []) c.args.to.now c.attr_bytes.new.to start bytes (omega (arith, c.requires.short))).1

pub returns-clause-added : goal.returns-clause-added
returns-clause-added c =
    let (start, number, bytes) = unfinished (goal.at.returns-clause-added c).In_ok-attr_bytes in
    finished 11 c.attr_bytes.new.self.start c.args.to.now (body_of c.args.version (text_of PATH c.args.path.now ∷ [])) c.attr_bytes.new.to c.finish.new.to start bytes
    (c.finish.ensures.framed ∙ ap (λ (n : ℕ). take c.attr_bytes.new.self.start c.attr_bytes.new.to ++ frame_of n (drop (c.attr_bytes.new.self.start + 10) c.attr_bytes.new.to)) number)
    ∙ ap (λ (l : List ℕ). c.args.to.now ++ l) (unlink_is c.args.version c.args.path.now)
