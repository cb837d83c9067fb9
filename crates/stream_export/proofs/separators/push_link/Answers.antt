use Rattle.std.proofs.Common.{[], ◌∷◌, ◌≡◌, ◌++◌, ◌+◌, ℕ, List, length, take, drop, ap, ◌∙◌, arith}
use Rattle.send_model.specs.Command.{row}
use Rattle.send_model.specs.Attribute.{PATH, PATH_LINK}
use Rattle.send_model.specs.Spelling.{attribute_bytes, body_of, frame_of}
use Rattle.tlv_frame.specs.Frame.{Begun, head_room}
use Rattle.receivable_form.proofs.Frames.{text_of, two_body, by_writer, can_finish, finished}
use Rattle.stream_export.proofs.Frames.{link_is}
use Rattle.stream_export.proofs.separators.push_link.Goals.{In_ok-attr_bytes-2}
use Rattle.stream_export.proofs.separators.push_link.Goals as goal

-- Where the frame begins, and what stands there before its header is put in.
unfinished : (c : In_ok-attr_bytes-2) → (c.attr_bytes-2.new.self.start ≡ length c.args.to.now) × (c.attr_bytes-2.new.self.number ≡ 10) × (c.attr_bytes-2.new.to ≡ (c.args.to.now ++ head_room) ++ body_of c.args.version (text_of PATH c.args.name.now ∷ text_of PATH_LINK c.args.path.now ∷ []))
unfolding row
unfinished c =
    let begun = c.in_ok-writer.ensures.begun in
    let v0 : c.in_ok-writer.writer.version ≡ c.args.version = ap (λ (w : Begun). w.version) begun in
    let v1 : c.attr_bytes.new.self.version ≡ c.args.version = ap (λ (w : Begun). w.version) c.attr_bytes.ensures.writer ∙ v0 in (
      ap (λ (w : Begun). w.start) (c.attr_bytes-2.ensures.writer ∙ c.attr_bytes.ensures.writer ∙ begun),
      ap (λ (w : Begun). w.number) (c.attr_bytes-2.ensures.writer ∙ c.attr_bytes.ensures.writer ∙ begun) ∙ c.number.ensures.number,
      two_body c.args.version c.args.to.now (text_of PATH c.args.name.now) (text_of PATH_LINK c.args.path.now) c.attr_bytes.new.to c.attr_bytes-2.new.to
          (by_writer c.args.version c.in_ok-writer.writer.version c.begin.new.to c.attr_bytes.new.to (text_of PATH c.args.name.now) v0 c.in_ok-attr_bytes.ensures.appended ∙ ap (λ (l : List ℕ). l ++ attribute_bytes c.args.version (text_of PATH c.args.name.now)) c.in_ok-writer.ensures.room)
          (by_writer c.args.version c.attr_bytes.new.self.version c.attr_bytes.new.to c.attr_bytes-2.new.to (text_of PATH_LINK c.args.path.now) v1 c.in_ok-attr_bytes-2.ensures.appended),
    )

pub finish-requires-clause-short : goal.finish-requires-clause-short
finish-requires-clause-short c =
    let (start, number, bytes) = unfinished (goal.at.finish-requires-clause-short c).In_ok-attr_bytes-2 in
    (can_finish c.args.version c.attr_bytes-2.new.self.start (text_of PATH c.args.name.now ∷ text_of PATH_LINK c.args.path.now ∷ []) c.args.to.now c.attr_bytes-2.new.to start bytes (omega (arith, c.requires.short_name, c.requires.short))).1

pub returns-clause-added : goal.returns-clause-added
returns-clause-added c =
    let (start, number, bytes) = unfinished (goal.at.returns-clause-added c).In_ok-attr_bytes-2 in
    finished 10 c.attr_bytes-2.new.self.start c.args.to.now (body_of c.args.version (text_of PATH c.args.name.now ∷ text_of PATH_LINK c.args.path.now ∷ [])) c.attr_bytes-2.new.to c.finish.new.to start bytes
    (c.finish.ensures.framed ∙ ap (λ (n : ℕ). take c.attr_bytes-2.new.self.start c.attr_bytes-2.new.to ++ frame_of n (drop (c.attr_bytes-2.new.self.start + 10) c.attr_bytes-2.new.to)) number)
    ∙ ap (λ (l : List ℕ). c.args.to.now ++ l) (link_is c.args.version c.args.name.now c.args.path.now)
