use Rattle.std.proofs.Common.{◌≡◌, ◌++◌, ◌+◌, ℕ, List, length, take, drop, ap, ◌∙◌, arith}
use Rattle.send_model.specs.Command.{row}
use Rattle.send_model.specs.Attribute.{CTIME, MTIME, ATIME, PATH, Moment, field_bytes}
use Rattle.send_model.specs.Spelling.{attribute_bytes, body_of, frame_of}
use Rattle.send_commands.specs.Meaning.{time_of}
use Rattle.tlv_frame.specs.Frame.{Begun, head_room}
use Rattle.receivable_form.proofs.Frames.{text_of, moment_of, times_attributes, times_are, four_body, by_writer, with_bytes, can_finish, finished}
use Rattle.receivable_form.proofs.spelling.push_times.Goals.{In_ok-attr_bytes-4}
use Rattle.receivable_form.proofs.spelling.push_times.Goals as goal

-- Where the frame begins, and what stands there before its header is put in.
unfinished : (c : In_ok-attr_bytes-4) → (c.attr_bytes-4.new.self.start ≡ length c.args.to.now) × (c.attr_bytes-4.new.self.number ≡ 20) × (c.attr_bytes-4.new.to ≡ (c.args.to.now ++ head_room) ++ body_of c.args.version (times_attributes (time_of c.args.mtime) (time_of c.args.atime) c.args.path.now))
unfolding row
unfinished c =
    let begun = c.in_ok-writer.ensures.begun in
    let v0 : c.in_ok-writer.writer.version ≡ c.args.version = ap (λ (w : Begun). w.version) begun in
    let v1 : c.attr_bytes.new.self.version ≡ c.args.version = ap (λ (w : Begun). w.version) c.attr_bytes.ensures.writer ∙ v0 in
    let v2 : c.attr_bytes-2.new.self.version ≡ c.args.version = ap (λ (w : Begun). w.version) c.attr_bytes-2.ensures.writer ∙ v1 in
    let v3 : c.attr_bytes-3.new.self.version ≡ c.args.version = ap (λ (w : Begun). w.version) c.attr_bytes-3.ensures.writer ∙ v2 in (
      ap (λ (w : Begun). w.start) (c.attr_bytes-4.ensures.writer ∙ c.attr_bytes-3.ensures.writer ∙ c.attr_bytes-2.ensures.writer ∙ c.attr_bytes.ensures.writer ∙ begun),
      ap (λ (w : Begun). w.number) (c.attr_bytes-4.ensures.writer ∙ c.attr_bytes-3.ensures.writer ∙ c.attr_bytes-2.ensures.writer ∙ c.attr_bytes.ensures.writer ∙ begun) ∙ c.number.ensures.number,
      four_body c.args.version c.args.to.now (moment_of CTIME (time_of c.args.mtime)) (moment_of MTIME (time_of c.args.mtime)) (moment_of ATIME (time_of c.args.atime)) (text_of PATH c.args.path.now) c.attr_bytes.new.to c.attr_bytes-2.new.to c.attr_bytes-3.new.to c.attr_bytes-4.new.to
          (with_bytes c.args.version c.in_ok-writer.writer.version CTIME c.begin.new.to c.attr_bytes.new.to c.bytes.result (field_bytes (Moment (time_of c.args.mtime))) v0 c.bytes.ensures c.in_ok-attr_bytes.ensures.appended ∙ ap (λ (l : List ℕ). l ++ attribute_bytes c.args.version (moment_of CTIME (time_of c.args.mtime))) c.in_ok-writer.ensures.room)
          (with_bytes c.args.version c.attr_bytes.new.self.version MTIME c.attr_bytes.new.to c.attr_bytes-2.new.to c.bytes-2.result (field_bytes (Moment (time_of c.args.mtime))) v1 c.bytes-2.ensures c.in_ok-attr_bytes-2.ensures.appended)
          (with_bytes c.args.version c.attr_bytes-2.new.self.version ATIME c.attr_bytes-2.new.to c.attr_bytes-3.new.to c.bytes-3.result (field_bytes (Moment (time_of c.args.atime))) v2 c.bytes-3.ensures c.in_ok-attr_bytes-3.ensures.appended)
          (by_writer c.args.version c.attr_bytes-3.new.self.version c.attr_bytes-3.new.to c.attr_bytes-4.new.to (text_of PATH c.args.path.now) v3 c.in_ok-attr_bytes-4.ensures.appended),
    )

pub finish-requires-clause-short : goal.finish-requires-clause-short
finish-requires-clause-short c =
    let (start, number, bytes) = unfinished (goal.at.finish-requires-clause-short c).In_ok-attr_bytes-4 in
    (can_finish c.args.version c.attr_bytes-4.new.self.start (times_attributes (time_of c.args.mtime) (time_of c.args.atime) c.args.path.now) c.args.to.now c.attr_bytes-4.new.to start bytes (omega (arith, c.requires.short))).1

-- The frame.
framed : (c : goal.After-finish) → c.finish.new.to ≡ c.args.to.now ++ frame_of 20 (body_of c.args.version (times_attributes (time_of c.args.mtime) (time_of c.args.atime) c.args.path.now))
framed c =
    let (start, number, bytes) = unfinished (goal.at.returns-clause-added c).In_ok-attr_bytes-4 in
    finished 20 c.attr_bytes-4.new.self.start c.args.to.now (body_of c.args.version (times_attributes (time_of c.args.mtime) (time_of c.args.atime) c.args.path.now)) c.attr_bytes-4.new.to c.finish.new.to start bytes
    (c.finish.ensures.framed ∙ ap (λ (n : ℕ). take c.attr_bytes-4.new.self.start c.attr_bytes-4.new.to ++ frame_of n (drop (c.attr_bytes-4.new.self.start + 10) c.attr_bytes-4.new.to)) number)

pub returns-clause-added : goal.returns-clause-added
returns-clause-added c = framed c ∙ ap (λ (l : List ℕ). c.args.to.now ++ l) (times_are c.args.version (time_of c.args.mtime) (time_of c.args.atime) c.args.path.now)

pub returns-clause-kept : goal.returns-clause-kept
returns-clause-kept c = (frame_of 20 (body_of c.args.version (times_attributes (time_of c.args.mtime) (time_of c.args.atime) c.args.path.now)), framed c)
