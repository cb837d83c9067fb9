use Rattle.std.proofs.Common.{◌≡◌, ◌+◌, ◌-◌, ◌<◌, ◌≤◌, ◌++◌, ℕ, List, Bool, true, length, refl, ap, subst, ◌∙◌, arith}
use Rattle.send_commands.specs.Meaning.{kind_meant}
use Rattle.send_model.specs.Command.{row}
use Rattle.send_model.specs.Spelling.{greatest_body}
use Rattle.tlv_frame.specs.Frame.{head_room}
use Rattle.stream_text.specs.ValueReading.{ReadsValues}
use Rattle.stream_text.proofs.TakenLines.{frame_long, frame_added, cut_back}
use Rattle.stream_text.proofs.text_line.Packed.add_frame.Goals as goal

pub returns-then-as_slice-start-clause-added : goal.returns-then-as_slice-start-clause-added
returns-then-as_slice-start-clause-added c =
    let old = c.args.self.now.bytes in
    let filled = c.read_all.new.to in
    let text = c.args.text.now in
    let kinds = (row (kind_meant c.args.kind)).wanted in
    let read = subst (λ (ks : List ℕ). ReadsValues c.args.version ks text (old ++ head_room) filled true) c.wanted-wanted.ensures.wanted
    (subst (λ (l : List ℕ). ReadsValues c.args.version c.wanted-wanted.result.now text l filled true) c.in_ok-writer.ensures.room
    (subst (λ (b : Bool). ReadsValues c.args.version c.wanted-wanted.result.now text c.begin.new.to filled b) c.if-not-branch.false c.in_ok-read_all.ensures.read)) in
    let long : 10 + greatest_body < length filled - length old = omega (arith, c.if-as_slice-start.true, ap length c.as_slice.ensures.bytes, ap length c.as_slice-start.ensures.bytes) in (
      frame_long c.args.version kinds text old head_room filled refl read long,
      c.cut-then-as_slice-start.ensures.kept ∙ cut_back old head_room c.begin.new.to filled c.as_slice-start.result.now c.as_slice-start.ensures.bytes c.in_ok-writer.ensures.room c.in_ok-read_all.ensures.kept,
    )

pub returns-clause-added : goal.returns-clause-added
returns-clause-added c =
    let old = c.args.self.now.bytes in
    let filled = c.read_all.new.to in
    let text = c.args.text.now in
    let read = subst (λ (ks : List ℕ). ReadsValues c.args.version ks text (old ++ head_room) filled true) c.wanted-wanted.ensures.wanted
    (subst (λ (l : List ℕ). ReadsValues c.args.version c.wanted-wanted.result.now text l filled true) c.in_ok-writer.ensures.room
    (subst (λ (b : Bool). ReadsValues c.args.version c.wanted-wanted.result.now text c.begin.new.to filled b) c.if-not-branch.false c.in_ok-read_all.ensures.read)) in
    let short : length filled - length old ≤ 10 + greatest_body = omega (arith, c.if-as_slice-start.false, ap length c.as_slice.ensures.bytes, ap length c.as_slice-start.ensures.bytes) in
    let begins : c.read_all.new.frame.writer.start ≡ length old = ap (λ f. f.writer.start) c.in_ok-read_all.ensures.frame ∙ ap (λ w. w.start) c.in_ok-writer.ensures.begun in
    let number : c.read_all.new.frame.writer.number ≡ (row (kind_meant c.args.kind)).number =
    ap (λ f. f.writer.number) c.in_ok-read_all.ensures.frame ∙ ap (λ w. w.number) c.in_ok-writer.ensures.begun ∙ c.number.ensures.number in
    frame_added c.args.version (kind_meant c.args.kind) text old head_room filled c.finish.new.to c.read_all.new.frame.writer.start c.read_all.new.frame.writer.number refl read short begins number c.finish.ensures.framed
