use Rattle.std.proofs.Common.{◌-◌, ℕ, List, Bool, true, false, length, take, drop, subst, ◌∙◌}
use Rattle.send_commands.specs.Meaning.{kind_meant}
use Rattle.stream_text.specs.LineTaking.{AddsFrame}
use Rattle.stream_text.proofs.ValueTexts.{rest_is}
use Rattle.stream_text.proofs.TakenLines.{name_refused, frame_refused, frame_taken}
use Rattle.stream_text.proofs.text_line.Packed.add_command.Goals as goal

pub returns-in_default : goal.returns-in_default
returns-in_default c = record {
  taken = name_refused c.args.version c.args.line.now c.args.self.now.bytes c.word_end-end.result c.args.self.now.due c.requires.due c.word_end-end.ensures.end c.in_default.ensures.named;
}

pub returns-then-not-branch : goal.returns-then-not-branch
returns-then-not-branch c =
    let line = c.args.line.now in
    let end = c.word_end-end.result in
    let old = c.args.self.now.bytes in
    let new = c.add_frame.new.self.bytes in
    let kind = kind_meant c.in-Some.kind in
    let none = subst (λ (l : List ℕ). AddsFrame c.args.version kind l old new false) (rest_is line end)
    (subst (λ (b : Bool). AddsFrame c.args.version kind (take (length line - end) (drop end line)) old new b) c.if-not-branch.true c.in_ok-add_frame.ensures.added) in
    record { taken = frame_refused c.args.version line old new end kind c.add_frame.new.self.due (c.in_ok-add_frame.ensures.due ∙ c.requires.due) c.word_end-end.ensures.end c.in-Some.ensures.named none }

pub returns : goal.returns
returns c =
    let line = c.args.line.now in
    let end = c.word_end-end.result in
    let old = c.args.self.now.bytes in
    let new = c.add_frame.new.self.bytes in
    let kind = kind_meant c.in-Some.kind in
    let added = subst (λ (l : List ℕ). AddsFrame c.args.version kind l old new true) (rest_is line end)
    (subst (λ (b : Bool). AddsFrame c.args.version kind (take (length line - end) (drop end line)) old new b) c.if-not-branch.false c.in_ok-add_frame.ensures.added) in
    record { taken = frame_taken c.args.version line old new end kind c.due_behind-self.result c.due_behind-self.ensures.due c.in-Some.ensures.named added }
