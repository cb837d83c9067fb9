use Rattle.std.proofs.Common.{◌≡◌, ◌+◌, ◌≤◌, None, Some, Ok, Result, Option, ap, sym, subst, ◌∙◌, ℕ, List, length, take, drop}
use Rattle.std.specs.Option.{option_map}
use Rattle.send_model.specs.Refusal as meant
use Rattle.send_model.specs.Spelling.{frame_checksum}
use Rattle.sx_base.specs.Refusals.{refusal_of}
use Rattle.tlv_frame.specs.declared.frame_head.FrameHead.{FrameHead}
use Rattle.tlv_frame.specs.InFront.{FindsFrame}
use Rattle.tlv_frame.specs.Feeding.{Fed, FramePiece, Handed, next_of, fed_after, frame_handed, due_of}
use Rattle.tlv_frame.proofs.Pieces.{body_in, frame_next, frame_passed, end_is, last_size, last_body}
use Rattle.tlv_frame.proofs.feed.Feed.pass_frame.Goals.{In-Ok-Some}
use Rattle.tlv_frame.proofs.feed.Feed.pass_frame.Goals as goal

-- A frame stands in front: what is known of its header, that all of it is there, and what is handed
-- out.
stands : (c : In-Ok-Some) → FindsFrame c.left.result.now (Ok (Some c.in-Ok-Some.head))
    × (10 + c.in-Ok-Some.head.len ≤ length (drop c.self.inside.start c.self.inside.bytes.items))
    × (next_of c.args.self.now ≡ Ok (Some (frame_handed c.args.version c.in-Ok-Some.head.cmd (body_in c.args.self.now.left c.in-Ok-Some.head))))
stands c =
    let exact = subst (λ (x : Option FrameHead). FindsFrame c.left.result.now (Ok x)) c.in-Ok-Some.field-0-is c.in-Ok-Some.ensures.exact in
    let left : drop c.self.inside.start c.self.inside.bytes.items ≡ c.args.self.now.left = ap (λ (f : Fed). f.left) c.self.view_is in (
      exact,
      subst (λ (l : List ℕ). 10 + c.in-Ok-Some.head.len ≤ length l) (c.left.ensures.bytes ∙ sym left) exact.whole,
      frame_next c.args.self.now c.left.result.now c.args.version c.in-Ok-Some.head c.left.ensures.bytes c.requires.due c.requires.good exact,
    )

pub returns-in-Ok-Some-clause-after : goal.returns-in-Ok-Some-clause-after
returns-in-Ok-Some-clause-after c =
    let (exact, whole, next) = stands (goal.at.returns-in-Ok-Some-clause-after c).In-Ok-Some in
    let head = c.in-Ok-Some.head in
    let left : drop c.self.inside.start c.self.inside.bytes.items ≡ c.args.self.now.left = ap (λ (f : Fed). f.left) c.self.view_is in
    let good : option_map refusal_of c.self.inside.refused ≡ None = ap (λ (f : Fed). f.refused) c.self.view_is ∙ c.requires.good in
    let handed : List ℕ → Result (Option Handed) meant.Refusal = λ l. Ok (Some (frame_handed c.args.version head.cmd (body_in l head))) in
    rw (c.due_past-self-inside.ensures.due, end_is head.cmd)
    (frame_passed c.self.inside.bytes.items c.self.inside.last c.self.inside.start (due_of c.self.inside.due) c.self.inside.ended (option_map refusal_of c.self.inside.refused) c.args.version head whole good (ap next_of c.self.view_is ∙ next ∙ ap handed (sym left)) ∙ ap fed_after c.self.view_is)

pub returns-in-Ok-Some-clause-answer : goal.returns-in-Ok-Some-clause-answer
returns-in-Ok-Some-clause-answer c =
    let (exact, whole, next) = stands (goal.at.returns-in-Ok-Some-clause-answer c).In-Ok-Some in
    let items = c.self.inside.bytes.items in
    let start = c.self.inside.start in
    let head = c.in-Ok-Some.head in
    let body : body_in c.args.self.now.left head ≡ drop 10 (drop start (take (start + (10 + head.len)) items)) = ap (λ (f : Fed). body_in f.left head) (sym c.self.view_is) ∙ last_body items start head.len in
    let read : body_in c.left.result.now head ≡ body_in c.args.self.now.left head = ap (λ (l : List ℕ). body_in l head) c.left.ensures.bytes in (
      frame_handed c.args.version head.cmd (body_in c.args.self.now.left head),
      (next, (ap (λ (b : List ℕ). FramePiece head.cmd b) body, (last_size items start head.len whole, (exact.short, exact.sum ∙ ap (frame_checksum head.len head.cmd) (read ∙ body))))),
    )
