use Rattle.std.proofs.Common.{◌≡◌, ◌+◌, ◌-◌, Some, Ok, Option, ap, refl, sym, subst, ◌∙◌, arith, ℕ, List, length, take, drop, length-drop}
use Rattle.send_model.specs.Spelling.{frame_checksum}
use Rattle.tlv_frame.specs.declared.feed.Passed.{Passed}
use Rattle.tlv_frame.specs.Feeding.{Fed, FramePiece, Passes, next_of}
use Rattle.tlv_frame.proofs.Pieces.{frame_slice}
use Rattle.tlv_frame.proofs.feed.Feed.next.Goals as goal

pub returns-in-Ok-Some-Frame : goal.returns-in-Ok-Some-Frame
returns-in-Ok-Some-Frame c =
    let new : Fed = c.pass.new.self in
    let head = c.in-Ok-Some-Frame.head in
    let items = c.self.inside.bytes.items in
    let last = c.self.inside.last in
    let start = c.self.inside.start in
    let step = subst (λ (x : Option Passed). Passes new (next_of c.args.self.now) (Ok x)) c.in-Ok-Some-Frame.field-0-is c.in-Ok-Some-Frame.ensures.answer in
    let p = subst (λ (x : Passed). Passes new (next_of c.args.self.now) (Ok (Some x))) c.in-Ok-Some-Frame.field-0-0-is step in
    let bytes : drop last (take start items) ≡ new.last = ap (λ (f : Fed). f.last) c.self.view_is in
    let size : length (drop last (take start items)) ≡ 10 + head.len = ap (λ (l : List ℕ). length l) bytes ∙ p.1.1.1.0 in
    let body : take (start - (last + 10)) (drop (last + 10) c.as_slice.result.now) ≡ drop 10 new.last = frame_slice items c.as_slice.result.now last start head.len c.as_slice.ensures.value size ∙ ap (drop 10) bytes in
    let long : head.len ≡ length (take (start - (last + 10)) (drop (last + 10) c.as_slice.result.now)) = omega (arith, length-drop 10 new.last, p.1.1.1.0, ap (λ (l : List ℕ). length l) body) in (
      (refl, λ f. tt, c.self.view_is ∙ c.in-Ok-Some-Frame.ensures.after),
      record {
        after = tt;
        answer = (
          p.0,
          (
            p.1.0,
            (
              p.1.1.0 ∙ ap (λ (b : List ℕ). FramePiece head.cmd b) (sym body),
              (
                long,
                (
                  p.1.1.1.1.0,
                  p.1.1.1.1.1 ∙ ap (λ (b : List ℕ). frame_checksum head.len head.cmd b) (sym body) ∙ ap (λ (n : ℕ). frame_checksum n head.cmd (take (start - (last + 10)) (drop (last + 10) c.as_slice.result.now))) long,
                ),
              ),
            ),
          ),
        );
      },
    )
