use Rattle.std.proofs.Common.{◌≡◌, None, Ok, Option, subst, ap, refl, ◌∙◌}
use Rattle.std.specs.Option.{option_map}
use Rattle.sx_base.specs.Refusals.{refusal_of}
use Rattle.tlv_frame.specs.declared.stream_head.StreamHead.{StreamHead}
use Rattle.tlv_frame.specs.InFront.{FindsHead}
use Rattle.tlv_frame.specs.Feeding.{Fed, next_of, fed_after, head_handed, due_of}
use Rattle.tlv_frame.proofs.Pieces.{head_next, head_passed}
use Rattle.tlv_frame.proofs.feed.Feed.pass_head.Goals as goal

pub returns-in-Ok-Some-clause-after : goal.returns-in-Ok-Some-clause-after
returns-in-Ok-Some-clause-after c =
    let exact = subst (λ (x : Option StreamHead). FindsHead c.left.result.now (Ok x)) c.in-Ok-Some.field-0-is c.in-Ok-Some.ensures.exact in
    let good : option_map refusal_of c.self.inside.refused ≡ None = ap (λ (f : Fed). f.refused) c.self.view_is ∙ c.requires.good in
    let next = head_next c.args.self.now c.left.result.now c.in-Ok-Some.head c.left.ensures.bytes c.requires.due c.requires.good exact in
    head_passed c.self.inside.bytes.items c.self.inside.last c.self.inside.start (due_of c.self.inside.due) c.self.inside.ended (option_map refusal_of c.self.inside.refused) c.in-Ok-Some.head.version good (ap next_of c.self.view_is ∙ next) ∙ ap fed_after c.self.view_is

pub returns-in-Ok-Some-clause-answer : goal.returns-in-Ok-Some-clause-answer
returns-in-Ok-Some-clause-answer c =
    let exact = subst (λ (x : Option StreamHead). FindsHead c.left.result.now (Ok x)) c.in-Ok-Some.field-0-is c.in-Ok-Some.ensures.exact in
    let next = head_next c.args.self.now c.left.result.now c.in-Ok-Some.head c.left.ensures.bytes c.requires.due c.requires.good exact in
    (head_handed c.in-Ok-Some.head.version, (next, (refl, exact.known)))
