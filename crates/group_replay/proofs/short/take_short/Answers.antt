use Rattle.std.specs.Prelude.{ℕ, ◌-◌, ◌≡◌, List, length, take, drop}
use Rattle.std.specs.Int.{w32, to_le_bytes}
use Rattle.std.proofs.lemmas.Result.{IfOk-weaker}
use Rattle.std.proofs.Common.{sym, ap, subst, ◌∙◌, arith, length-drop, take_all}
use Rattle.send_model.specs.Checksum.{crc_of}
use Rattle.group_replay.specs.Contents.{seal_len, in_front, behind, SealIsRight, TakesContent}
use Rattle.group_replay.proofs.GroupContents.{behind_taken}
use Rattle.group_replay.proofs.short.take_short.Goals as goal

-- what is said stands between the first byte and the checksum
content_is : (front body : List ℕ) (n far : ℕ) → front ≡ take (length body - n) body → n ≡ far → take (length front - 1) (drop 1 front) ≡ drop 1 (take (length body - far) body)
content_is front body n far is same =
    take_all (length front - 1) (drop 1 front) (omega (arith, length-drop 1 front)) ∙ ap (drop 1) (is ∙ ap (λ (k : ℕ). take (length body - k) body) same)

pub returns-clause-taken : goal.returns-clause-taken
returns-clause-taken c at =
    let tag = c.args.tag in
    let body = c.args.body.now in
    let front = c.split_at.result.0.now in
    let last = c.split_at.result.1.now in
    let front_is : front ≡ in_front tag.is_sealed body = c.split_at.ensures.front ∙ ap (λ (n : ℕ). take (length body - n) body) c.seal_len.ensures in
    let last_is : last ≡ behind tag.is_sealed body = c.split_at.ensures.back ∙ ap (λ (n : ℕ). drop (length body - n) body) c.seal_len.ensures in
    let right : SealIsRight tag.is_sealed body = λ e. sym last_is ∙ c.is_right.ensures.0 c.if-not-is_right.false e ∙ ap (λ (l : List ℕ). to_le_bytes w32 (crc_of 0 l)) front_is in
    IfOk-weaker c.take_content.result _ _
    (λ t took. behind_taken tag at body c.args.core.now c.take_content.new.core t right
    (subst (λ (l : List ℕ). TakesContent tag.kind at l c.args.core.now c.take_content.new.core t) (content_is front body c.seal_len.result (seal_len tag.is_sealed) c.split_at.ensures.front c.seal_len.ensures) took))
    (c.take_content.ensures.taken at)
