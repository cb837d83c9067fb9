use Rattle.std.proofs.Common.{◌+◌, refl, sym, ◌∙◌, arith, inl, inr}
use Rattle.squash_log.specs.Cells.{lives_in}
use Rattle.squash_log.proofs.FateRuns.{unknown, unknown_mark, dead_mark}
use Rattle.squash_log.proofs.fates.mark_range.Goals as goal

pub returns-then-range-eq0 : goal.returns-then-range-eq0
returns-then-range-eq0 g c =
    let there = g.E.Ended.there c.args.ended.now in
    let r = c.args.range.now in
    unknown_mark (λ k. lives_in there c.args.files.now r.ino (r.at + k)) (there r.ino) (λ k. unknown there c.args.files.now r.ino (sym c.in_default.ensures.value) (r.at + k))
    r c.args.spans.now.items c.args.spans.now.items (inl c.if-range-eq0.true) refl

pub returns-then-is_there : goal.returns-then-is_there
returns-then-is_there g c =
    let there = g.E.Ended.there c.args.ended.now in
    let r = c.args.range.now in
    unknown_mark (λ k. lives_in there c.args.files.now r.ino (r.at + k)) (there r.ino) (λ k. unknown there c.args.files.now r.ino (sym c.in_default.ensures.value) (r.at + k))
    r c.args.spans.now.items c.args.spans.now.items (inr (sym c.is_there.ensures ∙ c.if-is_there.true)) refl

pub returns-in_default : goal.returns-in_default
returns-in_default g c =
    let there = g.E.Ended.there c.args.ended.now in
    let r = c.args.range.now in
    dead_mark (λ k. lives_in there c.args.files.now r.ino (r.at + k))
    (λ k. unknown there c.args.files.now r.ino (sym c.in_default.ensures.value) (r.at + k) ∙ sym c.is_there.ensures ∙ c.if-is_there.false)
    r c.args.spans.now.items c.args.spans.now.items c.is_longer.result (omega (arith, c.if-range-eq0.false)) refl c.is_longer.ensures
