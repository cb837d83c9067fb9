use Rattle.std.proofs.Common.{◌≡◌, ℕ, ◌-◌, List, length, take, drop, sym, ◌∙◌, ap, arith}
use Rattle.std.proofs.lemmas.List.{take_all}
use Rattle.squash_log.specs.Fates.{Fate}
use Rattle.squash_log.specs.Stacks.{count_of, all_counts, unstacked}
use Rattle.squash_log.proofs.StackLaws.{passed, within}
use Rattle.squash_log.proofs.fates.Fates.pass.Goals as goal
use Rattle.squash_log.proofs.fates.Fates.pass.Goals.{In-Whole, In-Parts, After-truncate}

pub overflow_sub-from : goal.overflow_sub-from
overflow_sub-from c =
    let w = within c.self.inside.marks.items c.pop.new.self.items c.in-Some.mark c.self.inside.spans.items c.in-Some.ensures.items c.self.invariant in
    let n = ap count_of c.in-Parts.is in
    omega (arith, w, n, c.len.ensures, c.self.inside.spans.ok.0)

whole : (c : In-Whole) → (all_counts c.pop.new.self.items ≡ length c.self.inside.spans.items)
    × (unstacked c.pop.new.self.items c.self.inside.spans.items ≡ drop 1 (unstacked c.self.inside.marks.items c.self.inside.spans.items))
whole c =
    let n : count_of c.in-Some.mark ≡ 0 = ap count_of c.in-Whole.is in
    passed c.self.inside.marks.items c.pop.new.self.items c.in-Some.mark c.self.inside.spans.items c.self.inside.spans.items c.in-Some.ensures.items c.self.invariant
    (sym (take_all (length c.self.inside.spans.items - count_of c.in-Some.mark) c.self.inside.spans.items (omega (arith, n))))

parts : (c : After-truncate) → (all_counts c.pop.new.self.items ≡ length c.truncate.new.self.items)
    × (unstacked c.pop.new.self.items c.truncate.new.self.items ≡ drop 1 (unstacked c.self.inside.marks.items c.self.inside.spans.items))
parts c =
    let n : count_of c.in-Some.mark ≡ c.in-Parts.count = ap count_of c.in-Parts.is in
    let k : c.len.result - c.in-Parts.count ≡ length c.self.inside.spans.items - count_of c.in-Some.mark = omega (arith, n, c.len.ensures, c.self.inside.spans.ok.0) in
    passed c.self.inside.marks.items c.pop.new.self.items c.in-Some.mark c.self.inside.spans.items c.truncate.new.self.items c.in-Some.ensures.items c.self.invariant
    (c.truncate.ensures.items ∙ ap (λ (j : ℕ). take j c.self.inside.spans.items) k)

pub invariant_of-self-in-Whole : goal.invariant_of-self-in-Whole
invariant_of-self-in-Whole c = (whole (goal.at.invariant_of-self-in-Whole c).In-Whole).0

pub invariant_of-self-in-Parts : goal.invariant_of-self-in-Parts
invariant_of-self-in-Parts c = (parts (goal.at.invariant_of-self-in-Parts c).After-truncate).0

pub returns-in-Whole : goal.returns-in-Whole
returns-in-Whole c = (whole (goal.at.returns-in-Whole c).In-Whole).1 ∙ ap (λ (l : List Fate). drop 1 l) c.self.view_is

pub returns-in-Parts : goal.returns-in-Parts
returns-in-Parts c = (parts (goal.at.returns-in-Parts c).After-truncate).1 ∙ ap (λ (l : List Fate). drop 1 l) c.self.view_is
