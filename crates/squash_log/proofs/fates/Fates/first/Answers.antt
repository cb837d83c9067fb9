use Rattle.std.specs.List.{slice_get}
use Rattle.std.proofs.Common.{◌≡◌, ℕ, ◌-◌, List, Some, length, take, drop, sym, ◌∙◌, ap, subst, arith}
use Rattle.std.proofs.lemmas.List.{take_all, length-drop}
use Rattle.squash_log.specs.declared.fate.Span.{Span}
use Rattle.squash_log.specs.declared.fates.Mark.{Mark}
use Rattle.squash_log.specs.Stacks.{count_of}
use Rattle.squash_log.proofs.StackLaws.{first_whole, first_parts, last_read, within}
use Rattle.squash_log.proofs.fates.Fates.first.Goals as goal
use Rattle.squash_log.proofs.fates.Fates.first.Goals.{In-Whole, In-Parts}

pub overflow_sub-from : goal.overflow_sub-from
overflow_sub-from c =
    let ms = c.self.inside.marks.items in
    let at : slice_get ms (length ms - 1) ≡ Some c.in_ok-mark.mark.now =
    subst (λ (l : List Mark). slice_get l (length l - 1) ≡ Some c.in_ok-mark.mark.now) c.deref.ensures.value (sym c.in_ok-mark.ensures.value) in
    let w = within ms (take (length ms - 1) ms) c.in_ok-mark.mark.now c.self.inside.spans.items (last_read ms c.in_ok-mark.mark.now at) c.self.invariant in
    let n = ap count_of c.in-Parts.is in
    omega (arith, w, n, c.len.ensures, c.self.inside.spans.ok.0)

pub returns-in-Whole : goal.returns-in-Whole
returns-in-Whole c =
    let ms = c.self.inside.marks.items in
    let at : slice_get ms (length ms - 1) ≡ Some c.in_ok-mark.mark.now =
    subst (λ (l : List Mark). slice_get l (length l - 1) ≡ Some c.in_ok-mark.mark.now) c.deref.ensures.value (sym c.in_ok-mark.ensures.value) in
    first_whole ms c.self.inside.spans.items c.args.self.now c.self.view_is (at ∙ ap (λ (m : Mark). Some m) c.in-Whole.is) c.self.invariant

pub returns-in-Parts : goal.returns-in-Parts
returns-in-Parts c =
    let ms = c.self.inside.marks.items in
    let spans = c.self.inside.spans.items in
    let at : slice_get ms (length ms - 1) ≡ Some c.in_ok-mark.mark.now =
    subst (λ (l : List Mark). slice_get l (length l - 1) ≡ Some c.in_ok-mark.mark.now) c.deref.ensures.value (sym c.in_ok-mark.ensures.value) in
    let n : c.len.result - c.in-Parts.count ≡ length spans - c.in-Parts.count = omega (arith, c.len.ensures, c.self.inside.spans.ok.0) in
    let shown = c.deref-in-Parts.result.now in
    let from = c.len.result - c.in-Parts.count in
    first_parts ms spans (take (length shown - from) (drop from shown)) c.args.self.now c.in-Parts.count c.in-Parts.lengthens c.self.view_is
    (at ∙ ap (λ (m : Mark). Some m) c.in-Parts.is) c.self.invariant
    (take_all (length shown - from) (drop from shown) (omega (arith, length-drop from shown))
    ∙ ap (λ (l : List Span). drop from l) c.deref-in-Parts.ensures.value ∙ ap (λ (k : ℕ). drop k spans) n)
