use Rattle.std.specs.Prelude.{MatchOption}
use Rattle.std.specs.Option.{option_to_list}
use Rattle.std.proofs.Common.{◌≡◌, ℕ, ◌+◌, ◌-◌, ◌<◌, ◌≤◌, ◌^◌, List, ◌++◌, Option, None, Some, length, min, refl, sym, ◌∙◌, ap, ap₂, arith, append_assoc}
use Rattle.std.proofs.lemmas.List.{append-nil}
use Rattle.extent_map.proofs.PieceByPiece.{left_after}
use Rattle.extent_map.specs.Cells.{cells_between}
use Rattle.squash_log.specs.declared.fate.Span.{Span}
use Rattle.squash_log.specs.Cells.{lives_from}
use Rattle.squash_log.specs.Stacks.{grown}
use Rattle.squash_log.proofs.SpanRuns.{left_spans, spans_from_start}
use Rattle.squash_log.proofs.FateRuns.{piece_ends, pieces_end, run_left, hole_left, end_left, none_left}
use Rattle.squash_log.proofs.fates.push_spans.Goals as goal
use Rattle.squash_log.proofs.fates.push_spans.Goals.{In-Some, then-is_some, else-is_some+in_ok-push_span}

pub returns-then-at-size : goal.returns-then-at-size
returns-then-at-size c =
    sym (ap (λ l. c.args.to.now.items ++ l) (none_left c.args.cells.now c.args.at c.args.len (omega (arith, c.if-at-size.true, c.size-size.ensures.count))) ∙ append-nil c.args.to.now.items)

pub loop-origin-init : goal.loop-origin-init
loop-origin-init c = record {
  within = omega arith;
  left = c.into_iter-origin-iterator.ensures.into_iter_gives ∙ c.pieces-origin-items.ensures
      ∙ ap (λ n. cells_between c.args.at n c.args.cells.now) (c.min.ensures ∙ ap (λ n. min c.args.len (n - c.args.at)) c.size-size.ensures.count);
  begun = tt;
  spans = let e : c.args.len - 0 ≡ c.args.len = omega arith in
      ap (λ l. c.args.to.now.items ++ l) (ap (λ (n : ℕ). left_spans (lives_from c.args.cells.now c.args.at) None 0 n) e ∙ spans_from_start (lives_from c.args.cells.now c.args.at) c.args.len);
}

ends : (c : In-Some) → c.loop-origin.place + c.in-Some.count ≤ min c.args.len (length c.args.cells.now - c.args.at)
ends c =
    let s = c.in-Some.ensures.steps in
    piece_ends _ c.args.cells.now c.args.at (min c.args.len (length c.args.cells.now - c.args.at)) c.loop-origin.place c.in-Some.count c.in-Some.origin c.next.new.self
    (omega (arith, c.if-at-size.false, c.size-size.ensures.count)) (sym c.loop-origin.invariant.left ∙ s.2) s.0

short : (begun : Option Span) (place count : ℕ) → MatchOption begun (Unit {0}) (λ s. s.at + s.len ≡ place) → place + count < 2 ^ 64 → MatchOption begun (Unit {0}) (λ span. span.len + count < 2 ^ 64)
short None place count h l = tt
short (Some s) place count h l = omega (arith, h, l)

grown_ends : (begun : Option Span) (place count : ℕ) → MatchOption begun (Unit {0}) (λ s. s.at + s.len ≡ place) → (grown begun place count).at + (grown begun place count).len ≡ place + count
grown_ends None place count h = refl
grown_ends (Some s) place count h = omega (arith, h)

pub longer-requires : goal.longer-requires
longer-requires c =
    let end = ends (goal.at.longer-requires c).In-Some in
    short c.loop-origin.running c.loop-origin.place c.in-Some.count c.loop-origin.invariant.begun (omega (arith, end, c.size-size.ensures))

pub overflow_add-place : goal.overflow_add-place
overflow_add-place c =
    let end = ends (goal.at.overflow_add-place c).In-Some in
    omega (arith, end, c.size-size.ensures)

begun_by : (new : Option Span) (s : Span) (end : ℕ) → new ≡ Some s → s.at + s.len ≡ end → MatchOption new (Unit {0}) (λ s. s.at + s.len ≡ end)
begun_by None s end e h = tt
begun_by (Some t) s end e h =
    let same : t ≡ s = ap (λ (o : Option Span). elim o as (λ x. Span) [ None ↦ t | Some x ↦ x ]) e in
    ap (λ (x : Span). x.at + x.len) same ∙ h

begun_none : (new : Option Span) (end : ℕ) → new ≡ None → MatchOption new (Unit {0}) (λ s. s.at + s.len ≡ end)
begun_none None end e = tt
begun_none (Some t) end e = cc

pub loop-origin-preserved : goal.loop-origin-preserved
loop-origin-preserved c =
    let s = c.in-Some.ensures.steps in
    let n = min c.args.len (length c.args.cells.now - c.args.at) in
    let lives = lives_from c.args.cells.now c.args.at in
    let is = sym c.loop-origin.invariant.left ∙ s.2 in
    let end = ends (goal.at.loop-origin-preserved c).In-Some in
    let fits : c.args.at + n ≤ length c.args.cells.now = omega (arith, c.if-at-size.false, c.size-size.ensures.count) in
    let more : c.loop-origin.place + c.in-Some.count ≤ n = end in
    record {
      within = end;
      left = sym (left_after _ (cells_between c.args.at n c.args.cells.now) c.loop-origin.place c.in-Some.count c.in-Some.origin c.next.new.self is);
      begun = elim c.if-is_some.branch [
        | then-is_some w ↦ begun_by c.if-is_some.running (grown c.loop-origin.running c.loop-origin.place c.in-Some.count) (c.loop-origin.place + c.in-Some.count)
            (w.running-is ∙ ap (λ x. Some x) w.longer.ensures) (grown_ends c.loop-origin.running c.loop-origin.place c.in-Some.count c.loop-origin.invariant.begun)
        | else-is_some+in_ok-push_span w ↦ begun_none c.if-is_some.running (c.loop-origin.place + c.in-Some.count) w.running-is
      ];
      spans = elim c.if-is_some.branch [
        | then-is_some w ↦
            ap₂ (λ (l : List Span) (o : Option Span). l ++ left_spans lives o (c.loop-origin.place + c.in-Some.count) (c.args.len - (c.loop-origin.place + c.in-Some.count))) (ap (λ v. v.items) w.to-is) (w.running-is ∙ ap (λ x. Some x) w.longer.ensures)
            ∙ ap (λ l. c.loop-origin.to.items ++ l) (sym (run_left _ c.args.cells.now c.args.at n c.loop-origin.place c.in-Some.count c.args.len c.in-Some.origin c.next.new.self c.loop-origin.running fits (omega arith) is s.0 (sym c.is_some.ensures ∙ w.if-is_some.true)))
            ∙ c.loop-origin.invariant.spans
        | else-is_some+in_ok-push_span w ↦
            ap₂ (λ (l : List Span) (o : Option Span). l ++ left_spans lives o (c.loop-origin.place + c.in-Some.count) (c.args.len - (c.loop-origin.place + c.in-Some.count))) (ap (λ v. v.items) w.to-is ∙ w.in_ok-push_span.ensures) w.running-is
            ∙ append_assoc c.loop-origin.to.items (option_to_list c.loop-origin.running) (left_spans lives None (c.loop-origin.place + c.in-Some.count) (c.args.len - (c.loop-origin.place + c.in-Some.count)))
            ∙ ap (λ l. c.loop-origin.to.items ++ l) (sym (hole_left _ c.args.cells.now c.args.at n c.loop-origin.place c.in-Some.count c.args.len c.in-Some.origin c.next.new.self c.loop-origin.running fits (omega arith) is s.0 (sym c.is_some.ensures ∙ w.if-is_some.false)))
            ∙ c.loop-origin.invariant.spans
      ];
    }

pub returns : goal.returns
returns c =
    let s = c.in-None.ensures.steps in
    let n = min c.args.len (length c.args.cells.now - c.args.at) in
    let end = pieces_end c.args.cells.now c.args.at n c.loop-origin.place (omega (arith, c.if-at-size.false, c.size-size.ensures.count)) (sym c.loop-origin.invariant.left ∙ s.0) in
    c.in_ok-push_span-2.ensures
    ∙ ap (λ l. c.loop-origin.to.items ++ l) (sym (end_left c.args.cells.now c.args.at n c.loop-origin.place c.args.len c.loop-origin.running refl (omega (arith, c.if-at-size.false, c.size-size.ensures.count)) end c.loop-origin.invariant.within))
    ∙ c.loop-origin.invariant.spans
