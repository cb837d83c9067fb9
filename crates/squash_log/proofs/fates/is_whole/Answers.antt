use Rattle.std.proofs.Common.{◌≡◌, ◌+◌, ◌-◌, ◌≤◌, Bool, true, false, not, length, sym, ◌∙◌, ap, arith, ⊎_elim}
use Rattle.std.proofs.lemmas.Bool.{cases_lt}
use Rattle.extent_map.proofs.PieceByPiece.{left_after}
use Rattle.extent_map.specs.Cells.{cells_between}
use Rattle.squash_log.specs.Cells.{lives_from}
use Rattle.squash_log.proofs.FateRuns.{all_yes, all_no, behind_dead, place_in, piece_ends, pieces_end}
use Rattle.squash_log.proofs.fates.is_whole.Goals as goal
use Rattle.squash_log.proofs.fates.is_whole.Goals.{In-Some}

pub returns-then-len-size : goal.returns-then-len-size
returns-then-len-size c =
    sym (all_no (lives_from c.args.cells.now c.args.at) c.args.len (length c.args.cells.now - c.args.at)
    (omega (arith, c.if-len-size.true, c.size-size.ensures.count))
    (behind_dead c.args.cells.now c.args.at (length c.args.cells.now - c.args.at) (omega (arith, c.if-at-size.false, c.size-size.ensures.count))))

-- The range is within the cells.
fits : (c : In-Some) → c.args.at + c.args.len ≤ length c.args.cells.now
fits c = omega (arith, c.if-at-size.false, c.if-len-size.false, c.size-size.ensures.count)

ends : (c : In-Some) → c.loop-origin.place + c.in-Some.count ≤ c.args.len
ends c =
    let s = c.in-Some.ensures.steps in
    piece_ends _ c.args.cells.now c.args.at c.args.len c.loop-origin.place c.in-Some.count c.in-Some.origin c.next.new.self (fits c) (sym c.loop-origin.invariant.left ∙ s.2) s.0

not_true : (a b : Bool) → a ≡ not b → b ≡ true → a ≡ false
not_true a b e t = e ∙ ap not t

not_false : (a b : Bool) → a ≡ not b → b ≡ false → a ≡ true
not_false a b e t = e ∙ ap not t

pub returns-then-is_none : goal.returns-then-is_none
returns-then-is_none c =
    let s = c.in-Some.ensures.steps in
    let end = ends (goal.at.returns-then-is_none c).In-Some in
    sym (all_no (lives_from c.args.cells.now c.args.at) c.args.len c.loop-origin.place (omega (arith, end, s.0))
    (place_in _ c.args.cells.now c.args.at c.args.len c.loop-origin.place c.in-Some.count c.in-Some.origin c.next.new.self (sym c.loop-origin.invariant.left ∙ s.2)
    c.loop-origin.place (omega arith) (omega (arith, s.0)) (omega (arith, end, s.0)) ∙ not_true _ _ c.is_none.ensures c.if-is_none.true))

pub overflow_add-place : goal.overflow_add-place
overflow_add-place c =
    let end = ends (goal.at.overflow_add-place c).In-Some in
    let l = fits (goal.at.overflow_add-place c).In-Some in
    omega (arith, end, l, c.size-size.ensures)

pub loop-origin-preserved : goal.loop-origin-preserved
loop-origin-preserved c =
    let s = c.in-Some.ensures.steps in
    let is = sym c.loop-origin.invariant.left ∙ s.2 in
    let end = ends (goal.at.loop-origin-preserved c).In-Some in
    record {
      within = end;
      left = sym (left_after _ (cells_between c.args.at c.args.len c.args.cells.now) c.loop-origin.place c.in-Some.count c.in-Some.origin c.next.new.self is);
      all = λ k h. ⊎_elim (λ lt. c.loop-origin.invariant.all k lt)
          (λ le. place_in _ c.args.cells.now c.args.at c.args.len c.loop-origin.place c.in-Some.count c.in-Some.origin c.next.new.self is k le h (omega (arith, h, end))
          ∙ not_false _ _ c.is_none.ensures c.if-is_none.false) (cases_lt k c.loop-origin.place);
    }

pub returns : goal.returns
returns c =
    let s = c.in-None.ensures.steps in
    let end = pieces_end c.args.cells.now c.args.at c.args.len c.loop-origin.place (omega (arith, c.if-at-size.false, c.if-len-size.false, c.size-size.ensures.count)) (sym c.loop-origin.invariant.left ∙ s.0) in
    sym (all_yes (lives_from c.args.cells.now c.args.at) c.args.len (λ k h. c.loop-origin.invariant.all k (omega (arith, h, end))))
