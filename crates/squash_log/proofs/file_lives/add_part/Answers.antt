use Rattle.std.proofs.Common.{◌+◌, ◌≤◌, length, sym, ◌∙◌, arith}
use Rattle.extent_map.proofs.CellLists.{between_all}
use Rattle.extent_map.proofs.PieceByPiece.{reaches, left_after, all_had}
use Rattle.squash_log.proofs.KeptCells.{front_none, front_live, front_dead, front_whole, with_run_is}
use Rattle.squash_log.proofs.file_lives.add_part.Goals as goal
use Rattle.squash_log.proofs.file_lives.add_part.Goals.{In-Some, then-is_some+in_ok-put_run, else-is_some}

pub loop-origin-init : goal.loop-origin-init
loop-origin-init c = record {
  within = omega arith;
  left = c.into_iter-origin-iterator.ensures.into_iter_gives ∙ c.pieces-origin-items.ensures
      ∙ between_all c.size.result c.args.part.now (sym c.size.ensures.count);
  front = front_none c.args.from c.args.part.now c.args.cells.now;
}

-- The piece ends within the part.
fits : (c : In-Some) → c.loop-origin.have + c.in-Some.len ≤ length c.args.part.now
fits c =
    let s = c.in-Some.ensures.steps in
    reaches _ c.args.part.now c.loop-origin.have c.in-Some.len c.in-Some.origin c.next.new.self (sym c.loop-origin.invariant.left ∙ s.2) s.0

pub overflow_add-from : goal.overflow_add-from
overflow_add-from c = omega (arith, c.requires, c.loop-origin.invariant.within)

pub overflow_add-have : goal.overflow_add-have
overflow_add-have c =
    let r = fits (goal.at.overflow_add-have c).In-Some in
    omega (arith, c.requires, r)

pub put_run-requires : goal.put_run-requires
put_run-requires c =
    let r = fits (goal.at.put_run-requires c).In-Some in
    record { end = omega (arith, c.requires, r); reaches = omega (arith, c.requires, r) }

pub loop-origin-preserved : goal.loop-origin-preserved
loop-origin-preserved c =
    let s = c.in-Some.ensures.steps in
    let is = sym c.loop-origin.invariant.left ∙ s.2 in
    record {
      within = fits (goal.at.loop-origin-preserved c).In-Some;
      left = sym (left_after _ c.args.part.now c.loop-origin.have c.in-Some.len c.in-Some.origin c.next.new.self is);
      front = elim c.if-is_some.branch [
        | then-is_some+in_ok-put_run w ↦
            front_live _ c.args.from c.loop-origin.have c.in-Some.len c.args.part.now c.args.cells.now c.loop-origin.cells c.if-is_some.cells c.next.new.self c.in-Some.origin
            (sym c.is_some.ensures ∙ w.if-is_some.true) is c.loop-origin.invariant.front
            (with_run_is _ _ (c.args.from + c.loop-origin.have) c.in-Some.len c.loop-origin.cells c.if-is_some.cells (w.cells-is ∙ w.in_ok-put_run.ensures))
        | else-is_some w ↦
            front_dead _ c.args.from c.loop-origin.have c.in-Some.len c.args.part.now c.args.cells.now c.loop-origin.cells c.if-is_some.cells c.next.new.self c.in-Some.origin
            (sym c.is_some.ensures ∙ w.if-is_some.false) is c.loop-origin.invariant.front w.cells-is
      ];
    }

pub returns : goal.returns
returns c =
    let s = c.in-None.ensures.steps in
    front_whole c.args.from c.loop-origin.have c.args.part.now c.args.cells.now c.loop-origin.cells
    (all_had c.args.part.now c.loop-origin.have (sym c.loop-origin.invariant.left ∙ s.0)) c.loop-origin.invariant.front
