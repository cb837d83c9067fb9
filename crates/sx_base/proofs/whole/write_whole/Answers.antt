use Rattle.std.proofs.Common.{◌≤◌, ◌-◌, ◌∙◌, length, arith}
use Rattle.sx_base.proofs.Pieces.{Appends-more}
use Rattle.sx_base.proofs.whole.write_whole.Goals as goal

pub loop-done-preserved : goal.loop-done-preserved
loop-done-preserved g c =
    let done = c.loop-done.done in
    let room = length c.args.piece.now - done in
    let fits : c.in_ok-done.field-0 ≤ room = omega (arith, c.in_ok-done.ensures.bound) in
    record {
      within = omega (arith, c.in_ok-done.ensures.bound);
      taken = Appends-more _ _ _ c.args.piece.now done c.in_ok-done.field-0 room fits c.loop-done.invariant.taken c.in_ok-done.ensures.bytes;
      steady = c.in_ok-done.ensures.steady ∙ c.loop-done.invariant.steady;
    }
