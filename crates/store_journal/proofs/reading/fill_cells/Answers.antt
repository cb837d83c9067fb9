use Rattle.std.proofs.Common.{◌+◌, ◌-◌, ◌<◌, ◌≤◌, ◌^◌, length, refl, sym, subst, ◌∙◌, arith, rules}
use Rattle.sx_base.specs.Disk.{Pending, IsImage}
use Rattle.sx_base.proofs.DiskMoments.{begins, joins, weakens}
use Rattle.extent_map.specs.Cells.{cells_between}
use Rattle.extent_map.proofs.CellLists.{length-between}
use Rattle.extent_map.proofs.PieceByPiece.{next_within, left_after, filled_more, filled_all, mid_length}
use Rattle.group_replay.specs.Placing.{further}
use Rattle.store_journal.specs.Standing.{place_byte}
use Rattle.store_journal.proofs.ReadFiles.{piece_before, same_filled}
use Rattle.store_journal.proofs.reading.fill_cells.Given.{Over}
use Rattle.store_journal.proofs.reading.fill_cells.Goals.{In-Some}
use Rattle.store_journal.proofs.reading.fill_cells.Goals as goal

-- The piece ends within the buffer.
fits : (g : Over) (c : In-Some g) → c.loop-origin.have + c.in-Some.len ≤ length c.args.buf.now
fits g c =
    let s = c.in-Some.ensures.steps in
    next_within further c.args.contents.now c.args.from (length c.args.buf.now) c.loop-origin.have c.in-Some.len c.in-Some.origin c.next.new.self c.requires.within (c.loop-origin.invariant.left ∙ s.2) s.0

pub overflow_add-end : goal.overflow_add-end
overflow_add-end g c =
    let r = fits g (goal.at.overflow_add-end g c).In-Some in
    let small : length c.args.buf.now < 2 ^ 63 = search rules in
    omega (arith, r, small)

pub slice_bounds-fill_piece-end : goal.slice_bounds-fill_piece-end
slice_bounds-fill_piece-end g c =
    let r = fits g (goal.at.slice_bounds-fill_piece-end g c).In-Some in
    omega (arith, r, c.loop-origin.invariant.size)

pub fill_piece-requires-clause-before : goal.fill_piece-requires-clause-before
fill_piece-requires-clause-before g c =
    let s = c.in-Some.ensures.steps in
    let i = c.loop-origin.invariant in
    let r = fits g (goal.at.fill_piece-requires-clause-before g c).In-Some in
    piece_before c.args.log.now.size c.args.contents.now c.args.from (length c.args.buf.now) c.loop-origin.have c.in-Some.len c.in-Some.origin c.next.new.self c.requires.before (i.left ∙ s.2) s.0 _
    (mid_length c.loop-origin.have c.in-Some.len c.loop-origin.buf (omega (arith, r, i.size)))

pub loop-origin-init : goal.loop-origin-init
loop-origin-init g c = record {
  can = tt;
  finite = tt;
  are_bytes = λ i. omega (arith, c.type_inv.buf i);
  size = refl;
  within = omega arith;
  left = search rules;
  len = refl;
  steady = refl;
  same = λ tells. record { seen = refl; pending = refl };
  any_moment = λ tells. begins c.args.disk.now (λ image left. g.met.D.Disk.only_now c.args.disk.now image tells left) (λ image is. is);
  filled = λ tells. refl;
}

pub loop-origin-preserved : goal.loop-origin-preserved
loop-origin-preserved g c =
    let D = g.D.Disk in
    let s = c.in-Some.ensures.steps in
    let i = c.loop-origin.invariant in
    let e = c.in_ok-fill_piece.ensures in
    let whole = cells_between c.args.from (length c.args.buf.now) c.args.contents.now in
    let r = fits g (goal.at.loop-origin-preserved g c).In-Some in
    let mid = mid_length c.loop-origin.have c.in-Some.len c.loop-origin.buf (omega (arith, r, i.size)) in
    record {
      can = tt;
      finite = tt;
      are_bytes = λ k. omega (arith, c.type_inv.buf k);
      size = search rules;
      within = r;
      left = left_after further whole c.loop-origin.have c.in-Some.len c.in-Some.origin c.next.new.self (i.left ∙ s.2);
      len = e.len ∙ i.len;
      steady = e.steady ∙ i.steady;
      same = λ tells. record { seen = (e.same tells).seen ∙ (i.same tells).seen; pending = (e.same tells).pending ∙ (i.same tells).pending };
      any_moment = λ tells. joins (i.any_moment tells) (weakens (e.any_moment tells) (λ image is. subst (λ (p : Pending). IsImage p image) (i.same tells).pending is));
      filled = λ tells.
          filled_more further whole c.loop-origin.have c.in-Some.len c.in-Some.origin c.next.new.self (i.left ∙ s.2) (place_byte (D.seen c.args.disk.now)) c.loop-origin.buf c.fill_piece.new.buf (c.loop-origin.have + c.in-Some.len - c.loop-origin.have) _ (omega arith) mid
          (omega (arith, i.within, i.size)) (i.filled tells)
          (same_filled _ _ (D.seen c.loop-origin.disk) (D.seen c.args.disk.now) (i.same tells).seen (e.filled tells));
    }

pub returns-clause-filled : goal.returns-clause-filled
returns-clause-filled g c tells =
    let i = c.loop-origin.invariant in
    let whole = cells_between c.args.from (length c.args.buf.now) c.args.contents.now in
    let l = length-between c.args.from (length c.args.buf.now) c.args.contents.now c.requires.within in
    filled_all (place_byte (g.D.Disk.seen c.args.disk.now)) whole c.loop-origin.have c.loop-origin.buf (i.left ∙ c.in-None.ensures.steps.0) (i.size ∙ sym l) (i.filled tells)
