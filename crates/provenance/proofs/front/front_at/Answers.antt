use Rattle.std.proofs.Common.{◌+◌, ◌-◌, ◌≤◌, length, map, Option, refl, ap, sym, subst, ◌∙◌, arith}
use Rattle.extent_map.specs.Cells.{cells_between}
use Rattle.extent_map.proofs.CellLists.{length-between}
use Rattle.extent_map.proofs.PieceByPiece.{next_within, left_after, all_had}
use Rattle.send_model.specs.Provenance.{Place}
use Rattle.provenance.specs.Traces.{advanced_by, place_in}
use Rattle.provenance.specs.Cuts.{Follows}
use Rattle.provenance.specs.Plans.{spot_in}
use Rattle.provenance.proofs.Fronts.{goes_further, first_within, first_left, begins, stops, stops_at_end, length-places, unplaced, none_follow, goes_past}
use Rattle.provenance.proofs.front.front_at.Goals as goal

pub unreachable-requires : goal.unreachable-requires
unreachable-requires c =
    absurd (omega (arith, c.requires.order, ap length (sym c.pieces-rest.ensures ∙ c.in_default.ensures.steps.0), length-between c.args.at (c.args.end - c.args.at) c.args.contents.now (omega (arith, c.requires.order, c.requires.within))))

pub unreachable-unreachable : goal.unreachable-unreachable
unreachable-unreachable c =
    absurd (omega (arith, c.requires.order, ap length (sym c.pieces-rest.ensures ∙ c.in_default.ensures.steps.0), length-between c.args.at (c.args.end - c.args.at) c.args.contents.now (omega (arith, c.requires.order, c.requires.within))))

pub returns-then-is_none-clause-some : goal.returns-then-is_none-clause-some
returns-then-is_none-clause-some c =
    let s = c.in-Some.ensures.steps in
    let past = goes_past c.args.contents.now c.args.at c.args.end c.requires.within c.next_foreign.result c.next_foreign.ensures c.in-Some.origin c.in-Some.len c.next.new.self (sym c.pieces-rest.ensures ∙ s.2) s.0 c.requires.order
    (unplaced c.spot_of-first.result (place_in c.in-Some.origin) c.is_none.result c.spot_of-first.ensures c.is_none.ensures c.if-is_none.true) in
    omega (arith, past, c.min.ensures, c.requires.order)

pub returns-then-is_none-clause-follows : goal.returns-then-is_none-clause-follows
returns-then-is_none-clause-follows c =
    none_follow c.args.contents.now c.args.at c.args.end c.requires.within c.next_foreign.result c.next_foreign.ensures (c.min.result - c.args.at)
    (omega (arith, c.min.ensures, c.next_foreign.ensures.from, c.requires.order)) (omega (arith, c.min.ensures, c.next_foreign.ensures.from, c.requires.order))

pub loop-more-init : goal.loop-more-init
loop-more-init c =
    let s = c.in-Some.ensures.steps in
    let whole = cells_between c.args.at (c.args.end - c.args.at) c.args.contents.now in
    let is = sym c.pieces-rest.ensures ∙ s.2 in
    let l = length-between c.args.at (c.args.end - c.args.at) c.args.contents.now (omega (arith, c.requires.order, c.requires.within)) in
    record {
      can = tt;
      finite = tt;
      some = s.0;
      within = omega (arith, c.requires.order, l, first_within whole c.in-Some.origin c.in-Some.len c.next.new.self is);
      left = first_left whole c.in-Some.origin c.in-Some.len c.next.new.self is ∙ sym c.into_iter-more-iterator.ensures.into_iter_gives;
      follows = subst (λ (o : Option Place). Follows o c.in-Some.len (map place_in whole)) (sym c.spot_of-first.ensures) (begins whole c.in-Some.origin c.in-Some.len c.next.new.self is);
    }

pub returns-then-not-goes_on-clause-some : goal.returns-then-not-goes_on-clause-some
returns-then-not-goes_on-clause-some c = c.loop-more.invariant.some

pub returns-then-not-goes_on-clause-stops : goal.returns-then-not-goes_on-clause-stops
returns-then-not-goes_on-clause-stops c =
    let s = c.in-Some-2.ensures.steps in
    stops (cells_between c.args.at (c.args.end - c.args.at) c.args.contents.now) c.loop-more.have c.in-Some-2.more c.in-Some-2.more_len c.next-in-loop-more.new.self (c.loop-more.invariant.left ∙ s.2) s.0
    (spot_in c.spot_of-first.result) (λ e. c.if-not-goes_on.ensures.no refl (c.spot_of-next.ensures ∙ e))

pub overflow_add-have : goal.overflow_add-have
overflow_add-have c =
    let s = c.in-Some-2.ensures.steps in
    let r = next_within advanced_by c.args.contents.now c.args.at (c.args.end - c.args.at) c.loop-more.have c.in-Some-2.more_len c.in-Some-2.more c.next-in-loop-more.new.self (omega (arith, c.requires.order, c.requires.within)) (c.loop-more.invariant.left ∙ s.2) s.0 in
    omega (arith, r, c.ranges.end.fits)

pub loop-more-preserved : goal.loop-more-preserved
loop-more-preserved c =
    let s = c.in-Some-2.ensures.steps in
    let whole = cells_between c.args.at (c.args.end - c.args.at) c.args.contents.now in
    let is = c.loop-more.invariant.left ∙ s.2 in
    let r = next_within advanced_by c.args.contents.now c.args.at (c.args.end - c.args.at) c.loop-more.have c.in-Some-2.more_len c.in-Some-2.more c.next-in-loop-more.new.self (omega (arith, c.requires.order, c.requires.within)) is s.0 in
    record {
      can = tt;
      finite = tt;
      some = omega (arith, c.loop-more.invariant.some);
      within = omega (arith, r, c.requires.order);
      left = left_after advanced_by whole c.loop-more.have c.in-Some-2.more_len c.in-Some-2.more c.next-in-loop-more.new.self is;
      follows = goes_further whole c.loop-more.have c.in-Some-2.more c.in-Some-2.more_len c.next-in-loop-more.new.self is s.0 (spot_in c.spot_of-first.result) c.loop-more.invariant.follows (sym c.spot_of-next.ensures ∙ c.if-not-goes_on.ensures.yes refl);
    }

pub returns-clause-some : goal.returns-clause-some
returns-clause-some c =
    let l = length-between c.args.at (c.args.end - c.args.at) c.args.contents.now (omega (arith, c.requires.order, c.requires.within)) in
    let a = all_had (cells_between c.args.at (c.args.end - c.args.at) c.args.contents.now) c.loop-more.have (c.loop-more.invariant.left ∙ c.in-None.ensures.steps.0) in
    omega (arith, l, a, c.requires.order)

pub returns-clause-stops : goal.returns-clause-stops
returns-clause-stops c =
    let within : c.args.at + (c.args.end - c.args.at) ≤ length c.args.contents.now = omega (arith, c.requires.order, c.requires.within) in
    let l = length-between c.args.at (c.args.end - c.args.at) c.args.contents.now within in
    let m = length-places c.args.at (c.args.end - c.args.at) c.args.contents.now within in
    let a = all_had (cells_between c.args.at (c.args.end - c.args.at) c.args.contents.now) c.loop-more.have (c.loop-more.invariant.left ∙ c.in-None.ensures.steps.0) in
    stops_at_end (spot_in c.spot_of-first.result) c.loop-more.have (map place_in (cells_between c.args.at (c.args.end - c.args.at) c.args.contents.now)) (omega (arith, l, m, a))
