use Rattle.std.specs.List.{sum_by}
use Rattle.std.proofs.Common.{◌≡◌, map, sym, ap, ◌∙◌, arith}
use Rattle.std.proofs.lemmas.List.Sums.{sum_by-cons}
use Rattle.extent_map.specs.Cells.{cells_between}
use Rattle.extent_map.proofs.CellLists.{length-between}
use Rattle.provenance.specs.Traces.{place_in}
use Rattle.provenance.specs.Plans.{planned}
use Rattle.provenance.specs.Cuts.{cuts_of}
use Rattle.clone_pieces.specs.Cutting.{rest_len}
use Rattle.clone_pieces.proofs.Rows.{cuts_row, rest_below, rest_is_literal}
use Rattle.clone_pieces.proofs.redirecting.uncarried.Goals as goal

pub overflow_add-sum : goal.overflow_add-sum
overflow_add-sum g c =
    let E = g.E.Ends.ends c.args.known.now in
    let cells = cells_between c.args.from c.args.len c.args.contents.now in
    let cut = c.cut_blocks-plan-items in
    let row = cuts_row (g.E.Known.base c.args.known.now) E (g.met.E.Known.ends_are c.args.known.now) c.args.from cells cut.result cut.ensures.pieces in
    let below = rest_below c.args.from 0 _ cut.result row in
    let long = length-between c.args.from c.args.len c.args.contents.now c.requires.within in
    let all = ap (sum_by rest_len) cut.ensures.cuts in
    let next = ap (sum_by rest_len) c.in-Some.ensures.steps in
    let first = sum_by-cons rest_len (planned c.in-Some.plan) c.next.new.self in
    omega (arith, below, long, all, next, first, c.loop-plan.invariant.all, c.literal_len_of-sum.ensures, c.ranges.len.fits)

pub loop-plan-preserved : goal.loop-plan-preserved
loop-plan-preserved g c =
    let next = ap (sum_by rest_len) c.in-Some.ensures.steps in
    let first = sum_by-cons rest_len (planned c.in-Some.plan) c.next.new.self in
    record {
      can = tt;
      finite = tt;
      all = omega (arith, next, first, c.loop-plan.invariant.all, c.literal_len_of-sum.ensures);
    }

pub returns : goal.returns
returns g c =
    let E = g.E.Ends.ends c.args.known.now in
    let cells = cells_between c.args.from c.args.len c.args.contents.now in
    let cut = c.cut_blocks-plan-items in
    let none = ap (sum_by rest_len) c.in-None.ensures.steps.0 in
    let whole : c.loop-plan.sum ≡ sum_by rest_len (cuts_of E c.args.from (map place_in cells)) = omega (arith, none, c.loop-plan.invariant.all) in
    let row = cuts_row (g.E.Known.base c.args.known.now) E (g.met.E.Known.ends_are c.args.known.now) c.args.from cells cut.result cut.ensures.pieces in
    let below = rest_below c.args.from 0 _ cut.result row in
    let long = length-between c.args.from c.args.len c.args.contents.now c.requires.within in
    let all = ap (sum_by rest_len) cut.ensures.cuts in
    record {
      low = omega (arith, below, long, all, whole);
      count = λ range same.
          whole ∙ sym (ap (sum_by rest_len) cut.ensures.cuts)
          ∙ rest_is_literal (g.E.Known.base c.args.known.now) E (g.met.E.Known.ends_are c.args.known.now) c.args.from cells cut.result cut.ensures.pieces range same;
    }
