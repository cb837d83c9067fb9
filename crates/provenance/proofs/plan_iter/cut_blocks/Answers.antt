use Rattle.std.specs.Prelude.{◌≡◌, ℕ, ◌-◌, map}
use Rattle.std.specs.List.{AllByRecursion}
use Rattle.std.proofs.Common.{subst, length, ◌+◌, ◌≤◌, ap, sym, ◌∙◌, arith}
use Rattle.extent_map.specs.Cells.{cells_between}
use Rattle.provenance.specs.Traces.{place_in}
use Rattle.provenance.specs.Cuts.{cuts_of, LiesIn}
use Rattle.provenance.proofs.CutBounds.{all_lie}
use Rattle.provenance.proofs.Fronts.{length-places}
use Rattle.provenance.proofs.CutPieces.{cuts_are_pieces}
use Rattle.provenance.proofs.plan_iter.cut_blocks.Goals as goal

pub returns-clause-pieces : goal.returns-clause-pieces
returns-clause-pieces g c = λ store range right same.
    let size = c.size-size.ensures in
    let long : c.min.result - c.args.from ≡ c.args.len = omega (arith, c.requires, size.count) in
    ap (λ (k : ℕ). cuts_of (g.E.Ends.ends c.args.ends.now) c.args.from (map place_in (cells_between c.args.from k c.args.contents.now))) long
    ∙ ap (cuts_of (g.E.Ends.ends c.args.ends.now) c.args.from) (sym same)
    ∙ cuts_are_pieces store (g.E.Ends.ends c.args.ends.now) right c.args.from range

pub returns-clause-within : goal.returns-clause-within
returns-clause-within g c =
    let size = c.size-size.ensures in
    let over : c.args.from + c.args.len ≤ length c.args.contents.now = c.requires in
    let long : c.min.result - c.args.from ≡ c.args.len = omega (arith, c.requires, size.count) in
    subst (λ (k : ℕ). AllByRecursion (LiesIn c.args.from (c.args.from + c.args.len)) (cuts_of (g.E.Ends.ends c.args.ends.now) c.args.from (map place_in (cells_between c.args.from k c.args.contents.now)))) (sym long)
    (all_lie (g.E.Ends.ends c.args.ends.now) c.args.from c.args.len (map place_in (cells_between c.args.from c.args.len c.args.contents.now)) (length-places c.args.from c.args.len c.args.contents.now over))
