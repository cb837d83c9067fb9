use Rattle.std.proofs.Common.{◌++◌, length, List, Option, sym, ap, ◌∙◌, arith}
use Rattle.extent_map.proofs.Makes.{some_weaker}
use Rattle.extent_map.specs.Leaves.{cells_in, IsBoth}
use Rattle.extent_map.specs.Roots.{root_cells, IsPut}
use Rattle.extent_map.proofs.LeafEdits.{length-cells_in}
use Rattle.extent_map.proofs.extents.Root.with.Goals as goal

pub returns-then-at-one : goal.returns-then-at-one
returns-then-at-one g c =
    let e = ap (root_cells g.O.Origin.advanced) c.in-One.is in
    some_weaker c.with.result
    (IsBoth g.O.Origin.advanced g.O.Origin.reach c.in-One.one c.args.piece.now)
    (IsPut g.O.Origin.advanced g.O.Origin.reach (root_cells g.O.Origin.advanced c.args.self.now) c.args.at c.args.piece.now)
    (λ both is.
    record {
      end = ap length e ∙ length-cells_in g.O.Origin.advanced g.O.Origin.reach c.in-One.one ∙ sym c.if-at-one.true;
      cells_are = is.cells ∙ ap (λ (l : List (Option g.row.O.Denot)). l ++ cells_in g.O.Origin.advanced c.args.piece.now) (sym e);
      len = omega (arith, is.len, c.if-at-one.true);
      reaches = is.reaches;
    })
    c.with.ensures
