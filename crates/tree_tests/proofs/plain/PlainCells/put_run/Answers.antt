use Rattle.std.proofs.Common.{◌≡◌, length, ◌∙◌, ap, arith}
use Rattle.extent_map.specs.Pieces.{run_cells}
use Rattle.extent_map.proofs.Layouts.{length-run_cells}
use Rattle.tree_tests.proofs.plain.PlainCells.put_run.Goals as goal

pub put-requires : goal.put-requires
put-requires g c =
    let e : c.deref.result.now ≡ run_cells g.O.Origin.advanced c.args.origin c.args.len = c.deref.ensures.value ∙ c.in_ok-cells.ensures in
    omega (arith, ap length e, length-run_cells g.O.Origin.advanced c.args.origin c.args.len)

pub returns : goal.returns
returns g c =
    let e : c.deref.result.now ≡ run_cells g.O.Origin.advanced c.args.origin c.args.len = c.deref.ensures.value ∙ c.in_ok-cells.ensures in
    rw e at c.put.ensures
