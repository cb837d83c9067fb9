use Rattle.std.proofs.Common.{◌≡◌, ℕ, ◌-◌, ◌++◌, List, Option, None, length, ◌∙◌, ap, arith}
use lib.ListN.{replicate}
use Rattle.extent_map.specs.Pieces.{zero_cells}
use Rattle.tree_tests.proofs.plain.PlainCells.zero_run.Goals as goal

pub returns : goal.returns
unfolding zero_cells
returns g c =
    let e : c.deref.result.now ≡ replicate c.args.len None =
    c.deref.ensures.value
    ∙ c.in_ok-fill.ensures
    ∙ ap (λ (l : List (Option g.row.O.Denot)). l ++ replicate (c.args.len - length l) None) c.new-cells.ensures.items
    ∙ ap (λ (n : ℕ). replicate n None) (let z : c.args.len - 0 ≡ c.args.len = omega arith in z) in
    rw e at c.put.ensures
