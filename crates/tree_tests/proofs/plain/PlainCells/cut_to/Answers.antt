use Rattle.std.proofs.Common.{◌≡◌, ℕ, ◌-◌, ◌++◌, List, Option, None, length, take, ◌∙◌, ap, arith}
use Rattle.std.proofs.lemmas.List.{length-take}
use lib.ListN.{replicate}
use Rattle.extent_map.specs.Cells.{resize_cells}
use Rattle.tree_tests.proofs.plain.PlainCells.cut_to.Goals as goal

pub returns : goal.returns
unfolding resize_cells
returns g c =
    let n : c.args.size - length (take c.args.size c.args.self.now) ≡ c.args.size - length c.args.self.now = omega (arith, length-take c.args.size c.args.self.now) in
    c.in_ok-fill.ensures
    ∙ ap (λ (l : List (Option g.row.O.Denot)). l ++ replicate (c.args.size - length l) None) (c.truncate.ensures.items ∙ ap (take c.args.size) c.self.view_is)
    ∙ ap (λ (k : ℕ). take c.args.size c.args.self.now ++ replicate k None) n
