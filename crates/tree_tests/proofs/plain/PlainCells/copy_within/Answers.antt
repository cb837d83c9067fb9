use Rattle.std.proofs.Common.{◌≡◌, take, drop, ◌∙◌, ap}
use Rattle.std.proofs.lemmas.List.{take_rest}
use Rattle.extent_map.specs.Cells.{cells_between}
use Rattle.tree_tests.proofs.plain.PlainCells.copy_within.Goals as goal

pub returns : goal.returns
unfolding cells_between
returns g c =
    let e : c.deref-2.result.now ≡ take c.args.len (drop c.args.from c.args.self.now) =
    c.deref-2.ensures.value
    ∙ c.in_ok-range.ensures.items
    ∙ ap (take c.args.len) (take_rest c.deref.result.now c.args.from ∙ ap (drop c.args.from) (c.deref.ensures.value ∙ c.self.view_is)) in
    rw e at c.put.ensures
