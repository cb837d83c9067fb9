use Rattle.std.proofs.Common.{◌≡◌, ◌-◌, length, take, drop, ◌∙◌, ap}
use Rattle.std.proofs.lemmas.List.{take_rest}
use Rattle.extent_map.specs.Cells.{cells_between}
use Rattle.tree_tests.proofs.plain.PlainCells.copy_range.Goals as goal

pub returns : goal.returns
unfolding cells_between
returns g c =
    let e : take c.args.len (take (length c.deref.result.now - c.args.from) (drop c.args.from c.deref.result.now)) ≡ take c.args.len (drop c.args.from c.args.source.now) =
    ap (take c.args.len) (take_rest c.deref.result.now c.args.from ∙ ap (drop c.args.from) (c.deref.ensures.value ∙ c.source.view_is)) in
    rw e at c.put.ensures
