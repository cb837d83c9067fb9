use Rattle.std.proofs.Common.{length, length-drop, ap, ◌∙◌, arith}
use Rattle.extent_map.specs.Roots.{root_cells}
use Rattle.extent_map.proofs.RootCells.{root_fits}
use Rattle.extent_map.proofs.extents.Extents.range.Goals as goal

pub halves-requires-clause-fits : goal.halves-requires-clause-fits
halves-requires-clause-fits g c =
    omega (arith, ap length (c.in_ok-whole.ensures ∙ ap (root_cells g.O.Origin.advanced) c.in_ok-copy.ensures), root_fits g.O.Origin.advanced g.O.Origin.reach c.self.inside.root c.self.invariant)

pub halves-requires-2-clause-within : goal.halves-requires-2-clause-within
halves-requires-2-clause-within g c =
    omega (arith, c.requires, ap length c.self.view_is, ap length (c.in_ok-whole.ensures ∙ ap (root_cells g.O.Origin.advanced) c.in_ok-copy.ensures), ap length c.in_ok-back.ensures.back, length-drop c.args.from c.in_ok-whole.whole.cells)

pub halves-requires-2-clause-fits : goal.halves-requires-2-clause-fits
halves-requires-2-clause-fits g c =
    omega (arith, ap length (c.in_ok-whole.ensures ∙ ap (root_cells g.O.Origin.advanced) c.in_ok-copy.ensures), root_fits g.O.Origin.advanced g.O.Origin.reach c.self.inside.root c.self.invariant, ap length c.in_ok-back.ensures.back, length-drop c.args.from c.in_ok-whole.whole.cells)
