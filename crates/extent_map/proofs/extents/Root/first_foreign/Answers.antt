use Rattle.std.proofs.Common.{length, ap, arith}
use Rattle.extent_map.specs.Roots.{root_cells}
use Rattle.extent_map.specs.declared.extents.Root.{Root}
use Rattle.extent_map.proofs.LeafEdits.{length-cells_in}
use Rattle.extent_map.proofs.extents.Root.first_foreign.Goals as goal

pub first_foreign-requires-clause-within : goal.first_foreign-requires-clause-within
first_foreign-requires-clause-within g c =
    omega (arith, c.requires.within, ap (λ (r : Root g.row.O.Denot). length (root_cells g.O.Origin.advanced r)) c.in-One.is, length-cells_in g.O.Origin.advanced g.O.Origin.reach c.in-One.piece)
