use Rattle.std.proofs.Common.{length, sym, ap, ◌∙◌}
use Rattle.extent_map.specs.Roots.{root_cells}
use Rattle.extent_map.specs.declared.extents.Root.{Root}
use Rattle.extent_map.proofs.LeafEdits.{length-cells_in}
use Rattle.extent_map.proofs.extents.Root.size.Goals as goal

pub returns-in-One : goal.returns-in-One
returns-in-One g c =
    sym (ap (λ (r : Root g.row.O.Denot). length (root_cells g.O.Origin.advanced r)) c.in-One.is
    ∙ length-cells_in g.O.Origin.advanced g.O.Origin.reach c.in-One.piece)
