use Rattle.std.proofs.Common.{length, refl, ap, arith}
use Rattle.extent_map.proofs.LeafEdits.{length-cells_in}
use Rattle.extent_map.proofs.extents.Root.of.Goals as goal

pub same-tree : goal.same-tree
same-tree g c = refl

pub returns-in-Some-clause-root : goal.returns-in-Some-clause-root
returns-in-Some-clause-root g c =
    (c.in-Some.ensures.good, omega (arith, c.requires, ap length c.in-Some.ensures.cells, length-cells_in g.O.Origin.advanced g.O.Origin.reach c.in-Some.piece))
