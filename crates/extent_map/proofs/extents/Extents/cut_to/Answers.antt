use Rattle.std.proofs.Common.{None, length, ap, arith}
use Rattle.extent_map.proofs.CellLists.{length-resize}
use Rattle.extent_map.proofs.extents.Extents.cut_to.Goals as goal

pub of-requires : goal.of-requires
of-requires g c = omega (arith, c.requires, ap length c.in_ok-tree.ensures, length-resize None c.args.size c.in_ok-taken.field-0.cells)
