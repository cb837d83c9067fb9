use Rattle.std.proofs.Common.{length, ap, arith}
use Rattle.extent_map.proofs.CellLists.{length-between}
use Rattle.extent_map.proofs.extents.Extents.copy_range.Goals as goal

pub put_tree-requires : goal.put_tree-requires
put_tree-requires g c = omega (arith, c.requires.end, ap length c.in_ok-part.ensures, length-between c.args.from c.args.len c.args.source.now c.requires.source)
