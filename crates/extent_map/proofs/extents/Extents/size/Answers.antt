use Rattle.std.proofs.Common.{arith}
use Rattle.extent_map.proofs.RootCells.{root_fits}
use Rattle.extent_map.proofs.extents.Extents.size.Goals as goal

pub returns-clause-fits : goal.returns-clause-fits
returns-clause-fits g c = omega (arith, c.size.ensures, root_fits g.O.Origin.advanced g.O.Origin.reach c.self.inside.root c.self.invariant)
