use Rattle.std.proofs.Common.{length, ap, arith}
use Rattle.extent_map.proofs.RootCells.{root_fits}
use Rattle.extent_map.proofs.extents.Extents.pieces.Goals as goal

pub overflow_add-from : goal.overflow_add-from
overflow_add-from g c = omega (arith, c.requires, ap length c.self.view_is, root_fits g.O.Origin.advanced g.O.Origin.reach c.self.inside.root c.self.invariant)

pub new-requires-clause-range : goal.new-requires-clause-range
new-requires-clause-range g c =
    record {
      order = omega arith;
      within = omega (arith, c.requires, ap length c.self.view_is);
      fits = root_fits g.O.Origin.advanced g.O.Origin.reach c.self.inside.root c.self.invariant;
    }
