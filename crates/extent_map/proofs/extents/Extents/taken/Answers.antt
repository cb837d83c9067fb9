use Rattle.std.proofs.Common.{◌≡◌, ◌<◌, ◌^◌, length, ap, arith}
use Rattle.std.proofs.lemmas.Result.{IfOk-weaker}
use Rattle.extent_map.specs.Roots.{root_cells}
use Rattle.extent_map.specs.Seen.{Seen}
use Rattle.extent_map.proofs.RootCells.{root_fits}
use Rattle.extent_map.proofs.extents.Extents.taken.Goals as goal

pub returns-clause-fits : goal.returns-clause-fits
returns-clause-fits g c =
    IfOk-weaker c.tree.result
    (λ (s : Seen g.row.O.Denot). s.cells ≡ root_cells g.O.Origin.advanced c.replace.result)
    (λ (s : Seen g.row.O.Denot). length s.cells < 2 ^ 63)
    (λ s is. omega (arith, ap length is, ap (λ r. length (root_cells g.O.Origin.advanced r)) c.replace.ensures.value, root_fits g.O.Origin.advanced g.O.Origin.reach c.self.inside.root c.self.invariant))
    c.tree.ensures
