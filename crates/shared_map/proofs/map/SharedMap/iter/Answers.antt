use Rattle.shared_map.proofs.Edits.{rises_is_map}
use Rattle.shared_map.proofs.map.SharedMap.iter.Goals as goal

pub returns-clause-ordered : goal.returns-clause-ordered
returns-clause-ordered g c = rw (← c.self.view_is) (rises_is_map g.K.Key.order _ c.self.invariant.rises)
