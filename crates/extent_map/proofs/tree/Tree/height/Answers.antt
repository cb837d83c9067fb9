use Rattle.std.proofs.Common.{◌<◌, subst}
use Rattle.extent_map.specs.Seen.{Seen, IsKid}
use Rattle.extent_map.proofs.Shapes.{is_kid}
use Rattle.extent_map.proofs.tree.Tree.height.Goals as goal

pub returns-clause-kid : goal.returns-clause-kid
returns-clause-kid g c = subst (λ (s : Seen g.row.O.Denot). 0 < s.height → IsKid s.height s) c.self.view_is (is_kid g.O.Origin.advanced g.O.Origin.reach c.self.inside.shape c.self.invariant.parts)
