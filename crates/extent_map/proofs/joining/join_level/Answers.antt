use Rattle.std.proofs.Common.{arith}
use Rattle.extent_map.proofs.joining.join_level.Goals as goal

pub join_leaves-requires-clause-right : goal.join_leaves-requires-clause-right
join_leaves-requires-clause-right g c = omega (arith, c.requires.level, c.height.ensures.height, c.if-height-eq1.true)

pub returns : goal.returns
returns g c = c.join_forks.ensures
