use Rattle.std.proofs.Common.{ap, arith}
use Rattle.extent_map.specs.Seen.{Seen}
use Rattle.extent_map.specs.Trees.{height_of}
use Rattle.extent_map.proofs.Shapes.{height-seen}
use Rattle.extent_map.proofs.tree.Tree.forked.Goals as goal

pub unreachable-requires : goal.unreachable-requires
unreachable-requires g c =
    absurd (omega (arith, c.requires, ap (λ (s : Seen g.row.O.Denot). s.height) c.self.view_is, height-seen g.O.Origin.advanced g.O.Origin.reach c.self.inside.shape, ap (height_of {O = g.row.O.Denot}) c.in-Empty.is))

pub unreachable-unreachable : goal.unreachable-unreachable
unreachable-unreachable g c =
    absurd (omega (arith, c.requires, ap (λ (s : Seen g.row.O.Denot). s.height) c.self.view_is, height-seen g.O.Origin.advanced g.O.Origin.reach c.self.inside.shape, ap (height_of {O = g.row.O.Denot}) c.in-Empty.is))

pub unreachable-requires-in-Leaf : goal.unreachable-requires-in-Leaf
unreachable-requires-in-Leaf g c =
    absurd (omega (arith, c.requires, ap (λ (s : Seen g.row.O.Denot). s.height) c.self.view_is, height-seen g.O.Origin.advanced g.O.Origin.reach c.self.inside.shape, ap (height_of {O = g.row.O.Denot}) c.in-Leaf.is))

pub unreachable-unreachable-in-Leaf : goal.unreachable-unreachable-in-Leaf
unreachable-unreachable-in-Leaf g c =
    absurd (omega (arith, c.requires, ap (λ (s : Seen g.row.O.Denot). s.height) c.self.view_is, height-seen g.O.Origin.advanced g.O.Origin.reach c.self.inside.shape, ap (height_of {O = g.row.O.Denot}) c.in-Leaf.is))
