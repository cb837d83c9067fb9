use Rattle.std.proofs.Common.{◌-◌, arith}
use Rattle.extent_map.proofs.LeafEdits.{closed}
use Rattle.extent_map.proofs.leaf.close_at.Goals as goal

pub returns-in-Some : goal.returns-in-Some
returns-in-Some g c =
    closed g.O.Origin.advanced g.O.Origin.reach c.args.pieces.now.items c.remove.new.self.items (c.args.at - 1) c.args.at c.index.result.now c.index-2.result.now c.in-Some.both
    (omega (arith, c.if-at-eq0.false))
    (omega (arith, c.if-at-len.false, c.len.ensures, c.args.pieces.now.ok))
    c.index.ensures c.index-2.ensures c.in-Some.ensures c.remove.ensures.items c.requires.pieces
