use Rattle.std.proofs.Common.{arith}
use Rattle.extent_map.proofs.LeafEdits.{added_none, added_in}
use Rattle.extent_map.proofs.leaf.add_at.Goals as goal

pub returns-then-piece-eq0 : goal.returns-then-piece-eq0
returns-then-piece-eq0 g c = added_none g.O.Origin.advanced g.O.Origin.reach c.args.pieces.now.items c.args.at c.args.piece c.requires.at c.if-piece-eq0.true c.requires.pieces

pub returns : goal.returns
returns g c =
    added_in g.O.Origin.advanced g.O.Origin.reach c.args.pieces.now.items c.insert.new.self.items c.args.at c.args.piece c.requires.at
    c.in_ok-insert.ensures.items
    (record { some = omega (arith, c.if-piece-eq0.false); reaches = c.requires.reaches })
    c.requires.pieces
