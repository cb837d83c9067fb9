use Rattle.std.proofs.Common.{sym}
use Rattle.extent_map.proofs.Ranges.{piece_front}
use Rattle.extent_map.proofs.piece.Piece.front.Goals as goal

pub returns-clause-cells : goal.returns-clause-cells
returns-clause-cells g c = sym (piece_front g.O.Origin.advanced c.args.self.now.origin c.args.self.now.len c.args.count c.requires.within)
