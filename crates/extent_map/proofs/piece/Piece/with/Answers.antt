use Rattle.std.proofs.Common.{refl, sym}
use Rattle.extent_map.proofs.Ranges.{one_piece, one_reaches}
use Rattle.extent_map.proofs.piece.Piece.with.Goals as goal

pub returns : goal.returns
returns g c =
    let p = c.args.self.now in
    let q = c.args.next.now in
    let one = c.if-not-is_one_with.ensures refl in
    record {
      cells = sym (one_piece g.O.Origin.advanced g.O.Origin.reach g.met.O.Origin.advanced_twice p.origin p.len q.origin q.len one);
      len = refl;
      reaches = one_reaches g.O.Origin.advanced g.O.Origin.reach g.met.O.Origin.advanced_twice p.origin p.len q.origin q.len one;
    }
