use Rattle.std.proofs.Common.{◌-◌, Option, Some, drop, sym, ap, ◌∙◌}
use Rattle.extent_map.specs.Pieces.{piece_cells}
use Rattle.extent_map.proofs.Ranges.{piece_behind, hole_behind}
use Rattle.extent_map.proofs.piece.Piece.behind.Goals as goal

pub returns-in-Some-clause-cells : goal.returns-in-Some-clause-cells
returns-in-Some-clause-cells g c =
    let p = c.args.self.now in
    let r = rw c.in-Some.is at c.requires.reaches in
    ap (λ (o : g.row.O.Denot). piece_cells g.O.Origin.advanced (Some o) (p.len - c.args.count)) c.advance.ensures
    ∙ sym (piece_behind g.O.Origin.advanced g.O.Origin.reach g.met.O.Origin.advanced_twice c.in-Some.origin p.len c.args.count c.requires.within r)
    ∙ ap (λ (o : Option g.row.O.Denot). drop c.args.count (piece_cells g.O.Origin.advanced o p.len)) (sym c.in-Some.is)

pub returns-in-None-clause-cells : goal.returns-in-None-clause-cells
returns-in-None-clause-cells g c =
    let p = c.args.self.now in
    sym (hole_behind g.O.Origin.advanced p.len c.args.count)
    ∙ ap (λ (o : Option g.row.O.Denot). drop c.args.count (piece_cells g.O.Origin.advanced o p.len)) (sym c.in-None.is)
