use Rattle.std.proofs.Common.{◌≡◌, ◌+◌, ◌-◌, [], ◌<◌, ◌++◌, length, take, length-append, sym, ◌∙◌, ap, arith}
use Rattle.extent_map.specs.Cells.{cells_between}
use Rattle.extent_map.specs.Leaves.{cells_in}
use Rattle.extent_map.specs.Roots.{root_cells}
use Rattle.extent_map.proofs.Ahead.{read_on, none_left}
use Rattle.extent_map.proofs.LeafEdits.{length-cells_in}
use Rattle.extent_map.proofs.pieces.PiecesIterator.next.Goals as goal

pub returns-then-self-clause-steps : goal.returns-then-self-clause-steps
returns-then-self-clause-steps g c =
    let e : c.args.self.now ≡ [] =
    sym c.self.view_is
    ∙ none_left (root_cells g.O.Origin.advanced c.self.inside.root.now) c.self.inside.at c.self.inside.end (omega (arith, c.if-self.true)) in
    (e, e)

pub returns-clause-steps : goal.returns-clause-steps
returns-clause-steps g c =
    let f = c.front-piece.ensures in (
      omega (arith, f.len, c.min.ensures, c.piece_from-piece.ensures.good.some, c.if-self.false),
      f.reaches,
      sym c.self.view_is
          ∙ read_on g.O.Origin.advanced g.O.Origin.reach (root_cells g.O.Origin.advanced c.self.inside.root.now) c.self.inside.at c.self.inside.end c.piece_from-piece.result.0 c.front-piece.result c.piece_from-piece.result.1.now c.piece_from-piece.ensures
          (omega (arith, f.len, c.min.ensures)) (omega (arith, f.len, c.min.ensures, c.if-self.false))
          (f.cells ∙ ap (λ k. take k (cells_in g.O.Origin.advanced c.piece_from-piece.result.0)) (sym f.len)),
    )

pub returns-clause-goes : goal.returns-clause-goes
returns-clause-goes g c =
    let f = c.front-piece.ensures in
    let rest = cells_between (c.self.inside.at + c.front-piece.result.len) (c.self.inside.end - (c.self.inside.at + c.front-piece.result.len)) (root_cells g.O.Origin.advanced c.self.inside.root.now) in
    let e : c.args.self.now ≡ cells_in g.O.Origin.advanced c.front-piece.result ++ rest =
    sym c.self.view_is
    ∙ read_on g.O.Origin.advanced g.O.Origin.reach (root_cells g.O.Origin.advanced c.self.inside.root.now) c.self.inside.at c.self.inside.end c.piece_from-piece.result.0 c.front-piece.result c.piece_from-piece.result.1.now c.piece_from-piece.ensures
    (omega (arith, f.len, c.min.ensures)) (omega (arith, f.len, c.min.ensures, c.if-self.false))
    (f.cells ∙ ap (λ k. take k (cells_in g.O.Origin.advanced c.piece_from-piece.result.0)) (sym f.len)) in
    let lt : length rest < length c.args.self.now =
    omega (arith, ap length e, length-append (cells_in g.O.Origin.advanced c.front-piece.result) rest, length-cells_in g.O.Origin.advanced g.O.Origin.reach c.front-piece.result, f.len, c.min.ensures, c.piece_from-piece.ensures.good.some, c.if-self.false) in
    record { on = λ _. (tt, tt, lt); keeps = tt; rests = λ _. tt }
