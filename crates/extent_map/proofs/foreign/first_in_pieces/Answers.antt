use Rattle.std.proofs.Common.{None, arith}
use Rattle.extent_map.specs.Leaves.{cells_in}
use Rattle.extent_map.specs.Pieces.{foreign_cell}
use Rattle.extent_map.proofs.Foreigns.{sum_on, fits_on, none_on, first_there, first_is_end}
use Rattle.extent_map.proofs.LeafEdits.{length-cells_in}
use Rattle.extent_map.proofs.foreign.first_in_pieces.Goals as goal

pub overflow_add-end : goal.overflow_add-end
overflow_add-end g c =
    omega (arith, c.requires.fits, fits_on (cells_in g.O.Origin.advanced) (λ p. p.len) (length-cells_in g.O.Origin.advanced g.O.Origin.reach) c.args.pieces.now (foreign_cell g.O.Origin.foreign) None c.args.at c.loop-piece.piece-index c.loop-piece.start c.loop-piece.invariant.begins c.loop-piece.invariant.none c.piece-item.result c.loop-piece-test.true c.piece-item.is)

pub overflow_add-place : goal.overflow_add-place
overflow_add-place g c =
    omega (arith, c.requires.fits, c.first_foreign.ensures.within, length-cells_in g.O.Origin.advanced g.O.Origin.reach c.piece-item.result, fits_on (cells_in g.O.Origin.advanced) (λ p. p.len) (length-cells_in g.O.Origin.advanced g.O.Origin.reach) c.args.pieces.now (foreign_cell g.O.Origin.foreign) None c.args.at c.loop-piece.piece-index c.loop-piece.start c.loop-piece.invariant.begins c.loop-piece.invariant.none c.piece-item.result c.loop-piece-test.true c.piece-item.is)

pub returns-then-place-end : goal.returns-then-place-end
returns-then-place-end g c =
    first_there (cells_in g.O.Origin.advanced) (λ p. p.len) (length-cells_in g.O.Origin.advanced g.O.Origin.reach) c.args.pieces.now (foreign_cell g.O.Origin.foreign) None c.args.at c.loop-piece.piece-index c.loop-piece.start c.loop-piece.invariant.begins c.loop-piece.invariant.none c.piece-item.result c.loop-piece-test.true c.piece-item.is
    c.first_foreign.result c.saturating_sub.result c.saturating_sub.ensures c.first_foreign.ensures
    (omega (arith, c.if-place-end.true))

pub loop-piece-preserved : goal.loop-piece-preserved
loop-piece-preserved g c =
    record {
      begins = sum_on (cells_in g.O.Origin.advanced) (λ p. p.len) (length-cells_in g.O.Origin.advanced g.O.Origin.reach) c.args.pieces.now (foreign_cell g.O.Origin.foreign) None c.args.at c.loop-piece.piece-index c.loop-piece.start c.loop-piece.invariant.begins c.loop-piece.invariant.none c.piece-item.result c.loop-piece-test.true c.piece-item.is;
      none = none_on (cells_in g.O.Origin.advanced) (λ p. p.len) (length-cells_in g.O.Origin.advanced g.O.Origin.reach) c.args.pieces.now (foreign_cell g.O.Origin.foreign) None c.args.at c.loop-piece.piece-index c.loop-piece.start c.loop-piece.invariant.begins c.loop-piece.invariant.none c.piece-item.result c.loop-piece-test.true c.piece-item.is
          c.first_foreign.result c.saturating_sub.result c.saturating_sub.ensures c.first_foreign.ensures
          c.piece-item.result.len (omega (arith, c.if-place-end.false));
    }

pub returns : goal.returns
returns g c =
    first_is_end (cells_in g.O.Origin.advanced) (λ p. p.len) (length-cells_in g.O.Origin.advanced g.O.Origin.reach) c.args.pieces.now (foreign_cell g.O.Origin.foreign) None c.args.at c.loop-piece.piece-index c.loop-piece.start c.loop-piece.invariant.begins c.loop-piece.invariant.none
    (omega (arith, c.loop-piece-test.false)) c.requires.within
