use Rattle.std.proofs.Common.{◌≡◌, None, take}
use Rattle.std.specs.List.{sum_by}
use Rattle.extent_map.specs.Cells.{NonePass}
use Rattle.extent_map.specs.Leaves.{all_cells}
use Rattle.extent_map.specs.Pieces.{foreign_cell}
use Rattle.extent_map.proofs.foreign.first_in_pieces.Given as goal

-- no cell before those of the next piece is foreign
abbrev pub invariant-loop-piece : goal.invariant-loop-piece
invariant-loop-piece g l = record {
  begins : l.start ≡ sum_by (λ p. p.len) (take l.piece-index l.pieces);
  none : NonePass (foreign_cell g.O.Origin.foreign) None l.at l.start (all_cells g.O.Origin.advanced l.pieces);
}
