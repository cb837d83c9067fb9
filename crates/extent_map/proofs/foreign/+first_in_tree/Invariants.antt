use Rattle.std.proofs.Common.{◌≡◌, None, take}
use Rattle.std.specs.List.{sum_by}
use Rattle.extent_map.specs.Cells.{NonePass}
use Rattle.extent_map.specs.Pieces.{foreign_cell}
use Rattle.extent_map.specs.Seen.{cells_count, joined}
use Rattle.extent_map.proofs.foreign.+first_in_tree.Given as goal

-- no cell before those of the next tree is foreign
abbrev pub invariant-loop-kid : goal.invariant-loop-kid
invariant-loop-kid g l = record {
  begins : l.start ≡ sum_by cells_count (take l.kid-index l.kids);
  none : NonePass (foreign_cell g.O.Origin.foreign) None l.at l.start (joined l.kids);
}
