use Rattle.std.proofs.Common.{◌≡◌, ◌+◌, None, length}
use Rattle.extent_map.specs.Cells.{put_cells, cells_between}
use Rattle.extent_map.proofs.extents.Extents.copy_pieces.Given as goal

-- putting the cells that are left gives what putting all gives
abbrev pub invariant-loop-origin : goal.invariant-loop-origin
invariant-loop-origin g l = record {
  can : (goal.iterator-loop-origin g).can_next l.origin-iterator;
  finite : (goal.iterator-loop-origin g).is_finite l.origin-iterator;
  place : l.place + length l.origin-iterator ≡ l.at + l.len;
  cells : put_cells None l.place l.origin-iterator l.self ≡ put_cells None l.at (cells_between l.from l.len l.source) l.fn.self;
}
