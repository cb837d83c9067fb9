use Rattle.std.specs.String.{string_bytes}
use Rattle.std.proofs.Common.{◌≡◌, ◌≤◌, length, drop, map}
use Rattle.sx_base.specs.Calls.{IfAllTold}
use Rattle.extent_map.specs.Cells.{cells_between}
use Rattle.clone_pieces.specs.Origins.{AreAsLong}
use Rattle.clone_pieces.proofs.Asked.{AskedAgain}
use Rattle.clone_pieces.proofs.Fills.{FilledTo}
use Rattle.clone_pieces.proofs.filling.fill_cells.Given as goal

-- The front of the buffer has the bytes of the cells before those that are left, only ranges were
-- asked for, and no count rose.
abbrev pub invariant-loop-origin : goal.invariant-loop-origin
invariant-loop-origin g l = record {
  can : (goal.iterator-loop-origin g).can_next l.origin-iterator;
  finite : (goal.iterator-loop-origin g).is_finite l.origin-iterator;
  size : length l.buf ≡ length l.fn.buf;
  within : l.have ≤ length l.fn.buf;
  left : drop l.have (cells_between l.from (length l.fn.buf) l.contents) ≡ l.origin-iterator;
  same : g.I.Inputs.told l.inputs ≡ g.I.Inputs.told l.fn.inputs;
  asked : AskedAgain g.I.Inputs (map string_bytes l.fn.files) l.fn.inputs l.inputs;
  sizes : AreAsLong (g.B.OutsideBytes.held l.bytes) (g.B.OutsideBytes.held l.fn.bytes);
  held : g.B.OutsideBytes.tells → g.B.OutsideBytes.held l.bytes ≡ g.B.OutsideBytes.held l.fn.bytes;
  steady : g.I.Inputs.faults l.inputs ≡ g.I.Inputs.faults l.fn.inputs;
  ends_steady : g.I.Inputs.ends l.inputs ≡ g.I.Inputs.ends l.fn.inputs;
  bytes_steady : g.B.OutsideBytes.faults l.bytes ≡ g.B.OutsideBytes.faults l.fn.bytes;
  filled : g.B.OutsideBytes.tells → IfAllTold (g.I.Inputs.told l.fn.inputs) (map string_bytes l.fn.files)
      (FilledTo (g.B.OutsideBytes.held l.fn.bytes) (cells_between l.from (length l.fn.buf) l.contents) l.have l.buf);
}
