use Rattle.std.specs.String.{string_bytes}
use Rattle.std.proofs.Common.{◌≡◌, ◌≤◌, ◌-◌, map}
use Rattle.sx_base.specs.Calls.{IfAllTold}
use Rattle.extent_map.specs.Cells.{cells_between}
use Rattle.clone_pieces.specs.Origins.{AreAsLong}
use Rattle.clone_pieces.specs.Filling.{byte_in}
use Rattle.clone_pieces.proofs.Asked.{AskedAgain}
use Rattle.clone_pieces.proofs.Chunks.{Written}
use Rattle.clone_pieces.proofs.literal.write_cells.Given as goal

-- The bytes of the first cells have gone out as commands, only ranges were asked for, and no count
-- rose.
abbrev pub invariant-loop-done : goal.invariant-loop-done
invariant-loop-done g l = record {
  within : l.done ≤ l.range.len;
  same : g.I.Inputs.told l.inputs ≡ g.I.Inputs.told l.fn.inputs;
  asked : AskedAgain g.I.Inputs (map string_bytes l.fn.sources.files.now) l.fn.inputs l.inputs;
  sizes : AreAsLong (g.B.OutsideBytes.held l.bytes) (g.B.OutsideBytes.held l.fn.bytes);
  held : g.B.OutsideBytes.tells → g.B.OutsideBytes.held l.bytes ≡ g.B.OutsideBytes.held l.fn.bytes;
  steady : g.I.Inputs.faults l.inputs ≡ g.I.Inputs.faults l.fn.inputs;
  ends_steady : g.I.Inputs.ends l.inputs ≡ g.I.Inputs.ends l.fn.inputs;
  bytes_steady : g.B.OutsideBytes.faults l.bytes ≡ g.B.OutsideBytes.faults l.fn.bytes;
  out_steady : g.O.Sink.faults l.out ≡ g.O.Sink.faults l.fn.out;
  written : g.B.OutsideBytes.tells → IfAllTold (g.I.Inputs.told l.fn.inputs) (map string_bytes l.fn.sources.files.now)
      (λ files. Written l.range.to.version l.range.to.path.now l.range.to.offset (map (byte_in (g.B.OutsideBytes.held l.fn.bytes) files) (cells_between l.range.from l.range.len l.range.contents.now)) l.done (g.O.Sink.taken l.fn.out) (g.O.Sink.taken l.out) l.fn.pending l.pending);
}

abbrev pub decreases-loop-done : goal.decreases-loop-done
decreases-loop-done g l = l.range.len - l.done
