use Rattle.std.specs.List.{AllByRecursion}
use Rattle.std.specs.String.{string_bytes}
use Rattle.std.proofs.Common.{◌≡◌, ◌+◌, map}
use Rattle.sx_base.specs.Calls.{IfAllTold}
use Rattle.extent_map.specs.Cells.{cells_between}
use Rattle.clone_pieces.specs.Origins.{AreAsLong}
use Rattle.clone_pieces.specs.Filling.{byte_in}
use Rattle.clone_pieces.specs.Cutting.{IsNamed}
use Rattle.clone_pieces.specs.Redirecting.{seen_cells, pieces_spelled}
use Rattle.clone_pieces.proofs.Asked.{AskedAgain}
use Rattle.clone_pieces.proofs.Rows.{CutRow}
use Rattle.clone_pieces.proofs.Redirects.{Redirected}
use Rattle.clone_pieces.proofs.redirecting.redirect.Given as goal

-- What stands for the first pieces has gone out, the others stand one behind the other, only ranges
-- were asked for, and no count rose.
abbrev pub invariant-loop-plan : goal.invariant-loop-plan
invariant-loop-plan g l = record {
  can : (goal.iterator-loop-plan g).can_next l.plan-iterator;
  finite : (goal.iterator-loop-plan g).is_finite l.plan-iterator;
  row : CutRow l.range.from l.done l.plan-iterator l.range.len;
  named : AllByRecursion (IsNamed (g.E.Ends.ends l.sources.known.now)) l.plan-iterator;
  same : g.I.Inputs.told l.inputs ≡ g.I.Inputs.told l.fn.inputs;
  asked : AskedAgain g.I.Inputs (map string_bytes l.fn.sources.files.now) l.fn.inputs l.inputs;
  sizes : AreAsLong (g.B.OutsideBytes.held l.bytes) (g.B.OutsideBytes.held l.fn.bytes);
  held : g.B.OutsideBytes.tells → g.B.OutsideBytes.held l.bytes ≡ g.B.OutsideBytes.held l.fn.bytes;
  steady : g.I.Inputs.faults l.inputs ≡ g.I.Inputs.faults l.fn.inputs;
  ends_steady : g.I.Inputs.ends l.inputs ≡ g.I.Inputs.ends l.fn.inputs;
  bytes_steady : g.B.OutsideBytes.faults l.bytes ≡ g.B.OutsideBytes.faults l.fn.bytes;
  out_steady : g.O.Sink.faults l.out ≡ g.O.Sink.faults l.fn.out;
  stands : g.B.OutsideBytes.tells → IfAllTold (g.I.Inputs.told l.fn.inputs) (map string_bytes l.fn.sources.files.now)
      (λ files. Redirected (pieces_spelled l.range.to.version (g.E.Known.base l.sources.known.now) l.range.to.path.now l.range.to.offset (seen_cells files (g.E.Known.base l.sources.known.now) (cells_between l.range.from l.range.len l.range.contents.now))) l.range.to.version (g.E.Known.base l.sources.known.now)
      (byte_in (g.B.OutsideBytes.held l.fn.bytes) files) l.range.contents.now l.range.to.path.now (l.range.to.offset + l.done) l.plan-iterator (g.O.Sink.taken l.fn.out) (g.O.Sink.taken l.out) l.fn.pending l.pending);
}
