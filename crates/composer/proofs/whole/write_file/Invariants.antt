use Rattle.std.specs.Prelude.{[], map, get_or}
use Rattle.std.specs.String.{string_bytes}
use Rattle.std.proofs.Common.{◌≡◌, ◌-◌, ◌+◌, length}
use Rattle.send_model.specs.Lengths.{limit}
use Rattle.send_model.specs.Overridden.{override_for}
use Rattle.sx_base.specs.Calls.{IfAllTold}
use Rattle.cmd_reader.specs.Places.{IfTold}
use Rattle.cmd_reader.specs.Left.{HasAhead}
use Rattle.clone_pieces.specs.Origins.{IsHad, AreAsLong}
use Rattle.send_model.specs.Cells.{AllCells}
use Rattle.composer.specs.Files.{plan_with}
use Rattle.composer.proofs.Asked.{FileAsked}
use Rattle.composer.proofs.FileWriting.{EndsAlike, InFiles, Stands}
use Rattle.composer.proofs.whole.write_file.Given as goal

-- The items that were read were taken, the inputs tell the same files and were asked for this one,
-- and for ranges again; what is held of the base is the same, and no count rose.
abbrev pub invariant-loop-frame : goal.invariant-loop-frame
invariant-loop-frame g l = record {
  same : g.I.Inputs.told l.inputs ≡ g.I.Inputs.told l.fn.inputs;
  asked : FileAsked g.I.Inputs (map string_bytes l.fn.task.files.now) l.fn.turn.number l.reader l.fn.inputs l.inputs;
  sizes : AreAsLong (g.B.OutsideBytes.held l.bytes) (g.B.OutsideBytes.held l.fn.bytes);
  held : g.B.OutsideBytes.tells → g.B.OutsideBytes.held l.bytes ≡ g.B.OutsideBytes.held l.fn.bytes;
  steady : g.I.Inputs.faults l.inputs ≡ g.I.Inputs.faults l.fn.inputs;
  ends_steady : g.I.Inputs.ends l.inputs ≡ g.I.Inputs.ends l.fn.inputs;
  bytes_steady : g.B.OutsideBytes.faults l.bytes ≡ g.B.OutsideBytes.faults l.fn.bytes;
  out_steady : g.O.Sink.faults l.out ≡ g.O.Sink.faults l.fn.out;
  file : l.reader.file ≡ l.fn.turn.number + 1;
  name : l.reader.name ≡ get_or (map string_bytes l.fn.task.files.now) l.fn.turn.number [];
  had : AllCells (IsHad (length l.fn.task.files.now) (g.E.Known.base l.fn.task.known.now)) l.composer.state;
  there : IfAllTold (g.I.Inputs.told l.fn.inputs) (map string_bytes l.fn.task.files.now) (InFiles l.fn.turn.number l.reader l.composer);
  stands : g.B.OutsideBytes.tells → IfAllTold (g.I.Inputs.told l.fn.inputs) (map string_bytes l.fn.task.files.now) (λ files. Stands files (plan_with (g.E.Known.base l.fn.task.known.now) l.fn.task.survey.now) (l.fn.turn.number + 1) (override_for l.fn.task.overrides.now (l.fn.turn.number + 1)) l.fn.composer (g.O.Sink.taken l.fn.out) l.reader l.composer (g.O.Sink.taken l.out) l.fn.turn.before l.place (get_or files l.fn.turn.number []));
  alike : IfTold (g.I.Inputs.told l.inputs) l.reader.name (EndsAlike (l.fn.turn.number + 1) l.reader);
  ahead : IfTold (g.I.Inputs.told l.inputs) l.reader.name (HasAhead l.reader);
}

-- Each item brings the reader nearer to the limit.
abbrev pub decreases-loop-frame : goal.decreases-loop-frame
decreases-loop-frame g l = limit - l.reader.offset
