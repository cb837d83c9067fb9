use Rattle.std.specs.Prelude.{map}
use Rattle.std.specs.String.{string_bytes}
use Rattle.std.proofs.Common.{◌≡◌, ◌≤◌, ◌-◌, length}
use Rattle.sx_base.specs.Calls.{IfAllTold}
use Rattle.clone_pieces.specs.Origins.{IsHad, IsInInput, AreAsLong}
use Rattle.send_model.specs.Cells.{AllCells}
use Rattle.composer.specs.Files.{plan_with}
use Rattle.composer.proofs.Asked.{FilesAsked}
use Rattle.composer.proofs.FilesWriting.{FilesStand}
use Rattle.composer.proofs.whole.write_files.Given as goal

-- The items of the files so far were taken, the inputs tell the same files and were asked for
-- these, and for ranges again; what is held of the base is the same, and no count rose.
abbrev pub invariant-loop-file : goal.invariant-loop-file
invariant-loop-file g l = record {
  within : l.file ≤ length l.fn.task.files.now;
  same : g.I.Inputs.told l.inputs ≡ g.I.Inputs.told l.fn.inputs;
  asked : FilesAsked g.I.Inputs (map string_bytes l.fn.task.files.now) l.file l.fn.inputs l.inputs;
  sizes : AreAsLong (g.B.OutsideBytes.held l.bytes) (g.B.OutsideBytes.held l.fn.bytes);
  held : g.B.OutsideBytes.tells → g.B.OutsideBytes.held l.bytes ≡ g.B.OutsideBytes.held l.fn.bytes;
  steady : g.I.Inputs.faults l.inputs ≡ g.I.Inputs.faults l.fn.inputs;
  ends_steady : g.I.Inputs.ends l.inputs ≡ g.I.Inputs.ends l.fn.inputs;
  bytes_steady : g.B.OutsideBytes.faults l.bytes ≡ g.B.OutsideBytes.faults l.fn.bytes;
  out_steady : g.O.Sink.faults l.out ≡ g.O.Sink.faults l.fn.out;
  had : AllCells (IsHad (length l.fn.task.files.now) (g.E.Known.base l.fn.task.known.now)) l.composer.state;
  there : IfAllTold (g.I.Inputs.told l.fn.inputs) (map string_bytes l.fn.task.files.now) (λ files. AllCells (IsInInput files) l.composer.state);
  stand : g.B.OutsideBytes.tells → IfAllTold (g.I.Inputs.told l.fn.inputs) (map string_bytes l.fn.task.files.now) (FilesStand (plan_with (g.E.Known.base l.fn.task.known.now) l.fn.task.survey.now) l.fn.task.overrides.now l.fn.composer (g.O.Sink.taken l.fn.out) l.file l.composer (g.O.Sink.taken l.out) l.initial.place l.place);
}

abbrev pub decreases-loop-file : goal.decreases-loop-file
decreases-loop-file g l = length l.task.files.now - l.file
