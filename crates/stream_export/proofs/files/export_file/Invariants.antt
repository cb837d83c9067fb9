use Rattle.std.proofs.Common.{◌≡◌, ◌-◌}
use Rattle.send_model.specs.Lengths.{limit}
use Rattle.sx_base.specs.Later.{ReadsOn}
use Rattle.cmd_reader.specs.Places.{IfTold}
use Rattle.cmd_reader.specs.Left.{HasAhead, read_to}
use Rattle.stream_export.specs.Steps.{point_at}
use Rattle.stream_export.proofs.OneFile.{Stands}
use Rattle.stream_export.proofs.files.export_file.Given as goal

-- The commands that were read were taken, and their bytes are gathered or written; the inputs tell
-- the same files, no count rose, and they were asked for nothing but this file, once as far as it
-- was read.
abbrev pub invariant-loop-frame : goal.invariant-loop-frame
invariant-loop-frame g l = record {
  same : g.I.Inputs.told l.inputs ≡ g.I.Inputs.told l.fn.inputs;
  steady : g.I.Inputs.faults l.inputs ≡ g.I.Inputs.faults l.fn.inputs;
  ends_steady : g.I.Inputs.ends l.inputs ≡ g.I.Inputs.ends l.fn.inputs;
  asked : ReadsOn g.I.Inputs l.fn.inputs l.inputs l.fn.file.name.now 0 (read_to l.reader);
  out_steady : g.O.Sink.faults l.out ≡ g.O.Sink.faults l.fn.out;
  file : l.reader.file ≡ l.fn.file.number;
  name : l.reader.name ≡ l.fn.file.name.now;
  stands : IfTold (g.I.Inputs.told l.fn.inputs) l.fn.file.name.now (Stands (l.fn.file.said.now) l.fn.file.number (point_at l.fn.exporter l.fn.gathered) (point_at l.exporter l.gathered)
      l.fn.gathered.bytes l.gathered.bytes (g.O.Sink.taken l.fn.out) (g.O.Sink.taken l.out) l.reader);
  ahead : IfTold (g.I.Inputs.told l.inputs) l.reader.name (HasAhead l.reader);
}

-- Each command brings the reader nearer to the limit.
abbrev pub decreases-loop-frame : goal.decreases-loop-frame
decreases-loop-frame g l = limit - l.reader.offset
