use Rattle.std.proofs.Common.{◌≡◌, ◌-◌}
use Rattle.send_model.specs.Lengths.{limit}
use Rattle.sx_base.specs.Later.{ReadsOn}
use Rattle.cmd_reader.specs.Places.{IfTold}
use Rattle.cmd_reader.specs.Left.{HasAhead, read_to}
use Rattle.stream_dump.proofs.Standing.{Stands}
use Rattle.stream_dump.proofs.file_writing.write_file.Given as goal

-- What was written and gathered are the bytes of what was read; the inputs tell the same files, no
-- count rose, and they were asked for nothing but this file, once as far as it was read.
abbrev pub invariant-loop-frame : goal.invariant-loop-frame
invariant-loop-frame g l = record {
  same : g.I.Inputs.told l.inputs ≡ g.I.Inputs.told l.fn.inputs;
  steady : g.I.Inputs.faults l.inputs ≡ g.I.Inputs.faults l.fn.inputs;
  ends_steady : g.I.Inputs.ends l.inputs ≡ g.I.Inputs.ends l.fn.inputs;
  asked : ReadsOn g.I.Inputs l.fn.inputs l.inputs l.fn.file 0 (read_to l.reader);
  out_steady : g.O.Sink.faults l.out ≡ g.O.Sink.faults l.fn.out;
  file : l.reader.file ≡ 1;
  name : l.reader.name ≡ l.fn.file;
  stands : IfTold (g.I.Inputs.told l.fn.inputs) l.fn.file (Stands g.F.ItemForm.piece l.reader l.gathered (g.O.Sink.taken l.fn.out) (g.O.Sink.taken l.out));
  ahead : IfTold (g.I.Inputs.told l.inputs) l.reader.name (HasAhead l.reader);
}

-- Each command brings the reader nearer to the limit.
abbrev pub decreases-loop-frame : goal.decreases-loop-frame
decreases-loop-frame g l = limit - l.reader.offset
