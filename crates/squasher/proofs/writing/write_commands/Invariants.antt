use Rattle.std.proofs.Common.{◌≡◌, ◌≤◌, ◌-◌, ◌+◌}
use Rattle.send_model.specs.Lengths.{limit}
use Rattle.sx_base.specs.Later.{ReadsOn}
use Rattle.cmd_reader.specs.Places.{IfTold}
use Rattle.cmd_reader.specs.Left.{HasAhead, read_to}
use Rattle.clone_pieces.specs.Sending.{output}
use Rattle.squasher.proofs.WrittenFile.{Halfway}
use Rattle.squasher.proofs.writing.write_commands.Given as goal

-- What stands for the commands that were read went out; the inputs tell the same files, no count
-- rose, and they were asked for nothing but this file, once as far as it was read.
abbrev pub invariant-loop-frame : goal.invariant-loop-frame
invariant-loop-frame g l = record {
  same : g.I.Inputs.told l.inputs ≡ g.I.Inputs.told l.fn.inputs;
  steady : g.I.Inputs.faults l.inputs ≡ g.I.Inputs.faults l.fn.inputs;
  ends_steady : g.I.Inputs.ends l.inputs ≡ g.I.Inputs.ends l.fn.inputs;
  out_steady : g.O.Sink.faults l.out ≡ g.O.Sink.faults l.fn.out;
  asked : ReadsOn g.I.Inputs l.fn.inputs l.inputs l.fn.file.name.now 0 (read_to l.reader);
  file : l.reader.file ≡ l.fn.file.number;
  name : l.reader.name ≡ l.fn.file.name.now;
  number : l.reader.number ≡ l.last + 1;
  near : l.reader.number ≤ l.reader.offset + 1;
  within : l.reader.offset ≤ limit;
  halfway : IfTold (g.I.Inputs.told l.fn.inputs) l.fn.file.name.now (Halfway l.fn.file.said.now l.fn.file.number l.fn.judged l.reader l.fates (output g.O.Sink l.fn.out l.fn.pending) (output g.O.Sink l.out l.pending));
  ahead : IfTold (g.I.Inputs.told l.inputs) l.reader.name (HasAhead l.reader);
}

-- Each command brings the reader nearer to the limit.
abbrev pub decreases-loop-frame : goal.decreases-loop-frame
decreases-loop-frame g l = limit - l.reader.offset
