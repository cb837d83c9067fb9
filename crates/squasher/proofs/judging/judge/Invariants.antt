use Rattle.std.proofs.Common.{◌≡◌, ◌≤◌, ◌-◌, ◌+◌}
use Rattle.send_model.specs.Lengths.{limit}
use Rattle.std.specs.Option.{option_to_list}
use Rattle.sx_base.specs.Later.{ReadsOn}
use Rattle.cmd_reader.specs.Places.{IfTold}
use Rattle.cmd_reader.specs.Left.{HasAhead, read_to}
use Rattle.squasher.proofs.JudgedFile.{Agrees, IsFresh, Stands}
use Rattle.squasher.proofs.judging.judge.Given as goal

-- The commands that were read were taken, and what is kept stands for them, over the subvolumes
-- without that of the first; the inputs tell the same
-- files, no count rose, and they were asked for nothing but this file, once as far as it was read.
abbrev pub invariant-loop-frame : goal.invariant-loop-frame
invariant-loop-frame g l = record {
  same : g.I.Inputs.told l.inputs ≡ g.I.Inputs.told l.fn.inputs;
  steady : g.I.Inputs.faults l.inputs ≡ g.I.Inputs.faults l.fn.inputs;
  ends_steady : g.I.Inputs.ends l.inputs ≡ g.I.Inputs.ends l.fn.inputs;
  asked : ReadsOn g.I.Inputs l.fn.inputs l.inputs l.fn.file.name.now 0 (read_to l.reader);
  file : l.reader.file ≡ l.fn.file.number;
  name : l.reader.name ≡ l.fn.file.name.now;
  near : l.reader.number ≤ l.reader.offset + 1;
  within : l.reader.offset ≤ limit;
  agrees : Agrees l.reader l.keeper;
  fresh : IsFresh l.fn.core l.own l.keeper;
  stands : IfTold (g.I.Inputs.told l.fn.inputs) l.fn.file.name.now (Stands l.fn.core l.fn.file.said.now l.fn.file.number (option_to_list l.own) l.reader l.keeper);
  ahead : IfTold (g.I.Inputs.told l.inputs) l.reader.name (HasAhead l.reader);
}

-- Each command brings the reader nearer to the limit.
abbrev pub decreases-loop-frame : goal.decreases-loop-frame
decreases-loop-frame g l = limit - l.reader.offset
