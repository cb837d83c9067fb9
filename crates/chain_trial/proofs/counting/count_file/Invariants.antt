use Rattle.std.proofs.Common.{◌≡◌, ◌≤◌, ◌-◌}
use Rattle.std.specs.Prelude.{Some}
use Rattle.send_model.specs.Lengths.{limit}
use Rattle.cmd_reader.specs.Places.{IfTold}
use Rattle.cmd_reader.specs.Left.{HasAhead}
use Rattle.chain_trial.proofs.FileCounting.{Stands}
use Rattle.chain_trial.proofs.counting.count_file.Given as goal

-- The commands that were read are counted; the inputs are the same.
abbrev pub invariant-loop-frame : goal.invariant-loop-frame
invariant-loop-frame l = record {
  same : l.inputs ≡ l.fn.inputs;
  file : l.reader.file ≡ 1;
  name : l.reader.name ≡ l.fn.name;
  within : l.reader.offset ≤ limit;
  numbered : l.counted.commands ≤ l.reader.offset;
  cloned : l.counted.clones ≤ l.counted.commands;
  stands : IfTold (Some l.fn.inputs) l.fn.name (Stands l.reader l.counted);
  ahead : IfTold (Some l.inputs) l.reader.name (HasAhead l.reader);
}

-- Each command brings the reader nearer to the limit.
abbrev pub decreases-loop-frame : goal.decreases-loop-frame
decreases-loop-frame l = limit - l.reader.offset
