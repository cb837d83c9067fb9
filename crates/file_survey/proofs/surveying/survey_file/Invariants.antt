use Rattle.std.proofs.Common.{◌≡◌, ◌-◌}
use Rattle.send_model.specs.Lengths.{limit}
use Rattle.send_model.specs.Overridden.{override_for}
use Rattle.sx_base.specs.Later.{ReadsOn}
use Rattle.cmd_reader.specs.Places.{IfTold}
use Rattle.cmd_reader.specs.Left.{HasAhead, read_to}
use Rattle.file_survey.proofs.Surveys.{FileSoFar}
use Rattle.file_survey.proofs.surveying.survey_file.Given as goal

-- Each command brings the reader nearer to the limit.
abbrev pub decreases-loop-frame : goal.decreases-loop-frame
decreases-loop-frame g l = limit - l.reader.offset

-- What is known is what the commands so far say, after what was known before the file; what is left
-- to read is left to the reader; no count rose, and the inputs were asked for nothing but this
-- file, once as far as it was read.
abbrev pub invariant-loop-frame : goal.invariant-loop-frame
invariant-loop-frame g l = record {
  same : g.I.Inputs.told l.inputs ≡ g.I.Inputs.told l.fn.inputs;
  steady : g.I.Inputs.faults l.inputs ≡ g.I.Inputs.faults l.fn.inputs;
  ends_steady : g.I.Inputs.ends l.inputs ≡ g.I.Inputs.ends l.fn.inputs;
  asked : ReadsOn g.I.Inputs l.fn.inputs l.inputs l.name 0 (read_to l.reader);
  name : l.reader.name ≡ l.name;
  seen : IfTold (g.I.Inputs.told l.fn.inputs) l.name (FileSoFar l.file (override_for l.fn.overrides l.file) l.reader l.fn.seen l.seen);
  ahead : IfTold (g.I.Inputs.told l.inputs) l.reader.name (HasAhead l.reader);
}
