use Rattle.std.proofs.Common.{◌≡◌, length, map, ◌-◌, take}
use Rattle.std.specs.String.{string_bytes}
use Rattle.sx_base.specs.Asks.{AreReadOnce}
use Rattle.sx_base.specs.Calls.{IfAllTold}
use Rattle.sx_base.specs.Later.{AskedOnly}
use Rattle.file_survey.proofs.Surveys.{FilesSoFar}
use Rattle.file_survey.proofs.surveying.survey.Given as goal

abbrev pub decreases-loop-file : goal.decreases-loop-file
decreases-loop-file g l = length l.files - l.file

-- What is known is what the files so far say; no count rose, and the inputs were asked for these
-- files, once each in their order.
abbrev pub invariant-loop-file : goal.invariant-loop-file
invariant-loop-file g l = record {
  same : g.I.Inputs.told l.inputs ≡ g.I.Inputs.told l.fn.inputs;
  steady : g.I.Inputs.faults l.inputs ≡ g.I.Inputs.faults l.fn.inputs;
  ends_steady : g.I.Inputs.ends l.inputs ≡ g.I.Inputs.ends l.fn.inputs;
  asked : AskedOnly g.I.Inputs l.fn.inputs l.inputs (AreReadOnce (take l.file (map string_bytes l.files)));
  seen : IfAllTold (g.I.Inputs.told l.fn.inputs) (map string_bytes l.files) (FilesSoFar l.fn.overrides l.file l.seen);
}
