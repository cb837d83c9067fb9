use Rattle.std.proofs.Common.{◌≡◌, ◌-◌}
use Rattle.std.specs.String.{string_bytes}
use Rattle.send_model.specs.Lengths.{limit}
use Rattle.sx_base.specs.Later.{ReadsOn}
use Rattle.stream_text.specs.Lines.{IfFile}
use Rattle.stream_text.specs.Reading.{IsReader, fed}
use Rattle.stream_text.proofs.Steps.{PackedSoFar}
use Rattle.stream_text.proofs.packing.pack.Given as goal

-- the lines so far are packed; no count rose, and the file was read once as far as it was read
abbrev pub invariant-loop-step : goal.invariant-loop-step
invariant-loop-step g l = record {
  same : g.I.Inputs.told l.inputs ≡ g.I.Inputs.told l.fn.inputs;
  steady : g.I.Inputs.faults l.inputs ≡ g.I.Inputs.faults l.fn.inputs;
  ends_steady : g.I.Inputs.ends l.inputs ≡ g.I.Inputs.ends l.fn.inputs;
  out_steady : g.O.Sink.faults l.out ≡ g.O.Sink.faults l.fn.out;
  asked : ReadsOn g.I.Inputs l.fn.inputs l.inputs l.fn.file 0 (fed l.lines);
  reader : IsReader l.lines;
  name : string_bytes l.lines.name ≡ l.fn.file;
  packed : IfFile (g.I.Inputs.told l.fn.inputs) l.fn.file (PackedSoFar l.lines l.packed (g.O.Sink.taken l.fn.out) (g.O.Sink.taken l.out));
}

-- each line brings the reader nearer to the limit
abbrev pub decreases-loop-step : goal.decreases-loop-step
decreases-loop-step g l = limit - l.lines.at
