use Rattle.std.specs.Prelude.{map, take}
use Rattle.std.specs.String.{string_bytes}
use Rattle.std.proofs.Common.{◌≡◌, ◌≤◌, ◌-◌, length}
use Rattle.sx_base.specs.Asks.{AreReadOnce}
use Rattle.sx_base.specs.Calls.{IfAllTold}
use Rattle.sx_base.specs.Later.{AskedOnly}
use Rattle.stream_export.specs.Steps.{point_at}
use Rattle.stream_export.proofs.AllFiles.{AllStand}
use Rattle.stream_export.proofs.files.export_files.Given as goal

-- The commands of the files so far were taken, and their bytes are gathered or written; the inputs
-- tell the same files, no count rose, and they were asked for these files, once each in their
-- order.
abbrev pub invariant-loop-file : goal.invariant-loop-file
invariant-loop-file g l = record {
  within : l.file ≤ length l.fn.given.files.now;
  same : g.I.Inputs.told l.inputs ≡ g.I.Inputs.told l.fn.inputs;
  steady : g.I.Inputs.faults l.inputs ≡ g.I.Inputs.faults l.fn.inputs;
  ends_steady : g.I.Inputs.ends l.inputs ≡ g.I.Inputs.ends l.fn.inputs;
  asked : AskedOnly g.I.Inputs l.fn.inputs l.inputs (AreReadOnce (take l.file (map string_bytes l.fn.given.files.now)));
  out_steady : g.O.Sink.faults l.out ≡ g.O.Sink.faults l.fn.out;
  stand : IfAllTold (g.I.Inputs.told l.fn.inputs) (map string_bytes l.fn.given.files.now) (AllStand l.fn.given.overrides.now l.file (point_at l.fn.exporter l.fn.gathered) (point_at l.exporter l.gathered)
      l.fn.gathered.bytes l.gathered.bytes (g.O.Sink.taken l.fn.out) (g.O.Sink.taken l.out));
}

abbrev pub decreases-loop-file : goal.decreases-loop-file
decreases-loop-file g l = length l.given.files.now - l.file
