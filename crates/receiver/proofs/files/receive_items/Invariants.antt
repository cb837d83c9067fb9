use Rattle.std.specs.Prelude.{true, None, ℕ}
use Rattle.std.proofs.Common.{◌≡◌, ◌≤◌, ◌-◌}
use Rattle.send_model.specs.Reading.{HeaderDue}
use Rattle.send_model.specs.Store.{Store}
use Rattle.send_model.specs.Lengths.{limit}
use Rattle.store_model.proofs.PassedStates.{IsOn}
use Rattle.sx_base.specs.Later.{ReadsOn}
use Rattle.cmd_reader.specs.Places.{IfTold}
use Rattle.cmd_reader.specs.Left.{HasAhead, read_to}
use Rattle.receiver.specs.Standing.{IsReady}
use Rattle.receiver.specs.Disks.{work, RunsOn}
use Rattle.receiver.specs.Running.{Spot, IsAt}
use Rattle.receiver.proofs.FileSteps.{Stands}
use Rattle.receiver.proofs.files.receive_items.Given as goal

-- The commands that were read were taken; the inputs tell the same files, no count rose,
-- and they were asked for nothing but this file, once as far as it was read.
abbrev pub invariant-loop-frame : goal.invariant-loop-frame
invariant-loop-frame g l = record {
  same : g.I.Inputs.told l.inputs ≡ g.I.Inputs.told l.fn.inputs;
  steady : g.I.Inputs.faults l.inputs ≡ g.I.Inputs.faults l.fn.inputs;
  ends_steady : g.I.Inputs.ends l.inputs ≡ g.I.Inputs.ends l.fn.inputs;
  asked : ReadsOn g.I.Inputs l.fn.inputs l.inputs l.fn.file.name.now 0 (read_to l.reader);
  out_steady : g.O.Sink.faults l.out ≡ g.O.Sink.faults l.fn.out;
  disk_steady : g.D.Disk.faults l.disk ≡ g.D.Disk.faults l.fn.disk;
  most : l.store.log.limit ≡ l.fn.store.log.limit;
  file : l.reader.file ≡ l.fn.file.number;
  name : l.reader.name ≡ l.fn.file.name.now;
  within : l.reader.offset ≤ limit;
  ready : IsReady (g.D.Disk.len l.disk) l.current l.store;
  at_end : l.reader.fed.ended ≡ true → (l.current ≡ None) × (l.reader.fed.due ≡ HeaderDue);
  stands : (base : Store ℕ) (spot : Spot) → IsAt spot (g.G.Guarding.kept l.fn.guards) l.fn.store None → IsOn base spot.watched.state.store spot.watched.state.part → spot.begun ≡ None
      → IfTold (g.I.Inputs.told l.fn.inputs) l.fn.file.name.now (Stands (l.fn.file.said.now) l.fn.file.number l.fn.store.log.limit base spot l.reader (g.G.Guarding.kept l.guards) l.store l.current (g.O.Sink.taken l.fn.out) (g.O.Sink.taken l.out)
      (RunsOn g.D.Disk (work l.fn.disk l.fn.store None) (work l.disk l.store l.current) None));
  ahead : IfTold (g.I.Inputs.told l.inputs) l.reader.name (HasAhead l.reader);
}

-- Each command brings the reader nearer to the limit.
abbrev pub decreases-loop-frame : goal.decreases-loop-frame
decreases-loop-frame g l = limit - l.reader.offset
