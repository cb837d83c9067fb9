use Rattle.std.specs.Prelude.{ℕ, None, map}
use Rattle.std.specs.String.{string_bytes}
use Rattle.std.proofs.Common.{◌≡◌, ◌≤◌, ◌-◌, length, take}
use Rattle.sx_base.specs.Asks.{AreReadOnce}
use Rattle.sx_base.specs.Calls.{IfAllTold}
use Rattle.sx_base.specs.Later.{AskedOnly}
use Rattle.send_model.specs.Store.{Store}
use Rattle.store_model.proofs.PassedStates.{IsOn}
use Rattle.store_journal.specs.Shown.{IsIdle}
use Rattle.receiver.specs.Disks.{work, RunsOn}
use Rattle.receiver.specs.Running.{Spot, IsAt}
use Rattle.receiver.proofs.AllTheFiles.{AllStand}
use Rattle.receiver.proofs.files.receive_files.Given as goal

-- The commands of the files so far were taken; the inputs tell the same files, no count rose,
-- and they were asked for these files, once each in their order.
abbrev pub invariant-loop-file : goal.invariant-loop-file
invariant-loop-file g l = record {
  within : l.file ≤ length l.fn.given.files.now;
  same : g.I.Inputs.told l.inputs ≡ g.I.Inputs.told l.fn.inputs;
  steady : g.I.Inputs.faults l.inputs ≡ g.I.Inputs.faults l.fn.inputs;
  ends_steady : g.I.Inputs.ends l.inputs ≡ g.I.Inputs.ends l.fn.inputs;
  asked : AskedOnly g.I.Inputs l.fn.inputs l.inputs (AreReadOnce (take l.file (map string_bytes l.fn.given.files.now)));
  out_steady : g.O.Sink.faults l.out ≡ g.O.Sink.faults l.fn.out;
  disk_steady : g.D.Disk.faults l.disk ≡ g.D.Disk.faults l.fn.disk;
  most : l.store.log.limit ≡ l.fn.store.log.limit;
  idle : IsIdle (g.D.Disk.len l.disk) l.store;
  stand : (base : Store ℕ) (spot : Spot) → IsAt spot (g.G.Guarding.kept l.fn.guards) l.fn.store None → IsOn base spot.watched.state.store spot.watched.state.part → spot.begun ≡ None
      → IfAllTold (g.I.Inputs.told l.fn.inputs) (map string_bytes l.fn.given.files.now) (AllStand l.fn.given.overrides.now l.file l.fn.store.log.limit base spot (g.G.Guarding.kept l.guards) l.store (g.O.Sink.taken l.fn.out) (g.O.Sink.taken l.out)
      (RunsOn g.D.Disk (work l.fn.disk l.fn.store None) (work l.disk l.store None) None));
}

abbrev pub decreases-loop-file : goal.decreases-loop-file
decreases-loop-file g l = length l.given.files.now - l.file
