use Rattle.std.specs.Prelude.{map, take}
use Rattle.std.specs.String.{string_bytes}
use Rattle.std.proofs.Common.{◌≡◌, ◌≤◌, ◌-◌, ◌*◌, length}
use Rattle.sx_base.specs.Asks.{AreReadOnce}
use Rattle.sx_base.specs.Calls.{IfAllTold}
use Rattle.sx_base.specs.Later.{AskedOnly}
use Rattle.auditor.specs.Following.{beside}
use Rattle.auditor.proofs.AllFiles.{AllStand}
use Rattle.auditor.proofs.files.follow_files.Given as goal

-- The commands of the files so far were accepted and counted; the inputs tell the same files, no
-- count rose, and they were asked for these files, once each in their order.
abbrev pub invariant-loop-file : goal.invariant-loop-file
invariant-loop-file g l = record {
  within : l.file ≤ length l.fn.given.files.now;
  same : g.I.Inputs.told l.inputs ≡ g.I.Inputs.told l.fn.inputs;
  steady : g.I.Inputs.faults l.inputs ≡ g.I.Inputs.faults l.fn.inputs;
  ends_steady : g.I.Inputs.ends l.inputs ≡ g.I.Inputs.ends l.fn.inputs;
  asked : AskedOnly g.I.Inputs l.fn.inputs l.inputs (AreReadOnce (take l.file (map string_bytes l.fn.given.files.now)));
  parts : l.totals.parts ≤ l.file * 18446744073709551616;
  commands : l.totals.commands ≤ l.file * 18446744073709551616;
  stand : IfAllTold (g.I.Inputs.told l.fn.inputs) (map string_bytes l.fn.given.files.now) (AllStand l.fn.given.overrides.now
      (beside (map (λ b. (goal.Guard-dyn g (b.vtable, b.value)).kept b.value) l.fn.guards) l.fn.follower) l.file
      (beside (map (λ b. (goal.Guard-dyn g (b.vtable, b.value)).kept b.value) l.guards) l.follower) l.totals.parts l.totals.commands);
}

abbrev pub decreases-loop-file : goal.decreases-loop-file
decreases-loop-file g l = length l.given.files.now - l.file
