use Rattle.std.specs.Prelude.{◌≡◌, ◌-◌, IfSome}
use Rattle.sx_base.specs.Disk.{IsAsBefore, IsImage}
use Rattle.sx_base.specs.Crash.{LeavesOnly}
use Rattle.group_log.specs.Journal.{IsReading}
use Rattle.edits_copy.specs.Finding.{IsWithin, HasFound}
use Rattle.edits_copy.proofs.finding.find_edits.Given as goal

-- Each group lies behind the one before it.
abbrev pub decreases-loop-group : goal.decreases-loop-group
decreases-loop-group g l = l.log.size - l.log.gate

-- The groups so far were read, and the place is that of their last edits.
abbrev pub invariant-loop-group : goal.invariant-loop-group
invariant-loop-group g l =
    let D = g.D.Disk in
    record {
      reading : IsReading (D.len l.disk) l.log;
      within : IfSome l.found (IsWithin l.log.size);
      len : D.len l.disk ≡ D.len l.fn.disk;
      same : D.tells → IsAsBefore D.seen D.pending l.fn.disk l.disk;
      any_moment : D.tells → LeavesOnly D.moment D.left_since l.fn.disk l.disk (IsImage (D.pending l.fn.disk));
      steady : D.faults l.disk ≡ D.faults l.fn.disk;
      has : D.tells → HasFound l.fn.uuid l.log (D.seen l.disk) (D.pending l.disk) l.found;
    }
