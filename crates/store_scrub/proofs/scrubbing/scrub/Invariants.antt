-- The groups so far were read, and are whole.
use Rattle.std.specs.Prelude.{◌≡◌, ◌-◌, ◌≤◌}
use Rattle.sx_base.specs.Disk.{IsImage}
use Rattle.sx_base.specs.Crash.{LeavesOnly}
use Rattle.group_log.specs.Journal.{IsReading}
use Rattle.store_scrub.specs.Found.{HasScrubbed}
use Rattle.store_scrub.proofs.scrubbing.scrub.Given as goal

-- Each group lies behind the one before it.
abbrev pub decreases-loop-group : goal.decreases-loop-group
decreases-loop-group g l = l.log.size - l.log.gate

abbrev pub invariant-loop-group : goal.invariant-loop-group
invariant-loop-group g l =
    let D = g.D.Disk in
    record {
      reading : IsReading (D.len l.disk) l.log;
      counted : l.found.groups ≡ l.log.groups;
      fewer : l.found.unsealed ≤ l.found.groups;
      len : D.len l.disk ≡ D.len l.fn.disk;
      seen : D.tells → D.seen l.disk ≡ D.seen l.fn.disk;
      any_moment : D.tells → LeavesOnly D.moment D.left_since l.fn.disk l.disk (IsImage (D.pending l.fn.disk));
      steady : D.faults l.disk ≡ D.faults l.fn.disk;
      scrubbed : D.tells → HasScrubbed l.log (D.seen l.disk) (D.pending l.disk) l.found.unsealed;
    }
