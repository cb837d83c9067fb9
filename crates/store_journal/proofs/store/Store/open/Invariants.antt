-- The groups so far were read and taken.
use Rattle.std.specs.Prelude.{◌≡◌, ◌-◌}
use Rattle.sx_base.specs.Disk.{IsImage}
use Rattle.sx_base.specs.Crash.{LeavesOnly}
use Rattle.group_log.specs.Journal.{IsReading}
use Rattle.group_replay.specs.Kept.{AreKept}
use Rattle.store_journal.proofs.Opened.{HasRead}
use Rattle.store_journal.proofs.store.Store.open.Given as goal

-- Each group lies behind the one before it.
abbrev pub decreases-loop-window : goal.decreases-loop-window
decreases-loop-window g l = l.log.size - l.log.gate

abbrev pub invariant-loop-window : goal.invariant-loop-window
invariant-loop-window g l =
    let D = g.D.Disk in
    record {
      reading : IsReading (D.len l.disk) l.log;
      kept : AreKept l.log.gate l.core;
      len : D.len l.disk ≡ D.len l.fn.disk;
      steady : D.faults l.disk ≡ D.faults l.fn.disk;
      seen : D.tells → D.seen l.disk ≡ D.seen l.fn.disk;
      any_moment : D.tells → LeavesOnly D.moment D.left_since l.fn.disk l.disk (IsImage (D.pending l.fn.disk));
      read : D.tells → HasRead l.core l.log (D.seen l.disk) (D.pending l.disk);
    }
