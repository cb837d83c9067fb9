-- The frames so far were taken, and the checksum goes up to their end.
use Rattle.std.specs.Prelude.{◌≡◌, ◌-◌, ◌≤◌, length, take, drop}
use Rattle.send_model.specs.Checksum.{crc_of}
use Rattle.sx_base.specs.Disk.{IsAsBefore, IsImage}
use Rattle.sx_base.specs.Crash.{LeavesOnly}
use Rattle.group_replay.specs.Taking.{open_state}
use Rattle.group_replay.specs.Kept.{IsKept, AreKept}
use Rattle.group_replay.specs.Aheads.{IsAhead, Shows}
use Rattle.group_replay.specs.Edits.{AreEdits}
use Rattle.group_replay.proofs.body.take_frames.Given as goal

-- Each turn takes bytes of the group.
abbrev pub decreases-loop-ahead : goal.decreases-loop-ahead
decreases-loop-ahead g l = l.run.frames.end - l.ahead.at

abbrev pub invariant-loop-ahead : goal.invariant-loop-ahead
invariant-loop-ahead g l =
    let D = g.D.Disk in
    record {
      begun : l.fn.first.at ≤ l.ahead.at;
      within : l.ahead.at ≤ l.run.frames.end;
      key : l.part.key ≡ l.fn.part.key;
      ahead : IsAhead l.run.frames.stop (length l.window) l.ahead;
      len : D.len l.disk ≡ D.len l.fn.disk;
      same : D.tells → IsAsBefore D.seen D.pending l.fn.disk l.disk;
      any_moment : D.tells → LeavesOnly D.moment D.left_since l.fn.disk l.disk (IsImage (D.pending l.fn.disk));
      later : D.faults l.fn.disk ≤ D.faults l.disk;
      steady : D.faults l.disk ≡ D.faults l.fn.disk;
      shows : D.tells → Shows (D.seen l.fn.disk) l.window l.ahead;
      edits : D.tells → AreEdits l.run.frames.version l.fn.first.at (take (l.ahead.at - l.fn.first.at) (drop l.fn.first.at (D.seen l.fn.disk))) (open_state l.core l.fn.part) (open_state l.core l.part);
      sum_is : D.tells → l.ahead.sum ≡ crc_of l.fn.first.sum (take (l.ahead.at - l.fn.first.at) (drop l.fn.first.at (D.seen l.fn.disk)));
      kept : AreKept l.fn.first.at l.core → IsKept l.fn.first.at l.fn.part.subvolume → IsKept l.ahead.at l.part.subvolume;
    }
