use Rattle.std.proofs.Common.{◌≡◌, ℕ, ◌<◌, get_or, ◌-◌, ◌≤◌, length, take, drop}
use Rattle.sx_base.specs.Disk.{IsAsBefore, IsImage}
use Rattle.sx_base.specs.Crash.{LeavesOnly}
use Rattle.group_log.proofs.filling.fill.Given as goal

abbrev pub invariant-loop-done : goal.invariant-loop-done
invariant-loop-done g l =
    let D = g.D.Disk in
    record {
      are_bytes : (i : ℕ) → get_or l.buf i 0 < 256;
      within : l.done ≤ length l.buf;
      len : D.len l.disk ≡ D.len l.fn.disk;
      bytes : D.tells → take l.done l.buf ≡ take l.done (drop l.at (D.seen l.fn.disk));
      same : D.tells → IsAsBefore D.seen D.pending l.fn.disk l.disk;
      any_moment : D.tells → LeavesOnly D.moment D.left_since l.fn.disk l.disk (IsImage (D.pending l.fn.disk));
      steady : D.faults l.disk ≡ D.faults l.fn.disk;
    }

abbrev pub decreases-loop-done : goal.decreases-loop-done
decreases-loop-done g l = length l.buf - l.done
