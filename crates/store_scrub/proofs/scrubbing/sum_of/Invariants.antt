-- The checksum is that of the bytes so far.
use Rattle.std.specs.Prelude.{◌≡◌, ◌-◌, ◌≤◌, take, drop}
use Rattle.send_model.specs.Checksum.{crc_of}
use Rattle.sx_base.specs.Disk.{IsAsBefore, IsImage}
use Rattle.sx_base.specs.Crash.{LeavesOnly}
use Rattle.store_scrub.proofs.scrubbing.sum_of.Given as goal

abbrev pub decreases-loop-at : goal.decreases-loop-at
decreases-loop-at g l = l.to - l.at

abbrev pub invariant-loop-at : goal.invariant-loop-at
invariant-loop-at g l =
    let D = g.D.Disk in
    record {
      begun : l.from ≤ l.at;
      within : l.at ≤ l.to;
      len : D.len l.disk ≡ D.len l.fn.disk;
      same : D.tells → IsAsBefore D.seen D.pending l.fn.disk l.disk;
      any_moment : D.tells → LeavesOnly D.moment D.left_since l.fn.disk l.disk (IsImage (D.pending l.fn.disk));
      steady : D.faults l.disk ≡ D.faults l.fn.disk;
      sum_is : D.tells → l.sum ≡ crc_of l.start (take (l.at - l.from) (drop l.from (D.seen l.fn.disk)));
    }
