use Rattle.std.specs.Prelude.{◌≡◌, ◌-◌, ◌≤◌, length, take, min}
use Rattle.std.specs.Io.KnownBytes.{Appends}
use Rattle.sx_base.specs.Disk.{IsAsBefore, IsImage}
use Rattle.sx_base.specs.Crash.{LeavesOnly}
use Rattle.edits_copy.specs.Finding.{bytes_at}
use Rattle.edits_copy.proofs.copying.copy_edits.Given as goal

-- Each piece begins behind the one before it.
abbrev pub decreases-loop-at : goal.decreases-loop-at
decreases-loop-at g l = l.place.to - l.at

-- The bytes so far were copied, and no count rose.
abbrev pub invariant-loop-at : goal.invariant-loop-at
invariant-loop-at g l =
    let D = g.D.Disk in
    let O = g.O.Sink in
    record {
      from : l.place.from ≤ l.at;
      to : l.at ≤ l.place.to;
      room : length l.buffer.items ≡ min (l.place.to - l.place.from) 262_144;
      len : D.len l.disk ≡ D.len l.fn.disk;
      same : D.tells → IsAsBefore D.seen D.pending l.fn.disk l.disk;
      any_moment : D.tells → LeavesOnly D.moment D.left_since l.fn.disk l.disk (IsImage (D.pending l.fn.disk));
      steady : D.faults l.disk ≡ D.faults l.fn.disk;
      out_steady : O.faults l.out ≡ O.faults l.fn.out;
      copied : D.tells → Appends (O.taken l.fn.out) (O.taken l.out) (take (l.at - l.place.from) (bytes_at l.place (D.seen l.fn.disk)));
    }
