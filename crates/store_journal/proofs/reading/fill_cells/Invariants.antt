-- The front of the buffer has the bytes of the cells before those that are left, and the disk is as
-- it was.
use Rattle.std.proofs.Common.{◌≡◌, ℕ, ◌<◌, ◌≤◌, get_or, length, drop}
use Rattle.sx_base.specs.Disk.{IsAsBefore, IsImage}
use Rattle.sx_base.specs.Crash.{LeavesOnly}
use Rattle.extent_map.specs.Cells.{cells_between}
use Rattle.extent_map.proofs.PieceByPiece.{FilledTo}
use Rattle.store_journal.specs.Standing.{place_byte}
use Rattle.store_journal.proofs.reading.fill_cells.Given as goal

abbrev pub invariant-loop-origin : goal.invariant-loop-origin
invariant-loop-origin g l =
    let D = g.D.Disk in
    record {
      can : (goal.iterator-loop-origin g).can_next l.origin-iterator;
      finite : (goal.iterator-loop-origin g).is_finite l.origin-iterator;
      are_bytes : (i : ℕ) → get_or l.buf i 0 < 256;
      size : length l.buf ≡ length l.fn.buf;
      within : l.have ≤ length l.fn.buf;
      left : drop l.have (cells_between l.from (length l.fn.buf) l.contents) ≡ l.origin-iterator;
      len : D.len l.disk ≡ D.len l.fn.disk;
      steady : D.faults l.disk ≡ D.faults l.fn.disk;
      same : D.tells → IsAsBefore D.seen D.pending l.fn.disk l.disk;
      any_moment : D.tells → LeavesOnly D.moment D.left_since l.fn.disk l.disk (IsImage (D.pending l.fn.disk));
      filled : D.tells → FilledTo (place_byte (D.seen l.fn.disk)) (cells_between l.from (length l.fn.buf) l.contents) l.have l.buf;
    }
