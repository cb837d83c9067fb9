use Rattle.std.specs.Prelude.{◌≡◌, ◌-◌, ◌≤◌, length, take, min}
use Rattle.std.specs.Io.KnownBytes.{Appends}
use Rattle.subvol_catalog.specs.Entries.{key_of}
use Rattle.sx_base.specs.Crash.{LeavesOnly}
use Rattle.sx_base.specs.Disk.{IsAsBefore, IsImage}
use Rattle.store_journal.specs.Reading.{file_cells}
use Rattle.store_journal.specs.Standing.{with_bytes}
use Rattle.store_commands.proofs.cat.write_file.Given as goal

-- Each piece begins behind the one before it.
abbrev pub decreases-loop-at : goal.decreases-loop-at
decreases-loop-at g l = l.size - l.at

-- The bytes so far were read and written, and no count rose.
abbrev pub invariant-loop-at : goal.invariant-loop-at
invariant-loop-at g l =
    let D = g.D.Disk in
    let O = g.O.Sink in
    record {
      within : l.at ≤ l.size;
      room : length l.piece.items ≡ min l.size 262_144;
      len : D.len l.disk ≡ D.len l.fn.disk;
      same : D.tells → IsAsBefore D.seen D.pending l.fn.disk l.disk;
      any_moment : D.tells → LeavesOnly D.moment D.left_since l.fn.disk l.disk (IsImage (D.pending l.fn.disk));
      steady : D.faults l.disk ≡ D.faults l.fn.disk;
      out_steady : O.faults l.out ≡ O.faults l.fn.out;
      written : D.tells → Appends (O.taken l.fn.out) (O.taken l.out) (take l.at (file_cells (with_bytes (D.seen l.fn.disk) l.fn.file.store.now.core) (key_of l.fn.file.key) l.fn.file.ino));
    }
