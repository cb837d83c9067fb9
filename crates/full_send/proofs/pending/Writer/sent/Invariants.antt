use Rattle.std.specs.Prelude.{◌≡◌, length}
use Rattle.send_model.specs.Map.{bytes_cmp}
use Rattle.shared_map.specs.Sought.{entries_above}
use Rattle.sx_base.specs.Crash.{LeavesOnly}
use Rattle.sx_base.specs.Disk.{IsAsBefore, IsImage}
use Rattle.snapshot_model.specs.Listing.{paths_of}
use Rattle.snapshot_model.specs.Sent.{sent_edits}
use Rattle.inode_commands.specs.Spelled.{spelled_all}
use Rattle.full_send.specs.Held.{with_holes}
use Rattle.full_send.proofs.Parts.{PartAdded}
use Rattle.full_send.proofs.SentPaths.{sends}
use Rattle.full_send.proofs.Walking.{Reached}
use Rattle.full_send.proofs.pending.Writer.sent.Given as goal

-- The paths so far were added, and no count rose.
abbrev pub invariant-loop-ino : goal.invariant-loop-ino
invariant-loop-ino g l =
    let D = g.D.Disk in
    let O = g.O.Sink in
    let F = g.F.Form in
    record {
      len : D.len l.disk ≡ D.len l.fn.disk;
      same : D.tells → IsAsBefore D.seen D.pending l.fn.disk l.disk;
      any_moment : D.tells → LeavesOnly D.moment D.left_since l.fn.disk l.disk (IsImage (D.pending l.fn.disk));
      steady : D.faults l.disk ≡ D.faults l.fn.disk;
      out_steady : O.faults l.out ≡ O.faults l.fn.out;
      added : (r : Reached l.fn.self.tree.now l.paths) × (D.tells → PartAdded (spelled_all F.spelled l.fn.self.spelling.version (sent_edits (with_holes (D.seen l.fn.disk) l.fn.self.tree.now)))
          (spelled_all F.spelled l.fn.self.spelling.version (sends (D.seen l.fn.disk) l.fn.self.tree.now r.rest))
          l.fn.bytes l.bytes (O.taken l.fn.out) (O.taken l.out));
    }

-- Each path is passed once.
abbrev pub decreases-loop-ino : goal.decreases-loop-ino
decreases-loop-ino g l = length (entries_above bytes_cmp l.paths.at (paths_of l.paths.subvolume))
