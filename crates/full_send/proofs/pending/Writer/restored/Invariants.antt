use Rattle.std.specs.Prelude.{◌≡◌, ◌++◌, Ok, length}
use Rattle.std.specs.List.{AllByRecursion}
use Rattle.send_model.specs.Subvolume.{walk}
use Rattle.sx_base.specs.Crash.{LeavesOnly}
use Rattle.sx_base.specs.Disk.{IsAsBefore, IsImage}
use Rattle.snapshot_model.specs.Restored.{restored_edits}
use Rattle.inode_commands.specs.Spelled.{spelled_all}
use Rattle.full_send.specs.Directories.{paths_passed}
use Rattle.full_send.specs.Held.{with_holes}
use Rattle.snapshot_model.specs.Listing.{paths_of}
use Rattle.full_send.proofs.LastCapabilities.{comes}
use Rattle.full_send.proofs.LastDirectories.{ends_back}
use Rattle.full_send.proofs.Parts.{PartAdded}
use Rattle.full_send.proofs.pending.Writer.restored.Given as goal

-- What all paths make was added, and the directories that are left are to be finished, then
-- capabilities come; no count rose.
abbrev pub invariant-loop-directory : goal.invariant-loop-directory
invariant-loop-directory g l =
    let D = g.D.Disk in
    let O = g.O.Sink in
    let F = g.F.Form in
    record {
      len : D.len l.disk ≡ D.len l.fn.disk;
      same : D.tells → IsAsBefore D.seen D.pending l.fn.disk l.disk;
      any_moment : D.tells → LeavesOnly D.moment D.left_since l.fn.disk l.disk (IsImage (D.pending l.fn.disk));
      steady : D.faults l.disk ≡ D.faults l.fn.disk;
      out_steady : O.faults l.out ≡ O.faults l.fn.out;
      lead : AllByRecursion (λ e. walk l.fn.self.tree.now e.0 ≡ Ok e.1) (paths_passed l.directories.items);
      added : D.tells → PartAdded (spelled_all F.spelled l.fn.self.spelling.version (restored_edits (with_holes (D.seen l.fn.disk) l.fn.self.tree.now)))
          (spelled_all F.spelled l.fn.self.spelling.version (ends_back l.fn.self.tree.now (paths_passed l.directories.items))
          ++ spelled_all F.spelled l.fn.self.spelling.version (comes l.fn.self.tree.now (paths_of l.fn.self.tree.now)))
          l.fn.bytes l.bytes (O.taken l.fn.out) (O.taken l.out);
    }

-- Each directory is finished once.
abbrev pub decreases-loop-directory : goal.decreases-loop-directory
decreases-loop-directory g l = length l.directories.items
