use Rattle.std.specs.Prelude.{◌≡◌, length}
use Rattle.send_model.specs.Map.{bytes_cmp}
use Rattle.shared_map.specs.Sought.{entries_above}
use Rattle.snapshot_model.specs.Listing.{paths_of}
use Rattle.inode_commands.specs.Spelled.{spelled_all}
use Rattle.full_send.proofs.LastCapabilities.{comes}
use Rattle.full_send.proofs.Parts.{PartAdded}
use Rattle.full_send.proofs.Walking.{Reached}
use Rattle.full_send.proofs.pending.Writer.all_capabilities.Given as goal

-- Those of the paths so far were added, and no count rose.
abbrev pub invariant-loop-ino : goal.invariant-loop-ino
invariant-loop-ino g l =
    let O = g.O.Sink in
    let F = g.F.Form in
    record {
      out_steady : O.faults l.out ≡ O.faults l.fn.out;
      added : (r : Reached l.fn.self.tree.now l.paths) × PartAdded (spelled_all F.spelled l.fn.self.spelling.version (comes l.fn.self.tree.now (paths_of l.fn.self.tree.now)))
          (spelled_all F.spelled l.fn.self.spelling.version (comes l.fn.self.tree.now r.rest))
          l.fn.bytes l.bytes (O.taken l.fn.out) (O.taken l.out);
    }

-- Each path is passed once.
abbrev pub decreases-loop-ino : goal.decreases-loop-ino
decreases-loop-ino g l = length (entries_above bytes_cmp l.paths.at (paths_of l.paths.subvolume))
