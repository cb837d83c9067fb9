use Rattle.std.specs.Prelude.{◌≡◌, ◌||◌, false, length}
use Rattle.send_model.specs.Map.{bytes_cmp}
use Rattle.shared_map.specs.Sought.{entries_above}
use Rattle.snapshot_model.specs.Listing.{paths_of}
use Rattle.full_send.specs.Versions.{is_flagged, any_flagged}
use Rattle.full_send.proofs.Walking.{Reached, so_far}
use Rattle.full_send.proofs.flags.some_flags.Given as goal

-- No path so far leads to an inode with a flag, but for the root's.
abbrev pub invariant-loop-paths : goal.invariant-loop-paths
invariant-loop-paths g l = record {
  none : (r : Reached l.fn.tree l.paths) × ((is_flagged l.fn.tree 256 || false) ≡ any_flagged l.fn.tree (so_far r));
}

-- Each path is passed once.
abbrev pub decreases-loop-paths : goal.decreases-loop-paths
decreases-loop-paths g l = length (entries_above bytes_cmp l.paths.at (paths_of l.paths.subvolume))
