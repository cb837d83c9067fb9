use Rattle.std.proofs.Common.{◌≡◌, ◌+◌, length, List, ℕ}
use Rattle.path_index.proofs.Upward.{Up}
use Rattle.path_index.proofs.index.PathIndex.has_path.Given as goal

-- The names passed so far would be a path that leaves this room.
abbrev pub invariant-loop-directory : goal.invariant-loop-directory
invariant-loop-directory g l = (path : List ℕ) × (l.room + length path ≡ 4095) × Up l.self l.link l.directory path

abbrev pub decreases-loop-directory : goal.decreases-loop-directory
decreases-loop-directory g l = l.room
