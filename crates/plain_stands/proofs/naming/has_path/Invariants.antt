use Rattle.std.proofs.Common.{◌≡◌, ◌+◌, length, List, ℕ}
use Rattle.path_index.proofs.Upward.{Up}
use Rattle.plain_stands.proofs.naming.has_path.Given as goal

-- The names passed so far would be a path that leaves this room.
abbrev pub invariant-loop-at : goal.invariant-loop-at
invariant-loop-at g l =
    (path : List ℕ) × (l.room + length path ≡ 4095) × Up l.tree (l.fn.directory, l.name) l.at path

abbrev pub decreases-loop-at : goal.decreases-loop-at
decreases-loop-at g l = l.room
