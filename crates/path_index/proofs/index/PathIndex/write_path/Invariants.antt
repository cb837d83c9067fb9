use Rattle.std.proofs.Common.{◌≡◌, ◌≤◌, length, drop}
use Rattle.path_index.proofs.Upward.{Up}
use Rattle.path_index.proofs.index.PathIndex.write_path.Given as goal

-- The names passed so far stand at the end of the buffer.
abbrev pub invariant-loop-directory : goal.invariant-loop-directory
invariant-loop-directory g l = record {
  room : length l.buffer ≡ 4095;
  within : l.start ≤ 4095;
  up : Up l.self l.link l.directory (drop l.start l.buffer);
}

abbrev pub decreases-loop-directory : goal.decreases-loop-directory
decreases-loop-directory g l = l.start
