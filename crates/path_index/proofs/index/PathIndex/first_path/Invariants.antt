use Rattle.std.proofs.Common.{◌≡◌, length, take}
use Rattle.path_index.specs.Places.{places_of}
use Rattle.path_index.proofs.Leasts.{IsLeast}
use Rattle.path_index.proofs.index.PathIndex.first_path.Given as goal

-- The least of the paths that end with the first names.
abbrev pub invariant-loop-link : goal.invariant-loop-link
invariant-loop-link g l = record {
  room : length l.buffer ≡ 4095;
  least : IsLeast l.self l.fn.ino (take l.link-index (places_of l.self.names l.fn.ino)) l.least;
}
