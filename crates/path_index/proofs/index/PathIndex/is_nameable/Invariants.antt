use Rattle.std.proofs.Common.{take}
use Rattle.path_index.specs.Places.{places_of}
use Rattle.path_index.proofs.Leasts.{HasNone}
use Rattle.path_index.proofs.index.PathIndex.is_nameable.Given as goal

-- No path ends with one of the first names.
abbrev pub invariant-loop-link : goal.invariant-loop-link
invariant-loop-link g l = HasNone l.self (take l.link-index (places_of l.self.names l.fn.ino))
