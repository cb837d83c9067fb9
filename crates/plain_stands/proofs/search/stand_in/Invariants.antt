use Rattle.std.proofs.Common.{◌≡◌, ℕ, ◌%◌, ◌+◌, ◌-◌, Option}
use Rattle.extent_map.specs.Cells.{cells_between}
use Rattle.provenance.specs.declared.trace.Trace.{Trace}
use Rattle.plain_stands.proofs.Standing.{NoneBefore}
use Rattle.plain_stands.proofs.search.stand_in.Given as goal

-- The block stands at no place before.
abbrev pub invariant-loop-at : goal.invariant-loop-at
invariant-loop-at l =
    (l.at % 4096 ≡ 0)
    × ((byte : Option Trace → ℕ)
    → NoneBefore byte l.tree l.fn.dest (cells_between l.from l.len l.contents) l.fn.ino l.at)

abbrev pub decreases-loop-at : goal.decreases-loop-at
decreases-loop-at l = l.size - l.at
