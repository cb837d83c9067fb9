use Rattle.std.proofs.Common.{◌≡◌, ℕ, ◌<◌, length, true, Option}
use Rattle.std.specs.Ordering.{nat_cmp}
use Rattle.extent_map.specs.Cells.{cells_between}
use Rattle.shared_map.specs.Sought.{entries_above}
use Rattle.provenance.specs.declared.trace.Trace.{Trace}
use Rattle.plain_stands.specs.Stands.{stands_in}
use Rattle.plain_stands.proofs.search.stand_of.Given as goal

-- The block stands in no file up to here.
abbrev pub invariant-loop-next : goal.invariant-loop-next
invariant-loop-next l =
    (byte : Option Trace → ℕ) (u o : ℕ)
    → stands_in byte l.sub l.fn.dest (cells_between l.from l.len l.contents) u o ≡ true → l.ino < u

abbrev pub decreases-loop-next : goal.decreases-loop-next
decreases-loop-next l = length (entries_above nat_cmp l.ino l.sub.inodes)
