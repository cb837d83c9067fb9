use Rattle.std.proofs.Common.{map}
use Rattle.store_compose.specs.Standing.{traced_to_itself}
use Rattle.store_compose.proofs.StandingEntries.{Passed}
use Rattle.store_compose.proofs.standing.trace_all.Given as goal

-- The entries so far are in the core.
abbrev pub invariant-loop-entry : goal.invariant-loop-entry
invariant-loop-entry l = Passed (map traced_to_itself) l.indexes l.entry-iterator l.core
