use Rattle.store_compose.specs.Standing.{standing}
use Rattle.store_compose.proofs.StandingEntries.{Passed}
use Rattle.store_compose.proofs.standing.index_all.Given as goal

-- Of the entries so far those that are no parts are kept.
abbrev pub invariant-loop-entry : goal.invariant-loop-entry
invariant-loop-entry l = Passed (standing l.survey) l.catalog l.entry-iterator l.indexes
