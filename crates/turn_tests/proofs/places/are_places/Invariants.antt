use Rattle.std.proofs.Common.{drop}
use Rattle.turn_sessions.specs.Ends.{ArePlaces}
use Rattle.turn_tests.proofs.places.are_places.Given as goal

abbrev pub invariant-loop-place : goal.invariant-loop-place
invariant-loop-place l = ArePlaces l.count (drop l.place l.schedule) → ArePlaces l.count l.schedule
