-- The sessions so far stand in front of those that are still to be made, of the files and guards
-- that are left.
use Rattle.std.specs.Prelude.{◌≡◌, ◌+◌, ◌++◌, List, length, map, drop}
use Rattle.std.specs.String.{string_bytes}
use Rattle.turn_sessions.specs.declared.session.Session.{Session}
use Rattle.turn_sessions.specs.Going.{AreNew}
use Rattle.turn_sessions.proofs.turning.new_sessions.Given as goal

abbrev pub invariant-loop-place : goal.invariant-loop-place
invariant-loop-place g l = record {
  count : length l.rest.items + l.place ≡ length l.fn.files;
  new : (others : List (Session g.row.G.Denot)) → AreNew (l.place + 1) (drop l.place (map string_bytes l.fn.files)) l.rest.items others → AreNew 1 (map string_bytes l.fn.files) l.fn.guards.items (l.sessions.items ++ others);
}
