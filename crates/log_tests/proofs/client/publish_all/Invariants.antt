-- The groups so far are published.
use Rattle.std.proofs.Common.{ℕ, ◌++◌, List, take}
use Rattle.sx_base.specs.Crash.{LeavesOnly}
use Rattle.store_model.specs.Image.{Header}
use Rattle.group_log.specs.Journal.{IsAtRest, Rests}
use Rattle.log_tests.specs.Published.{bodies_of, HasFirst}
use Rattle.log_tests.proofs.client.publish_all.Given as goal

abbrev pub invariant-loop-pieces : goal.invariant-loop-pieces
invariant-loop-pieces g l =
    let D = g.D.Disk in
    record {
      at_rest : IsAtRest (D.len l.disk) l.log;
      rests : D.tells → (header : Header) (bodies : List (List ℕ)) → Rests header bodies l.fn.log (D.seen l.fn.disk) (D.pending l.fn.disk) → Rests header (bodies ++ bodies_of (take l.pieces-index l.groups)) l.log (D.seen l.disk) (D.pending l.disk);
      any_moment : D.tells → (header : Header) (bodies : List (List ℕ)) → Rests header bodies l.fn.log (D.seen l.fn.disk) (D.pending l.fn.disk) → LeavesOnly D.moment D.left_since l.fn.disk l.disk (HasFirst header bodies (bodies_of l.groups));
    }
