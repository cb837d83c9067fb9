-- The pieces so far stand in the group in progress.
use Rattle.std.proofs.Common.{◌≡◌, ℕ, ◌+◌, ◌++◌, List, length, take}
use Rattle.sx_base.specs.Crash.{LeavesOnly}
use Rattle.store_model.specs.Image.{Header, HasGroups}
use Rattle.group_log.specs.Journal.{IsInProgress, Grows}
use Rattle.log_tests.specs.Published.{joined}
use Rattle.log_tests.proofs.client.append_all.Given as goal

abbrev pub invariant-loop-piece : goal.invariant-loop-piece
invariant-loop-piece g l =
    let D = g.D.Disk in
    let sofar = joined (take l.piece-index l.pieces) in
    record {
      in_progress : IsInProgress (D.len l.disk) l.log;
      gate : l.log.gate ≡ l.fn.log.gate;
      size : l.log.size ≡ l.fn.log.size + length sofar;
      grows : D.tells → (header : Header) (bodies : List (List ℕ)) (body : List ℕ) → Grows header bodies body l.fn.log (D.seen l.fn.disk) (D.pending l.fn.disk) → Grows header bodies (body ++ sofar) l.log (D.seen l.disk) (D.pending l.disk);
      any_moment : D.tells → (header : Header) (bodies : List (List ℕ)) (body : List ℕ) → Grows header bodies body l.fn.log (D.seen l.fn.disk) (D.pending l.fn.disk) → LeavesOnly D.moment D.left_since l.fn.disk l.disk (HasGroups header bodies);
    }
