-- Some turns of the session were taken, and so many are left that it comes to its end.
use Rattle.std.specs.Prelude.{◌≡◌, ◌≤◌, ◌++◌, ℕ, List, Option, length, replicate}
use Rattle.sx_base.specs.Asks.{AreReadInTurn}
use Rattle.sx_base.specs.Calls.{IfAllTold}
use Rattle.sx_base.specs.Later.{AskedOnly}
use Rattle.store_model.specs.Turns.{Turns}
use Rattle.store_model.specs.TurnDues.{TurnsEnd}
use Rattle.auditor.specs.Following.{blank}
use Rattle.store_journal.specs.Shown.{StoreState, IsIdle}
use Rattle.turn_sessions.specs.Standing.{Blank}
use Rattle.turn_sessions.specs.Asked.{read_by}
use Rattle.turn_sessions.specs.Going.{AreReading, AreTaking, HasFewer}
use Rattle.turn_sessions.proofs.Unpacked.{IsGoing}
use Rattle.turn_sessions.proofs.Finishing.{Further, left_at_place}
use Rattle.turn_sessions.proofs.turning.finish.Given as goal

abbrev pub invariant-loop-sessions : goal.invariant-loop-sessions
invariant-loop-sessions g l = record {
  idle : IsIdle (g.D.Disk.len l.disk) l.store;
  told : g.I.Inputs.told l.inputs ≡ g.I.Inputs.told l.fn.inputs;
  count : length l.sessions ≡ length l.fn.sessions;
  reading : (names : List (List ℕ)) → AreReading (g.I.Inputs.told l.fn.inputs) 1 names l.fn.sessions → AreReading (g.I.Inputs.told l.inputs) 1 names l.sessions;
  taking : (w : Turns Blank) × AreTaking g.G.Guarding.kept l.sessions (blank l.store.core) w;
  asked : AskedOnly g.I.Inputs l.fn.inputs l.inputs (λ asks. AreReadInTurn (read_by l.fn.sessions) asks (read_by l.sessions));
  going : (start : g.row.D.Denot) (was : StoreState) (begun : Option (List ℕ)) (names : List (List ℕ)) (w : Turns Blank) (end : TurnsEnd) (last : Turns Blank) (rest : List ℕ) (turns : ℕ)
      → HasFewer w l.fn.turn.place turns → AreReading (g.I.Inputs.told l.fn.inputs) 1 names l.fn.sessions
      → IfAllTold (g.I.Inputs.told l.fn.inputs) names (λ files. IsGoing g.D.Disk start l.fn.disk was l.fn.store begun (g.O.Sink.taken l.fn.out) g.G.Guarding.kept files w end last (replicate turns l.fn.turn.place ++ rest) l.fn.turn.refused l.fn.sessions
      → Further l.fn.turn.place w turns (λ v k. IsGoing g.D.Disk start l.disk was l.store begun (g.O.Sink.taken l.out) g.G.Guarding.kept files v end last (replicate k l.fn.turn.place ++ rest) l.refused l.sessions));
  limit : l.store.log.limit ≡ l.fn.store.log.limit;
  later : g.D.Disk.faults l.fn.disk ≤ g.D.Disk.faults l.disk;
  in_later : g.I.Inputs.faults l.fn.inputs ≤ g.I.Inputs.faults l.inputs;
  ends_later : g.I.Inputs.ends l.fn.inputs ≤ g.I.Inputs.ends l.inputs;
  out_later : g.O.Sink.faults l.fn.out ≤ g.O.Sink.faults l.out;
  steady : g.D.Disk.faults l.disk ≡ g.D.Disk.faults l.fn.disk;
  in_steady : g.I.Inputs.faults l.inputs ≡ g.I.Inputs.faults l.fn.inputs;
  ends_steady : g.I.Inputs.ends l.inputs ≡ g.I.Inputs.ends l.fn.inputs;
  out_steady : g.O.Sink.faults l.out ≡ g.O.Sink.faults l.fn.out;
}

-- What it may still read is less after each turn.
abbrev pub decreases-loop-sessions : goal.decreases-loop-sessions
decreases-loop-sessions g l = left_at_place l.sessions l.fn.turn.place
