-- The turns so far were taken, and those of the other digits are left.
use Rattle.std.specs.Prelude.{◌≡◌, ◌≤◌, ◌++◌, ℕ, List, Option, None, length, take, drop}
use Rattle.sx_base.specs.Asks.{AreReadInTurn}
use Rattle.sx_base.specs.Calls.{IfAllTold}
use Rattle.sx_base.specs.Later.{AskedOnly}
use Rattle.store_model.specs.Turns.{Turns, after_turns}
use Rattle.store_model.specs.TurnDues.{TurnsEnd}
use Rattle.auditor.specs.Following.{blank}
use Rattle.store_journal.specs.Shown.{StoreState, IsIdle}
use Rattle.turn_sessions.specs.Standing.{Blank, blank_cells}
use Rattle.turn_sessions.specs.Ends.{places_of}
use Rattle.turn_sessions.specs.Asked.{read_by}
use Rattle.turn_sessions.specs.Going.{AreReading, AreTaking}
use Rattle.turn_sessions.proofs.Unpacked.{IsGoing}
use Rattle.turn_sessions.proofs.turning.take_scheduled.Given as goal

abbrev pub invariant-loop-i : goal.invariant-loop-i
invariant-loop-i g l = record {
  idle : IsIdle (g.D.Disk.len l.disk) l.store;
  told : g.I.Inputs.told l.inputs ≡ g.I.Inputs.told l.fn.inputs;
  count : length l.sessions ≡ length l.fn.sessions;
  reading : (names : List (List ℕ)) → AreReading (g.I.Inputs.told l.fn.inputs) 1 names l.fn.sessions → AreReading (g.I.Inputs.told l.inputs) 1 names l.sessions;
  taking : (w : Turns Blank) × AreTaking g.G.Guarding.kept l.sessions (blank l.store.core) w;
  asked : AskedOnly g.I.Inputs l.fn.inputs l.inputs (λ asks. AreReadInTurn (read_by l.fn.sessions) asks (read_by l.sessions));
  going : (start : g.row.D.Denot) (was : StoreState) (begun : Option (List ℕ)) (names : List (List ℕ)) (w : Turns Blank) (end : TurnsEnd) (last : Turns Blank) (rest : List ℕ) → AreReading (g.I.Inputs.told l.fn.inputs) 1 names l.fn.sessions
      → IfAllTold (g.I.Inputs.told l.fn.inputs) names (λ files. IsGoing g.D.Disk start l.fn.disk was l.fn.store begun (g.O.Sink.taken l.fn.out) g.G.Guarding.kept files w end last (places_of l.fn.task.schedule.now ++ rest) None l.fn.sessions
      → IsGoing g.D.Disk start l.disk was l.store begun (g.O.Sink.taken l.out) g.G.Guarding.kept files (after_turns tt blank_cells w (take l.i (places_of l.fn.task.schedule.now))) end last (drop l.i (places_of l.fn.task.schedule.now) ++ rest) l.refused l.sessions);
  limit : l.store.log.limit ≡ l.fn.store.log.limit;
  later : g.D.Disk.faults l.fn.disk ≤ g.D.Disk.faults l.disk;
  in_later : g.I.Inputs.faults l.fn.inputs ≤ g.I.Inputs.faults l.inputs;
  ends_later : g.I.Inputs.ends l.fn.inputs ≤ g.I.Inputs.ends l.inputs;
  out_later : g.O.Sink.faults l.fn.out ≤ g.O.Sink.faults l.out;
  steady : g.D.Disk.faults l.disk ≡ g.D.Disk.faults l.fn.disk;
  in_steady : g.I.Inputs.faults l.inputs ≡ g.I.Inputs.faults l.fn.inputs;
  ends_steady : g.I.Inputs.ends l.inputs ≡ g.I.Inputs.ends l.fn.inputs;
  out_steady : g.O.Sink.faults l.out ≡ g.O.Sink.faults l.fn.out;
}
