-- The words of contracts unpacked: what they speak of part by part, as the lemmas name it.
use Rattle.std.specs.Prelude.{ℕ, List, Option, Result}
use Rattle.sx_base.specs.Disk.{Pending}
use Rattle.sx_base.specs.declared.disk.Disk as keeping
use Rattle.sx_base.specs.declared.outcome.Verdict.{Verdict}
use Rattle.sx_base.specs.declared.refusal.Refusal.{Refusal}
use Rattle.send_model.specs.Reading.{Item}
use Rattle.send_model.specs.Refusal.{Refusal as model_refusal}
use Rattle.send_model.specs.Store.{Store, Stepped}
use Rattle.send_model.specs.Guards.{Guard}
use Rattle.store_model.specs.Stored.{Group}
use Rattle.store_model.specs.Turns.{Event, Receiving, Turn, Turns}
use Rattle.store_model.specs.TurnDues.{in_turns, TurnsEnd}
use Rattle.group_replay.specs.declared.place.Place.{Place}
use Rattle.store_journal.specs.Shown.{StoreState}
use Rattle.receiver.specs.declared.outcome.Received.{Received}
use Rattle.turn_sessions.specs.declared.part.OpenPart.{OpenPart}
use Rattle.turn_sessions.specs.declared.session.Session.{Session}
use Rattle.turn_sessions.specs.Standing.{Blank}
use Rattle.turn_sessions.specs.Doing as doing
use Rattle.turn_sessions.specs.Doing.{work, run_of}
use Rattle.turn_sessions.specs.Turning as turning
use Rattle.turn_sessions.specs.Turning.{to_do}
use Rattle.turn_sessions.specs.Going as going
use Rattle.turn_sessions.specs.Going.{course_of}
use Rattle.turn_sessions.specs.Ends as ends
use Rattle.turn_sessions.specs.Ends.{to_take}
use Rattle.turn_sessions.specs.Leaving as leaving

-- ---- a run of calls

module _ {D : Type 0} (ghosts : keeping.Ghosts D) (old new : D) (was now : StoreState) (old_out new_out : Option (List ℕ)) where
  abbrev run : doing.Run D
  run = run_of ghosts (work old was old_out) (work new now new_out)

  abbrev pub HasDone : List Event → Type 0
  HasDone events = doing.HasDone run events

  abbrev pub HasStopped : Received → List Event → Type 0
  HasStopped why events = doing.HasStopped run why events

  abbrev pub ItemSays : Item → Option (Receiving Blank) → Stepped Blank → List Event → Option OpenPart → Result (Option Refusal) Received → Type 0
  ItemSays item part after events current result = turning.ItemSays run (to_do item part after events) current result

  abbrev pub IsClosed : Option (Receiving Blank) → Type 0
  IsClosed p = turning.IsClosed run p

  abbrev pub CloseSays : Option (Receiving Blank) → Result (Unit {0}) Received → Type 0
  CloseSays p result = turning.CloseSays run p result

  abbrev pub LookSays : Item → Option (Receiving Blank) → Option model_refusal → Option OpenPart → Result (Option Refusal) Received → Type 0
  LookSays item p refusal current result = turning.LookSays run item p refusal current result

  abbrev pub IsTurn : {G : Type 0} → (G → List Guard) → Turn Blank → Session G → Option Verdict → Type 0
  IsTurn kept t session refused = turning.IsTurn run kept t session refused

  abbrev pub TurnSays : {G : Type 0} → (G → List Guard) → Turn Blank → Session G → Result (Option Verdict) Received → Type 0
  TurnSays kept t session result = turning.TurnSays run kept t session result

  abbrev pub TakesTurn : {G : Type 0} → (G → List Guard) → Option (List (List ℕ × List ℕ)) → (before after : Session G) → Result (Option Verdict) Received → Type 0
  TakesTurn kept told before after result = turning.TakesTurn run kept told before after result

  abbrev pub IsGoing : {G : Type 0} → (G → List Guard) → List (List ℕ) → Turns Blank → TurnsEnd → Turns Blank → List ℕ → Option Verdict → List (Session G) → Type 0
  IsGoing kept files w end last rest refused sessions = going.IsGoing run kept (course_of files w rest end last) refused sessions

  abbrev pub HasEnded : Received → TurnsEnd → Turns Blank → Type 0
  HasEnded why end last = going.HasEnded run why end last

  abbrev pub GoingSays : {G : Type 0} → (G → List Guard) → List (List ℕ) → Turns Blank → TurnsEnd → Turns Blank → List ℕ → List (Session G) → Result (Option Verdict) Received → Type 0
  GoingSays kept files w end last rest sessions result = going.GoingSays run kept (course_of files w rest end last) sessions result

-- ---- the answer

module _ (most gate : ℕ) (base : Store ℕ) (schedule : List ℕ) (files : List (List ℕ)) (guards : List Guard) (shares : List ℕ) where
  abbrev pub AnswerIs : Received → List Event → (unwritten : List ℕ) → Type 0
  AnswerIs why first unwritten = ends.AnswerIs (to_take most gate base (in_turns schedule files guards shares)) why first unwritten

  abbrev pub AreDone : Received → Store (Option Place) → List ℕ → (List Group → Type 0) → Type 0
  AreDone why core written H = ends.AreDone (to_take most gate base (in_turns schedule files guards shares)) why core written H

abbrev pub LeftByTurns : (early : Pending) → (before : List ℕ) → (schedule : List ℕ) → List (List ℕ) → List Guard → (shares : List ℕ) → (written image : List ℕ) → Type 0
LeftByTurns early before schedule files guards shares written image = leaving.LeftByTurns early before (in_turns schedule files guards shares) written image
