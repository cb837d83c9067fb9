-- What files that take turns into a store are answered. This program's own.
use Rattle.std.specs.Prelude.{◌≡◌, ⊤, ℕ, ◌-◌, ◌<◌, ◌≤◌, List, [], ◌++◌, length, map, Option, None, Some}
use Rattle.std.specs.List.{AllByRecursion}
use Rattle.send_model.specs.Store.{Store}
use Rattle.send_model.specs.Receive.{byte_cells}
use Rattle.send_model.specs.Due.{DoneWhole, RefusedAt, TooLong}
use Rattle.store_model.specs.Stored.{Group, as_bytes, made_all}
use Rattle.store_model.specs.Dues as dues
use Rattle.store_model.specs.Dues.{Due, Ends}
use Rattle.store_model.specs.Turns.{Event, at_entry, lines_of, turn_groups}
use Rattle.store_model.specs.TurnLaws.{IsTurnState, AreOneByOne}
use Rattle.store_model.specs.TurnDues.{InTurns, sessions_of, Room, room_of, all_turns, interleave_end}
use Rattle.store_model.specs.TurnAnswers.{taken_turns}
use Rattle.auditor.specs.Following.{HaveSameShape}
use Rattle.sx_base.specs.Refusals.{verdict_meant}
use Rattle.sx_base.specs.declared.outcome.Outcome.{Outcome}
use Rattle.sx_base.specs.declared.outcome.Verdict.{Verdict}
use Rattle.sx_base.specs.declared.outcome.Outcome.TheVariants as ended
use Rattle.group_replay.specs.declared.place.Place.{Place}
use Rattle.receiver.specs.declared.outcome.Received.{Received}
use Rattle.receiver.specs.declared.outcome.Received.TheVariants as how

-- A schedule is written in digits, each of which is the place of a session, of which there are so
-- many.
abbrev pub ArePlaces : (count : ℕ) → List ℕ → Type 0
ArePlaces count schedule = AllByRecursion (λ digit. (48 ≤ digit) × (digit - 48 < count)) schedule

abbrev pub places_of : List ℕ → List ℕ
places_of schedule = map (λ digit. digit - 48) schedule

-- How all turns end, by the verdict on the session that was refused first.
abbrev pub end_of : Option Verdict → Received
end_of None = how.Files ended.Done
end_of (Some verdict) = how.Files (ended.Refused verdict)

-- Where the answer is one that files decide, the store has what is left, but for what its cells
-- carry.
abbrev pub OutcomeLeaves : Outcome → Type 0 → Type 0
OutcomeLeaves ended.Done P = P
OutcomeLeaves (ended.Refused verdict) P = P
OutcomeLeaves (ended.InputTooLong file) P = P
OutcomeLeaves ended.InputFault P = ⊤
OutcomeLeaves ended.NoMemory P = ⊤
OutcomeLeaves ended.OutputFault P = ⊤
OutcomeLeaves (ended.TooMuch sum) P = ⊤
OutcomeLeaves (ended.InputChanged file place) P = ⊤

abbrev pub IfStands : Received → Type 0 → Type 0
IfStands (how.Files outcome) P = OutcomeLeaves outcome P
IfStands how.StoreFault P = ⊤
IfStands (how.LogFull end wanted limit) P = ⊤

-- What turns are to do: the room in the store, the subvolumes that there are, and the files that
-- take turns.
pub record ToTake : Type 0 where
  pub room : Room
  pub base : Store ℕ
  pub turns : InTurns

abbrev pub to_take : (most gate : ℕ) → Store ℕ → InTurns → ToTake
to_take most gate base turns = record { room = room_of most gate; base = base; turns = turns }

module _ (task : ToTake) where
  -- All that the turns do, and what they do until the answer that is due.
  abbrev pub all_events : List Event
  all_events = (taken_turns task.turns task.base).events

  abbrev pub due_events : List Event
  due_events = (interleave_end task.room task.base task.turns).events

  -- The answer is due.
  abbrev pub IsDue : Due → List Event → Type 0
  IsDue due first =
      ((interleave_end task.room task.base task.turns).due ≡ due) × (first ≡ due_events)

  abbrev pub OutcomeIs : Outcome → List Event → (unwritten : List ℕ) → Type 0
  OutcomeIs ended.Done first unwritten = IsDue (Ends DoneWhole) first × (unwritten ≡ [])
  OutcomeIs (ended.Refused verdict) first unwritten =
      IsDue (Ends (RefusedAt (verdict_meant verdict))) first × (unwritten ≡ [])
  OutcomeIs (ended.InputTooLong file) first unwritten =
      IsDue (Ends (TooLong file)) first × (unwritten ≡ [])
  OutcomeIs ended.InputFault first unwritten = ⊤
  OutcomeIs ended.NoMemory first unwritten = ⊤
  OutcomeIs ended.OutputFault first unwritten = 0 < length unwritten
  OutcomeIs (ended.TooMuch sum) first unwritten = ⊥
  OutcomeIs (ended.InputChanged file place) first unwritten = ⊥

  -- The answer is the one that is due, or an object of the outside failed, or there was no memory.
  abbrev pub AnswerIs : Received → List Event → (unwritten : List ℕ) → Type 0
  AnswerIs (how.Files outcome) first unwritten = OutcomeIs outcome first unwritten
  AnswerIs how.StoreFault first unwritten = ⊤
  AnswerIs (how.LogFull end wanted limit) first unwritten =
      IsDue (dues.LogFull end wanted limit) first × (unwritten ≡ [])

  -- Some first events were done, and H holds of their groups: these make a store that is one after
  -- some first turns, or after these and the completion of the next one, in which the parts are
  -- complete as if they had been received one after the other; and each part is of whose line
  -- something was written.
  pub record AreDone (why : Received) (core : Store (Option Place)) (written : List ℕ)
      (H : List Group → Type 0) : Type 0 where
    pub first : List Event
    pub more : List Event
    pub all : all_events ≡ first ++ more
    pub has : H (turn_groups first)
    pub now : Store ℕ
    pub made : (place : ℕ) → made_all 0 as_bytes place task.base (turn_groups first) ≡ Some now
    pub state : let sessions =
        sessions_of task.turns.files task.turns.guards task.turns.shares in
        IsTurnState 0 byte_cells (at_entry task.base sessions)
        (all_turns task.turns.schedule sessions) now
    pub order : AreOneByOne 0 byte_cells task.base first now
    pub unwritten : List ℕ
    pub printed : lines_of first ≡ written ++ unwritten
    pub answer : AnswerIs why first unwritten
    pub core_is : IfStands why (HaveSameShape core now)
