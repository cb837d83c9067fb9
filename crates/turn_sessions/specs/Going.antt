-- Sessions that take turns, by the turns of the definitions. This program's own.
use Rattle.std.specs.Prelude.{◌≡◌, ⊤, ℕ, ◌+◌, ◌<◌, ◌≤◌, false, List, [], ◌∷◌, ◌++◌, length, take, Option, None, Some, Result, Ok, Err}
use Rattle.std.specs.Option.{option_map}
use Rattle.std.specs.List.{slice_get}
use Rattle.send_model.specs.Lengths.{limit}
use Rattle.send_model.specs.Reading.{Item, reads}
use Rattle.send_model.specs.Store.{Store}
use Rattle.send_model.specs.Guards.{Guard}
use Rattle.send_model.specs.Due as files_due
use Rattle.sx_base.specs.Refusals.{verdict_meant}
use Rattle.sx_base.specs.declared.outcome.Outcome.TheVariants as ended
use Rattle.sx_base.specs.declared.outcome.Verdict.{Verdict}
use Rattle.cmd_reader.specs.Places.{IfTold}
use Rattle.cmd_reader.specs.Left.{Reader, at_start, left, HasAhead}
use Rattle.auditor.specs.Following.{blank}
use Rattle.store_model.specs.Stored.{made_all}
use Rattle.store_model.specs.Dues as dues
use Rattle.store_model.specs.Dues.{Ends}
use Rattle.store_model.specs.Turns as meant
use Rattle.store_model.specs.Turns.{Event, Turns, after_turns, turn_groups}
use Rattle.store_model.proofs.TurnOrder.{Kept}
use Rattle.store_model.specs.TurnDues.{bytes_read, which_long, room_of, TurnsEnd, turns_end}
use Rattle.receiver.specs.declared.outcome.Received.{Received}
use Rattle.receiver.specs.declared.outcome.Received.TheVariants as how
use Rattle.turn_sessions.specs.declared.session.Session.{Session}
use Rattle.turn_sessions.specs.Standing.{Blank, blank_cells, blank_put, AreSessions}
use Rattle.turn_sessions.specs.Doing.{Run, HasDone, HasStopped}
use Rattle.turn_sessions.specs.Turning.{HasVersion, IfTooLong, bytes_left}

-- ---- whether or not the inputs tell

-- A session's reader is that of its file, which has this number and this name; and the bytes that
-- it was given are the file's.
pub record IsReading {G : Type 0} (told : Option (List (List ℕ × List ℕ))) (number : ℕ)
    (name : List ℕ) (session : Session G) : Type 0 where
  pub file : session.file ≡ number
  pub own : session.reader.file ≡ number
  pub named : session.reader.name ≡ name
  pub same : HasVersion session.reader session.current
  pub within : session.is_over ≡ false → session.reader.offset ≤ limit
  pub ahead : IfTold told name (λ bytes. session.is_over ≡ false → HasAhead session.reader bytes)

-- So it is of all of them, the first of which has this number.
abbrev pub AreReading : {G : Type 0} → Option (List (List ℕ × List ℕ)) → ℕ → List (List ℕ)
    → List (Session G) → Type 0
AreReading told number [] [] = ⊤
AreReading told number [] (session ∷ sessions) = ⊥
AreReading told number (name ∷ names) [] = ⊥
AreReading told number (name ∷ names) (session ∷ sessions) =
    IsReading told number name session × AreReading told (number + 1) names sessions

-- A session before its first turn.
pub record IsNew {G : Type 0} (number : ℕ) (name : List ℕ) (guards : G)
    (session : Session G) : Type 0 where
  pub file : session.file ≡ number
  pub reader : session.reader ≡ at_start number name
  pub own : session.guards ≡ guards
  pub none : session.current ≡ None
  pub going : session.is_over ≡ false

-- So are all of them, one for each file, with its own guards.
abbrev pub AreNew : {G : Type 0} → ℕ → List (List ℕ) → List G → List (Session G) → Type 0
AreNew number [] [] [] = ⊤
AreNew number (name ∷ names) (own ∷ guards) (session ∷ sessions) =
    IsNew number name own session × AreNew (number + 1) names guards sessions
AreNew number [] [] (session ∷ sessions) = ⊥
AreNew number [] (own ∷ guards) sessions = ⊥
AreNew number (name ∷ names) [] sessions = ⊥
AreNew number (name ∷ names) (own ∷ guards) [] = ⊥

-- After some turns the sessions, and the store with their open parts, are those of the definitions.
pub record AreTaking {G : Type 0} (kept : G → List Guard) (sessions : List (Session G))
    (store : Store Blank) (w : Turns Blank) : Type 0 where
  pub store_is : store ≡ w.store
  pub sessions_are : AreSessions kept w.sessions sessions
  pub base : Store Blank
  pub kept_are : Kept tt blank_cells base w

-- ---- where they tell

-- What was read of bytes so far, and what is left to a reader.
pub record HasRead (number : ℕ) (reader : Reader) (bytes : List ℕ) : Type 0 where
  pub done : List Item
  pub read : reads number bytes
      ≡ record { items = done ++ (left reader bytes).items; end = (left reader bytes).end }
  pub reached : reader.offset ≤ length bytes

-- A session that is not over has to read what is left of its file, up to the limit of its length.
pub record HasLeft (number : ℕ) (file : List ℕ) (s : meant.Session Blank)
    (reader : Reader) : Type 0 where
  pub items : s.items ≡ (left reader (bytes_read number file)).items
  pub end : s.end ≡ (left reader (bytes_read number file)).end
  pub whole : HasRead number reader file
  pub front : HasRead number reader (take limit file)

abbrev pub HaveLeft : {G : Type 0} → ℕ → List (List ℕ) → List (meant.Session Blank)
    → List (Session G) → Type 0
HaveLeft number [] [] [] = ⊤
HaveLeft number (file ∷ files) (s ∷ ss) (session ∷ sessions) =
    (session.is_over ≡ false → HasLeft number file s session.reader)
    × HaveLeft (number + 1) files ss sessions
HaveLeft number [] [] (session ∷ sessions) = ⊥
HaveLeft number [] (s ∷ ss) sessions = ⊥
HaveLeft number (file ∷ files) [] sessions = ⊥
HaveLeft number (file ∷ files) (s ∷ ss) [] = ⊥

-- Sessions that have no more to read than others.
abbrev pub AreShorter : List (meant.Session Blank) → List (meant.Session Blank) → Type 0
AreShorter [] [] = ⊤
AreShorter [] (s ∷ ss) = ⊥
AreShorter (f ∷ first) [] = ⊥
AreShorter (f ∷ first) (s ∷ ss) = (length s.items ≤ length f.items) × AreShorter first ss

-- The session of a number, if it is not over, has fewer items to read than so many.
abbrev pub HasFewer : Turns Blank → ℕ → ℕ → Type 0
HasFewer w n m =
    (s : meant.Session Blank) → slice_get w.sessions n ≡ Some s → s.is_over ≡ false
    → length s.items < m

-- The session at a place, if it was not over, has less to read.
abbrev pub FewerLeft : {G : Type 0} → ℕ → List (Session G) → List (Session G) → Type 0
FewerLeft place old new =
    (session : Session _) → slice_get old place ≡ Some session → session.is_over ≡ false
    → (after : Session _) × (slice_get new place ≡ Some after)
    × (bytes_left after < bytes_left session)

-- Where turns stopped with an answer that is due, that is what is due.
abbrev pub DueIs : Received → TurnsEnd → (done : List Event) → (unwritten : List ℕ) → Type 0
DueIs (how.Files (ended.InputTooLong file)) end done unwritten =
    (end ≡ record { due = Ends (files_due.TooLong file); events = done }) × (unwritten ≡ [])
DueIs (how.LogFull place wanted most) end done unwritten =
    (end ≡ record { due = dues.LogFull place wanted most; events = done }) × (unwritten ≡ [])
DueIs (how.Files ended.InputFault) end done unwritten = ⊤
DueIs (how.Files ended.OutputFault) end done unwritten = ⊤
DueIs (how.Files ended.NoMemory) end done unwritten = ⊤
DueIs (how.Files ended.Done) end done unwritten = ⊥
DueIs (how.Files (ended.Refused verdict)) end done unwritten = ⊥
DueIs (how.Files (ended.TooMuch sum)) end done unwritten = ⊥
DueIs (how.Files (ended.InputChanged file place)) end done unwritten = ⊥
DueIs how.StoreFault end done unwritten = ⊤

-- Turns on their way: the files, what the turns so far led to, and those that are still to be
-- taken; and the end that is due to all of them, with what they leave.
pub record Course : Type 0 where
  pub files : List (List ℕ)
  pub taken : Turns Blank
  pub rest : List ℕ
  pub end : TurnsEnd
  pub last : Turns Blank

abbrev pub course_of : List (List ℕ) → (taken : Turns Blank) → (rest : List ℕ) → TurnsEnd
    → (last : Turns Blank) → Course
course_of files taken rest end last =
    record { files = files; taken = taken; rest = rest; end = end; last = last }

module _ {D : Type 0} (run : Run D) where
  -- Some turns were taken, from a store with the subvolumes that there were at first. The verdict
  -- is that of the session that was refused first, if one was.
  pub record IsGoing {G : Type 0} (kept : G → List Guard) (course : Course)
      (refused : Option Verdict) (sessions : List (Session G)) : Type 0 where
    pub taking : AreTaking kept sessions (blank run.new.store.core) course.taken
    pub from : taking.base ≡ blank run.old.store.core
    pub refused_is : course.taken.refused ≡ option_map verdict_meant refused
    pub have_left : HaveLeft 1 course.files course.taken.sessions sessions
    pub ends : course.end
        ≡ turns_end tt blank_cells (room_of run.old.store.log.limit run.new.store.log.gate)
        (which_long 1 course.files) course.taken course.rest
    pub runs : course.last ≡ after_turns tt blank_cells course.taken course.rest
    pub done : HasDone run course.taken.events

  -- They stopped, in the first of the events of all turns. At a limit the store has what these made
  -- of it, but for what cells carry.
  pub record HasEnded (why : Received) (end : TurnsEnd) (last : Turns Blank) : Type 0 where
    pub stopped : HasStopped run why last.events
    pub due : DueIs why end stopped.done stopped.unwritten
    pub made : IfTooLong why
        (made_all tt blank_put 0 (blank run.old.store.core) (turn_groups stopped.done)
        ≡ Some (blank run.new.store.core))

  abbrev pub GoingSays : {G : Type 0} → (G → List Guard) → Course → List (Session G)
      → Result (Option Verdict) Received → Type 0
  GoingSays kept course sessions (Ok refused) = IsGoing kept course refused sessions
  GoingSays kept course sessions (Err why) = HasEnded why course.end course.last
