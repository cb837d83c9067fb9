-- What one command and one turn answer, against those of the definitions. This program's own.
use Rattle.std.specs.Prelude.{◌≡◌, ⊤, ℕ, ◌+◌, ◌-◌, Bool, true, false, if◌then◌else◌, List, [], ◌∷◌, ◌++◌, Option, None, Some, Result, Ok, Err}
use Rattle.std.specs.Option.{option_map}
use Rattle.send_model.specs.Lengths.{limit}
use Rattle.send_model.specs.Reading.{Item, CommandDue}
use Rattle.send_model.specs.Refusal.{Refusal as model_refusal}
use Rattle.send_model.specs.Store.{Store, Stepped, completed, step}
use Rattle.send_model.specs.Guards.{Guard}
use Rattle.sx_base.specs.Refusals.{refusal_of, verdict_meant}
use Rattle.sx_base.specs.declared.outcome.Outcome.{Outcome}
use Rattle.sx_base.specs.declared.outcome.Outcome.TheVariants as ended
use Rattle.sx_base.specs.declared.outcome.Verdict.{Verdict}
use Rattle.sx_base.specs.declared.refusal.Refusal.{Refusal}
use Rattle.cmd_reader.specs.Places.{IfTold}
use Rattle.cmd_reader.specs.Left.{Reader}
use Rattle.auditor.specs.Following.{blank}
use Rattle.store_model.specs.Turns as meant
use Rattle.store_model.specs.Turns.{Event, Completes, Receiving, Turn, part_of, receiving_after, completions, beginnings, session_turn}
use Rattle.store_model.proofs.TurnOrder.{held_of}
use Rattle.receiver.specs.declared.outcome.Received.{Received}
use Rattle.receiver.specs.declared.outcome.Received.TheVariants as how
use Rattle.turn_sessions.specs.declared.part.OpenPart.{OpenPart}
use Rattle.turn_sessions.specs.declared.session.Session.{Session}
use Rattle.turn_sessions.specs.Standing.{Blank, blank_cells, AreParts, AreHeld, IsSession}
use Rattle.turn_sessions.specs.Doing.{Run, HasDone, HasStopped}
use Rattle.turn_sessions.specs.Reading.{Next, Command, AtEnd, AtFault, AtLimit, Nothing, WasLeft, HasNext}

-- The event of a part that is complete, if there is one.
abbrev pub closing : Option (Receiving Blank) → List Event
closing None = []
closing (Some r) = Completes r.taken ∷ []

-- What holds where a command was taken.
abbrev pub IfTaken : {T : Type 0} → Option T → Type 0 → Type 0
IfTaken None P = P
IfTaken (Some refusal) P = ⊤

-- The commands of a reader's stream have the version of the open part.
abbrev pub HasVersion : Reader → Option OpenPart → Type 0
HasVersion reader None = ⊤
HasVersion reader (Some current) = reader.fed.due ≡ CommandDue current.version

-- What holds where a command was taken and no object failed.
abbrev pub IfOkNone : {T E : Type 0} → Result (Option T) E → Type 0 → Type 0
IfOkNone (Ok None) P = P
IfOkNone (Ok (Some x)) P = ⊤
IfOkNone (Err why) P = ⊤

-- So does one version.
abbrev pub HasVersionOf : ℕ → Option OpenPart → Type 0
HasVersionOf version None = ⊤
HasVersionOf version (Some current) = current.version ≡ version

-- The step of an item over cells that carry nothing, and its events.
abbrev pub step_at : Store Blank → Item → Option (Receiving Blank) → Stepped Blank
step_at store item p =
    step tt (blank_cells item) (record { store = store; part = part_of p }) item.command

abbrev pub events_at : Store Blank → Item → Option (Receiving Blank) → List Event
events_at store item p =
    completions item.command p ++ beginnings item (step_at store item p).refusal

-- An edit is taken or refused.
pub record IsEdited (item : Item) (old_part : Option (Receiving Blank)) (after : Stepped Blank)
    (current : Option OpenPart) (refusal : Option Refusal) : Type 0 where
  pub refused : after.refusal ≡ option_map refusal_of refusal
  pub part : IfTaken refusal (AreParts (receiving_after item old_part after.state.part) current)

abbrev pub EditSays : Item → Option (Receiving Blank) → Stepped Blank → Option OpenPart
    → Result (Option Refusal) Received → Type 0
EditSays item old_part after current (Ok refusal) = IsEdited item old_part after current refusal
EditSays item old_part after current (Err why) = ⊤

-- How many bytes a session may still read, and one more; none where it is over.
abbrev pub bytes_left : {G : Type 0} → Session G → ℕ
bytes_left session = if session.is_over then 0 else limit + 1 - session.reader.offset

-- A session that is over reads nothing, and any other one does; only at a command there may be no
-- room, and only at the limit its file is too long.
abbrev pub ReadsNext : Next → Bool → Type 0
ReadsNext (Command item) over = over ≡ false
ReadsNext AtEnd over = over ≡ false
ReadsNext (AtFault verdict) over = over ≡ false
ReadsNext AtLimit over = ⊥
ReadsNext Nothing over = over ≡ true

-- What holds where a file is too long.
abbrev pub OutcomeLong : Outcome → Type 0 → Type 0
OutcomeLong (ended.InputTooLong file) P = P
OutcomeLong ended.Done P = ⊤
OutcomeLong (ended.Refused verdict) P = ⊤
OutcomeLong ended.InputFault P = ⊤
OutcomeLong ended.OutputFault P = ⊤
OutcomeLong ended.NoMemory P = ⊤
OutcomeLong (ended.TooMuch sum) P = ⊤
OutcomeLong (ended.InputChanged file place) P = ⊤

abbrev pub IfTooLong : Received → Type 0 → Type 0
IfTooLong (how.Files outcome) P = OutcomeLong outcome P
IfTooLong how.StoreFault P = ⊤
IfTooLong (how.LogFull end wanted most) P = ⊤

-- A turn refuses its command.
abbrev pub is_refused : Result (Option Verdict) Received → Bool
is_refused (Ok None) = false
is_refused (Ok (Some verdict)) = true
is_refused (Err why) = false

abbrev pub IsCommand : Next → Type 0
IsCommand (Command item) = ⊤
IsCommand AtEnd = ⊥
IsCommand (AtFault verdict) = ⊥
IsCommand AtLimit = ⊥
IsCommand Nothing = ⊥

abbrev pub StopsAt : {G : Type 0} → Received → Next → Session G → Type 0
StopsAt (how.Files (ended.InputTooLong file)) next before =
    (next ≡ AtLimit) × (file ≡ before.file) × (before.is_over ≡ false)
StopsAt (how.Files ended.InputFault) next before = ⊤
StopsAt (how.Files ended.OutputFault) next before = ⊤
StopsAt (how.Files ended.NoMemory) next before = ⊤
StopsAt (how.Files ended.Done) next before = ⊥
StopsAt (how.Files (ended.Refused verdict)) next before = ⊥
StopsAt (how.Files (ended.TooMuch sum)) next before = ⊥
StopsAt (how.Files (ended.InputChanged file place)) next before = ⊥
StopsAt how.StoreFault next before = ⊤
StopsAt (how.LogFull end wanted most) next before = IsCommand next × (before.is_over ≡ false)

abbrev pub ReadsAs : {G : Type 0} → Result (Option Verdict) Received → Next → Session G → Type 0
ReadsAs (Ok refused) next before = ReadsNext next before.is_over
ReadsAs (Err why) next before = StopsAt why next before

-- What is to be done with a command: its item, the part that was open, what its step leaves, and
-- its events.
pub record ToDo : Type 0 where
  pub item : Item
  pub part : Option (Receiving Blank)
  pub after : Stepped Blank
  pub events : List Event

abbrev pub to_do : Item → Option (Receiving Blank) → Stepped Blank → List Event → ToDo
to_do item part after events = record { item = item; part = part; after = after; events = events }

-- What the step of an item is to do.
abbrev pub step_to_do : Store Blank → Item → Option (Receiving Blank) → ToDo
step_to_do store item p = to_do item p (step_at store item p) (events_at store item p)

module _ {D : Type 0} (run : Run D) where
  -- A command is taken or refused as a step says, with these events.
  pub record IsDone (task : ToDo) (current : Option OpenPart)
      (refusal : Option Refusal) : Type 0 where
    pub refused : task.after.refusal ≡ option_map refusal_of refusal
    pub store : blank run.new.store.core ≡ task.after.state.store
    pub part : IfTaken refusal
        (AreParts (receiving_after task.item task.part task.after.state.part) current)
    pub done : HasDone run task.events

  abbrev pub ItemSays : ToDo → Option OpenPart → Result (Option Refusal) Received → Type 0
  ItemSays task current (Ok refusal) = IsDone task current refusal
  ItemSays task current (Err why) = HasStopped run why task.events

  -- A part that was open is complete.
  pub record IsClosed (p : Option (Receiving Blank)) : Type 0 where
    pub store : blank run.new.store.core
        ≡ completed (record { store = blank run.old.store.core; part = part_of p })
    pub done : HasDone run (closing p)

  abbrev pub CloseSays : Option (Receiving Blank) → Result (Unit {0}) Received → Type 0
  CloseSays p (Ok u) = IsClosed p
  CloseSays p (Err why) = HasStopped run why (closing p)

  -- A command is refused by a guard, and nothing is done; or it does what its step says.
  abbrev pub LookSays : Item → Option (Receiving Blank) → Option model_refusal → Option OpenPart
      → Result (Option Refusal) Received → Type 0
  LookSays item p (Some refusal) current (Ok answer) =
      (option_map refusal_of answer ≡ Some refusal)
      × (blank run.new.store.core ≡ blank run.old.store.core) × HasDone run []
  LookSays item p (Some refusal) current (Err why) = ⊥
  LookSays item p None current result =
      ItemSays (step_to_do (blank run.old.store.core) item p) current result

  -- A turn is that of the definitions.
  pub record IsTurn {G : Type 0} (kept : G → List Guard) (t : Turn Blank) (session : Session G)
      (refused : Option Verdict) : Type 0 where
    pub refused_is : t.refused ≡ option_map verdict_meant refused
    pub store : blank run.new.store.core ≡ t.store
    pub session_is : IsSession kept t.session session
    pub done : HasDone run t.events

  abbrev pub TurnSays : {G : Type 0} → (G → List Guard) → Turn Blank → Session G
      → Result (Option Verdict) Received → Type 0
  TurnSays kept t session (Ok refused) = IsTurn kept t session refused
  TurnSays kept t session (Err why) = HasStopped run why t.events

  -- What is read next of the session's file, and what the turn of each session that has this to
  -- read does.
  pub record TakesTurn {G : Type 0} (kept : G → List Guard) (told : Option (List (List ℕ × List ℕ)))
      (before after : Session G) (result : Result (Option Verdict) Received) : Type 0 where
    pub next : Next
    pub read : IfTold told before.reader.name (WasLeft before.reader after.reader next)
    pub reads : ReadsAs result next before
    pub says : (s : meant.Session Blank) → IsSession kept s before
        → AreHeld (blank run.old.store.core) (held_of s) → (s.is_over ≡ false → HasNext s next)
        → TurnSays kept (session_turn tt blank_cells (blank run.old.store.core) s) after result
