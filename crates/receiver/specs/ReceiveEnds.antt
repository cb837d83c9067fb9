-- What receiving files into a store answers. This program's own.
use Rattle.std.specs.Prelude.{◌≡◌, ⊤, ℕ, ◌<◌, List, [], ◌++◌, length, Option, None, Some, Err}
use Rattle.send_model.specs.Store.{Store}
use Rattle.send_model.specs.Receive.{byte_cells}
use Rattle.send_model.specs.Guards.{Guard}
use Rattle.send_model.specs.Due.{DoneWhole, RefusedAt, TooLong}
use Rattle.store_model.specs.Image.{Header}
use Rattle.store_model.specs.NamedFiles.{NamedFiles, read_of}
use Rattle.store_model.specs.Stored.{Group, as_bytes, made_all}
use Rattle.store_model.specs.States.{received, lines_behind}
use Rattle.store_model.specs.Written.{groups_of}
use Rattle.store_model.specs.Dues as dues
use Rattle.store_model.specs.Dues.{Due, Ends, receive_due, receive_left}
use Rattle.auditor.specs.Following.{HaveSameShape}
use Rattle.sx_base.specs.Refusals.{verdict_meant}
use Rattle.sx_base.specs.Calls.{SteadyIfDone}
use Rattle.sx_base.specs.declared.outcome.Outcome.{Outcome}
use Rattle.sx_base.specs.declared.outcome.Outcome.TheVariants as ended
use Rattle.group_replay.specs.declared.place.Place.{Place}
use Rattle.store_journal.specs.Shown.{StoreState}
use Rattle.store_journal.specs.Holding.{Holds}
use Rattle.receiver.specs.declared.outcome.Received.{Received}
use Rattle.receiver.specs.declared.outcome.Received.TheVariants as how
use Rattle.receiver.specs.Answers.{ReadySays}
use Rattle.receiver.specs.Disks.{Shown, EndLeaves, EachHas}
use Rattle.receiver.specs.Running.{IfAllRead, IfDecided}

-- What receiving goes by: the greatest size of the store, where its next group comes, the store
-- that there is, the guards, and the files.
pub record ToReceive : Type 0 where
  pub limit : ℕ
  pub gate : ℕ
  pub base : Store ℕ
  pub guards : List Guard
  pub files : NamedFiles

abbrev pub to_receive : (limit gate : ℕ) → Store ℕ → List Guard → NamedFiles → ToReceive
to_receive limit gate base guards files =
    record { limit = limit; gate = gate; base = base; guards = guards; files = files }

module _ (task : ToReceive) where
  -- This answer is due, and the lines of the parts that are complete were written.
  abbrev pub IsDue : Due → List ℕ → Type 0
  IsDue due written =
      (receive_due task.limit task.gate task.base task.guards task.files ≡ due)
      × (written
      ≡ lines_behind task.base (receive_left task.limit task.gate task.base task.guards task.files))

  -- And the store has what is left, but for what the cells carry.
  abbrev pub IsDueLeft : Due → Store (Option Place) → List ℕ → Type 0
  IsDueLeft due core written =
      IsDue due written
      × HaveSameShape core (receive_left task.limit task.gate task.base task.guards task.files)

  -- So many lines stand in front of all that receiving prints.
  abbrev pub IsFront : (written unwritten : List ℕ) → Type 0
  IsFront written unwritten =
      lines_behind task.base
      (received 0 byte_cells task.base task.guards
      (read_of task.files).limited.items).state.state.store ≡ written ++ unwritten

  abbrev pub OutcomeEnds : Outcome → Store (Option Place) → List ℕ → Type 0
  OutcomeEnds ended.Done core written = IsDueLeft (Ends DoneWhole) core written
  OutcomeEnds (ended.Refused verdict) core written =
      IsDueLeft (Ends (RefusedAt (verdict_meant verdict))) core written
  OutcomeEnds (ended.InputTooLong file) core written = IsDueLeft (Ends (TooLong file)) core written
  OutcomeEnds ended.InputFault core written = (unwritten : List ℕ) × IsFront written unwritten
  OutcomeEnds ended.NoMemory core written = (unwritten : List ℕ) × IsFront written unwritten
  OutcomeEnds ended.OutputFault core written =
      (unwritten : List ℕ) × IsFront written unwritten × (0 < length unwritten)
  OutcomeEnds (ended.TooMuch sum) core written = ⊥
  OutcomeEnds (ended.InputChanged file place) core written = ⊥

  -- The outcome is the answer that is due, or an object of the outside failed, or there was no
  -- memory.
  abbrev pub ReceiveEnds : Received → Store (Option Place) → List ℕ → Type 0
  ReceiveEnds (how.Files outcome) core written = OutcomeEnds outcome core written
  ReceiveEnds how.StoreFault core written = (unwritten : List ℕ) × IsFront written unwritten
  ReceiveEnds (how.LogFull end wanted most) core written =
      IsDue (dues.LogFull end wanted most) written

-- Where all was done, a count is as it was.
abbrev pub SteadyIfReceived : (before now : ℕ) → Received → Type 0
SteadyIfReceived before now (how.Files outcome) = SteadyIfDone before now outcome
SteadyIfReceived before now how.StoreFault = ⊤
SteadyIfReceived before now (how.LogFull end wanted limit) = ⊤

-- The store is idle then, unless its journal stopped, so that it is not live, or there was no
-- memory.
abbrev pub IdleAfter : Received → ℕ → StoreState → Type 0
IdleAfter result len store = ReadySays (Err result) len None store

module _ (task : ToReceive) where
  -- H holds of the first of the groups that are due. They make a store in which each part is
  -- complete of whose line something was written. Where the answer is due, that is what is left;
  -- and where all was read, these are all groups.
  pub record AreLeft (why : Received) (written : List ℕ) (H : List Group → Type 0) : Type 0 where
    pub first : List Group
    pub more : List Group
    pub all : groups_of task.base task.guards (read_of task.files).limited.items ≡ first ++ more
    pub has : H first
    pub now : Store ℕ
    pub made : (place : ℕ) → made_all 0 as_bytes place task.base first ≡ Some now
    pub unwritten : List ℕ
    pub printed : lines_behind task.base now ≡ written ++ unwritten
    pub left : IfDecided why
        (now ≡ receive_left task.limit task.gate task.base task.guards task.files)
    pub whole : IfAllRead why (more ≡ [])

-- Behind the groups that a disk that tells had it has some more, of which W holds: with the store,
-- which can be used again, or in each image that a crash may leave.
abbrev pub LeavesMore : (tells : Type 0) → (old new : Shown) → Received
    → ((List Group → Type 0) → Type 0) → Type 0
LeavesMore tells old new why W =
    tells → (header : Header) (groups : List Group)
    → Holds header groups old.store old.seen old.pending
    → EndLeaves why (W (λ first. Holds header (groups ++ first) new.store new.seen new.pending))
    (EachHas header groups new.pending W)
