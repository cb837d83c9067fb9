-- What turns did, and where they stopped: by the events of the definitions. This program's own.
use Rattle.std.specs.Prelude.{◌≡◌, ◌⊎◌, ⊤, ℕ, ◌<◌, false, List, [], ◌++◌, length, Option, None, Some, Result, Ok, Err}
use Rattle.std.specs.Io.KnownBytes.{Appends}
use Rattle.sx_base.specs.Crash.{LeavesOnly}
use Rattle.sx_base.specs.Disk.{IsImage}
use Rattle.sx_base.specs.declared.disk.Disk as keeping
use Rattle.sx_base.specs.declared.outcome.Outcome.{Outcome}
use Rattle.sx_base.specs.declared.outcome.Outcome.TheVariants as ended
use Rattle.store_model.specs.Image.{Header}
use Rattle.store_model.specs.Stored.{Group}
use Rattle.store_model.specs.Dues as dues
use Rattle.store_model.specs.Turns.{Event, lines_of, turn_groups}
use Rattle.store_model.specs.TurnDues.{gate_after, fitting}
use Rattle.store_journal.specs.Shown.{StoreState, IsIdle}
use Rattle.store_journal.specs.Holding.{Holds}
use Rattle.receiver.specs.declared.outcome.Received.{Received}
use Rattle.receiver.specs.declared.outcome.Received.TheVariants as how
use Rattle.receiver.specs.Answers as received
use Rattle.receiver.specs.Answers.{FaultCounts, ended_log}
use Rattle.group_replay.specs.declared.stops.StoreStop.{StoreStop}
use Rattle.group_replay.specs.declared.stops.StoreStop.TheVariants as stop
use Rattle.receiver.specs.Disks.{HasFront, EndLeaves}

-- An object of the outside failed only where its count of faults rose.
abbrev pub ErrCaused : {T : Type 0} → (before now : FaultCounts) → Result T Received → Type 0
ErrCaused before now (Ok x) = ⊤
ErrCaused before now (Err why) = received.Caused before now why

-- Why a call of the store stopped that refuses nothing, as the end of all turns.
abbrev pub stopped_as : StoreStop → Received
stopped_as (stop.Refused refusal) = how.Files ended.NoMemory
stopped_as stop.NoMemory = how.Files ended.NoMemory
stopped_as (stop.Log why) = ended_log why

abbrev pub IsNoMemory : Received → Type 0
IsNoMemory why = why ≡ how.Files ended.NoMemory

-- What stops one command of a session: of the outside only the output, the store's disk or memory.
abbrev pub IsOutcomeStop : Outcome → Type 0
IsOutcomeStop ended.OutputFault = ⊤
IsOutcomeStop ended.NoMemory = ⊤
IsOutcomeStop ended.InputFault = ⊥
IsOutcomeStop ended.Done = ⊥
IsOutcomeStop (ended.Refused verdict) = ⊥
IsOutcomeStop (ended.InputTooLong file) = ⊥
IsOutcomeStop (ended.TooMuch sum) = ⊥
IsOutcomeStop (ended.InputChanged file place) = ⊥

abbrev pub IsItemStop : Received → Type 0
IsItemStop (how.Files outcome) = IsOutcomeStop outcome
IsItemStop how.StoreFault = ⊤
IsItemStop (how.LogFull end wanted limit) = ⊤

-- The store is idle, unless its journal stopped, so that it is not live, or there was no memory.
abbrev pub IdleAt : Received → ℕ → StoreState → Type 0
IdleAt (how.Files ended.NoMemory) len store = IsIdle len store ⊎ (store.is_live ≡ false)
IdleAt (how.Files ended.InputFault) len store = IsIdle len store
IdleAt (how.Files ended.OutputFault) len store = IsIdle len store
IdleAt (how.Files ended.Done) len store = IsIdle len store
IdleAt (how.Files (ended.Refused verdict)) len store = IsIdle len store
IdleAt (how.Files (ended.InputTooLong file)) len store = IsIdle len store
IdleAt (how.Files (ended.TooMuch sum)) len store = IsIdle len store
IdleAt (how.Files (ended.InputChanged file place)) len store = IsIdle len store
IdleAt how.StoreFault len store = store.is_live ≡ false
IdleAt (how.LogFull end wanted limit) len store = store.is_live ≡ false

abbrev pub IdleSays : {T : Type 0} → Result T Received → ℕ → StoreState → Type 0
IdleSays (Ok x) len store = IsIdle len store
IdleSays (Err why) len store = IdleAt why len store

-- The groups of the other events may stand too, unless there was no room.
abbrev pub reached : Received → List Event → List Event
reached (how.Files outcome) more = more
reached how.StoreFault more = more
reached (how.LogFull end wanted limit) more = []

-- Why turns stop: of an output that failed some bytes are missing, and where there is no room the
-- first events that have it are done.
abbrev pub OutcomeReason : Outcome → (unwritten : List ℕ) → Type 0
OutcomeReason ended.OutputFault unwritten = 0 < length unwritten
OutcomeReason ended.NoMemory unwritten = ⊤
OutcomeReason ended.InputFault unwritten = ⊤
OutcomeReason (ended.InputTooLong file) unwritten = ⊤
OutcomeReason ended.Done unwritten = ⊥
OutcomeReason (ended.Refused verdict) unwritten = ⊥
OutcomeReason (ended.TooMuch sum) unwritten = ⊥
OutcomeReason (ended.InputChanged file place) unwritten = ⊥

abbrev pub StopReason : Received → (most gate : ℕ) (events done : List Event) (unwritten : List ℕ)
    → Type 0
StopReason (how.Files outcome) most gate events done unwritten = OutcomeReason outcome unwritten
StopReason how.StoreFault most gate events done unwritten = ⊤
StopReason (how.LogFull end wanted limit) most gate events done unwritten =
    (unwritten ≡ [])
    × (fitting most gate events
    ≡ record { events = done; full = Some (dues.LogFull end wanted limit) })

-- What turns work on: the disk, the store that is there, and what was written, where the output
-- tells.
pub record Work (D : Type 0) : Type 0 where
  pub disk : D
  pub store : StoreState
  pub out : Option (List ℕ)

abbrev pub work : {D : Type 0} → D → StoreState → Option (List ℕ) → Work D
work disk store out = record { disk = disk; store = store; out = out }

-- A run of calls: the members of the disk, and what they work on, before and after.
pub record Run (D : Type 0) : Type 1 where
  pub ghosts : keeping.Ghosts D
  pub old : Work D
  pub new : Work D

abbrev pub run_of : {D : Type 0} → keeping.Ghosts D → (old new : Work D) → Run D
run_of ghosts old new = record { ghosts = ghosts; old = old; new = new }

module _ {D : Type 0} (run : Run D) where
  -- What holds of a disk that tells, which had these groups.
  abbrev pub OfGroups : (Header → List Group → Type 0) → Type 0
  OfGroups P = run.ghosts.tells → (header : Header) (groups : List Group)
      → Holds header groups run.old.store (run.ghosts.seen run.old.disk)
      (run.ghosts.pending run.old.disk) → P header groups

  -- The events were done: their lines stand behind what was written before, and their groups behind
  -- those that there were; at each moment a crash left the first of these.
  pub record HasDone (events : List Event) : Type 0 where
    pub wrote : Appends run.old.out run.new.out (lines_of events)
    pub room : (fitting run.old.store.log.limit run.old.store.log.gate events).full ≡ None
    pub gate : run.new.store.log.gate ≡ gate_after run.old.store.log.gate events
    pub limit : run.new.store.log.limit ≡ run.old.store.log.limit
    pub disk : OfGroups
        (λ header groups. Holds header (groups ++ turn_groups events) run.new.store
        (run.ghosts.seen run.new.disk) (run.ghosts.pending run.new.disk)
        × LeavesOnly run.ghosts.moment run.ghosts.left_since run.old.disk run.new.disk
        (HasFront header groups (turn_groups events)))

  -- They stopped in these events: the first ones are done, and their lines, or a front part of
  -- them, were written.
  pub record HasStopped (why : Received) (events : List Event) : Type 0 where
    pub done : List Event
    pub more : List Event
    pub all : events ≡ done ++ more
    pub lines : List ℕ
    pub unwritten : List ℕ
    pub printed : lines_of done ≡ lines ++ unwritten
    pub wrote : Appends run.old.out run.new.out lines
    pub reason : StopReason why run.old.store.log.limit run.old.store.log.gate events done unwritten
    pub disk : OfGroups
        (λ header groups. EndLeaves why
        (Holds header (groups ++ turn_groups done) run.new.store (run.ghosts.seen run.new.disk)
        (run.ghosts.pending run.new.disk))
        ((image : List ℕ) → IsImage (run.ghosts.pending run.new.disk) image
        → HasFront header (groups ++ turn_groups done) (turn_groups (reached why more)) image)
        × LeavesOnly run.ghosts.moment run.ghosts.left_since run.old.disk run.new.disk
        (HasFront header groups (turn_groups events)))
