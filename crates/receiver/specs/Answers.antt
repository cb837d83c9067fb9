-- What the calls of receiving answer. This program's own.
use Rattle.std.specs.Prelude.{◌≡◌, ◌⊎◌, ⊤, ℕ, false, List, [], Option, None, Some, Result, Ok, Err}
use Rattle.std.specs.Io.KnownBytes.{Appends}
use Rattle.send_model.specs.Refusal as meant
use Rattle.send_model.specs.Reading.{Item}
use Rattle.send_model.specs.Store.{After}
use Rattle.send_model.specs.Receive.{verdict_of}
use Rattle.store_model.specs.Stored.{Group}
use Rattle.store_model.specs.Written.{Begun}
use Rattle.store_model.specs.Dues as dues
use Rattle.store_model.specs.Dues.{first_full, end_behind, item_pieces}
use Rattle.sx_base.specs.Causes.{Rose}
use Rattle.sx_base.specs.Calls as calls
use Rattle.sx_base.specs.Outside.{AppendsPart}
use Rattle.sx_base.specs.Refusals.{verdict_meant}
use Rattle.sx_base.specs.declared.outcome.Verdict.{Verdict}
use Rattle.sx_base.specs.declared.outcome.Outcome.{Outcome}
use Rattle.sx_base.specs.declared.outcome.Outcome.TheVariants as ended
use Rattle.group_log.specs.declared.stops.LogStop.{LogStop}
use Rattle.group_log.specs.declared.stops.LogStop.TheVariants as log
use Rattle.group_replay.specs.declared.stops.StoreStop.{StoreStop}
use Rattle.group_replay.specs.declared.stops.StoreStop.TheVariants as stop
use Rattle.store_journal.specs.Shown.{StoreState}
use Rattle.receiver.specs.declared.opened.Opened.{Opened}
use Rattle.receiver.specs.declared.outcome.Received.{Received}
use Rattle.receiver.specs.declared.outcome.Received.TheVariants as how
use Rattle.receiver.specs.Standing.{IsReady}

-- How often the inputs, the output and the store's disk failed.
pub record FaultCounts : Type 0 where
  pub inputs : ℕ
  pub out : ℕ
  pub disk : ℕ

abbrev pub fault_counts : (inputs out disk : ℕ) → FaultCounts
fault_counts inputs out disk = record { inputs = inputs; out = out; disk = disk }

-- An object of the outside failed only where its count of faults rose.
abbrev pub Caused : (before now : FaultCounts) → Received → Type 0
Caused before now (how.Files outcome) =
    calls.Caused before.inputs now.inputs before.out now.out outcome
Caused before now how.StoreFault = Rose before.disk now.disk
Caused before now (how.LogFull end wanted limit) = ⊤

abbrev pub ErrCaused : (before now : FaultCounts) → Result (Unit {0}) Received → Type 0
ErrCaused before now (Ok u) = ⊤
ErrCaused before now (Err why) = Caused before now why

-- ---- the part that is open is completed

-- All that follows from a part that is complete; where the store's disk failed, nothing.
abbrev pub IfClosed : Result (Unit {0}) Received → Type 0 → Type 0
IfClosed (Ok u) P = P
IfClosed (Err (how.Files outcome)) P = P
IfClosed (Err how.StoreFault) P = ⊤
IfClosed (Err (how.LogFull end wanted limit)) P = ⊤

-- Its line was written, or a part of it where the output failed, and nothing where the store's disk
-- did.
abbrev pub WritesLine : List ℕ → Option (List ℕ) → Option (List ℕ) → ℕ → ℕ
    → Result (Unit {0}) Received → Type 0
WritesLine line old new before now (Ok u) = Appends old new line
WritesLine line old new before now (Err (how.Files outcome)) =
    (outcome ≡ ended.OutputFault) × Rose before now × AppendsPart old new line
WritesLine line old new before now (Err how.StoreFault) = Appends old new []
WritesLine line old new before now (Err (how.LogFull end wanted limit)) = ⊥

abbrev pub IfStoreFault : Result (Unit {0}) Received → Type 0 → Type 0
IfStoreFault (Ok u) P = ⊤
IfStoreFault (Err (how.Files outcome)) P = ⊤
IfStoreFault (Err how.StoreFault) P = P
IfStoreFault (Err (how.LogFull end wanted limit)) P = ⊤

-- ---- one command

-- Why the journal stops, as the end of receiving. It stops for no other reason than these two.
abbrev pub ended_log : LogStop → Received
ended_log (log.LogFull end wanted limit) = how.LogFull end wanted limit
ended_log log.DiskFault = how.StoreFault
ended_log (log.NotStore group) = how.StoreFault
ended_log (log.StoreThere size) = how.StoreFault

abbrev pub IsUsualLog : LogStop → Type 0
IsUsualLog (log.LogFull end wanted limit) = ⊤
IsUsualLog log.DiskFault = ⊤
IsUsualLog (log.NotStore group) = ⊥
IsUsualLog (log.StoreThere size) = ⊥

-- Why a call of the store stops at a command.
abbrev pub ended_by : Item → StoreStop → Received
ended_by item (stop.Refused refusal) =
    how.Files
    (ended.Refused
    (record { file = item.file; command = item.number; offset = item.offset; refusal = refusal }))
ended_by item stop.NoMemory = how.Files ended.NoMemory
ended_by item (stop.Log why) = ended_log why

abbrev pub IsUsualStop : StoreStop → Type 0
IsUsualStop (stop.Refused refusal) = ⊤
IsUsualStop stop.NoMemory = ⊤
IsUsualStop (stop.Log why) = IsUsualLog why

-- The verdict is that on an item, which is refused and leaves this.
pub record IsRefusedWith {S : Type 0} (verdict : Verdict) (item : Item) (new : S)
    (after : After S) : Type 0 where
  pub refusal : meant.Refusal
  pub verdict_is : verdict_meant verdict ≡ verdict_of item refusal
  pub after_is : after ≡ record { state = new; refusal = Some refusal }

-- A step is taken, or it is refused with the verdict; where there is no room it is not refused.
-- Else nothing is said.
abbrev pub OutcomeSays : {S : Type 0} → Outcome → Item → S → After S → Type 0
OutcomeSays (ended.Refused verdict) item new after = IsRefusedWith verdict item new after
OutcomeSays ended.NoMemory item new after = ⊤
OutcomeSays ended.OutputFault item new after = ⊤
OutcomeSays ended.InputFault item new after = ⊥
OutcomeSays (ended.InputTooLong file) item new after = ⊥
OutcomeSays (ended.TooMuch sum) item new after = ⊥
OutcomeSays (ended.InputChanged file place) item new after = ⊥
OutcomeSays ended.Done item new after = ⊥

abbrev pub StepSays : {S : Type 0} → Result (Unit {0}) Received → Item → S → After S → Type 0
StepSays (Ok u) item new after = after ≡ record { state = new; refusal = None }
StepSays (Err (how.Files outcome)) item new after = OutcomeSays outcome item new after
StepSays (Err how.StoreFault) item new after = ⊤
StepSays (Err (how.LogFull end wanted limit)) item new after = after.refusal ≡ None

-- There is room for what an item puts at a place, and the next bytes come behind it; or there is no
-- room.
abbrev pub PiecesSay : Result (Unit {0}) Received → (limit at next : ℕ) → Item → Type 0
PiecesSay (Ok u) limit at next item =
    (first_full limit (item_pieces at item) ≡ None) × (next ≡ end_behind at (item_pieces at item))
PiecesSay (Err (how.Files outcome)) limit at next item = ⊤
PiecesSay (Err how.StoreFault) limit at next item = ⊤
PiecesSay (Err (how.LogFull end wanted most)) limit at next item =
    first_full limit (item_pieces at item) ≡ Some (dues.LogFull end wanted most)

-- The store can take the next command, unless its journal stopped or there was no memory.
abbrev pub OutcomeReady : Outcome → ℕ → Option Opened → StoreState → Type 0
OutcomeReady ended.NoMemory len current store = IsReady len current store ⊎ (store.is_live ≡ false)
OutcomeReady ended.InputFault len current store = IsReady len current store
OutcomeReady ended.OutputFault len current store = IsReady len current store
OutcomeReady ended.Done len current store = IsReady len current store
OutcomeReady (ended.Refused verdict) len current store = IsReady len current store
OutcomeReady (ended.InputTooLong file) len current store = IsReady len current store
OutcomeReady (ended.TooMuch sum) len current store = IsReady len current store
OutcomeReady (ended.InputChanged file place) len current store = IsReady len current store

abbrev pub ReadySays : Result (Unit {0}) Received → ℕ → Option Opened → StoreState → Type 0
ReadySays (Ok u) len current store = IsReady len current store
ReadySays (Err (how.Files outcome)) len current store = OutcomeReady outcome len current store
ReadySays (Err how.StoreFault) len current store = store.is_live ≡ false
ReadySays (Err (how.LogFull end wanted limit)) len current store = store.is_live ≡ false

-- A line was written, or a part of it where the output failed. Where the store's disk failed, it
-- was written or not. Sure says that the group of the part is on the disk then.
abbrev pub OutcomeWrites : Outcome → Type 0 → List ℕ → Option (List ℕ) → Option (List ℕ) → Type 0
OutcomeWrites ended.OutputFault Sure line old new = AppendsPart old new line
OutcomeWrites ended.NoMemory Sure line old new = Appends old new line × Sure
OutcomeWrites ended.InputFault Sure line old new = Appends old new line
OutcomeWrites ended.Done Sure line old new = Appends old new line
OutcomeWrites (ended.Refused verdict) Sure line old new = Appends old new line
OutcomeWrites (ended.InputTooLong file) Sure line old new = Appends old new line
OutcomeWrites (ended.TooMuch sum) Sure line old new = Appends old new line
OutcomeWrites (ended.InputChanged file place) Sure line old new = Appends old new line

abbrev pub ItemWrites : Result (Unit {0}) Received → Type 0 → List ℕ → Option (List ℕ)
    → Option (List ℕ) → Type 0
ItemWrites (Ok u) Sure line old new = Appends old new line
ItemWrites (Err (how.Files outcome)) Sure line old new = OutcomeWrites outcome Sure line old new
ItemWrites (Err how.StoreFault) Sure line old new =
    Appends old new [] ⊎ (Appends old new line × Sure)
ItemWrites (Err (how.LogFull end wanted limit)) Sure line old new = Appends old new line

-- What a disk that tells has then: all groups of an item, or those that it completed, or those that
-- there was room for.
abbrev pub OutcomeKeeps : Outcome → (List Group → Option Begun → Type 0) → List Group → Type 0
OutcomeKeeps ended.OutputFault K done = (begun : Option Begun) × K done begun
OutcomeKeeps (ended.Refused verdict) K done = (begun : Option Begun) × K done begun
OutcomeKeeps ended.NoMemory K done = ⊤
OutcomeKeeps ended.InputFault K done = ⊥
OutcomeKeeps ended.Done K done = ⊥
OutcomeKeeps (ended.InputTooLong file) K done = ⊥
OutcomeKeeps (ended.TooMuch sum) K done = ⊥
OutcomeKeeps (ended.InputChanged file place) K done = ⊥

-- The groups that a disk may have behind an item: those that were completed, those that there was
-- room for, and all; and what the Body of the open part would say behind all of them.
pub record GroupsBehind : Type 0 where
  pub done : List Group
  pub full : List Group
  pub all : List Group
  pub begun : Option Begun

abbrev pub groups_behind : (done full all : List Group) → Option Begun → GroupsBehind
groups_behind done full all begun = record { done = done; full = full; all = all; begun = begun }

abbrev pub KeepsSays : Result (Unit {0}) Received → (List Group → Option Begun → Type 0)
    → (List Group → Type 0) → GroupsBehind → Type 0
KeepsSays (Ok u) K L behind = K behind.all behind.begun
KeepsSays (Err (how.Files outcome)) K L behind = OutcomeKeeps outcome K behind.done
KeepsSays (Err how.StoreFault) K L behind = ⊤
KeepsSays (Err (how.LogFull end wanted limit)) K L behind = L behind.full

-- An end that is not that all was done.
abbrev pub IsEnd : Received → Type 0
IsEnd (how.Files outcome) = calls.IsStop outcome
IsEnd how.StoreFault = ⊤
IsEnd (how.LogFull end wanted limit) = ⊤
