-- What opening a store says of the bytes that a disk gives, and why it stops.
use Rattle.std.specs.Prelude.{⊤, ℕ, List, Result, Ok, Err}
use Rattle.sx_base.specs.Disk.{Pending}
use Rattle.store_model.specs.Image.{Header}
use Rattle.store_model.specs.Stored.{Group, StandsFor, StandsForNone}
use Rattle.group_log.specs.declared.stops.LogStop.{LogStop}
use Rattle.group_log.specs.declared.stops.LogStop.TheVariants.{DiskFault, NotStore, LogFull, StoreThere}
use Rattle.group_replay.specs.declared.stops.StoreStop.{StoreStop}
use Rattle.group_replay.specs.declared.stops.StoreStop.TheVariants as stop
use Rattle.store_journal.specs.Shown.{StoreState}
use Rattle.store_journal.specs.Holding.{Holds}
use Rattle.store_journal.specs.Standing.{with_bytes}

-- The group that the journal names is the first one at fault.
abbrev pub NamesFault : List ℕ → LogStop → Type 0
NamesFault seen (NotStore group) = StandsForNone seen group
NamesFault seen DiskFault = ⊤
NamesFault seen (LogFull end wanted limit) = ⊤
NamesFault seen (StoreThere size) = ⊤

-- The bytes stand for the subvolumes of the store that opened, or for none, with the fault that is
-- named.
abbrev pub OpenSays : List ℕ → Result StoreState StoreStop → Type 0
OpenSays seen (Ok store) = StandsFor seen (with_bytes seen store.core)
OpenSays seen (Err (stop.Log why)) = NamesFault seen why
OpenSays seen (Err (stop.Refused refusal)) = ⊤
OpenSays seen (Err stop.NoMemory) = ⊤

-- The bytes are those of no store, or the disk failed, for which there is this cause.
abbrev pub IsOpenStop : Type 0 → LogStop → Type 0
IsOpenStop cause (NotStore group) = ⊤
IsOpenStop cause DiskFault = cause
IsOpenStop cause (LogFull end wanted limit) = ⊥
IsOpenStop cause (StoreThere size) = ⊥

-- The disk has some groups that make the subvolumes of the store.
pub record HoldsSome (seen : List ℕ) (pending : Pending) (store : StoreState) : Type 0 where
  pub header : Header
  pub groups : List Group
  pub holds : Holds header groups store seen pending
