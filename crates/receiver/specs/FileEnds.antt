-- What receiving one file, and all files, answers. This program's own.
use Rattle.std.specs.Prelude.{◌≡◌, ℕ, List, map, Option, None, Result, Ok, Err}
use Rattle.std.specs.Io.KnownBytes.{Appends}
use Rattle.send_model.specs.Reading.{Item}
use Rattle.send_model.specs.Guards.{Guard}
use Rattle.send_model.specs.Due.{Limited, AtEnd, AtFault, AtLimit}
use Rattle.send_model.specs.Overridden.{Override, overridden_as}
use Rattle.auditor.specs.Following.{read_whole, then_read}
use Rattle.store_model.specs.Stored.{Group}
use Rattle.store_model.specs.Written.{Begun, groups_from}
use Rattle.store_journal.specs.Shown.{StoreState}
use Rattle.receiver.specs.declared.outcome.Received.{Received}
use Rattle.receiver.specs.Disks.{DiskSays}
use Rattle.receiver.specs.Running.{Start, Spot, IsAt, Leads, Stops, IsLeft}

-- What is read of a file, with what is said in front of it.
abbrev pub read_with : Override → Limited → Limited
read_with override read =
    record { items = map (overridden_as override) read.items; stop = read.stop }

-- What is read of a file, and what is read of the others if that is all of it.
abbrev pub then_others : Limited → Limited → Limited
then_others first more = elim first.stop [
  | AtEnd ↦ then_read first.items more
  | AtFault verdict ↦ first
  | AtLimit file ↦ first
]

-- What receiving leaves: the store, and what the output had taken before and has taken since.
pub record Reached : Type 0 where
  pub store : StoreState
  pub before : Option (List ℕ)
  pub now : Option (List ℕ)

abbrev pub reached : StoreState → (before now : Option (List ℕ)) → Reached
reached store before now = record { store = store; before = before; now = now }

-- All commands that were read are taken, and no part is open behind them. K says what a disk that
-- tells has then.
pub record Taken (from : Start) (input : Limited) (guards : List Guard) (new : Reached)
    (K : List Group → Option Begun → Type 0) : Type 0 where
  pub items : List Item
  pub read : input ≡ read_whole items
  pub now : Spot
  pub at : IsAt now guards new.store None
  pub groups : List Group
  pub lines : List ℕ
  pub leads : Leads from now items groups lines
  pub wrote : Appends new.before new.now lines
  pub none : now.begun ≡ None
  pub disk : K groups None

-- Receiving ends in a file, whatever files follow it. M says what a crash leaves of some groups,
-- and J what a disk that tells has then.
pub record FileStopped (from : Start) (input : Limited) (new : Reached) (M : List Group → Type 0)
    (J : ((List Group → Type 0) → Type 0) → Type 0) (why : Received) : Type 0 where
  pub lines : List ℕ
  pub wrote : Appends new.before new.now lines
  pub stops : (more : Limited) → Stops why from (then_others input more) lines new.store.core
  pub moments : (more : Limited)
      → M (groups_from from.spot.watched from.spot.begun (then_others input more).items)
  pub disk : (more : Limited) → J (λ H. IsLeft why from (then_others input more) lines H)

-- How receiving what was read of a file ends.
abbrev pub FileEnds : Start → Limited → List Guard → Reached → DiskSays → Result (Unit {0}) Received
    → Type 0
FileEnds from input guards new disk (Ok u) = Taken from input guards new disk.runs
FileEnds from input guards new disk (Err why) =
    FileStopped from input new disk.leaves (disk.stops why) why

-- Receiving ends in one of the files.
pub record AllStopped (from : Start) (input : Limited) (new : Reached) (M : List Group → Type 0)
    (J : ((List Group → Type 0) → Type 0) → Type 0) (why : Received) : Type 0 where
  pub lines : List ℕ
  pub wrote : Appends new.before new.now lines
  pub stops : Stops why from input lines new.store.core
  pub moments : M (groups_from from.spot.watched from.spot.begun input.items)
  pub disk : J (λ H. IsLeft why from input lines H)

-- How receiving what was read of all files ends.
abbrev pub AllEnds : Start → Limited → List Guard → Reached → DiskSays → Result (Unit {0}) Received
    → Type 0
AllEnds from input guards new disk (Ok u) = Taken from input guards new disk.runs
AllEnds from input guards new disk (Err why) =
    AllStopped from input new disk.leaves (disk.stops why) why
