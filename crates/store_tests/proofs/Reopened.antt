-- A store that is opened again.
use Rattle.std.specs.Prelude.{◌≡◌, ℕ, List, Result, Ok, Err, IfOk}
use Rattle.std.proofs.Common.{subst}
use Rattle.sx_base.specs.Disk.{Pending, IsImage}
use Rattle.store_model.specs.Image.{Header}
use Rattle.store_model.specs.Stored.{Group}
use Rattle.store_model.proofs.OneStore.{never_both}
use Rattle.group_log.specs.Stopping.{IsFault}
use Rattle.group_log.specs.declared.stops.LogStop.TheVariants.{DiskFault, NotStore, LogFull, StoreThere}
use Rattle.group_replay.specs.Stopping.{IfLog}
use Rattle.group_replay.specs.declared.stops.StoreStop.{StoreStop}
use Rattle.group_replay.specs.declared.stops.StoreStop.TheVariants as stop
use Rattle.store_journal.specs.Shown.{StoreState}
use Rattle.store_journal.specs.Holding.{Holds}
use Rattle.store_journal.specs.Standing.{with_bytes}
use Rattle.store_journal.specs.Opening.{OpenSays, IsOpenStop, HoldsSome}
use Rattle.store_journal.proofs.StandingGroups.{holds_one, holds_stands}

module _ (header : Header) (groups : List Group) (store : StoreState) (seen : List ℕ) (pending : Pending) (h : Holds header groups store seen pending) where
  -- it has the subvolumes that it had
  pub again_same : (result : Result StoreState StoreStop) (now : List ℕ) (later : Pending) → now ≡ seen → IfOk result (HoldsSome now later) → IfOk result (λ again. again.core ≡ store.core)
  again_same (Ok again) now later same some = holds_one header some.header groups some.groups store again seen pending later h (subst (λ (l : List ℕ). Holds some.header some.groups again l later) same some.holds)
  again_same (Err why) now later same some = tt

  -- and no group is at fault
  pub again_sound : (cause : Type 0) (result : Result StoreState StoreStop) → IsImage pending seen → OpenSays seen result → IfLog result (IsOpenStop cause) → IfLog result (IsFault cause)
  again_sound cause (Ok again) own says stops = tt
  again_sound cause (Err (stop.Refused refusal)) own says stops = tt
  again_sound cause (Err stop.NoMemory) own says stops = tt
  again_sound cause (Err (stop.Log DiskFault)) own says stops = stops
  again_sound cause (Err (stop.Log (NotStore group))) own says stops = absurd (never_both seen (with_bytes seen store.core) group (holds_stands header groups store seen seen pending h own) says)
  again_sound cause (Err (stop.Log (LogFull end wanted limit))) own says stops = absurd stops
  again_sound cause (Err (stop.Log (StoreThere size))) own says stops = absurd stops
