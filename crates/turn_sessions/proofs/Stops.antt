-- Why a call of the store stopped, as the end of turns.
use Rattle.std.specs.Prelude.{◌≡◌, ℕ, false, Option, None, Some, Err}
use Rattle.std.proofs.Common.{inl, inr}
use Rattle.sx_base.specs.Causes.{Rose}
use Rattle.group_log.specs.declared.stops.LogStop.{LogStop}
use Rattle.group_log.specs.declared.stops.LogStop.TheVariants as log
use Rattle.group_replay.specs.declared.stops.StoreStop.{StoreStop}
use Rattle.group_replay.specs.declared.stops.StoreStop.TheVariants as stop
use Rattle.group_replay.specs.Stopping.{IfLog, IsNoRefusal}
use Rattle.store_journal.specs.Filling.{Asked, IsStopOf}
use Rattle.store_journal.specs.Shown.{StoreState, IsIdle}
use Rattle.receiver.specs.Answers as received
use Rattle.receiver.specs.Answers.{fault_counts, ended_log, IsUsualLog}
use Rattle.turn_sessions.specs.Edits.{IfStopped}
use Rattle.turn_sessions.specs.Doing.{IdleAt, stopped_as}

pub idle_at : (why : StoreStop) (len : ℕ) (store : StoreState) → IsNoRefusal why → IfStopped {T = Unit {0}} (Err why) store (IsIdle len store) → IdleAt (stopped_as why) len store
idle_at (stop.Refused refusal) len store n s = absurd n
idle_at stop.NoMemory len store n s = s
idle_at (stop.Log (log.LogFull end wanted limit)) len store n s = s
idle_at (stop.Log log.DiskFault) len store n s = s
idle_at (stop.Log (log.NotStore group)) len store n s = s
idle_at (stop.Log (log.StoreThere size)) len store n s = s

pub idle_log : (why : LogStop) (len : ℕ) (store : StoreState) → store.is_live ≡ false → IdleAt (ended_log why) len store
idle_log (log.LogFull end wanted limit) len store s = s
idle_log log.DiskFault len store s = s
idle_log (log.NotStore group) len store s = s
idle_log (log.StoreThere size) len store s = s

module _ (a b c d e f : ℕ) (limit : ℕ) (full : Option Asked) where
  pub caused_log : (why : LogStop) → IsStopOf (Rose e f) limit full why → received.Caused (fault_counts a c e) (fault_counts b d f) (ended_log why)
  caused_log (log.LogFull end wanted most) s = tt
  caused_log log.DiskFault s = one full s
    where
      one : (o : Option Asked) → IsStopOf (Rose e f) limit o log.DiskFault → Rose e f
      one None (inl x) = absurd x
      one (Some x) (inl y) = cc
      one o (inr x) = x
  caused_log (log.NotStore group) s = one full s
    where
      one : (o : Option Asked) → IsStopOf (Rose e f) limit o (log.NotStore group) → Rose e f
      one None (inl x) = absurd x
      one (Some x) (inl y) = cc
      one o (inr x) = absurd x
  caused_log (log.StoreThere size) s = one full s
    where
      one : (o : Option Asked) → IsStopOf (Rose e f) limit o (log.StoreThere size) → Rose e f
      one None (inl x) = absurd x
      one (Some x) (inl y) = cc
      one o (inr x) = absurd x

  pub caused_at : (why : StoreStop) → IsNoRefusal why → IfLog {T = Unit {0}} (Err why) (IsStopOf (Rose e f) limit full) → received.Caused (fault_counts a c e) (fault_counts b d f) (stopped_as why)
  caused_at (stop.Refused refusal) n s = absurd n
  caused_at stop.NoMemory n s = tt
  caused_at (stop.Log why) n s = caused_log why s

-- The stops are the usual ones.
pub usual_log : (cause : Type 0) (limit : ℕ) (full : Option Asked) (why : LogStop) → IsStopOf cause limit full why → IsUsualLog why
usual_log cause limit full (log.LogFull end wanted most) s = tt
usual_log cause limit full log.DiskFault s = tt
usual_log cause limit full (log.NotStore group) s = one full s
  where
    one : (o : Option Asked) → IsStopOf cause limit o (log.NotStore group) → ⊥
    one None (inl f) = f
    one None (inr f) = f
    one (Some a) (inl f) = cc
    one (Some a) (inr f) = f
usual_log cause limit full (log.StoreThere size) s = one full s
  where
    one : (o : Option Asked) → IsStopOf cause limit o (log.StoreThere size) → ⊥
    one None (inl f) = f
    one None (inr f) = f
    one (Some a) (inl f) = cc
    one (Some a) (inr f) = f
