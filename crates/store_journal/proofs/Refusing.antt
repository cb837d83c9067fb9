-- A call that the journal stops has not been refused.
use Rattle.std.specs.Prelude.{◌≡◌, Option, None, Some, Result, Ok, Err, IfSome}
use Rattle.std.proofs.Common.{sym, subst}
use Rattle.send_model.specs.Refusal as meant
use Rattle.send_model.specs.Subvolume.{Subvolume}
use Rattle.send_model.specs.Store.{Head, Part, Store}
use Rattle.clone_resolve.specs.Heads.{Begins}
use Rattle.group_log.specs.declared.stops.LogStop.{LogStop}
use Rattle.group_replay.specs.declared.stops.StoreStop.{StoreStop}
use Rattle.group_replay.specs.declared.stops.StoreStop.TheVariants as stop
use Rattle.group_replay.specs.Stopping.{IsNoRefusal}
use Rattle.store_journal.specs.Answers.{BeginsIn, EditsIn}

pub stopped_edits : {C : Type 0} (A : Type 0) (why : StoreStop) (old new : Part C) (said : Result (Subvolume C) meant.Refusal) → IsNoRefusal why → said ≡ Ok new.subvolume → EditsIn {A = A} (Err why) old new said
stopped_edits A (stop.Refused refusal) old new said other is = absurd other
stopped_edits A stop.NoMemory old new said other is = tt
stopped_edits A (stop.Log log) old new said other is = is

pub stopped_begins : {C : Type 0} (why : StoreStop) (o : Option Head) (part : Part C) (old middle new : Store C) → IsNoRefusal why → IfSome o (λ head. Begins (Ok part) head old middle) → IfSome o (λ head. BeginsIn {C = C} (Err why) head old new)
stopped_begins why None part old middle new other begins = tt
stopped_begins (stop.Refused refusal) (Some head) part old middle new other begins = absurd other
stopped_begins stop.NoMemory (Some head) part old middle new other begins = tt
stopped_begins (stop.Log log) (Some head) part old middle new other begins = (part.subvolume, begins.0)

-- The same where the group of the edits does not begin.
pub unstarted : {C : Type 0} (why : StoreStop) (log : LogStop) (o : Option Head) (part : Part C) (old middle new : Store C) → why ≡ stop.Log log → IfSome o (λ head. BeginsIn (Ok part) head old middle) → IfSome o (λ head. BeginsIn {C = C} (Err why) head old new)
unstarted why log None part old middle new is begins = tt
unstarted {C} why log (Some head) part old middle new is begins = subst (λ (w : StoreStop). BeginsIn {C = C} (Err w) head old new) (sym is) (part.subvolume, begins.0)

-- What holds anyway holds of a head that is refused.
pub anyway : (P : Head → Type 0) (Q : Type 0) (o : Option Head) → Q → IfSome o (λ head. P head → Q)
anyway P Q None q = tt
anyway P Q (Some head) q = λ p. q
