-- A call that stops though the disk did not fail has left the groups that there were; and a group
-- that has no room was never there.
use Rattle.std.specs.Prelude.{◌≡◌, ℕ, ◌<◌, ◌≤◌, Bool, true, false, List, ◌++◌, Option, None, Some, IfSome, nat_lt}
use Rattle.std.proofs.Common.{refl, sym, subst}
use Rattle.std.proofs.lemmas.Bool.{ltb-true, ltb-false}
use Rattle.sx_base.specs.Disk.{Pending}
use Rattle.store_model.specs.Image.{Header}
use Rattle.group_log.specs.State.{LogState}
use Rattle.group_log.specs.Journal.{IsBehind, Rests, Grows}
use Rattle.group_log.specs.Stopping.{IsFault}
use Rattle.group_log.specs.declared.stops.LogStop.{LogStop}
use Rattle.group_log.specs.declared.stops.LogStop.TheVariants as log
use Rattle.store_journal.specs.Filling.{Asked}
use Rattle.store_journal.specs.Answers.{IfNoFault}

-- ---- stops of the journal

stopped_anyhow : (P : Type 0) (why : LogStop) → P → IfNoFault why P
stopped_anyhow P log.DiskFault p = tt
stopped_anyhow P (log.NotStore group) p = p
stopped_anyhow P (log.LogFull end wanted limit) p = p
stopped_anyhow P (log.StoreThere size) p = p

only_fault : (cause P : Type 0) (why : LogStop) → IsFault cause why → IfNoFault why P
only_fault cause P log.DiskFault fault = tt
only_fault cause P (log.NotStore group) fault = absurd fault
only_fault cause P (log.LogFull end wanted limit) fault = absurd fault
only_fault cause P (log.StoreThere size) fault = absurd fault

-- A call that does not fit calls no disk, and one that fits stops for faults alone.
pub full_keeps : {D : Type 0} (P : D → Type 0) (old new : D) (a b : ℕ) (full cause : Type 0) (why : LogStop) → (a < b → full × (new ≡ old)) → (b ≤ a → IsFault cause why) → P old → IfNoFault why (P new)
full_keeps P old new a b full cause why no_room fault p = by_test (nat_lt a b) refl
  where
    by_test : (t : Bool) → nat_lt a b ≡ t → IfNoFault why (P new)
    by_test true e = stopped_anyhow (P new) why (subst P (sym (no_room (ltb-true a b e)).1) p)
    by_test false e = only_fault cause (P new) why (fault (ltb-false a b e))

-- ---- groups that are still there

pub grown_rests : (header : Header) (bodies : List (List ℕ)) (body : List ℕ) (old new : LogState) (seen : List ℕ) (pending : Pending) → IsBehind header bodies old → Grows header bodies body new seen pending → Rests header bodies old seen pending
grown_rests header bodies body old new seen pending behind grows =
    record { behind = behind; gate = grows.gate; closed = grows.closed; rest = grows.space ++ body; bytes = grows.bytes; stable = grows.stable }

-- ---- room

pub whether_full : (P : Type 0) (full : Option Asked) → P → IfSome full (λ a. P)
whether_full P None p = tt
whether_full P (Some a) p = p
