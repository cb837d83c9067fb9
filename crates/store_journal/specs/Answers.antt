-- What a call of the store answers, by what the definitions say.
use Rattle.std.specs.Prelude.{◌≡◌, ℕ, Bool, List, [], ◌∷◌, ◌++◌, Option, None, Some, Result, Ok, Err, ⊤, if◌then◌else◌}
use Rattle.send_model.specs.Refusal as meant
use Rattle.send_model.specs.Subvolume.{Subvolume}
use Rattle.send_model.specs.Store.{Head, Part, Store, begun, unfinished}
use Rattle.sx_base.specs.Refusals.{refusal_of}
use Rattle.group_log.specs.declared.stops.LogStop.{LogStop}
use Rattle.group_log.specs.declared.stops.LogStop.TheVariants as log
use Rattle.group_replay.specs.declared.stops.StoreStop.{StoreStop}
use Rattle.group_replay.specs.declared.stops.StoreStop.TheVariants as stop
use Rattle.store_model.specs.Stored.{Group, Drop}
use Rattle.store_journal.specs.Filling.{Asked}
use Rattle.store_journal.specs.Holding.{new_group}

-- A head begins an entry and its part, or it is refused. Where the journal stops it is not refused.
abbrev pub BeginsIn : {C : Type 0} → Result (Part C) StoreStop → Head → Store C → Store C → Type 0
BeginsIn (Ok part) head old new =
    (begun old head ≡ Ok part.subvolume) × (part.key ≡ head.key)
    × (new ≡ old ++ unfinished head ∷ [])
BeginsIn (Err (stop.Refused refusal)) head old new = begun old head ≡ Err (refusal_of refusal)
BeginsIn (Err stop.NoMemory) head old new = ⊤
BeginsIn {C} (Err (stop.Log why)) head old new = (start : Subvolume C) × (begun old head ≡ Ok start)

-- An edit changes the part, or it is refused and the part is unchanged. Where the journal stops it
-- is not refused.
abbrev pub EditsIn : {A C : Type 0} → Result A StoreStop → Part C → Part C
    → Result (Subvolume C) meant.Refusal → Type 0
EditsIn (Ok done) old new said = said ≡ Ok new.subvolume
EditsIn (Err (stop.Refused refusal)) old new said =
    (said ≡ Err (refusal_of refusal)) × (new.subvolume ≡ old.subvolume)
EditsIn (Err stop.NoMemory) old new said = ⊤
EditsIn (Err (stop.Log why)) old new said = said ≡ Ok new.subvolume

-- The groups after a drop: one more where there was an entry of the name.
abbrev pub groups_without : Bool → List ℕ → List Group → List Group
groups_without there name groups = if there then groups ++ new_group (Drop name) ∷ [] else groups

-- What holds where the journal stops though the disk did not fail.
abbrev pub IfNoFault : LogStop → Type 0 → Type 0
IfNoFault log.DiskFault P = ⊤
IfNoFault (log.NotStore group) P = P
IfNoFault (log.LogFull end wanted limit) P = P
IfNoFault (log.StoreThere size) P = P

-- What holds where a call stops so: it is refused, or memory or room is short.
abbrev pub IfShort : {T : Type 0} → Result T StoreStop → Type 0 → Type 0
IfShort (Ok x) P = ⊤
IfShort (Err (stop.Refused refusal)) P = P
IfShort (Err stop.NoMemory) P = P
IfShort (Err (stop.Log why)) P = IfNoFault why P

-- What holds where a head stops so, by what its own group meets at the limit: P where that group
-- was not written, Q where it was and the group of the edits did not begin.
abbrev pub IfHeadShort : {T : Type 0} → Result T StoreStop → Option Asked → (P Q : Type 0) → Type 0
IfHeadShort (Ok x) full P Q = ⊤
IfHeadShort (Err (stop.Refused refusal)) full P Q = P
IfHeadShort (Err stop.NoMemory) full P Q = P
IfHeadShort (Err (stop.Log why)) (Some asked) P Q = IfNoFault why P
IfHeadShort (Err (stop.Log why)) None P Q = IfNoFault why Q
