-- The edits of a part that are written at once into the group of the part. This program's own.
use Rattle.std.specs.Prelude.{◌≡◌, ◌⊎◌, ⊤, ℕ, ◌+◌, false, List, [], ◌∷◌, ◌++◌, length, Option, None, Some, Result, Ok, Err}
use Rattle.std.specs.List.{AllByRecursion}
use Rattle.send_model.specs.Command.{Command}
use Rattle.send_model.specs.Spelling.{canonical, canonical_all, attributes_of}
use Rattle.send_model.specs.Reading.{data_place}
use Rattle.send_model.specs.Receive.{bytes_of}
use Rattle.send_model.specs.Subvolume.{Subvolume}
use Rattle.send_model.specs.Store.{Store, Part, State, edit_part}
use Rattle.store_model.specs.Stored.{Body, body_at, IsEdit, edits_made, made}
use Rattle.group_log.specs.declared.stops.LogStop.{LogStop}
use Rattle.group_log.specs.declared.stops.LogStop.TheVariants as log
use Rattle.group_replay.specs.declared.place.Place.{Place}
use Rattle.group_replay.specs.declared.stops.StoreStop.{StoreStop}
use Rattle.group_replay.specs.declared.stops.StoreStop.TheVariants as stop
use Rattle.group_replay.specs.Taking.{as_runs, open_state}
use Rattle.store_journal.specs.Shown.{StoreState}
use Rattle.store_journal.specs.Filling.{Asked, group_asks}

-- Bytes are the frames of edits.
pub record AreFrames (version : ℕ) (bytes : List ℕ) (commands : List Command) : Type 0 where
  pub lawful : AllByRecursion (IsEdit version) commands
  pub spelled : bytes ≡ canonical_all version commands

-- The frame of one edit is in front of bytes.
pub record IsFront (version : ℕ) (bytes : List ℕ) (c : Command) (more : List ℕ) : Type 0 where
  pub edit : IsEdit version c
  pub is : bytes ≡ canonical version c ++ more

-- The edit comes next, and is not refused.
abbrev pub IsTaken : ℕ → StoreState → Part (Option Place) → Command → Subvolume (Option Place)
    → Type 0
IsTaken version store part c middle =
    edit_part None
    (as_runs (data_place version store.log.size (attributes_of c)) (bytes_of c)) store.core part c
    ≡ Ok middle

-- Edits that come next make one part of another: none of them is refused.
abbrev pub AreMade : ℕ → StoreState → Part (Option Place) → List Command → State (Option Place)
    → Type 0
AreMade version store part commands end =
    edits_made None as_runs version store.log.size (open_state store.core part) commands ≡ Some end

-- The edits of an unfinished entry complete it: their group makes one store of another.
abbrev pub IsCompletedBy : ℕ → List ℕ → StoreState → List Command → Store (Option Place) → Type 0
IsCompletedBy version uuid store commands new =
    made None as_runs (body_at store.log.gate) store.core (Body uuid version commands) ≡ Some new

-- What their frames ask for, one after the other.
abbrev pub frame_asks : ℕ → ℕ → List Command → List Asked
frame_asks version place [] = []
frame_asks version place (c ∷ commands) =
    record { place = place; wanted = length (canonical version c) }
    ∷ frame_asks version (place + length (canonical version c)) commands

-- What all their group asks for.
abbrev pub body_asks : ℕ → ℕ → List Command → List Asked
body_asks version gate commands = group_asks gate 18 ++ frame_asks version (gate + 27) commands

-- Where there was no memory, P holds, or the store may not be used again, as where its journal
-- stopped.
abbrev pub IfStopped : {T : Type 0} → Result T StoreStop → StoreState → Type 0 → Type 0
IfStopped (Ok x) store P = ⊤
IfStopped (Err (stop.Refused refusal)) store P = ⊥
IfStopped (Err stop.NoMemory) store P = P ⊎ (store.is_live ≡ false)
IfStopped (Err (stop.Log why)) store P = store.is_live ≡ false

-- Where the next gate stands behind it.
abbrev pub frames_end : ℕ → ℕ → List Command → ℕ
frames_end version place [] = place
frames_end version place (c ∷ commands) =
    frames_end version (place + length (canonical version c)) commands

abbrev pub body_end : ℕ → ℕ → List Command → ℕ
body_end version gate commands = frames_end version (gate + 27) commands + 4

-- Where there is no room.
abbrev pub LogIsFull : LogStop → Type 0 → Type 0
LogIsFull (log.LogFull end wanted limit) P = P
LogIsFull log.DiskFault P = ⊤
LogIsFull (log.NotStore group) P = ⊤
LogIsFull (log.StoreThere size) P = ⊤

abbrev pub IfLogFull : {T : Type 0} → Result T StoreStop → Type 0 → Type 0
IfLogFull (Ok x) P = ⊤
IfLogFull (Err (stop.Refused refusal)) P = ⊤
IfLogFull (Err stop.NoMemory) P = ⊤
IfLogFull (Err (stop.Log why)) P = LogIsFull why P
