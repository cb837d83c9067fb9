-- Where the edits of an entry are on a disk. This program's own.
use Rattle.std.specs.Prelude.{◌≡◌, ⊤, ℕ, ◌-◌, ◌≤◌, ◌==◌, true, List, map, take, drop, Option, None, Some, if◌then◌else◌}
use Rattle.std.specs.List.{AllByRecursion}
use Rattle.send_model.specs.Reading.{is_version}
use Rattle.send_model.specs.Spelling.{canonical_all}
use Rattle.sx_base.specs.Disk.{Pending}
use Rattle.store_model.specs.Image.{Header, HasGroups, HasFault}
use Rattle.store_model.specs.Stored.{Group, IsGroup, body_bytes}
use Rattle.stream_model.specs.OwnStream.{Edits, edits_in, last_edits}
use Rattle.group_log.specs.State.{LogState}
use Rattle.group_log.specs.Journal.{Reads}
use Rattle.group_log.specs.declared.stops.LogStop.{LogStop}
use Rattle.group_log.specs.declared.stops.LogStop.TheVariants.{DiskFault, NotStore, LogFull, StoreThere}
use Rattle.edits_copy.specs.declared.place.EditsPlace.{EditsPlace}

-- The place is one of a known version before an end.
pub record IsWithin (end : ℕ) (place : EditsPlace) : Type 0 where
  pub order : place.from ≤ place.to
  pub ends : place.to ≤ end
  pub version : is_version place.version ≡ true

-- The bytes at a place.
abbrev pub bytes_at : EditsPlace → List ℕ → List ℕ
bytes_at place seen = take (place.to - place.from) (drop place.from seen)

-- A place is that of edits, if there are any.
abbrev pub IsPlaceOf : List ℕ → Option Edits → Option EditsPlace → Type 0
IsPlaceOf seen None None = ⊤
IsPlaceOf seen None (Some place) = ⊥
IsPlaceOf seen (Some edits) None = ⊥
IsPlaceOf seen (Some edits) (Some place) =
    (place.version ≡ edits.version)
    × (bytes_at place seen ≡ canonical_all edits.version edits.commands)

-- The same in a body that stands at a place.
abbrev pub IsPlaceIn : ℕ → List ℕ → Option Edits → Option EditsPlace → Type 0
IsPlaceIn at body None None = ⊤
IsPlaceIn at body None (Some place) = ⊥
IsPlaceIn at body (Some edits) None = ⊥
IsPlaceIn at body (Some edits) (Some place) =
    (place.version ≡ edits.version) × (at ≤ place.from)
    × (take (place.to - place.from) (drop (place.from - at) body)
    ≡ canonical_all edits.version edits.commands)

-- Whatever group has a body, the place is that of its edits.
abbrev pub FindsIn : List ℕ → ℕ → List ℕ → Option EditsPlace → Type 0
FindsIn uuid at body place = (format : ℕ) (group : Group) → IsGroup format group
    → body_bytes group ≡ body → IsPlaceIn at body (edits_in uuid group.content) place

-- Whatever groups have bodies, the place is that of their last edits.
abbrev pub FindsFirst : ℕ → List ℕ → List ℕ → List (List ℕ) → Option EditsPlace → Type 0
FindsFirst format uuid seen bodies place = (groups : List Group)
    → AllByRecursion (IsGroup format) groups → map body_bytes groups ≡ bodies
    → IsPlaceOf seen (last_edits uuid groups) place

-- Whatever groups an image has, the place is that of their last edits.
abbrev pub FindsAll : List ℕ → List ℕ → Option EditsPlace → Type 0
FindsAll seen uuid place = (header : Header) (groups : List Group)
    → HasGroups header (map body_bytes groups) seen
    → AllByRecursion (IsGroup header.format) groups → IsPlaceOf seen (last_edits uuid groups) place

-- The groups so far were read, and the place is that of their last edits.
pub record HasFound (uuid : List ℕ) (log : LogState) (seen : List ℕ) (pending : Pending)
    (place : Option EditsPlace) : Type 0 where
  pub header : Header
  pub bodies : List (List ℕ)
  pub reads : Reads header bodies log seen pending
  pub places : FindsFirst header.format uuid seen bodies place

-- The later of two places, if there are two.
abbrev pub later_place : Option EditsPlace → Option EditsPlace → Option EditsPlace
later_place found None = found
later_place found (Some place) = Some place

-- How many bytes end a group that has edits, by its number.
abbrev pub seal_by : ℕ → Option ℕ
seal_by first = if first == 5 then Some 4 else if first == 2 then Some 0 else None

-- The journal that stops names a group that is cut short.
abbrev pub FindStops : List ℕ → LogStop → Type 0
FindStops seen DiskFault = ⊤
FindStops seen (NotStore group) = HasFault seen group
FindStops seen (LogFull end wanted limit) = ⊤
FindStops seen (StoreThere size) = ⊤

-- Why it stops, whether or not a disk tells: the disk failed, for which there is this cause, or the
-- bytes are no store.
abbrev pub IsCausedStop : Type 0 → LogStop → Type 0
IsCausedStop cause DiskFault = cause
IsCausedStop cause (NotStore group) = ⊤
IsCausedStop cause (LogFull end wanted limit) = ⊥
IsCausedStop cause (StoreThere size) = ⊥
