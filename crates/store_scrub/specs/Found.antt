-- What a scrub says of a journal, and of one group.
use Rattle.std.specs.Prelude.{◌≡◌, ◌≢◌, ℕ, Bool, List, get_or, nat_lt}
use Rattle.std.specs.Int.{w32, from_le_bytes}
use Rattle.std.specs.List.{AllByRecursion}
use Rattle.sx_base.specs.Disk.{Pending}
use Rattle.store_model.specs.Image.{Header}
use Rattle.store_model.specs.Scrub.{IsWhole, IsDamaged, IsNone, IsDamagedAt, IsNoStoreAt, unsealed}
use Rattle.group_log.specs.State.{LogState}
use Rattle.group_log.specs.Journal.{Reads}
use Rattle.group_log.specs.Stopping.{IsFault}
use Rattle.group_log.specs.declared.stops.LogStop.{LogStop}
use Rattle.group_log.specs.declared.stops.LogStop.TheVariants.{DiskFault, NotStore, LogFull, StoreThere}
use Rattle.store_scrub.specs.declared.stops.ScrubStop.{ScrubStop}
use Rattle.store_scrub.specs.declared.stops.ScrubStop.TheVariants.{Log, Damaged}

-- Why a scrub may stop, whether or not the disk tells: the disk failed, for which there is this
-- cause, or the bytes are no store, or two checksums differ.
abbrev pub IsLogStop : Type 0 → LogStop → Type 0
IsLogStop cause DiskFault = cause
IsLogStop cause (NotStore group) = Unit {0}
IsLogStop cause (LogFull end wanted limit) = ⊥
IsLogStop cause (StoreThere size) = ⊥

abbrev pub IsStop : Type 0 → ScrubStop → Type 0
IsStop cause (Log why) = IsLogStop cause why
IsStop cause (Damaged group stored computed) = stored ≢ computed

-- What a stop says of the bytes.
abbrev pub IsLogStopAt : List ℕ → LogStop → Type 0
IsLogStopAt image DiskFault = Unit {0}
IsLogStopAt image (NotStore group) = IsNoStoreAt image group
IsLogStopAt image (LogFull end wanted limit) = ⊥
IsLogStopAt image (StoreThere size) = ⊥

abbrev pub IsStopAt : List ℕ → ScrubStop → Type 0
IsStopAt image (Log why) = IsLogStopAt image why
IsStopAt image (Damaged group stored computed) = IsDamagedAt image group stored computed

-- The body of a whole group, and whether it ends with a checksum.
pub record IsPlainOrSealed (format : ℕ) (body : List ℕ) (is_sealed : Bool) : Type 0 where
  pub whole : IsWhole format body
  pub kind : is_sealed ≡ nat_lt 3 (get_or body 0 0)

-- What a stop at a group says of its body and its number.
abbrev pub IsLogBodyStop : ℕ → List ℕ → ℕ → LogStop → Type 0
IsLogBodyStop format body number DiskFault = Unit {0}
IsLogBodyStop format body number (NotStore group) = (group ≡ number) × IsNone format body
IsLogBodyStop format body number (LogFull end wanted limit) = ⊥
IsLogBodyStop format body number (StoreThere size) = ⊥

abbrev pub IsBodyStop : ℕ → List ℕ → ℕ → ScrubStop → Type 0
IsBodyStop format body number (Log why) = IsLogBodyStop format body number why
IsBodyStop format body number (Damaged group stored computed) =
    (group ≡ number) × IsDamaged body stored computed

-- Why a comparison of a checksum with these four bytes stops: the disk failed, or they are not this
-- checksum. That they differ is said by `IsStop`.
abbrev pub IsOther : ℕ → List ℕ → ℕ → ScrubStop → Type 0
IsOther number seal sum (Log why) = IsFault (Unit {0}) why
IsOther number seal sum (Damaged group stored computed) =
    (group ≡ number) × (stored ≡ from_le_bytes w32 seal) × (computed ≡ sum)

-- All groups that were read so far are whole, and so many of them have no checksum.
pub record HasScrubbed (log : LogState) (seen : List ℕ) (pending : Pending)
    (plain : ℕ) : Type 0 where
  pub header : Header
  pub bodies : List (List ℕ)
  pub reads : Reads header bodies log seen pending
  pub whole : AllByRecursion (IsWhole header.format) bodies
  pub plain_count : unsealed bodies ≡ plain
