-- Why a call of the log stops.
use Rattle.std.specs.Prelude.{◌≡◌, ◌⊎◌}
use Rattle.group_log.specs.declared.stops.LogStop.{LogStop}
use Rattle.group_log.specs.declared.stops.LogStop.TheVariants.{DiskFault, NotStore, LogFull, StoreThere}

-- The disk failed, for which there is this cause, and the stop is no other.
abbrev pub IsFault : Type 0 → LogStop → Type 0
IsFault cause DiskFault = cause
IsFault cause (NotStore group) = ⊥
IsFault cause (LogFull end wanted limit) = ⊥
IsFault cause (StoreThere size) = ⊥

-- The stop is this one, or the disk failed.
abbrev pub IsFaultOr : Type 0 → LogStop → LogStop → Type 0
IsFaultOr cause other stop = (stop ≡ other) ⊎ IsFault cause stop
