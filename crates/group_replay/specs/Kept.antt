-- What holds of a store's subvolumes, whether or not a disk tells: where their bytes stand, that
-- commands can say their values, and that they are lawful.
use Rattle.std.specs.Prelude.{⊤, ℕ, ◌<◌, Option, None, Some, IfSome}
use Rattle.std.specs.List.{AllByRecursion}
use Rattle.send_model.specs.Cells.{Holds}
use Rattle.send_model.specs.Subvolume.{Subvolume, IsLawful}
use Rattle.send_model.specs.Store.{Store}
use Rattle.group_replay.specs.declared.place.Place.{Place}
use Rattle.group_replay.specs.Said.{AllSaid}

-- A cell is zero, or its byte stands before a place.
abbrev pub StandsBefore : ℕ → Option Place → Type 0
StandsBefore end None = ⊤
StandsBefore end (Some place) = place.at < end

-- A lawful subvolume whose bytes all stand before a place.
pub record IsKept (end : ℕ) (s : Subvolume (Option Place)) : Type 0 where
  pub places : Holds (StandsBefore end) s
  pub said : AllSaid s
  pub lawful : IsLawful s

-- So do those of each complete subvolume.
abbrev pub AreKept : ℕ → Store (Option Place) → Type 0
AreKept end core = AllByRecursion (λ e. IfSome e.contents (IsKept end)) core
