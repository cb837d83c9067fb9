-- Which call of a journal meets its limit first, of several in a row.
use Rattle.std.specs.Prelude.{◌≡◌, ◌⊎◌, ℕ, ◌+◌, List, [], ◌∷◌, ◌++◌, Option, None, Some, nat_lt, if◌then◌else◌}
use Rattle.store_model.specs.Image.{reserve}
use Rattle.group_log.specs.declared.stops.LogStop.{LogStop}
use Rattle.group_log.specs.declared.stops.LogStop.TheVariants.{LogFull}
use Rattle.group_log.specs.Stopping.{IsFault}

-- Bytes that are asked for at a place.
pub record Asked : Type 0 where
  pub place : ℕ
  pub wanted : ℕ

-- The first that goes past the limit, with the reserve behind it.
abbrev pub first_full : ℕ → List Asked → Option Asked
first_full limit [] = None
first_full limit (a ∷ more) =
    if nat_lt limit (a.place + a.wanted + reserve) then Some a else first_full limit more

-- What a whole group asks for: its gate and length, and what is put into it.
abbrev pub group_asks : ℕ → ℕ → List Asked
group_asks gate len =
    record { place = gate; wanted = 9 } ∷ record { place = gate + 9; wanted = len } ∷ []

-- The gate behind a whole group of so many bytes and their checksum.
abbrev pub gate_behind : ℕ → ℕ → ℕ
gate_behind gate len = gate + 9 + len + 4

-- The stop says that the limit was met there.
abbrev pub IsFullAt : ℕ → Option Asked → LogStop → Type 0
IsFullAt limit None why = ⊥
IsFullAt limit (Some a) why = why ≡ LogFull a.place a.wanted limit

-- The disk failed, for which there is this cause, or the limit was met where it is met first.
abbrev pub IsStopOf : Type 0 → ℕ → Option Asked → LogStop → Type 0
IsStopOf cause limit full why = IsFullAt limit full why ⊎ IsFault cause why

-- What a head asks for: a group of so many bytes, and the eighteen bytes in front of a group of
-- edits.
abbrev pub head_asks : ℕ → ℕ → List Asked
head_asks gate len = group_asks gate len ++ group_asks (gate_behind gate len) 18

-- What one piece asks for.
abbrev pub piece_asks : ℕ → ℕ → List Asked
piece_asks place len = record { place = place; wanted = len } ∷ []
