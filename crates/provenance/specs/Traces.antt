-- Traces as the definitions of provenance have them: a trace to a complete subvolume is a place
-- there, and a fresh one is none. This program's own.
use Rattle.std.specs.Prelude.{Bool, true, false, ℕ, ◌+◌, ◌-◌, ◌^◌, ◌≡◌, Option, None, Some}
use Rattle.send_model.specs.Subvolume.{Subvolume}
use Rattle.send_model.specs.Provenance.{Place, Traced, traced_subvolume}
use Rattle.send_model.specs.Store as meant
use Rattle.send_model.specs.Cells.{recelled}
use Rattle.subvol_catalog.specs.declared.key.Key.{Key}
use Rattle.subvol_catalog.specs.Entries.{key_of}
use Rattle.provenance.specs.declared.trace.Trace.{Trace}
use Rattle.provenance.specs.declared.trace.Trace.TheVariants.{Fresh, Outside}

-- How far the number of a trace can rise below 2^64.
abbrev pub reach_of : Trace → ℕ
reach_of (Fresh file at) = 2 ^ 64 - 1 - at
reach_of (Outside key ino at) = 2 ^ 64 - 1 - at

-- The trace of the byte that many places further on.
abbrev pub advanced_by : Trace → ℕ → Trace
advanced_by (Fresh file at) k = Fresh file (at + k)
advanced_by (Outside key ino at) k = Outside key ino (at + k)

-- Whether a trace leads to a complete subvolume.
abbrev pub is_outside : Trace → Bool
is_outside (Fresh file at) = false
is_outside (Outside key ino at) = true

-- The outside place of a trace, if it has one.
abbrev pub place_of : Trace → Option Place
place_of (Fresh file at) = None
place_of (Outside key ino at) = Some (record { key = key_of key; ino = ino; offset = at })

-- The outside place of a cell. A zero cell has none.
abbrev pub place_in : Option Trace → Option Place
place_in None = None
place_in (Some trace) = place_of trace

-- The trace of the first byte of each inode of a complete subvolume.
abbrev pub first_of : Key → ℕ → Trace
first_of key ino = Outside key ino 0

-- A subvolume with nothing left of its cells but their number.
abbrev pub sized : {C : Type 0} → Subvolume C → Subvolume (Unit {0})
sized s = recelled (λ c. tt) s

-- The cells of a traced subvolume have the places that provenance begins with for each complete
-- subvolume of the same sizes.
abbrev pub IsTracedTo : {C : Type 0} → meant.Key → Subvolume C → Subvolume (Option Trace) → Type 0
IsTracedTo key sub traced =
    (s : Subvolume ℕ) → sized s ≡ sized sub
    → recelled place_in traced ≡ recelled (λ (c : Traced). c.place) (traced_subvolume key s)
