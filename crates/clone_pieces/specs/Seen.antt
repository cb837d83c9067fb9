-- Cells that are an origin or zero, seen as bytes with the outside places that they come from.
use Rattle.std.specs.Prelude.{ℕ, Option, None, Some}
use Rattle.send_model.specs.Store.{State}
use Rattle.send_model.specs.Provenance.{Place, Traced, fresh}
use Rattle.send_model.specs.Cells.{recelled_state}

-- Where each origin has a byte and perhaps an outside place. A cell without an origin is a zero
-- byte that comes from nowhere.
abbrev pub seen : {O : Type 0} → (O → ℕ) → (O → Option Place) → Option O → Traced
seen byte place None = fresh 0
seen byte place (Some origin) = record { byte = byte origin; place = place origin }

abbrev pub seen_state : {O : Type 0} → (O → ℕ) → (O → Option Place) → State (Option O)
    → State Traced
seen_state byte place state = recelled_state (seen byte place) state
