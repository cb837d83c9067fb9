-- The entry behind a key. Source: this project; `value_at`, `with_value` and `without` are the
-- definitions' words for maps.
use Rattle.std.specs.Prelude.{Option, slice_get}
use Rattle.std.specs.Ordering.{is_lt}
use Rattle.std.specs.declared.cmp.Ordering.{Ordering}
use Rattle.std.specs.FinMap.Entries.{where_key}
use Rattle.send_model.specs.Map.{Map}

-- The entries whose keys are above a key, which need not be in the map.
abbrev pub entries_above : {K V : Type 0} → (K → K → Ordering) → K → Map K V → Map K V
entries_above order key m = where_key order (λ k. is_lt (order key k)) m

-- The one with the least key above it, if there is any.
abbrev pub entry_after : {K V : Type 0} → (K → K → Ordering) → K → Map K V → Option (K × V)
entry_after order key m = slice_get (entries_above order key m) 0
