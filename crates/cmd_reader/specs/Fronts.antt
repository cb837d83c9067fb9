-- Why a file is not read on.
use Rattle.std.specs.Prelude.{◌≡◌, ℕ, ◌<◌, ◌≤◌, true, List, length, take}
use Rattle.send_model.specs.Refusal as meant
use Rattle.send_model.specs.Lengths.{limit, is_truncated}

-- The bytes of a file are refused for a reason; only one that ends before the limit is refused as
-- cut short.
abbrev pub IsRefused : (meant.Refusal → List ℕ → Type 0) → meant.Refusal → List ℕ → Type 0
IsRefused bad refusal file = bad refusal file × (is_truncated refusal ≡ true → length file < limit)

-- A file that reaches to a place has as many bytes as are read at the most, and these are cut
-- short.
abbrev pub IsLongAt : ℕ → (List ℕ → Type 0) → List ℕ → Type 0
IsLongAt at short file = at ≤ length file → (limit ≤ length file) × short (take limit file)
