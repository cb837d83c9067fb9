-- What is left of a disk if nothing that was written since the last sync was kept.
use Rattle.std.specs.Prelude.{◌≡◌, ℕ, ◌-◌, Bool, true, false, Option, Some, None, List, [], ◌∷◌, ◌++◌, length, replicate}
use Rattle.sx_base.specs.Disk.{Pending}

-- the known bytes, and zeros in the places between them
abbrev pub with_zeros : List (Option ℕ) → List ℕ
with_zeros [] = []
with_zeros (None ∷ known) = 0 ∷ with_zeros known
with_zeros (Some byte ∷ known) = byte ∷ with_zeros known

-- the stable bytes, with the greatest size and zeros where nothing is known
abbrev pub stable_of : Pending → List ℕ
stable_of pending =
    with_zeros pending.known ++ replicate (pending.greatest - length pending.known) 0

-- What a crash leaves of a byte: a byte that is known, and for choice 1 a zero in place of any
-- other.
abbrev pub IsLeft : Bool → ℕ → ℕ → ℕ → Type 0
IsLeft true choice byte left = choice ≡ 1 → left ≡ 0
IsLeft false choice byte left = left ≡ byte
