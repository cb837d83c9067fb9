-- The commands of version 2 are those of version 1, and two more.
use Rattle.std.specs.Prelude.{◌≡◌, ℕ, ◌==◌, Bool, true, false, List, [], ◌∷◌, ◌++◌, None, Some, if◌then◌else◌}
use Rattle.std.specs.List.{find}
use Rattle.std.proofs.Common.{refl}
use Rattle.send_model.specs.Command.{Kind, FALLOCATE, FILEATTR, row, first_kinds, all_kinds}

-- What is found among more, where it is not among those behind.
find_front : (p : Kind → Bool) (front behind : List Kind) → find p behind ≡ None → find p (front ++ behind) ≡ find p front
find_front p [] behind none = none
find_front p (kind ∷ front) behind none = go (p kind) (find_front p front behind none)
  where
    go : (b : Bool) → find p (front ++ behind) ≡ find p front → (if b then Some kind else find p (front ++ behind)) ≡ (if b then Some kind else find p front)
    go true e = refl
    go false e = e

pub second_kinds : (number : ℕ) → (23 == number) ≡ false → (24 == number) ≡ false → find (λ kind. (row kind).number == number) all_kinds ≡ find (λ kind. (row kind).number == number) first_kinds
unfolding row
second_kinds number one two = find_front (λ kind. (row kind).number == number) first_kinds (FALLOCATE ∷ FILEATTR ∷ []) (rw (one, two) refl)
