-- Digits of a schedule that are places, from a place on.
use Rattle.std.specs.Prelude.{◌≡◌, ℕ, suc, ◌+◌, ◌-◌, ◌≤◌, ◌<◌, List, ◌∷◌, length, drop, get_or}
use Rattle.std.proofs.Common.{sym, subst, drop-cons, add-one}
use Rattle.std.proofs.lemmas.List.{drop_all}
use Rattle.turn_sessions.specs.Ends.{ArePlaces}

digit_there : (word : List ℕ) (place : ℕ) → place < length word → drop place word ≡ get_or word place 0 ∷ drop (suc place) word
digit_there word place less = drop-cons word place 0 less

-- One digit more is a place.
pub place_more : (count : ℕ) (word : List ℕ) (place : ℕ) → place < length word → (48 ≤ get_or word place 0) × (get_or word place 0 - 48 < count) → (ArePlaces count (drop place word) → ArePlaces count word)
    → ArePlaces count (drop (place + 1) word) → ArePlaces count word
place_more count word place less is so_far rest =
    so_far (subst (λ (w : List ℕ). ArePlaces count w) (sym (digit_there word place less)) (is, subst (λ (n : ℕ). ArePlaces count (drop n word)) (add-one place) rest))

-- Behind the last digit none is left.
pub none_left : (count : ℕ) (word : List ℕ) (place : ℕ) → length word ≤ place → ArePlaces count (drop place word)
none_left count word place past = subst (λ (w : List ℕ). ArePlaces count w) (sym (drop_all place word past)) tt
