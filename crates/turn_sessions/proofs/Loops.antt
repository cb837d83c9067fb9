-- One turn after another.
use Rattle.std.specs.Prelude.{◌≡◌, ◌≤◌, ◌<◌, ◌+◌, ◌-◌, ℕ, zero, suc, List, [], ◌∷◌, ◌++◌, length, take, drop, replicate, get_or, Option, None, Some, slice_get}
use Rattle.std.proofs.Common.{refl, sym, ap, subst, ◌∙◌, arith, append_assoc, append-nil}
use Rattle.sx_base.specs.Calls.{IfAllTold, contents}
use Rattle.store_model.specs.Turns as meant
use Rattle.store_model.specs.Turns.{Turns, one_turn, after_turns, to_the_end}
use Rattle.turn_sessions.specs.Standing.{Blank, blank_cells}
use Rattle.turn_sessions.specs.Ends.{places_of}

pub next_place : (xs : List ℕ) (i d : ℕ) → i < length xs → drop i (places_of xs) ≡ (get_or xs i d - 48) ∷ drop (i + 1) (places_of xs)
next_place [] i d lt = absurd (omega (arith, lt))
next_place (x ∷ xs) zero d lt = refl
next_place (x ∷ xs) (suc i) d lt =
    let same : suc (i + 1) ≡ suc i + 1 = omega arith in
    next_place xs i d (omega (arith, lt)) ∙ ap (λ (k : ℕ). (get_or xs i d - 48) ∷ drop k (places_of (x ∷ xs))) same

pub places_end : (xs : List ℕ) (i : ℕ) → length xs ≤ i → drop i (places_of xs) ≡ []
places_end [] zero le = refl
places_end [] (suc i) le = refl
places_end (x ∷ xs) zero le = absurd (omega (arith, le))
places_end (x ∷ xs) (suc i) le = places_end xs i (omega (arith, le))

-- One turn more of those of a schedule.
pub turns_next : (w : Turns Blank) (xs : List ℕ) (i d : ℕ) → i < length xs → after_turns tt blank_cells w (take (i + 1) (places_of xs)) ≡ one_turn tt blank_cells (after_turns tt blank_cells w (take i (places_of xs))) (get_or xs i d - 48)
unfolding after_turns
turns_next w [] i d lt = absurd (omega (arith, lt))
turns_next w (x ∷ xs) zero d lt = refl
turns_next w (x ∷ xs) (suc i) d lt =
    let same : suc i + 1 ≡ suc (i + 1) = omega arith in
    ap (λ (k : ℕ). after_turns tt blank_cells w (take k (places_of (x ∷ xs)))) same ∙ turns_next (one_turn tt blank_cells w (x - 48)) xs i d (omega (arith, lt))

pub places_all : (xs : List ℕ) (i : ℕ) → length xs ≤ i → take i (places_of xs) ≡ places_of xs
places_all [] zero le = refl
places_all [] (suc i) le = refl
places_all (x ∷ xs) zero le = absurd (omega (arith, le))
places_all (x ∷ xs) (suc i) le = ap (λ (l : List ℕ). (x - 48) ∷ l) (places_all xs i (omega (arith, le)))

-- The turns of each session to its end, one session after the other: those of the first ones, and
-- the turns of the next one behind them.
pub ends_next : (ss : List (meant.Session Blank)) (k n : ℕ) (f : meant.Session Blank) → slice_get ss n ≡ Some f → to_the_end k (drop n ss) ≡ replicate (suc (length f.items)) k ++ to_the_end (k + 1) (drop (n + 1) ss)
unfolding to_the_end
ends_next [] k n f e = cc
ends_next (x ∷ ss) k zero f e = ap (λ (y : meant.Session Blank). replicate (suc (length y.items)) k ++ to_the_end (k + 1) ss) (inside e)
  where
    inside : {A : Type 0} {x y : A} → Some x ≡ Some y → x ≡ y
    inside q = cc
ends_next (x ∷ ss) k (suc n) f e =
    let same : suc (n + 1) ≡ suc n + 1 = omega arith in
    ends_next ss k n f e ∙ ap (λ (m : ℕ). replicate (suc (length f.items)) k ++ to_the_end (k + 1) (drop m (x ∷ ss))) same

pub front_next : (ss : List (meant.Session Blank)) (k n : ℕ) (f : meant.Session Blank) → slice_get ss n ≡ Some f → to_the_end k (take (n + 1) ss) ≡ to_the_end k (take n ss) ++ replicate (suc (length f.items)) (k + n)
unfolding to_the_end
front_next [] k n f e = cc
front_next (x ∷ ss) k zero f e =
    let same : k ≡ k + 0 = omega arith in
    append-nil (replicate (suc (length x.items)) k) ∙ (λ i. replicate (suc (length ((inside e i).items))) (same i))
  where
    inside : {A : Type 0} {x y : A} → Some x ≡ Some y → x ≡ y
    inside q = cc
front_next (x ∷ ss) k (suc n) f e =
    let there : k + 1 + n ≡ k + suc n = omega arith in
    let same : suc n + 1 ≡ suc (n + 1) = omega arith in
    ap (λ (m : ℕ). to_the_end k (take m (x ∷ ss))) same
    ∙ ap (λ (l : List ℕ). replicate (suc (length x.items)) k ++ l) (front_next ss (k + 1) n f e ∙ ap (λ (m : ℕ). to_the_end (k + 1) (take n ss) ++ replicate (suc (length f.items)) m) there)
    ∙ sym (append_assoc (replicate (suc (length x.items)) k) (to_the_end (k + 1) (take n ss)) (replicate (suc (length f.items)) (k + suc n)))

pub front_here : (ss : List (meant.Session Blank)) (n : ℕ) (f : meant.Session Blank) → slice_get ss n ≡ Some f → to_the_end 0 (take (n + 1) ss) ≡ to_the_end 0 (take n ss) ++ replicate (suc (length f.items)) n
front_here ss n f e =
    let same : 0 + n ≡ n = omega arith in
    front_next ss 0 n f e ∙ ap (λ (m : ℕ). to_the_end 0 (take n ss) ++ replicate (suc (length f.items)) m) same

pub ends_all : (ss : List (meant.Session Blank)) (k m n : ℕ) → length ss ≤ n → (to_the_end k (take n ss) ≡ to_the_end k ss) × (to_the_end m (drop n ss) ≡ [])
unfolding to_the_end
ends_all [] k m zero le = (refl, refl)
ends_all [] k m (suc n) le = (refl, refl)
ends_all (x ∷ ss) k m zero le = absurd (omega (arith, le))
ends_all (x ∷ ss) k m (suc n) le = let r = ends_all ss (k + 1) m n (omega (arith, le)) in (ap (λ (l : List ℕ). replicate (suc (length x.items)) k ++ l) r.0, r.1)

module _ (names : List (List ℕ)) (A C : List (List ℕ) → Type 0) (B : List ℕ → List (List ℕ) → Type 0) (l m : List ℕ) (same : l ≡ m) where
  pub chain : (told now : Option (List (List ℕ × List ℕ))) → now ≡ told → IfAllTold told names (λ f. A f → B l f) → IfAllTold now names (λ f. B m f → C f) → IfAllTold told names (λ f. A f → C f)
  chain told now is first second = one told first (subst (λ (t : Option (List (List ℕ × List ℕ))). IfAllTold t names (λ f. B m f → C f)) is second)
    where
      one : (t : Option (List (List ℕ × List ℕ))) → IfAllTold t names (λ f. A f → B l f) → IfAllTold t names (λ f. B m f → C f) → IfAllTold t names (λ f. A f → C f)
      one None p q = tt
      one (Some table) p q = λ a. q (subst (λ (k : List ℕ). B k (contents table names)) same (p a))

  pub at_end : (told : Option (List (List ℕ × List ℕ))) → IfAllTold told names (λ f. A f → B l f) → IfAllTold told names (λ f. A f → B m f)
  at_end told first = subst (λ (k : List ℕ). IfAllTold told names (λ f. A f → B k f)) same first

pub always_so : (told : Option (List (List ℕ × List ℕ))) (names : List (List ℕ)) (A : List (List ℕ) → Type 0) → IfAllTold told names (λ files. A files → A files)
always_so None names A = tt
always_so (Some table) names A = λ a. a
