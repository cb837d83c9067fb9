-- Tests on places of a range.
use Rattle.std.specs.Prelude.{◌≡◌, ℕ, ◌+◌, ◌-◌, ◌<◌, ◌≤◌, Bool, true, false, ◌&&◌, ◌||◌, nat_le, nat_lt, ◌⊎◌}
use Rattle.std.proofs.Common.{refl, sym, ap, ◌∙◌, arith, inl, inr}
use Rattle.std.proofs.lemmas.Bool.{cases_lt, lt-ltb, ltb-true, le-leb, leb-true, false_from_ne_true}
use Rattle.squash_model.specs.Liveness.{covers}

pub lt_yes : (p n : ℕ) → p < n → nat_lt p n ≡ true
lt_yes p n h = lt-ltb p n h

pub lt_no : (p n : ℕ) → n ≤ p → nat_lt p n ≡ false
lt_no p n h = false_from_ne_true (nat_lt p n) (λ e. let l = ltb-true p n e in omega (arith, h, l))

pub le_yes : (p n : ℕ) → p ≤ n → nat_le p n ≡ true
le_yes p n h = le-leb p n h

pub le_no : (p n : ℕ) → n < p → nat_le p n ≡ false
le_no p n h = false_from_ne_true (nat_le p n) (λ e. let l = leb-true p n e in omega (arith, h, l))

pub covers_no : (at len p : ℕ) → (p < at) ⊎ (at + len ≤ p) → covers at len p ≡ false
covers_no at len p (inl below) = ap (λ (b : Bool). b && nat_lt p (at + len)) (le_no at p below)
covers_no at len p (inr behind) = ap (λ (b : Bool). nat_le at p && b) (lt_no p (at + len) behind) ∙ and_false (nat_le at p)
  where
    and_false : (b : Bool) → (b && false) ≡ false
    and_false true = refl
    and_false false = refl

-- A place of a range, counted from the range's start.
pub covers_from : (at len p : ℕ) → covers at len p ≡ (nat_le at p && nat_lt (p - at) len)
covers_from at len p = elim (cases_lt p at) [
  | inl below ↦ ap (λ (b : Bool). b && nat_lt p (at + len)) (le_no at p below) ∙ sym (ap (λ (b : Bool). b && nat_lt (p - at) len) (le_no at p below))
  | inr above ↦ ap (λ (b : Bool). nat_le at p && b) (elim (cases_lt p (at + len)) [
    | inl within ↦ lt_yes p (at + len) within ∙ sym (lt_yes (p - at) len (omega (arith, above, within)))
    | inr behind ↦ lt_no p (at + len) behind ∙ sym (lt_no (p - at) len (omega (arith, above, behind)))
  ])
]

pub and_assoc : (a b c : Bool) → (a && (b && c)) ≡ ((a && b) && c)
and_assoc true b c = refl
and_assoc false b c = refl

pub or_assoc : (a b c : Bool) → (a || (b || c)) ≡ ((a || b) || c)
or_assoc true b c = refl
or_assoc false b c = refl

pub or_turn : (a b : Bool) → (a || b) ≡ (b || a)
or_turn true true = refl
or_turn true false = refl
or_turn false true = refl
or_turn false false = refl

pub or_none : (a : Bool) → (a || false) ≡ a
or_none true = refl
or_none false = refl
