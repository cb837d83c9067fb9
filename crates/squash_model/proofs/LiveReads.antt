-- What stands at a place of cells that were cut, filled, written over or zeroed.
use Rattle.std.specs.Prelude.{◌≡◌, ℕ, zero, suc, ◌+◌, ◌-◌, ◌<◌, ◌≤◌, Bool, true, false, ◌&&◌, List, [], ◌∷◌, ◌++◌, map, length, take, drop, nat_le, nat_lt, ◌⊎◌}
use Rattle.std.proofs.Common.{refl, sym, ap, ◌∙◌, arith, get_or, length-append, inl, inr}
use Rattle.std.proofs.lemmas.Bool.{cases_lt, leb-true, le-leb, ltb-true, lt-ltb, and_parts}
use Rattle.std.proofs.lemmas.List.{get_or_past, get_or-take, get_or-drop, get_or_append_left, get_or-append_right, length-take, length-drop, length-map}
use Rattle.send_model.specs.Edit.{filled, resized, overwritten, written_at, zeroed}
use Rattle.squash_model.specs.Liveness.{covers}
use Rattle.squash_model.proofs.Laid.{filled_read, over_before, over_in, over_after}

pub covered : (offset len place : ℕ) → covers offset len place ≡ true → (offset ≤ place) × (place < offset + len)
covered offset len place e = let p = and_parts (nat_le offset place) (nat_lt place (offset + len)) e in (leb-true offset place p.0, ltb-true place (offset + len) p.1)

pub uncovered : (offset len place : ℕ) → covers offset len place ≡ false → (place < offset) ⊎ (offset + len ≤ place)
uncovered offset len place e = elim (cases_lt place offset) [
  | inl below ↦ inl below
  | inr above ↦ elim (cases_lt place (offset + len)) [
    | inl within ↦ absurd (never (covers_is within above))
    | inr behind ↦ inr behind
  ]
]
  where
    covers_is : place < offset + len → offset ≤ place → covers offset len place ≡ true
    covers_is h k = both (nat_le offset place) (nat_lt place (offset + len)) (le_true k) (lt_true h)
      where
        both : (a b : Bool) → a ≡ true → b ≡ true → a && b ≡ true
        both true b p q = q
        both false b p q = p

        le_true : offset ≤ place → nat_le offset place ≡ true
        le_true q = le-leb offset place q

        lt_true : place < offset + len → nat_lt place (offset + len) ≡ true
        lt_true q = lt-ltb place (offset + len) q

    never : covers offset len place ≡ true → ⊥
    never q = cc

pub covers_true : (offset len place : ℕ) → offset ≤ place → place < offset + len → covers offset len place ≡ true
covers_true offset len place h k = both (nat_le offset place) (nat_lt place (offset + len)) (le-leb offset place h) (lt-ltb place (offset + len) k)
  where
    both : (a b : Bool) → a ≡ true → b ≡ true → a && b ≡ true
    both true b p q = q
    both false b p q = p

module _ {D : Type 0} (z : D) where
  pub resized_in : (n : ℕ) (c : List D) (p : ℕ) → p < n → get_or (resized z n c) p z ≡ get_or c p z
  unfolding resized
  resized_in n c p h = get_or-take n (filled z n c) p z h ∙ filled_read z n c p

  pub resized_past : (n : ℕ) (c : List D) (p : ℕ) → n ≤ p → get_or (resized z n c) p z ≡ z
  unfolding resized
  resized_past n c p h = get_or_past (take n (filled z n c)) p z (omega (arith, h, length-take n (filled z n c)))

  pub over_out : (o : ℕ) (new c : List D) (p : ℕ) → covers o (length new) p ≡ false → get_or (overwritten z o new c) p z ≡ get_or c p z
  over_out o new c p h = elim (uncovered o (length new) p h) [ inl below ↦ over_before z o new c p below | inr behind ↦ over_after z o new c p behind ]

  pub over_at : (o : ℕ) (new c : List D) (p : ℕ) → covers o (length new) p ≡ true → get_or (overwritten z o new c) p z ≡ get_or new (p - o) z
  over_at o new c p h =
      let k = covered o (length new) p h in
      let low = k.0 in
      let high = k.1 in
      let e : p ≡ o + (p - o) = omega (arith, low) in
      ap (λ (q : ℕ). get_or (overwritten z o new c) q z) e ∙ over_in z o new c (p - o) (omega (arith, low, high))

  pub written_out : (o : ℕ) (new c : List D) (p : ℕ) → covers o (length new) p ≡ false → get_or (written_at z o new c) p z ≡ get_or c p z
  unfolding written_at
  written_out o [] c p h = refl
  written_out o (x ∷ new) c p h = over_out o (x ∷ new) c p h

  pub written_in : (o : ℕ) (new c : List D) (p : ℕ) → covers o (length new) p ≡ true → get_or (written_at z o new c) p z ≡ get_or new (p - o) z
  unfolding written_at
  written_in o [] c p h = absurd (let k = covered o (length {A = D} []) p h in let low = k.0 in let high = k.1 in let none : length {A = D} [] ≡ 0 = refl in omega (arith, low, high, none))
  written_in o (x ∷ new) c p h = over_at o (x ∷ new) c p h

  all_zero : (xs : List D) (i : ℕ) → get_or (map (λ c. z) xs) i z ≡ z
  all_zero [] i = refl
  all_zero (x ∷ xs) zero = refl
  all_zero (x ∷ xs) (suc i) = all_zero xs i

  zeroed_len : (o n : ℕ) (c : List D) → length (zeroed z o n c) ≡ length c
  zeroed_len o n c =
      let zs : List D = map (λ (x : D). z) (take n (drop o c)) in
      omega (arith, length-append (take o c ++ zs) (drop (o + n) c), length-append (take o c) zs, length-map (take n (drop o c)) (λ (x : D). z), length-take o c, length-take n (drop o c), length-drop o c, length-drop (o + n) c)

  pub zeroed_out : (o n : ℕ) (c : List D) (p : ℕ) → covers o n p ≡ false → get_or (zeroed z o n c) p z ≡ get_or c p z
  zeroed_out o n c p h = elim (cases_lt p (length c)) [
    | inr past ↦ get_or_past (zeroed z o n c) p z (omega (arith, past, zeroed_len o n c)) ∙ sym (get_or_past c p z past)
    | inl within ↦ elim (uncovered o n p h) [
      | inl below ↦
          let zs : List D = map (λ (x : D). z) (take n (drop o c)) in
          get_or_append_left (take o c ++ zs) (drop (o + n) c) z p (omega (arith, within, below, length-append (take o c) zs, length-take o c))
          ∙ get_or_append_left (take o c) zs z p (omega (arith, within, below, length-take o c))
          ∙ get_or-take o c p z below
      | inr behind ↦
          let zs : List D = map (λ (x : D). z) (take n (drop o c)) in
          let e : o + n + (p - (o + n)) ≡ p = omega (arith, behind) in
          get_or-append_right (take o c ++ zs) (drop (o + n) c) (o + n) p z
          (omega (arith, within, behind, length-append (take o c) zs, length-take o c, length-map (take n (drop o c)) (λ (x : D). z), length-take n (drop o c), length-drop o c)) behind
          ∙ get_or-drop (o + n) c (p - (o + n)) z ∙ ap (λ (q : ℕ). get_or c q z) e
    ]
  ]

  pub zeroed_in : (o n : ℕ) (c : List D) (p : ℕ) → covers o n p ≡ true → get_or (zeroed z o n c) p z ≡ z
  zeroed_in o n c p h = elim (cases_lt p (length c)) [
    | inr past ↦ get_or_past (zeroed z o n c) p z (omega (arith, past, zeroed_len o n c))
    | inl within ↦
        let zs : List D = map (λ (x : D). z) (take n (drop o c)) in
        let k = covered o n p h in
        let low = k.0 in
        let high = k.1 in
        get_or_append_left (take o c ++ zs) (drop (o + n) c) z p (omega (arith, within, low, high, length-append (take o c) zs, length-take o c, length-map (take n (drop o c)) (λ (x : D). z), length-take n (drop o c), length-drop o c))
        ∙ get_or-append_right (take o c) zs o p z (omega (arith, within, low, length-take o c)) low
        ∙ all_zero (take n (drop o c)) (p - o)
  ]
