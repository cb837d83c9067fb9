-- Cells written one at a time where they stand: with what was there in place of the others they are
-- written at once, but for the end.
use Rattle.std.specs.Prelude.{◌≡◌, ℕ, zero, suc, ◌+◌, ◌-◌, ◌<◌, ◌≤◌, Bool, true, false, List, [], ◌∷◌, ◌++◌, length, take, drop, replicate, if◌then◌else◌, ◌⊎◌}
use Rattle.std.proofs.Common.{refl, sym, ap, ap₂, ◌∙◌, arith, get_or, append-nil, length-append, inl, inr}
use Rattle.std.proofs.lemmas.Bool.{cases_lt}
use Rattle.std.proofs.lemmas.List.{ext_get_or, get_or_past, get_or-take, get_or-drop, get_or_append_left, get_or-append_right, length-take-le, length-drop, length-replicate}
use Rattle.send_model.specs.Edit.{filled, resized, overwritten}

module _ {D : Type 0} (z : D) where
  -- ---- reading what was filled and written

  pub filled_len : (n : ℕ) (c : List D) → length (filled z n c) ≡ length c + (n - length c)
  filled_len n c = omega (arith, length-append c (replicate (n - length c) z), length-replicate (n - length c) z)

  zeros : (m j : ℕ) → get_or (replicate m z) j z ≡ z
  zeros zero j = refl
  zeros (suc m) zero = refl
  zeros (suc m) (suc j) = zeros m j

  pub filled_read : (n : ℕ) (c : List D) (i : ℕ) → get_or (filled z n c) i z ≡ get_or c i z
  filled_read n c i = elim (cases_lt i (length c)) [
    | inl h ↦ get_or_append_left c (replicate (n - length c) z) z i h
    | inr h ↦ get_or-append_right c (replicate (n - length c) z) (length c) i z refl h ∙ zeros (n - length c) (i - length c) ∙ sym (get_or_past c i z h)
  ]

  pub filled_long : (n : ℕ) (c : List D) → n ≤ length c → filled z n c ≡ c
  filled_long n c h = let none : n - length c ≡ 0 = omega arith in ap (λ (m : ℕ). c ++ replicate m z) none ∙ append-nil c

  pub resized_fills : (n : ℕ) (c : List D) → length c ≤ n → resized z n c ≡ filled z n c
  unfolding resized
  resized_fills n c h = take_all n (filled z n c) (omega (arith, filled_len n c))
    where
      take_all : (m : ℕ) (xs : List D) → length xs ≤ m → take m xs ≡ xs
      take_all m [] l = nothing m
        where
          nothing : (m : ℕ) → take {A = D} m [] ≡ []
          nothing zero = refl
          nothing (suc m) = refl
      take_all zero (x ∷ xs) l = absurd (omega arith)
      take_all (suc m) (x ∷ xs) l = ap (λ (r : List D). x ∷ r) (take_all m xs (omega arith))

  front_len : (o : ℕ) (c : List D) → length (take o (filled z o c)) ≡ o
  front_len o c = length-take-le o (filled z o c) (omega (arith, filled_len o c))

  both_len : (o : ℕ) (new c : List D) → length (take o (filled z o c) ++ new) ≡ o + length new
  both_len o new c = omega (arith, length-append (take o (filled z o c)) new, front_len o c)

  pub over_len : (o : ℕ) (new c : List D) → length (overwritten z o new c) ≡ o + length new + (length c - (o + length new))
  unfolding overwritten
  over_len o new c = omega (arith, length-append (take o (filled z o c) ++ new) (drop (o + length new) c), both_len o new c, length-drop (o + length new) c)

  pub over_before : (o : ℕ) (new c : List D) (i : ℕ) → i < o → get_or (overwritten z o new c) i z ≡ get_or c i z
  unfolding overwritten
  over_before o new c i h =
      let t : List D = take o (filled z o c) in
      get_or_append_left (t ++ new) (drop (o + length new) c) z i (omega (arith, both_len o new c, h))
      ∙ get_or_append_left t new z i (omega (arith, front_len o c, h))
      ∙ get_or-take o (filled z o c) i z h ∙ filled_read o c i

  pub over_in : (o : ℕ) (new c : List D) (i : ℕ) → i < length new → get_or (overwritten z o new c) (o + i) z ≡ get_or new i z
  unfolding overwritten
  over_in o new c i h =
      let t : List D = take o (filled z o c) in
      let e : o + i - o ≡ i = omega arith in
      get_or_append_left (t ++ new) (drop (o + length new) c) z (o + i) (omega (arith, both_len o new c, h))
      ∙ get_or-append_right t new o (o + i) z (front_len o c) (omega arith)
      ∙ ap (λ (k : ℕ). get_or new k z) e

  pub over_after : (o : ℕ) (new c : List D) (i : ℕ) → o + length new ≤ i → get_or (overwritten z o new c) i z ≡ get_or c i z
  unfolding overwritten
  over_after o new c i h =
      let t : List D = take o (filled z o c) in
      let e : o + length new + (i - (o + length new)) ≡ i = omega (arith, h) in
      get_or-append_right (t ++ new) (drop (o + length new) c) (o + length new) i z (both_len o new c) h
      ∙ get_or-drop (o + length new) c (i - (o + length new)) z
      ∙ ap (λ (k : ℕ). get_or c k z) e

  -- ---- cells one at a time

  module _ (standing : ℕ → Bool) where
    one_more : Bool → ℕ → D → List D → List D
    one_more b at x c = if b then overwritten z at (x ∷ []) c else c

    -- Each that stands is put at its place.
    abbrev pub laid : ℕ → ℕ → List D → List D → List D
    laid count at [] c = c
    laid count at (x ∷ xs) c = laid (count + 1) (at + 1) xs (if standing count then overwritten z at (x ∷ []) c else c)

    -- Each that stands, and what was there at the places of the others.
    abbrev pub mixed : ℕ → ℕ → List D → List D → List D
    mixed count at [] c = []
    mixed count at (x ∷ xs) c = (if standing count then x else get_or c at z) ∷ mixed (count + 1) (at + 1) xs c

    pub mixed_len : (count at : ℕ) (xs c : List D) → length (mixed count at xs c) ≡ length xs
    mixed_len count at [] c = refl
    mixed_len count at (x ∷ xs) c = ap suc (mixed_len (count + 1) (at + 1) xs c)

    -- What is put at one place changes neither lengths downwards nor other places.
    step_len : (b : Bool) (at : ℕ) (x : D) (c : List D) → (length c ≤ length (if b then overwritten z at (x ∷ []) c else c))
        × (length (if b then overwritten z at (x ∷ []) c else c) ≤ length c + (at + 1 - length c))
    step_len true at x c = let e : length (overwritten z at (x ∷ []) c) ≡ at + 1 + (length c - (at + 1)) = over_len at (x ∷ []) c in (omega (arith, e), omega (arith, e))
    step_len false at x c = (omega arith, omega arith)

    step_other : (b : Bool) (at : ℕ) (x : D) (c : List D) (i : ℕ) → (i < at) ⊎ (at + 1 ≤ i) → get_or (if b then overwritten z at (x ∷ []) c else c) i z ≡ get_or c i z
    step_other true at x c i (inl h) = over_before at (x ∷ []) c i h
    step_other true at x c i (inr h) = over_after at (x ∷ []) c i h
    step_other false at x c i h = refl

    step_here : (b : Bool) (at : ℕ) (x : D) (c : List D) → get_or (if b then overwritten z at (x ∷ []) c else c) at z ≡ (if b then x else get_or c at z)
    step_here true at x c = let e : at + 0 ≡ at = omega arith in let one : 0 < 1 = omega arith in
        ap (λ (k : ℕ). get_or (overwritten z at (x ∷ []) c) k z) (sym e) ∙ over_in at (x ∷ []) c 0 one
    step_here false at x c = refl

    pub laid_len : (count at : ℕ) (xs c : List D) → (length c ≤ length (laid count at xs c)) × (length (laid count at xs c) ≤ length c + (at + length xs - length c))
    laid_len count at [] c = (omega arith, omega arith)
    laid_len count at (x ∷ xs) c =
        let d : List D = if standing count then overwritten z at (x ∷ []) c else c in
        let one = step_len (standing count) at x c in
        let more = laid_len (count + 1) (at + 1) xs d in
        (omega (arith, one.0, more.0), omega (arith, one.0, one.1, more.1))

    pub laid_other : (count at : ℕ) (xs c : List D) (i : ℕ) → (i < at) ⊎ (at + length xs ≤ i) → get_or (laid count at xs c) i z ≡ get_or c i z
    laid_other count at [] c i h = refl
    laid_other count at (x ∷ xs) c i h =
        laid_other (count + 1) (at + 1) xs (if standing count then overwritten z at (x ∷ []) c else c) i (later h)
        ∙ step_other (standing count) at x c i (here h)
      where
        later : (i < at) ⊎ (at + length (x ∷ xs) ≤ i) → (i < at + 1) ⊎ (at + 1 + length xs ≤ i)
        later (inl q) = inl (omega (arith, q))
        later (inr q) = inr (omega (arith, q))

        here : (i < at) ⊎ (at + length (x ∷ xs) ≤ i) → (i < at) ⊎ (at + 1 ≤ i)
        here (inl q) = inl q
        here (inr q) = inr (omega (arith, q))

    mixed_same : (count at : ℕ) (xs c d : List D) → ((i : ℕ) → at ≤ i → get_or d i z ≡ get_or c i z) → mixed count at xs d ≡ mixed count at xs c
    mixed_same count at [] c d h = refl
    mixed_same count at (x ∷ xs) c d h =
        ap₂ (λ (y : D) (r : List D). y ∷ r) (ap (λ (y : D). if standing count then x else y) (h at (omega arith)))
        (mixed_same (count + 1) (at + 1) xs c d (λ i l. h i (omega (arith, l))))

    pub laid_in : (count at : ℕ) (xs c : List D) (i : ℕ) → i < length xs → get_or (laid count at xs c) (at + i) z ≡ get_or (mixed count at xs c) i z
    laid_in count at [] c i h = absurd (omega arith)
    laid_in count at (x ∷ xs) c zero h =
        let d : List D = if standing count then overwritten z at (x ∷ []) c else c in
        let e : at + 0 ≡ at = omega arith in
        ap (λ (k : ℕ). get_or (laid (count + 1) (at + 1) xs d) k z) e
        ∙ laid_other (count + 1) (at + 1) xs d at (inl (omega arith))
        ∙ step_here (standing count) at x c
    laid_in count at (x ∷ xs) c (suc i) h =
        let d : List D = if standing count then overwritten z at (x ∷ []) c else c in
        let e : at + suc i ≡ at + 1 + i = omega arith in
        ap (λ (k : ℕ). get_or (laid (count + 1) (at + 1) xs d) k z) e
        ∙ laid_in (count + 1) (at + 1) xs d i (omega (arith, h))
        ∙ ap (λ (r : List D). get_or r i z) (mixed_same (count + 1) (at + 1) xs c d (λ j l. step_other (standing count) at x c j (inr l)))

    -- All at once, as far as the end of those that were put.
    pub laid_filled : (count at : ℕ) (x : D) (xs c : List D) → filled z (at + length (x ∷ xs)) (laid count at (x ∷ xs) c) ≡ overwritten z at (mixed count at (x ∷ xs) c) c
    laid_filled count at x xs c =
        let all : List D = x ∷ xs in
        let m : List D = mixed count at all c in
        let l : List D = laid count at all c in
        let n : length m ≡ length all = mixed_len count at all c in
        let sizes = laid_len count at all c in
        let long : length (filled z (at + length all) l) ≡ length (overwritten z at m c) =
        omega (arith, filled_len (at + length all) l, over_len at m c, n, sizes.0, sizes.1) in
        ext_get_or z (filled z (at + length all) l) (overwritten z at m c) long (λ i h. filled_read (at + length all) l i ∙ at_place i)
      where
        at_place : (i : ℕ) → get_or (laid count at (x ∷ xs) c) i z ≡ get_or (overwritten z at (mixed count at (x ∷ xs) c) c) i z
        at_place i = elim (cases_lt i at) [
          | inl h ↦ laid_other count at (x ∷ xs) c i (inl h) ∙ sym (over_before at (mixed count at (x ∷ xs) c) c i h)
          | inr h ↦ elim (cases_lt i (at + length (x ∷ xs))) [
            | inl k ↦
                let e : at + (i - at) ≡ i = omega (arith, h) in
                let n : length (mixed count at (x ∷ xs) c) ≡ length (x ∷ xs) = mixed_len count at (x ∷ xs) c in
                ap (λ (j : ℕ). get_or (laid count at (x ∷ xs) c) j z) (sym e)
                ∙ laid_in count at (x ∷ xs) c (i - at) (omega (arith, h, k))
                ∙ sym (over_in at (mixed count at (x ∷ xs) c) c (i - at) (omega (arith, h, k, n)))
                ∙ ap (λ (j : ℕ). get_or (overwritten z at (mixed count at (x ∷ xs) c) c) j z) e
            | inr k ↦ laid_other count at (x ∷ xs) c i (inr k) ∙ sym (over_after at (mixed count at (x ∷ xs) c) c i (let n : length (mixed count at (x ∷ xs) c) ≡ length (x ∷ xs) = mixed_len count at (x ∷ xs) c in omega (arith, k, n)))
          ]
        ]

    -- Where the last one stands, the end is reached.
    pub laid_reaches : (count at : ℕ) (x : D) (xs c : List D) → standing (count + length (x ∷ xs) - 1) ≡ true → at + length (x ∷ xs) ≤ length (laid count at (x ∷ xs) c)
    laid_reaches count at x [] c h =
        let e : count + 1 - 1 ≡ count = omega arith in
        let s : standing count ≡ true = ap standing (sym e) ∙ h in
        let is : length (if standing count then overwritten z at (x ∷ []) c else c) ≡ length (overwritten z at (x ∷ []) c) = ap (λ (b : Bool). length (if b then overwritten z at (x ∷ []) c else c)) s in
        omega (arith, is, over_len at (x ∷ []) c)
    laid_reaches count at x (y ∷ xs) c h =
        let e : count + 1 + length (y ∷ xs) - 1 ≡ count + length (x ∷ y ∷ xs) - 1 = omega arith in
        let more = laid_reaches (count + 1) (at + 1) y xs (if standing count then overwritten z at (x ∷ []) c else c) (ap standing e ∙ h) in
        omega (arith, more)
