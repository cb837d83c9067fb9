-- Which cells with tags are new at their place: where cells of one file are written, those that are written and no others.
use Rattle.std.specs.Prelude.{◌≡◌, ◌⊎◌, ℕ, zero, suc, ◌+◌, ◌-◌, ◌<◌, ◌≤◌, true, ◌&&◌, List, [], ◌∷◌, ◌++◌, map, length, take, drop, replicate, None, Some}
use Rattle.std.proofs.Common.{sym, ap, subst, ◌∙◌, arith, inl, inr, length-append}
use Rattle.std.proofs.lemmas.Bool.{false≢true}
use Rattle.std.proofs.lemmas.List.{length-take, length-drop, length-map, length-replicate, length-take-le}
use Rattle.send_model.specs.Edit.{filled, resized, overwritten, written_at, Allocation, Lengthen, KeepSize, PunchHole, ZeroRange, ZeroWithin, zeroed, allocated, fallocated}
use Rattle.send_model.proofs.Overwriting.{drop_twice}
use Rattle.standing_model.specs.Births.{Tagged, untagged}
use Rattle.standing_model.specs.Standing.{tags_alike, begin_with}

module _ (cell : Tagged) where
  -- A cell with this one's tag stands at a place of cells.
  abbrev pub HasAt : ℕ → List Tagged → Type 0
  HasAt o xs = begin_with (drop o xs) (cell ∷ []) ≡ true

  pub none_there : (o : ℕ) → HasAt o [] → ⊥
  none_there zero e = absurd (false≢true e)
  none_there (suc o) e = absurd (false≢true e)

  at_take : (o n : ℕ) (xs : List Tagged) → HasAt o (take n xs) → HasAt o xs
  at_take o zero xs e = absurd (none_there o e)
  at_take o (suc n) [] e = absurd (none_there o e)
  at_take zero (suc n) (x ∷ xs) e = e
  at_take (suc o) (suc n) (x ∷ xs) e = at_take o n xs e

  at_append : (o : ℕ) (xs ys : List Tagged) → HasAt o (xs ++ ys) → HasAt o xs ⊎ ((length xs ≤ o) × HasAt (o - length xs) ys)
  at_append o [] ys e = let same : o ≡ o - 0 = omega arith in inr (omega arith, subst (λ (k : ℕ). HasAt k ys) same e)
  at_append zero (x ∷ xs) ys e = inl e
  at_append (suc o) (x ∷ xs) ys e = elim (at_append o xs ys e) [
    | inl h ↦ inl h
    | inr h ↦ let l = h.0 in let same : o - length xs ≡ suc o - length (x ∷ xs) = omega arith in inr (omega (arith, l), subst (λ (k : ℕ). HasAt k ys) same h.1)
  ]

  at_zeros : (o n : ℕ) → HasAt o (replicate n (untagged 0)) → ⊥
  at_zeros o zero e = none_there o e
  at_zeros zero (suc n) e = one cell.tag e
    where
      one : (t : _) → (tags_alike t None && true) ≡ true → ⊥
      one None q = absurd (false≢true q)
      one (Some tag) q = absurd (false≢true q)
  at_zeros (suc o) (suc n) e = at_zeros o n e

  at_zeroed : (o : ℕ) (xs : List Tagged) → HasAt o (map (λ c. untagged 0) xs) → ⊥
  at_zeroed o [] e = none_there o e
  at_zeroed zero (x ∷ xs) e = one cell.tag e
    where
      one : (t : _) → (tags_alike t None && true) ≡ true → ⊥
      one None q = absurd (false≢true q)
      one (Some tag) q = absurd (false≢true q)
  at_zeroed (suc o) (x ∷ xs) e = at_zeroed o xs e

  at_within : (o : ℕ) (xs : List Tagged) → HasAt o xs → o < length xs
  at_within o [] e = absurd (none_there o e)
  at_within zero (x ∷ xs) e = omega arith
  at_within (suc o) (x ∷ xs) e = let l = at_within o xs e in omega (arith, l)

  at_drop : (o n : ℕ) (xs : List Tagged) → HasAt o (drop n xs) → HasAt (n + o) xs
  at_drop o n xs e = ap (λ (ys : List Tagged). begin_with ys (cell ∷ [])) (sym (drop_twice n o xs)) ∙ e

  -- ---- what edits make of cells

  pub at_filled : (o size : ℕ) (cells : List Tagged) → HasAt o (filled (untagged 0) size cells) → HasAt o cells
  at_filled o size cells e = elim (at_append o cells (replicate (size - length cells) (untagged 0)) e) [
    | inl h ↦ h
    | inr h ↦ absurd (at_zeros (o - length cells) (size - length cells) h.1)
  ]

  pub at_resized : (o size : ℕ) (cells : List Tagged) → HasAt o (resized (untagged 0) size cells) → HasAt o cells
  unfolding resized
  at_resized o size cells e = at_filled o size cells (at_take o size (filled (untagged 0) size cells) e)

  -- Behind so many cells, those from a place on: where there are any, the place is the same.
  at_behind : (o n k : ℕ) (cells : List Tagged) → (k < length cells → n ≡ k) → n ≤ o → HasAt (o - n) (drop k cells) → HasAt o cells
  at_behind o n k cells same low e =
      let within = at_within (o - n) (drop k cells) e in
      let size = length-drop k cells in
      let inside : k < length cells = omega (arith, within, size) in
      let is : n ≡ k = same inside in
      let place : k + (o - n) ≡ o = omega (arith, is, low) in
      subst (λ (j : ℕ). HasAt j cells) place (at_drop (o - n) k cells e)

  pub at_overwritten : (o offset : ℕ) (new cells : List Tagged) → HasAt o (overwritten (untagged 0) offset new cells) → HasAt o cells ⊎ ((offset ≤ o) × HasAt (o - offset) new)
  unfolding overwritten
  at_overwritten o offset new cells e =
      let front : List Tagged = take offset (filled (untagged 0) offset cells) in
      let all : length (filled (untagged 0) offset cells) ≡ length cells + length (replicate (offset - length cells) (untagged 0)) = length-append cells (replicate (offset - length cells) (untagged 0)) in
      let more = length-replicate (offset - length cells) (untagged 0) in
      let size : length front ≡ offset = length-take-le offset (filled (untagged 0) offset cells) (omega (arith, all, more)) in
      let behind : List Tagged = drop (offset + length new) cells in
      elim (at_append o (front ++ new) behind e) [
        | inl h ↦ elim (at_append o front new h) [
          | inl f ↦ inl (at_filled o offset cells (at_take o offset (filled (untagged 0) offset cells) f))
          | inr f ↦ let l = f.0 in inr (omega (arith, l, size), ap (λ (k : ℕ). begin_with (drop (o - k) new) (cell ∷ [])) (sym size) ∙ f.1)
        ]
        | inr h ↦ let long = length-append front new in inl (at_behind o (length (front ++ new)) (offset + length new) cells (λ inside. omega (arith, long, size)) h.0 h.1)
      ]

  pub at_written : (o offset : ℕ) (new cells : List Tagged) → HasAt o (written_at (untagged 0) offset new cells) → HasAt o cells ⊎ ((offset ≤ o) × HasAt (o - offset) new)
  unfolding written_at
  at_written o offset [] cells e = inl e
  at_written o offset (c ∷ new) cells e = at_overwritten o offset (c ∷ new) cells e

  at_punched : (o offset size : ℕ) (cells : List Tagged) → HasAt o (zeroed (untagged 0) offset size cells) → HasAt o cells
  at_punched o offset size cells e =
      let front : List Tagged = take offset cells in
      let middle : List Tagged = map (λ c. untagged 0) (take size (drop offset cells)) in
      let a = length-take offset cells in
      let b = length-map (take size (drop offset cells)) (λ c. untagged 0) in
      let c = length-take size (drop offset cells) in
      let d = length-drop offset cells in
      elim (at_append o (front ++ middle) (drop (offset + size) cells) e) [
        | inl h ↦ elim (at_append o front middle h) [
          | inl f ↦ at_take o offset cells f
          | inr f ↦ absurd (at_zeroed (o - length front) (take size (drop offset cells)) f.1)
        ]
        | inr h ↦ let long = length-append front middle in at_behind o (length (front ++ middle)) (offset + size) cells (λ inside. omega (arith, long, a, b, c, d, inside)) h.0 h.1
      ]

  at_allocated : (allocation : Allocation) (o offset size : ℕ) (cells : List Tagged) → HasAt o (allocated (untagged 0) allocation offset size cells) → HasAt o cells
  at_allocated Lengthen o offset size cells e = at_filled o (offset + size) cells e
  at_allocated KeepSize o offset size cells e = e
  at_allocated PunchHole o offset size cells e = at_punched o offset size cells e
  at_allocated ZeroRange o offset size cells e = elim (at_written o offset (replicate size (untagged 0)) cells e) [ inl h ↦ h | inr h ↦ absurd (at_zeros (o - offset) size h.1) ]
  at_allocated ZeroWithin o offset size cells e = at_punched o offset size cells e

  pub at_fallocated : (allocation : Allocation) (o offset size : ℕ) (cells : List Tagged) → HasAt o (fallocated (untagged 0) allocation offset size cells) → HasAt o cells
  unfolding fallocated
  at_fallocated allocation o offset zero cells e = e
  at_fallocated allocation o offset (suc size) cells e = at_allocated allocation o offset (suc size) cells e
