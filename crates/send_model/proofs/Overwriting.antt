-- Cells written one stretch after the other are written at once.
use Rattle.std.specs.Prelude.{◌≡◌, ℕ, zero, suc, ◌+◌, ◌-◌, ◌≤◌, List, [], ◌∷◌, ◌++◌, length, take, drop, replicate}
use Rattle.std.specs.declared.cmp.Ordering.{Ordering}
use Rattle.std.specs.declared.cmp.Ordering.TheVariants.{Less, Equal, Greater}
use Rattle.std.specs.Cmp.{IsTotalOrder, tied_itself}
use Rattle.std.specs.FinMap.Entries.{by_order}
use Rattle.std.proofs.Common.{refl, sym, ap, ap₂, ◌∙◌, arith, append_assoc, append-nil, length-append}
use Rattle.std.proofs.lemmas.List.{take-append-le, length-take-le, length-replicate}
use Rattle.std.proofs.Math.Seq.{drop-append-add, take-append_seam, drop-append_seam}
use Rattle.send_model.specs.Map.{Map, with_value}
use Rattle.send_model.specs.Edit.{filled, overwritten, written_at}

-- A value that is put twice is put once.
module _ {K X : Type 0} (R : K → K → Ordering) (o : IsTotalOrder R) where
  pub with_value-twice : (k : K) (x y : X) (m : Map K X) → with_value R k y (with_value R k x m) ≡ with_value R k y m
  with_value-twice k x y [] = ap (λ (r : Ordering). by_order r ((k, y) ∷ (k, x) ∷ []) ((k, y) ∷ []) ((k, x) ∷ (k, y) ∷ [])) (tied_itself o k)
  with_value-twice k x y (e ∷ m) = one (R k e.0) refl (with_value-twice k x y m)
    where
      one : (r : Ordering) → R k e.0 ≡ r → with_value R k y (with_value R k x m) ≡ with_value R k y m
          → with_value R k y (by_order r ((k, x) ∷ e ∷ m) ((e.0, x) ∷ m) (e ∷ with_value R k x m)) ≡ by_order r ((k, y) ∷ e ∷ m) ((e.0, y) ∷ m) (e ∷ with_value R k y m)
      one Less h more = ap (λ (r : Ordering). by_order r ((k, y) ∷ (k, x) ∷ e ∷ m) ((k, y) ∷ e ∷ m) ((k, x) ∷ with_value R k y (e ∷ m))) (tied_itself o k)
      one Equal h more = ap (λ (r : Ordering). by_order r ((k, y) ∷ (e.0, x) ∷ m) ((e.0, y) ∷ m) ((e.0, x) ∷ with_value R k y m)) h
      one Greater h more = ap (λ (r : Ordering). by_order r ((k, y) ∷ e ∷ with_value R k x m) ((e.0, y) ∷ with_value R k x m) (e ∷ with_value R k y (with_value R k x m))) h ∙ ap (λ (r : Map K X). e ∷ r) more

module _ {C : Type 0} where
  drop_nil : (n : ℕ) → drop {A = C} n [] ≡ []
  drop_nil zero = refl
  drop_nil (suc n) = refl

  pub drop_twice : (n m : ℕ) (xs : List C) → drop m (drop n xs) ≡ drop (n + m) xs
  drop_twice zero m xs = ap (λ (k : ℕ). drop k xs) (omega arith)
  drop_twice (suc n) m [] = drop_nil m ∙ sym (drop_nil (suc n + m))
  drop_twice (suc n) m (x ∷ xs) = drop_twice n m xs ∙ (let e : suc (n + m) ≡ suc n + m = omega arith in ap (λ (k : ℕ). drop k (x ∷ xs)) e)

module _ {C : Type 0} (zero_cell : C) where
  take_front : (n : ℕ) (xs ys : List C) → length xs ≡ n → take n (xs ++ ys) ≡ xs
  take_front n xs ys e = ap (λ (m : ℕ). take m (xs ++ ys)) (sym e) ∙ take-append_seam xs ys

  drop_front : (n : ℕ) (xs ys : List C) → length xs ≡ n → drop n (xs ++ ys) ≡ ys
  drop_front n xs ys e = ap (λ (m : ℕ). drop m (xs ++ ys)) (sym e) ∙ drop-append_seam xs ys

  drop_past : (n m : ℕ) (xs ys : List C) → length xs + m ≡ n → drop n (xs ++ ys) ≡ drop m ys
  drop_past n m xs ys e = ap (λ (k : ℕ). drop k (xs ++ ys)) (sym e) ∙ drop-append-add xs ys m

  filled_long : (o : ℕ) (c : List C) → o ≤ length (filled zero_cell o c)
  filled_long o c = omega (arith, length-append c (replicate (o - length c) zero_cell), length-replicate (o - length c) zero_cell)

  front_length : (o : ℕ) (c : List C) → length (take o (filled zero_cell o c)) ≡ o
  front_length o c = length-take-le o (filled zero_cell o c) (filled_long o c)

  -- A stretch and the next one.
  pub overwritten-append : (o : ℕ) (a b c : List C) → overwritten zero_cell (o + length a) b (overwritten zero_cell o a c) ≡ overwritten zero_cell o (a ++ b) c
  unfolding overwritten
  overwritten-append o a b c =
      let t : List C = take o (filled zero_cell o c) in
      let d : List C = drop (o + length a) c in
      let x : List C = (t ++ a) ++ d in
      let front : length (t ++ a) ≡ o + length a = omega (arith, length-append t a, front_length o c) in
      let long : (o + length a) ≤ length x = omega (arith, front, length-append (t ++ a) d) in
      let taken : take (o + length a) (filled zero_cell (o + length a) x) ≡ t ++ a =
      take-append-le (o + length a) x (replicate (o + length a - length x) zero_cell) long ∙ take_front (o + length a) (t ++ a) d front in
      let dropped : drop (o + length a + length b) x ≡ drop (o + length (a ++ b)) c =
      drop_past (o + length a + length b) (length b) (t ++ a) d (omega (arith, front)) ∙ drop_twice (o + length a) (length b) c ∙ (let e : o + length a + length b ≡ o + length (a ++ b) = omega (arith, length-append a b) in ap (λ (k : ℕ). drop k c) e) in
      ap₂ (λ (u v : List C). (u ++ b) ++ v) taken dropped ∙ ap (λ (u : List C). u ++ drop (o + length (a ++ b)) c) (append_assoc t a b)

  pub written_at-append : (o : ℕ) (a b c : List C) → written_at zero_cell (o + length a) b (written_at zero_cell o a c) ≡ written_at zero_cell o (a ++ b) c
  unfolding written_at
  written_at-append o [] b c = let e : o + 0 ≡ o = omega arith in ap (λ (k : ℕ). written_at zero_cell k b c) e
  written_at-append o (x ∷ a) [] c = ap (λ (u : List C). written_at zero_cell o u c) (sym (append-nil (x ∷ a)))
  written_at-append o (x ∷ a) (y ∷ b) c = overwritten-append o (x ∷ a) (y ∷ b) c
