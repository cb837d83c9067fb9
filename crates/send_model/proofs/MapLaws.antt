-- What a finite map finds after a change, and how many of its keys have a value.
use Rattle.std.specs.Prelude.{◌≡◌, ℕ, ◌+◌, ◌≤◌, Bool, true, false, cond, not, ◌&&◌, T, List, [], ◌∷◌, length, Option, None, Some, ◌==◌, ◌⊎◌}
use Rattle.std.specs.declared.cmp.Ordering.{Ordering}
use Rattle.std.specs.declared.cmp.Ordering.TheVariants.{Less, Equal, Greater}
use Rattle.std.specs.Ordering.{nat_cmp, eq_by_cmp, is_eq, is_lt}
use Rattle.std.specs.List.{filter}
use Rattle.std.specs.Cmp.{Equal-is, IsTotalOrder, tied_itself, alike_right, nat_cmp_total, on_total, then_total}
use Rattle.std.specs.Cmp.Lexicographic.{nat_list_cmp_total}
use Rattle.std.specs.FinMap.Entries.{by_order, below_all, is_sorted-put, is_sorted-where_key, find-put, find-where_key}
use Rattle.std.proofs.Common.{refl, sym, ap, ◌∙◌, arith, inl, inr}
use Rattle.std.proofs.lemmas.Bool.{eq-eqb, eqb-true}
use Rattle.std.proofs.lemmas.Map.Lookups.{CmpEqualImpliesEq, exact_unsigned, exact_bytes, exact_pairs}
use Rattle.send_model.specs.Map.{Map, IsMap, bytes_cmp, named_cmp, value_at, with_value, without}
use Rattle.send_model.proofs.Sorts.{same_inside}

-- Places of names are in a total order, and only equal ones tie.
pub named_cmp_total : IsTotalOrder named_cmp
named_cmp_total = then_total (on_total (λ (a : ℕ × List ℕ). a.0) nat_cmp_total) (on_total (λ (a : ℕ × List ℕ). a.1) nat_list_cmp_total)

pub named_cmp_exact : CmpEqualImpliesEq named_cmp
named_cmp_exact = exact_pairs nat_cmp bytes_cmp exact_unsigned exact_bytes

pub T_left : (a b : Bool) → T (a && b) → T a
T_left true b p = tt
T_left false b p = absurd p

pub T_right : (a b : Bool) → T (a && b) → T b
T_right true b p = p
T_right false b p = absurd p

pub is_less : (r : Ordering) → T (is_lt r) → r ≡ Less
is_less Less p = refl
is_less Equal p = absurd p
is_less Greater p = absurd p

pub counts_one : (b : Bool) → b ≡ true → ◌≡◌ {A = ℕ} (cond b 1 0) 1
counts_one true e = refl
counts_one false e = cc

module _ {K : Type 0} (R : K → K → Ordering) (o : IsTotalOrder R) (exact : CmpEqualImpliesEq R) where
  ties_itself : (k : K) → eq_by_cmp R k k ≡ true
  ties_itself k = ap is_eq (tied_itself o k)

  pub cases_key : (a b : K) → (a ≡ b) ⊎ (a ≡ b → ⊥)
  cases_key a b = one (R a b) refl
    where
      one : (r : Ordering) → R a b ≡ r → (a ≡ b) ⊎ (a ≡ b → ⊥)
      one Less e = inr (λ s. let t : R a b ≡ Equal = ap (R a) (sym s) ∙ tied_itself o a in cc)
      one Equal e = inl (exact a b e)
      one Greater e = inr (λ s. let t : R a b ≡ Equal = ap (R a) (sym s) ∙ tied_itself o a in cc)

  apart : (a b : K) → (a ≡ b → ⊥) → eq_by_cmp R a b ≡ false
  apart a b n = one (R a b) refl
    where
      one : (r : Ordering) → R a b ≡ r → is_eq r ≡ false
      one Less e = refl
      one Equal e = absurd (n (exact a b e))
      one Greater e = refl

  module _ {X : Type 0} where
    -- ---- what is found

    pub with_value-order : (k : K) (x : X) (m : Map K X) → IsMap R m → IsMap R (with_value R k x m)
    with_value-order k x m h = is_sorted-put R o k x m h

    pub without-order : (k : K) (m : Map K X) → IsMap R m → IsMap R (without R k m)
    without-order k m h = is_sorted-where_key R (λ q. not (eq_by_cmp R k q)) m h

    pub with_value-here : (k : K) (x : X) (m : Map K X) → value_at R k (with_value R k x m) ≡ Some x
    with_value-here k x m = find-put R o k k x m ∙ ap (λ (b : Bool). cond b (Some x) (value_at R k m)) (ties_itself k)

    pub with_value-other : (q k : K) (x : X) (m : Map K X) → (q ≡ k → ⊥) → value_at R q (with_value R k x m) ≡ value_at R q m
    with_value-other q k x m n = find-put R o q k x m ∙ ap (λ (b : Bool). cond b (Some x) (value_at R q m)) (apart q k n)

    without-at : (q k : K) (m : Map K X) → value_at R q (without R k m) ≡ cond (not (eq_by_cmp R k q)) (value_at R q m) None
    without-at q k m = find-where_key R (λ y. not (eq_by_cmp R k y)) q (λ y e. ap (λ (r : Ordering). not (is_eq r)) (sym (alike_right o q y k e))) m

    pub without-here : (k : K) (m : Map K X) → value_at R k (without R k m) ≡ None
    without-here k m = without-at k k m ∙ ap (λ (b : Bool). cond (not b) (value_at R k m) None) (ties_itself k)

    pub without-other : (q k : K) (m : Map K X) → (q ≡ k → ⊥) → value_at R q (without R k m) ≡ value_at R q m
    without-other q k m n = without-at q k m ∙ ap (λ (b : Bool). cond (not b) (value_at R q m) None) (apart k q (λ e. n (sym e)))

    -- a key that ties with one below each key of a map
    pub below_none : (k x : K) (m : Map K X) → R k x ≡ Equal → T (below_all R x m) → value_at R k m ≡ None
    below_none k x [] e h = refl
    below_none k x (f ∷ m) e h =
        let less : R k f.0 ≡ Less = o.congr k x f.0 e ∙ is_less _ (T_left _ _ h) in
        ap (λ (r : Ordering). cond (is_eq r) (Some f.1) (value_at R k m)) less ∙ below_none k x m e (T_right _ _ h)

    without_none : (k : K) (m : Map K X) → value_at R k m ≡ None → without R k m ≡ m
    without_none k [] none = refl
    without_none k (e ∷ m) none = one (eq_by_cmp R k e.0) none (without_none k m)
      where
        one : (b : Bool) → cond b (Some e.1) (value_at R k m) ≡ None → (value_at R k m ≡ None → without R k m ≡ m) → cond (not b) (e ∷ without R k m) (without R k m) ≡ e ∷ m
        one true some more = cc
        one false n more = ap (λ (r : Map K X). e ∷ r) (more n)

  -- ---- how many keys have a value

  abbrev pub count : ℕ → Map K ℕ → ℕ
  count v m = length (filter (λ e. e.1 == v) m)

  count-first : (b : Bool) (e : K × ℕ) (m : Map K ℕ) → length (cond b (e ∷ m) m) ≡ cond b 1 0 + length m
  count-first true e m = omega arith
  count-first false e m = omega arith

  pub count-with_value : (v : ℕ) (k : K) (x : ℕ) (m : Map K ℕ) → value_at R k m ≡ None → count v (with_value R k x m) ≡ cond (x == v) 1 0 + count v m
  count-with_value v k x [] none = count-first (x == v) (k, x) []
  count-with_value v k x (e ∷ m) none = one (R k e.0) none (count-with_value v k x m)
    where
      one : (r : Ordering) → cond (is_eq r) (Some e.1) (value_at R k m) ≡ None → (value_at R k m ≡ None → count v (with_value R k x m) ≡ cond (x == v) 1 0 + count v m) → count v (by_order r ((k, x) ∷ e ∷ m) ((e.0, x) ∷ m) (e ∷ with_value R k x m)) ≡ cond (x == v) 1 0 + count v (e ∷ m)
      one Less n later = count-first (x == v) (k, x) (filter (λ f. f.1 == v) (e ∷ m))
      one Equal n later = cc
      one Greater n later =
          let more : count v (with_value R k x m) ≡ cond (x == v) 1 0 + count v m = later n in
          let here : count v (e ∷ with_value R k x m) ≡ cond (e.1 == v) 1 0 + count v (with_value R k x m) = count-first (e.1 == v) e (filter (λ f. f.1 == v) (with_value R k x m)) in
          let there : count v (e ∷ m) ≡ cond (e.1 == v) 1 0 + count v m = count-first (e.1 == v) e (filter (λ f. f.1 == v) m) in
          omega arith

  pub count-without : (v : ℕ) (k : K) (x : ℕ) (m : Map K ℕ) → IsMap R m → value_at R k m ≡ Some x → cond (x == v) 1 0 + count v (without R k m) ≡ count v m
  count-without v k x [] h some = cc
  count-without v k x (e ∷ m) h some = one (eq_by_cmp R k e.0) refl some (count-without v k x m (T_right _ _ h))
    where
      there : count v (e ∷ m) ≡ cond (e.1 == v) 1 0 + count v m
      there = count-first (e.1 == v) e (filter (λ f. f.1 == v) m)

      one : (b : Bool) → eq_by_cmp R k e.0 ≡ b → cond b (Some e.1) (value_at R k m) ≡ Some x → (value_at R k m ≡ Some x → cond (x == v) 1 0 + count v (without R k m) ≡ count v m) → cond (x == v) 1 0 + count v (cond (not b) (e ∷ without R k m) (without R k m)) ≡ count v (e ∷ m)
      one true t s later =
          let same : e.1 ≡ x = same_inside s in
          let rest : without R k m ≡ m = without_none k m (below_none k e.0 m ((Equal-is _).0 t) (T_left _ _ h)) in
          (λ i. cond (sym same i == v) 1 0 + count v (rest i)) ∙ sym there
      one false t s later =
          let more : cond (x == v) 1 0 + count v (without R k m) ≡ count v m = later s in
          let here : count v (e ∷ without R k m) ≡ cond (e.1 == v) 1 0 + count v (without R k m) = count-first (e.1 == v) e (filter (λ f. f.1 == v) (without R k m)) in
          omega (arith, there)

  pub count-found : (v : ℕ) (k : K) (m : Map K ℕ) → value_at R k m ≡ Some v → 1 ≤ count v m
  count-found v k [] some = cc
  count-found v k (e ∷ m) some = one (eq_by_cmp R k e.0) some (count-found v k m)
    where
      there : count v (e ∷ m) ≡ cond (e.1 == v) 1 0 + count v m
      there = count-first (e.1 == v) e (filter (λ f. f.1 == v) m)

      one : (b : Bool) → cond b (Some e.1) (value_at R k m) ≡ Some v → (value_at R k m ≡ Some v → 1 ≤ count v m) → 1 ≤ count v (e ∷ m)
      one true s later = let here : ◌≡◌ {A = ℕ} (cond (e.1 == v) 1 0) 1 = counts_one (e.1 == v) (eq-eqb e.1 v (same_inside s)) in omega (arith, there)
      one false s later = let more : 1 ≤ count v m = later s in omega (arith, there)

  pub count-key : (v : ℕ) (m : Map K ℕ) → IsMap R m → 1 ≤ count v m → (k : K) × (value_at R k m ≡ Some v)
  count-key v [] h some = absurd (omega arith)
  count-key v (e ∷ m) h some = one (e.1 == v) refl some (count-key v m (T_right _ _ h))
    where
      later : (k : K) × (value_at R k m ≡ Some v) → (k : K) × (value_at R k (e ∷ m) ≡ Some v)
      later found = (found.0, two (eq_by_cmp R found.0 e.0) refl)
        where
          two : (b : Bool) → eq_by_cmp R found.0 e.0 ≡ b → cond b (Some e.1) (value_at R found.0 m) ≡ Some v
          two true t = let none : value_at R found.0 m ≡ None = below_none found.0 e.0 m ((Equal-is _).0 t) (T_left _ _ h) in cc (none, found.1)
          two false t = found.1

      one : (b : Bool) → (e.1 == v) ≡ b → 1 ≤ length (cond b (e ∷ filter (λ f. f.1 == v) m) (filter (λ f. f.1 == v) m)) → (1 ≤ count v m → (k : K) × (value_at R k m ≡ Some v)) → (k : K) × (value_at R k (e ∷ m) ≡ Some v)
      one true t l more = (e.0, ap (λ (b : Bool). cond b (Some e.1) (value_at R e.0 m)) (ties_itself e.0) ∙ (let some_of : ℕ → Option ℕ = λ x. Some x in ap some_of (eqb-true e.1 v t)))
      one false t l more = later (more l)
