-- Entries in the order of their keys, and where a key stands among them.
use Rattle.std.proofs.Common.{◌≡◌, ℕ, zero, suc, ◌<◌, ◌≤◌, List, [], ◌∷◌, ◌++◌, length, get_or, take, drop, refl, sym, ap, ◌∙◌, subst, arith, add-one, Result, Ok, Err, IfOk, IfErr, inl, inr}
use Rattle.std.proofs.Math.Nat.{eq-or-lt_of_le}
use Rattle.std.specs.Cmp.{IsTotalOrder}
use Rattle.std.specs.Ordering.{ordering_reverse, ordering_index}
use Rattle.std.specs.declared.cmp.Ordering.{Ordering}
use Rattle.std.specs.declared.cmp.Ordering.TheVariants.{Less, Equal, Greater}
use Rattle.std.specs.List.{AllWithin, AllByRecursion}
use Rattle.std.specs.List.Sorted.{IsSearchInRange, IsBinarySearchResult, IsNonDecreasingBy}
use Rattle.std.proofs.lemmas.Cmp.{alike_right}
use Rattle.send_model.proofs.ElementLaws.{all_first, all_rest}
use Rattle.shared_map.specs.Pages.{Rises, IsAt, IsGap}

pub each_weaker : {X : Type 0} (P Q : X → Type 0) → ((x : X) → P x → Q x) → (xs : List X) → AllByRecursion P xs → AllByRecursion Q xs
each_weaker P Q f [] a = tt
each_weaker P Q f (x ∷ xs) a = (f x a.0, each_weaker P Q f xs a.1)

pub each_at : {X : Type 0} (P : X → Type 0) (xs : List X) (i : ℕ) (d : X) → i < length xs → AllByRecursion P xs → P (get_or xs i d)
each_at P [] i d lt a = absurd (omega arith)
each_at P (x ∷ xs) zero d lt a = a.0
each_at P (x ∷ xs) (suc i) d lt a = each_at P xs i d (omega arith) a.1

pub each_taken : {X : Type 0} (P : X → Type 0) (xs : List X) (i : ℕ) → AllWithin P xs 0 i → AllByRecursion P (take i xs)
each_taken P xs zero w = tt
each_taken P [] (suc i) w = tt
each_taken P (x ∷ xs) (suc i) w = (w 0 x (omega arith) (omega arith), each_taken P xs i (λ k d le lt. w (suc k) d (omega arith) (omega arith)))

pub each_dropped : {X : Type 0} (P : X → Type 0) (xs : List X) (i : ℕ) → AllWithin P xs i (length xs) → AllByRecursion P (drop i xs)
each_dropped P [] zero w = tt
each_dropped P [] (suc i) w = tt
each_dropped P (x ∷ xs) zero w = (w 0 x (omega arith) (omega arith), each_dropped P xs zero (λ k d le lt. w (suc k) d (omega arith) (omega arith)))
each_dropped P (x ∷ xs) (suc i) w = each_dropped P xs i (λ k d le lt. w (suc k) d (omega arith) (omega arith))

module _ {K V : Type 0} (order : K → K → Ordering) where
  pub rises_left : (xs ys : List (K × V)) → Rises order (xs ++ ys) → Rises order xs
  rises_left [] ys r = tt
  rises_left (x ∷ xs) ys r = (all_first _ xs ys r.0, rises_left xs ys r.1)

  pub rises_right : (xs ys : List (K × V)) → Rises order (xs ++ ys) → Rises order ys
  rises_right [] ys r = r
  rises_right (x ∷ xs) ys r = rises_right xs ys r.1

  pub rises_across : (xs ys : List (K × V)) → Rises order (xs ++ ys) → AllByRecursion (λ x. AllByRecursion (λ y. order x.0 y.0 ≡ Less) ys) xs
  rises_across [] ys r = tt
  rises_across (x ∷ xs) ys r = (all_rest _ xs ys r.0, rises_across xs ys r.1)

  pub rises_at : (es : List (K × V)) → Rises order es → (i j : ℕ) (d : K × V) → i < j → j < length es → order (get_or es i d).0 (get_or es j d).0 ≡ Less
  rises_at [] r i j d lt in_range = absurd (omega arith)
  rises_at (e ∷ es) r i zero d lt in_range = absurd (omega arith)
  rises_at (e ∷ es) r zero (suc j) d lt in_range = each_at _ es j d (omega arith) r.0
  rises_at (e ∷ es) r (suc i) (suc j) d lt in_range = rises_at es r.1 i j d (omega arith) (omega arith)

module _ {K : Type 0} {order : K → K → Ordering} (total : IsTotalOrder order) where
  pub less_equal : (a b c : K) → order a b ≡ Less → order b c ≡ Equal → order a c ≡ Less
  less_equal a b c less equal = sym (alike_right total b c a equal) ∙ less

  pub turned : (a b : K) → order a b ≡ Less → order b a ≡ Greater
  turned a b less = total.antisymm b a ∙ ap ordering_reverse less

  pub turned_back : (a b : K) → order a b ≡ Greater → order b a ≡ Less
  turned_back a b greater = total.antisymm b a ∙ ap ordering_reverse greater

  pub equal_less : (e key y : K) → order e key ≡ Equal → order e y ≡ Less → order y key ≡ Greater
  equal_less e key y equal less = turned key y (sym (total.congr e key y equal) ∙ less)

  pub greater_less : (e key y : K) → order e key ≡ Greater → order e y ≡ Less → order y key ≡ Greater
  greater_less e key y greater less = turned key y (total.trans key e y (turned_back e key greater) less)

  index_by : (a b key : K) → order a b ≡ Less → (o p : Ordering) → order a key ≡ o → order b key ≡ p → ordering_index o ≤ ordering_index p
  index_by a b key less Less p eo ep = omega arith
  index_by a b key less Equal Less eo ep = let h = total.trans a b key less ep in absurd (cc)
  index_by a b key less Equal Equal eo ep = omega arith
  index_by a b key less Equal Greater eo ep = omega arith
  index_by a b key less Greater Less eo ep = let h = total.trans a b key less ep in absurd (cc)
  index_by a b key less Greater Equal eo ep = let h = less_equal a b key less ep in absurd (cc)
  index_by a b key less Greater Greater eo ep = omega arith

  -- the comparisons with a key rise along the entries, as a binary search asks
  pub comparisons_rise : {V : Type 0} (es : List (K × V)) → Rises order es → (key : K) → IsNonDecreasingBy (λ e. ordering_index (order e.0 key)) es
  comparisons_rise es r key i j d le lt = elim (eq-or-lt_of_le le) [
    | inr below ↦ index_by _ _ key (rises_at order es r i j d below lt) _ _ refl refl
    | inl same ↦ subst (λ k. ordering_index (order (get_or es i d).0 key) ≤ ordering_index (order (get_or es k d).0 key)) same (omega arith)
  ]

  around : {V : Type 0} (es : List (K × V)) → Rises order es → (key : K) (i : ℕ) → i < length es → ((d : K × V) → order (get_or es i d).0 key ≡ Equal) → AllByRecursion (λ e. order e.0 key ≡ Less) (take i es) × AllByRecursion (λ e. order e.0 key ≡ Greater) (drop (suc i) es)
  around [] r key i lt here = absurd (omega arith)
  around (e ∷ es) r key zero lt here = (tt, each_weaker _ _ (λ f less. equal_less e.0 key f.0 (here e) less) es r.0)
  around (e ∷ es) r key (suc i) lt here =
      let rest = around es r.1 key i (omega arith) here in
      ((less_equal e.0 _ key (each_at _ es i e (omega arith) r.0) (here e), rest.0), rest.1)

  -- what a binary search finds
  pub searched : {V : Type 0} (es : List (K × V)) → Rises order es → (key : K) (r : Result ℕ ℕ) → IsSearchInRange r (length es) → IsBinarySearchResult (λ e. order e.0 key) es r → record { found : IfOk r (IsAt order key es); absent : IfErr r (IsGap order key es) }
  searched es rises key (Ok i) in_range equal =
      let parts = around es rises key i in_range equal in
      record {
        found = record { in_range = in_range; below = parts.0; here = equal; after = subst (λ n. AllByRecursion (λ e. order e.0 key ≡ Greater) (drop n es)) (sym (add-one i)) parts.1 };
        absent = tt;
      }
  searched es rises key (Err i) in_range parted =
      let parts = parted (comparisons_rise es rises key) in
      record { found = tt; absent = record { in_range = in_range; below = each_taken _ es i parts.0; after = each_dropped _ es i parts.1 } }
