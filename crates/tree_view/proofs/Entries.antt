-- The entries of maps, one after the other as look-ups by key give them.
use Rattle.std.specs.Prelude.{◌≡◌, ℕ, ◌<◌, ◌≤◌, Bool, true, false, cond, T, [], ◌∷◌, ◌++◌, length, Option, None, Some}
use Rattle.std.specs.declared.cmp.Ordering.{Ordering}
use Rattle.std.specs.declared.cmp.Ordering.TheVariants.{Less, Equal, Greater}
use Rattle.std.specs.Ordering.{nat_cmp, is_lt, is_eq}
use Rattle.std.specs.Option.{option_map}
use Rattle.std.specs.Cmp.{IsTotalOrder, tied_itself, alike_right, ranked, nat_cmp_is}
use Rattle.std.specs.FinMap.Entries.{below_all, find-where_key}
use Rattle.std.proofs.Common.{refl, sym, ap, subst, ◌∙◌, arith}
use Rattle.send_model.specs.Map.{Map, IsMap, value_at}
use Rattle.send_model.proofs.MapLaws.{T_left, T_right, is_less}
use Rattle.shared_map.specs.Sought.{entries_above, entry_after}
use Rattle.path_index.proofs.Above.{after_next}
use Rattle.path_index.proofs.Indexing.{first_gives, nothing_first}
use Rattle.tree_view.specs.Printing.{entry_if, at_zero}

-- ---- the next entry

less_of : (r : Ordering) → is_lt r ≡ true → r ≡ Less
less_of Less t = refl
less_of Equal t = cc
less_of Greater t = cc

module _ {K X : Type 0} (R : K → K → Ordering) (total : IsTotalOrder R) where
  no_more : (low high : K) (m : Map K X) → R low high ≡ Less → length (entries_above R high m) ≤ length (entries_above R low m)
  no_more low high [] less = omega arith
  no_more low high (f ∷ m) less = by_side (R high f.0) refl (is_lt (R low f.0)) refl (no_more low high m less)
    where
      by_side : (r : Ordering) → R high f.0 ≡ r → (b : Bool) → is_lt (R low f.0) ≡ b → length (entries_above R high m) ≤ length (entries_above R low m)
          → length (cond (is_lt r) (f ∷ entries_above R high m) (entries_above R high m)) ≤ length (cond b (f ∷ entries_above R low m) (entries_above R low m))
      by_side Less e true t rest = omega (arith, rest)
      by_side Less e false t rest = let above : is_lt (R low f.0) ≡ true = ap is_lt (total.trans low high f.0 less e) in cc
      by_side Equal e true t rest = omega (arith, rest)
      by_side Equal e false t rest = rest
      by_side Greater e true t rest = omega (arith, rest)
      by_side Greater e false t rest = rest

  -- the first entry above a key is above it
  first_above : (key : K) (m rest : Map K X) (e : K × X) → entries_above R key m ≡ e ∷ rest → R key e.0 ≡ Less
  first_above key [] rest e q = cc
  first_above key (f ∷ m) rest e q = by_side (is_lt (R key f.0)) refl q (first_above key m rest e)
    where
      by_side : (b : Bool) → is_lt (R key f.0) ≡ b → cond b (f ∷ entries_above R key m) (entries_above R key m) ≡ e ∷ rest → (entries_above R key m ≡ e ∷ rest → R key e.0 ≡ Less) → R key e.0 ≡ Less
      by_side true t q further = let same : f ≡ e = cc in subst (λ (g : K × X). R key g.0 ≡ Less) same (less_of (R key f.0) t)
      by_side false t q further = further q

  -- fewer entries are above it
  fewer_above : (key : K) (m rest : Map K X) (e : K × X) → entries_above R key m ≡ e ∷ rest → length (entries_above R e.0 m) < length (entries_above R key m)
  fewer_above key [] rest e q = cc
  fewer_above key (f ∷ m) rest e q = by_side (is_lt (R key f.0)) refl q (first_above key m rest e) (fewer_above key m rest e)
    where
      above : (b : Bool) → is_lt (R e.0 f.0) ≡ b → is_lt (R key f.0) ≡ false → R key e.0 ≡ Less → length (entries_above R e.0 m) < length (entries_above R key m)
          → length (cond b (f ∷ entries_above R e.0 m) (entries_above R e.0 m)) < length (entries_above R key m)
      above true u t less fewer = let higher : is_lt (R key f.0) ≡ true = ap is_lt (total.trans key e.0 f.0 less (less_of (R e.0 f.0) u)) in cc
      above false u t less fewer = fewer

      by_side : (b : Bool) → is_lt (R key f.0) ≡ b → cond b (f ∷ entries_above R key m) (entries_above R key m) ≡ e ∷ rest
          → (entries_above R key m ≡ e ∷ rest → R key e.0 ≡ Less) → (entries_above R key m ≡ e ∷ rest → length (entries_above R e.0 m) < length (entries_above R key m))
          → length (entries_above R e.0 (f ∷ m)) < length (cond b (f ∷ entries_above R key m) (entries_above R key m))
      by_side true t q less fewer =
          let same : f ≡ e = cc in
          let itself : entries_above R f.0 (f ∷ m) ≡ entries_above R f.0 m = ap (λ (r : Ordering). cond (is_lt r) (f ∷ entries_above R f.0 m) (entries_above R f.0 m)) (tied_itself total f.0) in
          let most = no_more key f.0 m (less_of (R key f.0) t) in
          subst (λ (g : K × X). length (entries_above R g.0 (f ∷ m)) < length (f ∷ entries_above R key m)) same (omega (arith, ap length itself, most))
      by_side false t q less fewer = above (is_lt (R e.0 f.0)) refl t (less q) (fewer q)

  -- it is the entry of its own key
  found_above : (key : K) (m rest : Map K X) (e : K × X) → entries_above R key m ≡ e ∷ rest → value_at R e.0 m ≡ Some e.1
  found_above key m rest e is = by_side (is_lt (R key e.0)) (sym here ∙ ap (λ x. value_at R e.0 x) (sym is) ∙ where_it_is)
    where
      where_it_is : value_at R e.0 (entries_above R key m) ≡ cond (is_lt (R key e.0)) (value_at R e.0 m) None
      where_it_is = find-where_key R (λ k. is_lt (R key k)) e.0 (λ x tied. ap is_lt (sym (alike_right total e.0 x key tied))) m

      here : value_at R e.0 (e ∷ rest) ≡ Some e.1
      here = ap (λ (r : Ordering). cond (is_eq r) (Some e.1) (value_at R e.0 rest)) (tied_itself total e.0)

      by_side : (b : Bool) → Some e.1 ≡ cond b (value_at R e.0 m) None → value_at R e.0 m ≡ Some e.1
      by_side true same = sym same
      by_side false same = cc

-- An entry is the next above a key: there are fewer above it, it is the entry of its own key, and
-- where the keys rise, it and those above it are all above the key.
pub record IsNextAbove {K X : Type 0} (R : K → K → Ordering) (key : K) (m : Map K X) (e : K × X) : Type 0 where
  pub fewer : length (entries_above R e.0 m) < length (entries_above R key m)
  pub value : value_at R e.0 m ≡ Some e.1
  pub above : IsMap R m → entries_above R key m ≡ e ∷ entries_above R e.0 m

pub next_above : {K X : Type 0} (R : K → K → Ordering) (total : IsTotalOrder R) (key : K) (m : Map K X) (e : K × X) → entry_after R key m ≡ Some e → IsNextAbove R key m e
next_above R total key m e found =
    let f = first_gives (entries_above R key m) e found in
    record {
      fewer = fewer_above R total key m f.0 e f.1;
      value = found_above R total key m f.0 e f.1;
      above = λ sorted. f.1 ∙ ap (λ x. e ∷ x) (sym (after_next R total key m e f.0 sorted f.1));
    }

-- The same where the look-up gives the key alone.
pub next_key : {K X : Type 0} (R : K → K → Ordering) (total : IsTotalOrder R) (key next : K) (m : Map K X) → Some next ≡ option_map (λ e. e.0) (entry_after R key m)
    → (x : X) × IsNextAbove R key m (next, x)
next_key {K = K} {X = X} R total key next m found = by_entry (entry_after R key m) refl found
  where
    by_entry : (o : Option (K × X)) → entry_after R key m ≡ o → Some next ≡ option_map (λ e. e.0) o → (x : X) × IsNextAbove R key m (next, x)
    by_entry None is none = cc
    by_entry (Some e) is some = let same : next ≡ e.0 = cc in (e.1, subst (λ (k : K). IsNextAbove R key m (k, e.1)) (sym same) (next_above R total key m e is))

-- The same with the value that was looked up at that key.
pub next_with : {K X : Type 0} (R : K → K → Ordering) (total : IsTotalOrder R) (key next : K) (m : Map K X) (x : X) → Some next ≡ option_map (λ e. e.0) (entry_after R key m) → Some x ≡ value_at R next m
    → IsNextAbove R key m (next, x)
next_with {X = X} R total key next m x found valued =
    let k = next_key R total key next m found in
    let there : Some x ≡ Some k.0 = valued ∙ k.1.value in
    let same : k.0 ≡ x = cc in
    subst (λ (y : X). IsNextAbove R key m (next, y)) same k.1

pub has_value : {K X : Type 0} (R : K → K → Ordering) (total : IsTotalOrder R) (key next : K) (m : Map K X) → Some next ≡ option_map (λ e. e.0) (entry_after R key m) → None ≡ value_at R next m → ⊥
has_value R total key next m found none =
    let k = next_key R total key next m found in
    let there : None ≡ Some k.0 = none ∙ k.1.value in
    cc

pub no_next : {K X : Type 0} (R : K → K → Ordering) (key : K) (m : Map K X) → None ≡ entry_after R key m → entries_above R key m ≡ []
no_next R key m none = nothing_first (entries_above R key m) (sym none)

pub no_next_key : {K X : Type 0} (R : K → K → Ordering) (key : K) (m : Map K X) → None ≡ option_map (λ e. e.0) (entry_after R key m) → entries_above R key m ≡ []
no_next_key {K = K} {X = X} R key m none = by_entry (entry_after R key m) refl none
  where
    by_entry : (o : Option (K × X)) → entry_after R key m ≡ o → None ≡ option_map (λ e. e.0) o → entries_above R key m ≡ []
    by_entry None is nothing = nothing_first (entries_above R key m) is
    by_entry (Some e) is nothing = cc

-- ---- the first entry

-- Below each key of a map stands nothing, so all its entries are above 0.
above_zero : {X : Type 0} (n : ℕ) (m : Map ℕ X) → T (below_all nat_cmp n m) → (entries_above nat_cmp 0 m ≡ m) × (value_at nat_cmp 0 m ≡ None)
above_zero n [] low = (refl, refl)
above_zero {X = X} n (e ∷ m) low =
    let rest = above_zero n m (T_right (is_lt (nat_cmp n e.0)) (below_all nat_cmp n m) low) in
    let below : n < e.0 = ranked n e.0 Less (sym (is_less (nat_cmp n e.0) (T_left (is_lt (nat_cmp n e.0)) (below_all nat_cmp n m) low))) in
    let less : nat_cmp 0 e.0 ≡ Less = sym (nat_cmp_is 0 e.0 Less (omega (arith, below))) in (
      ap (λ (r : Ordering). cond (is_lt r) (e ∷ entries_above nat_cmp 0 m) (entries_above nat_cmp 0 m)) less ∙ ap (λ (r : Map ℕ X). e ∷ r) rest.0,
      ap (λ (r : Ordering). cond (is_eq r) (Some e.1) (value_at nat_cmp 0 m)) less ∙ rest.1,
    )

-- The entry at 0, if there is one, and those above it are all entries.
pub zero_first : {X : Type 0} (m : Map ℕ X) → IsMap nat_cmp m → at_zero m ++ entries_above nat_cmp 0 m ≡ m
zero_first [] sorted = refl
zero_first {X = X} (e ∷ m) sorted = by_side (nat_cmp 0 e.0) refl
  where
    rest : (entries_above nat_cmp 0 m ≡ m) × (value_at nat_cmp 0 m ≡ None)
    rest = above_zero e.0 m (T_left (below_all nat_cmp e.0 m) _ sorted)

    by : (r : Ordering) → Map ℕ X
    by r = entry_if (cond (is_eq r) (Some e.1) (value_at nat_cmp 0 m)) ++ cond (is_lt r) (e ∷ entries_above nat_cmp 0 m) (entries_above nat_cmp 0 m)

    by_side : (r : Ordering) → r ≡ nat_cmp 0 e.0 → by (nat_cmp 0 e.0) ≡ e ∷ m
    by_side Less is = ap by (sym is) ∙ ap (λ (o : Option X). entry_if o ++ e ∷ entries_above nat_cmp 0 m) rest.1 ∙ ap (λ (r : Map ℕ X). e ∷ r) rest.0
    by_side Equal is =
        let zero_is : 0 ≡ e.0 = ranked 0 e.0 Equal is in
        ap by (sym is) ∙ ap (λ (r : Map ℕ X). (0, e.1) ∷ r) rest.0 ∙ ap (λ (k : ℕ). (k, e.1) ∷ m) zero_is
    by_side Greater is = let below : e.0 < 0 = ranked 0 e.0 Greater is in absurd (omega (arith, below))
