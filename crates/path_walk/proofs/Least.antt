-- The entry with the least key above a key.
use Rattle.std.specs.Prelude.{◌≡◌, Bool, true, false, cond, T, [], ◌∷◌, Option, None, Some}
use Rattle.std.specs.declared.cmp.Ordering.{Ordering}
use Rattle.std.specs.declared.cmp.Ordering.TheVariants.{Less, Equal, Greater}
use Rattle.std.specs.Ordering.{is_lt, is_eq, ordering_reverse}
use Rattle.std.specs.Cmp.{IsTotalOrder, tied_itself, alike_right}
use Rattle.std.specs.FinMap.Entries.{below_all, find-where_key, is_sorted-where_key}
use Rattle.std.proofs.Common.{refl, sym, ap, subst, ◌∙◌}
use Rattle.std.proofs.lemmas.Map.Lookups.{CmpEqualImpliesEq}
use Rattle.send_model.specs.Map.{Map, IsMap, value_at}
use Rattle.send_model.proofs.MapLaws.{T_left, T_right, is_less}
use Rattle.send_model.proofs.Sorts.{same_inside}
use Rattle.shared_map.specs.Sought.{entries_above, entry_after}
use Rattle.path_index.proofs.Indexing.{first_gives, nothing_first}

less_of : (r : Ordering) → is_lt r ≡ true → r ≡ Less
less_of Less t = refl
less_of Equal t = cc
less_of Greater t = cc

module _ {K X : Type 0} (R : K → K → Ordering) (o : IsTotalOrder R) where
  -- An entry whose key is the least above a key.
  pub record IsLeastAbove (key : K) (m : Map K X) (e : K × X) : Type 0 where
    pub above : R key e.0 ≡ Less
    pub there : value_at R e.0 m ≡ Some e.1
    pub least : (k : K) (x : X) → value_at R k m ≡ Some x → R key k ≡ Less → R k e.0 ≡ Less → ⊥

  -- What is found above a key.
  found_above : (key k : K) (m : Map K X) → value_at R k (entries_above R key m) ≡ cond (is_lt (R key k)) (value_at R k m) None
  found_above key k m = find-where_key R (λ q. is_lt (R key q)) k (λ x tied. ap is_lt (sym (alike_right o k x key tied))) m

  above_there : (key k : K) (m : Map K X) (x : X) → value_at R k m ≡ Some x → R key k ≡ Less → value_at R k (entries_above R key m) ≡ Some x
  above_there key k m x is less = found_above key k m ∙ ap (λ (r : Ordering). cond (is_lt r) (value_at R k m) None) less ∙ is

  -- A key below all keys of a map is not in it.
  none_below : (k y : K) (m : Map K X) → R k y ≡ Less → T (below_all R y m) → value_at R k m ≡ None
  none_below k y [] less h = refl
  none_below k y (f ∷ m) less h =
      let more : R k f.0 ≡ Less = o.trans k y f.0 less (is_less _ (T_left _ _ h)) in
      ap (λ (r : Ordering). cond (is_eq r) (Some f.1) (value_at R k m)) more ∙ none_below k y m less (T_right _ _ h)

  pub least_above : (key : K) (m : Map K X) (e : K × X) → IsMap R m → entry_after R key m ≡ Some e → IsLeastAbove key m e
  least_above key m e sorted is =
      let f = first_gives (entries_above R key m) e is in
      let here : value_at R e.0 (entries_above R key m) ≡ Some e.1 =
      ap (value_at R e.0) f.1 ∙ ap (λ (r : Ordering). cond (is_eq r) (Some e.1) (value_at R e.0 f.0)) (tied_itself o e.0) in
      let g = one (is_lt (R key e.0)) refl (sym (found_above key e.0 m) ∙ here) in
      let sorted' : IsMap R (e ∷ f.0) = subst (λ (n : Map K X). IsMap R n) f.1 (is_sorted-where_key R (λ q. is_lt (R key q)) m sorted) in
      record {
        above = less_of (R key e.0) g.0;
        there = g.1;
        least = λ k x valued above less.
            let there : value_at R k (entries_above R key m) ≡ Some x = above_there key k m x valued above in
            let first : value_at R k (e ∷ f.0) ≡ None = ap (λ (r : Ordering). cond (is_eq r) (Some e.1) (value_at R k f.0)) less ∙ none_below k e.0 f.0 less (T_left _ _ sorted') in
            let none : value_at R k (entries_above R key m) ≡ None = ap (value_at R k) f.1 ∙ first in
            cc (there, none);
      }
    where
      one : (b : Bool) → is_lt (R key e.0) ≡ b → cond b (value_at R e.0 m) None ≡ Some e.1 → (is_lt (R key e.0) ≡ true) × (value_at R e.0 m ≡ Some e.1)
      one true t q = (t, q)
      one false t q = cc

  pub none_above : (key : K) (m : Map K X) → entry_after R key m ≡ None → (k : K) (x : X) → value_at R k m ≡ Some x → R key k ≡ Less → ⊥
  none_above key m is k x valued less =
      let empty : entries_above R key m ≡ [] = nothing_first (entries_above R key m) is in
      let there : value_at R k (entries_above R key m) ≡ Some x = above_there key k m x valued less in
      let none : value_at R k (entries_above R key m) ≡ None = ap (value_at R k) empty in cc (there, none)

  module _ (exact : CmpEqualImpliesEq R) where
    abbrev SameEntry : K × X → K × X → Type 0
    SameEntry a b = a ≡ b

    pub is_least : (key : K) (m : Map K X) (e : K × X) → IsMap R m → IsLeastAbove key m e → entry_after R key m ≡ Some e
    is_least key m e sorted h = one (entry_after R key m) refl
      where
        one : (q : Option (K × X)) → entry_after R key m ≡ q → q ≡ Some e
        one None is = absurd (none_above key m is e.0 e.1 h.there h.above)
        one (Some g) is = two (R g.0 e.0) refl
          where
            l : IsLeastAbove key m g
            l = least_above key m g sorted is

            two : (r : Ordering) → R g.0 e.0 ≡ r → Some g ≡ Some e
            two Less r = absurd (h.least g.0 g.1 l.there l.above r)
            two Greater r = absurd (l.least e.0 e.1 h.there h.above (o.antisymm e.0 g.0 ∙ ap ordering_reverse r))
            two Equal r =
                let same : g.0 ≡ e.0 = exact g.0 e.0 r in
                let valued : value_at R e.0 m ≡ Some g.1 = ap (λ (k : K). value_at R k m) (sym same) ∙ l.there in
                let value : g.1 ≡ e.1 = same_inside (sym valued ∙ h.there) in
                λ i. Some (same i, value i)

    pub is_none : (key : K) (m : Map K X) → IsMap R m → ((k : K) (x : X) → value_at R k m ≡ Some x → R key k ≡ Less → ⊥) → entry_after R key m ≡ None
    is_none key m sorted none = one (entry_after R key m) refl
      where
        one : (q : Option (K × X)) → entry_after R key m ≡ q → q ≡ None
        one None is = refl
        one (Some g) is = let l = least_above key m g sorted is in absurd (none g.0 g.1 l.there l.above)
