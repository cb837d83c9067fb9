-- The entries above a key: the first of them, and those above that; all entries of lawful names
-- stand above the least place.
use Rattle.std.specs.Prelude.{◌≡◌, ℕ, ◌<◌, ◌≤◌, Bool, true, false, cond, ◌&&◌, T, List, [], ◌∷◌, length}
use Rattle.std.specs.declared.cmp.Ordering.{Ordering}
use Rattle.std.specs.declared.cmp.Ordering.TheVariants.{Less, Equal, Greater}
use Rattle.std.specs.Ordering.{nat_cmp, ordering_then, ordering_reverse, is_lt}
use Rattle.std.specs.Cmp.{IsTotalOrder, tied_itself, ranked}
use Rattle.std.specs.List.{AllByRecursion}
use Rattle.std.specs.FinMap.Entries.{below_all}
use Rattle.std.proofs.Common.{refl, sym, ap, subst, ◌∙◌, arith}
use Rattle.send_model.specs.Path.{is_name}
use Rattle.send_model.specs.Map.{Map, IsMap, named_cmp}
use Rattle.send_model.proofs.MapLaws.{T_left, T_right, is_less}
use Rattle.send_model.proofs.PathLaws.{is_name_length}
use Rattle.shared_map.specs.Sought.{entries_above}

holds : (b : Bool) → T b → b ≡ true
holds true h = refl
holds false h = absurd h

first_is : {A : Type 0} {x y : A} {xs ys : List A} → x ∷ xs ≡ y ∷ ys → x ≡ y
first_is e = cc

rest_is : {A : Type 0} {x y : A} {xs ys : List A} → x ∷ xs ≡ y ∷ ys → xs ≡ ys
rest_is e = cc

module _ {K X : Type 0} (R : K → K → Ordering) (o : IsTotalOrder R) where
  below_less : (x y : K) (m : Map K X) → R x y ≡ Less → T (below_all R y m) → T (below_all R x m)
  below_less x y [] less h = tt
  below_less x y (f ∷ m) less h =
      let at : R y f.0 ≡ Less = is_less (R y f.0) (T_left (is_lt (R y f.0)) (below_all R y m) h) in
      let mine : R x f.0 ≡ Less = o.trans x y f.0 less at in
      let rest = below_less x y m less (T_right (is_lt (R y f.0)) (below_all R y m) h) in
      subst (λ (r : Ordering). T (is_lt r && below_all R x m)) (sym mine) rest

  all_above : (k : K) (m : Map K X) → T (below_all R k m) → entries_above R k m ≡ m
  all_above k [] h = refl
  all_above k (f ∷ m) h =
      let at : is_lt (R k f.0) ≡ true = holds (is_lt (R k f.0)) (T_left (is_lt (R k f.0)) (below_all R k m) h) in
      ap (λ (b : Bool). cond b (f ∷ entries_above R k m) (entries_above R k m)) at
      ∙ ap (λ (r : Map K X). f ∷ r) (all_above k m (T_right (is_lt (R k f.0)) (below_all R k m) h))

  first_above : (x k : K) (m : Map K X) (e : K × X) (rest : Map K X) → T (below_all R x m) → entries_above R k m ≡ e ∷ rest → R x e.0 ≡ Less
  first_above x k [] e rest h q = cc
  first_above x k (f ∷ m) e rest h q = one (is_lt (R k f.0)) q (first_above x k m e rest (T_right (is_lt (R x f.0)) (below_all R x m) h))
    where
      one : (b : Bool) → cond b (f ∷ entries_above R k m) (entries_above R k m) ≡ e ∷ rest → (entries_above R k m ≡ e ∷ rest → R x e.0 ≡ Less) → R x e.0 ≡ Less
      one true q more = subst (λ (g : K × X). R x g.0 ≡ Less) (first_is q) (is_less (R x f.0) (T_left (is_lt (R x f.0)) (below_all R x m) h))
      one false q more = more q

  -- The entries above the first of those above a key are the others of them.
  pub after_next : (k : K) (m : Map K X) (e : K × X) (rest : Map K X) → IsMap R m → entries_above R k m ≡ e ∷ rest → entries_above R e.0 m ≡ rest
  after_next k [] e rest h q = cc
  after_next k (f ∷ m) e rest h q = one (is_lt (R k f.0)) refl q (after_next k m e rest (T_right (below_all R f.0 m) _ h))
    where
      below : T (below_all R f.0 m)
      below = T_left (below_all R f.0 m) _ h

      itself : entries_above R f.0 (f ∷ m) ≡ m
      itself = ap (λ (r : Ordering). cond (is_lt r) (f ∷ entries_above R f.0 m) (entries_above R f.0 m)) (tied_itself o f.0) ∙ all_above f.0 m below

      less_of : (r : Ordering) → is_lt r ≡ true → r ≡ Less
      less_of Less t = refl
      less_of Equal t = cc
      less_of Greater t = cc

      one : (b : Bool) → is_lt (R k f.0) ≡ b → cond b (f ∷ entries_above R k m) (entries_above R k m) ≡ e ∷ rest → (entries_above R k m ≡ e ∷ rest → entries_above R e.0 m ≡ rest)
          → entries_above R e.0 (f ∷ m) ≡ rest
      one true t q more =
          let less : R k f.0 ≡ Less = less_of (R k f.0) t in
          let others : entries_above R k m ≡ m = all_above k m (below_less k f.0 m less below) in
          subst (λ (g : K × X). entries_above R g.0 (f ∷ m) ≡ rest) (first_is q) (itself ∙ sym others ∙ rest_is q)
      one false t q more =
          let after : R e.0 f.0 ≡ Greater = o.antisymm e.0 f.0 ∙ ap ordering_reverse (first_above f.0 k m e rest below q) in
          ap (λ (r : Ordering). cond (is_lt r) (f ∷ entries_above R e.0 m) (entries_above R e.0 m)) after ∙ more q

-- ---- the least place

above_least : (d : ℕ) (name : List ℕ) → 1 ≤ length name → is_lt (named_cmp (0, []) (d, name)) ≡ true
above_least d [] some = absurd (omega (arith, some))
above_least d (b ∷ name) some = one (nat_cmp 0 d) refl
  where
    one : (r : Ordering) → r ≡ nat_cmp 0 d → is_lt (ordering_then r Less) ≡ true
    one Less e = refl
    one Equal e = refl
    one Greater e = let below : d < 0 = ranked 0 d Greater e in absurd (omega (arith, below))

pub all_names_above : (names : Map (ℕ × List ℕ) ℕ) → AllByRecursion (λ e. is_name e.0.1 ≡ true) names → entries_above named_cmp (0, []) names ≡ names
all_names_above [] all = refl
all_names_above (e ∷ names) all =
    let at : is_lt (named_cmp (0, []) e.0) ≡ true = above_least e.0.0 e.0.1 (is_name_length e.0.1 all.0).0 in
    ap (λ (b : Bool). cond b (e ∷ entries_above named_cmp (0, []) names) (entries_above named_cmp (0, []) names)) at
    ∙ ap (λ (r : Map (ℕ × List ℕ) ℕ). e ∷ r) (all_names_above names all.1)
