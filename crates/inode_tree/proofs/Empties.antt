-- Whether a directory is empty, by the name after its least place.
use Rattle.std.specs.Prelude.{◌≡◌, ℕ, ◌<◌, ◌≤◌, Bool, true, false, cond, not, T, List, [], ◌∷◌, Option, None, Some, is_some, slice_get, ◌==◌}
use Rattle.std.specs.declared.cmp.Ordering.{Ordering}
use Rattle.std.specs.declared.cmp.Ordering.TheVariants.{Less, Equal, Greater}
use Rattle.std.specs.Ordering.{nat_cmp, ordering_then, is_lt, is_eq}
use Rattle.std.specs.Cmp.{ranked}
use Rattle.std.specs.List.{filter}
use Rattle.std.specs.FinMap.Entries.{below_all}
use Rattle.std.proofs.Common.{refl, sym, ap, ◌∙◌, arith}
use Rattle.std.proofs.lemmas.Bool.{ne_eqb, eq-eqb, true≢false}
use Rattle.send_model.specs.Map.{Map, IsMap, bytes_cmp, named_cmp, value_at}
use Rattle.send_model.specs.Subvolume.{Subvolume, named, is_empty_directory}
use Rattle.send_model.proofs.MapLaws.{T_left, T_right, is_less}
use Rattle.send_model.proofs.SoundEdits.{empty_is_leaf}
use Rattle.shared_map.specs.Sought.{entries_above, entry_after}

abbrev pub other_directory : ℕ → Option ((ℕ × List ℕ) × ℕ) → Bool
other_directory x None = true
other_directory x (Some e) = not (e.0.0 == x)

abbrev pub none_left : {A : Type 0} → List A → Bool
none_left [] = true
none_left (e ∷ es) = false

first_rises : (a b : ℕ × List ℕ) → named_cmp a b ≡ Less → a.0 ≤ b.0
first_rises a b less = one (nat_cmp a.0 b.0) refl less
  where
    one : (o : Ordering) → o ≡ nat_cmp a.0 b.0 → ordering_then o (bytes_cmp a.1 b.1) ≡ Less → a.0 ≤ b.0
    one Less r e = let lt : a.0 < b.0 = ranked a.0 b.0 Less r in omega arith
    one Equal r e = let same : a.0 ≡ b.0 = ranked a.0 b.0 Equal r in omega arith
    one Greater r e = cc

-- No name is before the empty one.
least_first : (n : List ℕ) → bytes_cmp [] n ≡ Greater → ⊥
least_first [] e = cc
least_first (b ∷ n) e = cc

module _ (x : ℕ) where
  -- Where the places are above those of a directory, none of them is in it.
  skip_rest : (k : ℕ × List ℕ) (m : Map (ℕ × List ℕ) ℕ) → x < k.0 → T (below_all named_cmp k m) → none_left (filter (λ e. e.0.0 == x) m) ≡ true
  skip_rest k [] lt b = refl
  skip_rest k (f ∷ m) lt b =
      let le : k.0 ≤ f.0.0 = first_rises k f.0 (is_less (named_cmp k f.0) (T_left (is_lt (named_cmp k f.0)) (below_all named_cmp k m) b)) in
      ap (λ (t : Bool). none_left (cond t (f ∷ filter (λ e. e.0.0 == x) m) (filter (λ e. e.0.0 == x) m))) (ne_eqb f.0.0 x (λ same. absurd (omega arith)))
      ∙ skip_rest k m lt (T_right _ _ b)

  first_in : (m : Map (ℕ × List ℕ) ℕ) → IsMap named_cmp m → value_at named_cmp (x, []) m ≡ None → other_directory x (entry_after named_cmp (x, []) m) ≡ none_left (filter (λ e. e.0.0 == x) m)
  first_in [] sorted none = refl
  first_in (e ∷ m) sorted none = one (nat_cmp x e.0.0) (bytes_cmp [] e.0.1) refl refl none (first_in m (T_right _ _ sorted))
    where
      one : (o r : Ordering) → o ≡ nat_cmp x e.0.0 → r ≡ bytes_cmp [] e.0.1 → cond (is_eq (ordering_then o r)) (Some e.1) (value_at named_cmp (x, []) m) ≡ None
          → (value_at named_cmp (x, []) m ≡ None → other_directory x (entry_after named_cmp (x, []) m) ≡ none_left (filter (λ f. f.0.0 == x) m))
          → other_directory x (slice_get (cond (is_lt (ordering_then o r)) (e ∷ entries_above named_cmp (x, []) m) (entries_above named_cmp (x, []) m)) 0)
          ≡ none_left (cond (e.0.0 == x) (e ∷ filter (λ f. f.0.0 == x) m) (filter (λ f. f.0.0 == x) m))
      one Less r a b none more =
          let lt : x < e.0.0 = ranked x e.0.0 Less a in
          let differ : (e.0.0 == x) ≡ false = ne_eqb e.0.0 x (λ same. absurd (omega arith)) in
          ap not differ ∙ sym (ap (λ (t : Bool). none_left (cond t (e ∷ filter (λ f. f.0.0 == x) m) (filter (λ f. f.0.0 == x) m))) differ ∙ skip_rest e.0 m lt (T_left _ _ sorted))
      one Equal Less a b none more =
          let same : (e.0.0 == x) ≡ true = eq-eqb e.0.0 x (sym (ranked x e.0.0 Equal a)) in
          ap not same ∙ sym (ap (λ (t : Bool). none_left (cond t (e ∷ filter (λ f. f.0.0 == x) m) (filter (λ f. f.0.0 == x) m))) same)
      one Equal Equal a b none more = cc
      one Equal Greater a b none more = absurd (least_first e.0.1 (sym b))
      one Greater r a b none more =
          let lt : e.0.0 < x = ranked x e.0.0 Greater a in
          let differ : (e.0.0 == x) ≡ false = ne_eqb e.0.0 x (λ same. absurd (omega arith)) in
          more none ∙ sym (ap (λ (t : Bool). none_left (cond t (e ∷ filter (λ f. f.0.0 == x) m) (filter (λ f. f.0.0 == x) m))) differ)

by_none_left : {A : Type 0} (l : List A) → (elim l as (λ y. Bool) [ [] ↦ true | e ∷ es ↦ false ]) ≡ none_left l
by_none_left [] = refl
by_none_left (e ∷ es) = refl

none_by : {A : Type 0} (o : Option A) → is_some o ≡ false → o ≡ None
none_by None e = refl
none_by (Some y) e = absurd (true≢false e)

module _ {C : Type 0} (s : Subvolume C) (x : ℕ) where
  pub empty_by : IsMap named_cmp s.names → is_some (named s x []) ≡ false → is_empty_directory s x ≡ other_directory x (entry_after named_cmp (x, []) s.names)
  unfolding is_empty_directory
  empty_by sorted none = by_none_left (filter (λ e. e.0.0 == x) s.names) ∙ sym (first_in x s.names sorted (none_by _ none))

  pub full_by : is_some (named s x []) ≡ true → is_empty_directory s x ≡ false
  full_by some = one (is_empty_directory s x) refl (named s x []) refl some
    where
      one : (b : Bool) → is_empty_directory s x ≡ b → (o : Option ℕ) → named s x [] ≡ o → is_some o ≡ true → b ≡ false
      one false e o found is = refl
      one true e None found is = absurd (true≢false (sym is))
      one true e (Some ino) found is = absurd (empty_is_leaf s x e [] ino found)
