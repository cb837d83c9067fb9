-- Names that are passed one after the other.
use Rattle.std.specs.Prelude.{◌≡◌, ℕ, ◌+◌, ◌<◌, ◌≤◌, ◌==◌, Bool, true, false, cond, List, [], ◌∷◌, map, length, Option, None, Some, is_some, slice_get}
use Rattle.std.specs.declared.cmp.Ordering.{Ordering}
use Rattle.std.specs.Ordering.{is_lt}
use Rattle.std.specs.List.{filter}
use Rattle.std.proofs.Common.{refl, sym, ap, subst, ◌∙◌, arith, inl, inr}
use Rattle.std.proofs.lemmas.Bool.{eq-eqb, ne_eqb}
use Rattle.send_model.specs.Map.{Map, IsMap, named_cmp, value_at}
use Rattle.send_model.proofs.MapLaws.{named_cmp_total}
use Rattle.shared_map.specs.Sought.{entries_above, entry_after}
use Rattle.path_index.specs.Places.{places_of}
use Rattle.path_index.proofs.Above.{after_next}
use Rattle.path_index.proofs.Indexing.{first_gives, nothing_first}
use Rattle.path_index.proofs.Named.{Among, among_named}

abbrev pub Names : Type 0
Names = Map (ℕ × List ℕ) ℕ

-- ---- the names of an inode

pub skips_other : (names : Names) (ino : ℕ) (e : (ℕ × List ℕ) × ℕ) → (e.1 ≡ ino → ⊥)
    → places_of (e ∷ names) ino ≡ places_of names ino
skips_other names ino e n =
    ap (λ (b : Bool). map (λ x. x.0)
    (cond b (e ∷ filter (λ x. x.1 == ino) names) (filter (λ x. x.1 == ino) names)))
    (ne_eqb e.1 ino n)

pub takes_own : (names : Names) (ino : ℕ) (e : (ℕ × List ℕ) × ℕ) → e.1 ≡ ino
    → places_of (e ∷ names) ino ≡ e.0 ∷ places_of names ino
takes_own names ino e s =
    ap (λ (b : Bool). map (λ x. x.0)
    (cond b (e ∷ filter (λ x. x.1 == ino) names) (filter (λ x. x.1 == ino) names)))
    (eq-eqb e.1 ino s)

-- ---- one name further

first_same : {A : Type 0} (x y : A) (xs ys : List A) → x ∷ xs ≡ y ∷ ys → x ≡ y
first_same x y xs ys e = cc

above_among : (k : ℕ × List ℕ) (names : Names) (e : (ℕ × List ℕ) × ℕ) (rest : Names)
    → entries_above named_cmp k names ≡ e ∷ rest → Among e.0 (places_of names e.1)
above_among k [] e rest q = cc
above_among k (f ∷ names) e rest q = one (is_lt (named_cmp k f.0)) q (above_among k names e rest)
  where
    later : (b : Bool) → Among e.0 (places_of names e.1)
        → Among e.0
        (map (λ x. x.0)
        (cond b (f ∷ filter (λ x. x.1 == e.1) names) (filter (λ x. x.1 == e.1) names)))
    later true a = inr a
    later false a = a

    one : (b : Bool)
        → cond b (f ∷ entries_above named_cmp k names) (entries_above named_cmp k names) ≡ e ∷ rest
        → (entries_above named_cmp k names ≡ e ∷ rest → Among e.0 (places_of names e.1))
        → Among e.0 (places_of (f ∷ names) e.1)
    one true q more =
        let same = first_same f e (entries_above named_cmp k names) rest q in
        subst (λ (ps : List (ℕ × List ℕ)). Among e.0 ps)
        (sym (takes_own names e.1 f (ap (λ (x : (ℕ × List ℕ) × ℕ). x.1) same)))
        (inl (ap (λ (x : (ℕ × List ℕ) × ℕ). x.0) same))
    one false q more = later (f.1 == e.1) (more q)

module _ (names : Names) (sorted : IsMap named_cmp names) (place : ℕ × List ℕ)
    (e : (ℕ × List ℕ) × ℕ) (found : entry_after named_cmp place names ≡ Some e) where
  pub next_is : entries_above named_cmp place names ≡ e ∷ entries_above named_cmp e.0 names
  next_is =
      let f = first_gives (entries_above named_cmp place names) e found in
      f.1 ∙ ap (λ (rest : Names). e ∷ rest)
      (sym (after_next named_cmp named_cmp_total place names e f.0 sorted f.1))

  pub fewer : length (entries_above named_cmp e.0 names) < length
      (entries_above named_cmp place names)
  fewer = omega (arith, ap length next_is)

  pub leads : value_at named_cmp e.0 names ≡ Some e.1
  leads = let f =
      first_gives (entries_above named_cmp place names) e found in
      among_named names e.0 e.1 sorted (above_among place names e f.0 f.1)

pub no_more : (names : Names) (place : ℕ × List ℕ) → entry_after named_cmp place names ≡ None
    → entries_above named_cmp place names ≡ []
no_more names place e = nothing_first (entries_above named_cmp place names) e

pub there_is : (o : Option ℕ) → is_some o ≡ true → (x : ℕ) × (o ≡ Some x)
there_is None e = cc
there_is (Some x) e = (x, refl)
