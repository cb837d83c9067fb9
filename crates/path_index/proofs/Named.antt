-- The names of an inode: a place is among them where a name there leads to the inode.
use Rattle.std.specs.Prelude.{◌≡◌, ◌⊎◌, ℕ, ◌<◌, ◌≤◌, ◌==◌, Bool, true, false, cond, List, [], ◌∷◌, map, length, get_or, None, Some, suc, zero}
use Rattle.std.specs.Ordering.{eq_by_cmp, is_eq}
use Rattle.std.specs.Cmp.{Equal-is, tied_itself}
use Rattle.std.specs.List.{AllByRecursion, filter}
use Rattle.std.proofs.Common.{refl, sym, ap, subst, ◌∙◌, arith, inl, inr}
use Rattle.std.proofs.lemmas.Bool.{eq-eqb, eqb-true}
use Rattle.std.proofs.lemmas.List.{length-map}
use Rattle.send_model.specs.Map.{Map, IsMap, named_cmp, value_at}
use Rattle.send_model.specs.Subvolume.{Subvolume, IsSound, named, name_count, is_directory}
use Rattle.send_model.proofs.MapLaws.{T_left, T_right, below_none, named_cmp_total, named_cmp_exact}
use Rattle.send_model.proofs.Sorts.{same_inside}
use Rattle.path_index.specs.Places.{places_of}

abbrev pub Among : {A : Type 0} → A → List A → Type 0
Among x [] = ⊥
Among x (y ∷ ys) = (y ≡ x) ⊎ Among x ys

pub all_at : {A : Type 0} (P : A → Type 0) (x : A) (xs : List A) → AllByRecursion P xs → Among x xs → P x
all_at P x [] all a = absurd a
all_at P x (y ∷ xs) all (inl e) = subst P e all.0
all_at P x (y ∷ xs) all (inr more) = all_at P x xs all.1 more

pub among_get : {A : Type 0} (xs : List A) (i : ℕ) (d : A) → i < length xs → Among (get_or xs i d) xs
among_get [] i d h = absurd (omega (arith, h))
among_get (x ∷ xs) zero d h = inl refl
among_get (x ∷ xs) (suc i) d h = inr (among_get xs i d (omega (arith, h)))

-- A place of a name that leads to an inode is among the inode's.
pub place_among : (m : Map (ℕ × List ℕ) ℕ) (k : ℕ × List ℕ) (x : ℕ) → value_at named_cmp k m ≡ Some x → Among k (places_of m x)
place_among [] k x e = cc
place_among (f ∷ m) k x e = one (eq_by_cmp named_cmp k f.0) refl e (place_among m k x)
  where
    here : k ≡ f.0 → f.1 ≡ x → Among k (places_of (f ∷ m) x)
    here same is = subst (λ (b : Bool). Among k (map (λ e. e.0) (cond b (f ∷ filter (λ e. e.1 == x) m) (filter (λ e. e.1 == x) m)))) (sym (eq-eqb f.1 x is)) (inl (sym same))

    later : (b : Bool) → Among k (places_of m x) → Among k (map (λ e. e.0) (cond b (f ∷ filter (λ e. e.1 == x) m) (filter (λ e. e.1 == x) m)))
    later true a = inr a
    later false a = a

    one : (b : Bool) → eq_by_cmp named_cmp k f.0 ≡ b → cond b (Some f.1) (value_at named_cmp k m) ≡ Some x → (value_at named_cmp k m ≡ Some x → Among k (places_of m x)) → Among k (places_of (f ∷ m) x)
    one true t s more = here (named_cmp_exact k f.0 ((Equal-is _).0 t)) (same_inside s)
    one false t s more = later (f.1 == x) (more s)

-- At a place among an inode's, a name leads to it.
pub among_named : (m : Map (ℕ × List ℕ) ℕ) (k : ℕ × List ℕ) (x : ℕ) → IsMap named_cmp m → Among k (places_of m x) → value_at named_cmp k m ≡ Some x
among_named [] k x h a = absurd a
among_named (f ∷ m) k x h a = one (f.1 == x) refl a (among_named m k x (T_right _ _ h))
  where
    itself : f.0 ≡ k → f.1 ≡ x → value_at named_cmp k (f ∷ m) ≡ Some x
    itself same is =
        let at : value_at named_cmp f.0 (f ∷ m) ≡ Some f.1 = ap (λ (b : Bool). cond b (Some f.1) (value_at named_cmp f.0 m)) (ap is_eq (tied_itself named_cmp_total f.0)) in
        subst (λ (q : ℕ × List ℕ). value_at named_cmp q (f ∷ m) ≡ Some x) same (at ∙ ap (λ (n : ℕ). Some n) is)

    skipped : value_at named_cmp k m ≡ Some x → value_at named_cmp k (f ∷ m) ≡ Some x
    skipped later = two (eq_by_cmp named_cmp k f.0) refl
      where
        two : (b : Bool) → eq_by_cmp named_cmp k f.0 ≡ b → cond b (Some f.1) (value_at named_cmp k m) ≡ Some x
        two true t = let none : value_at named_cmp k m ≡ None = below_none named_cmp named_cmp_total named_cmp_exact k f.0 m ((Equal-is _).0 t) (T_left _ _ h) in cc (none, later)
        two false t = later

    one : (b : Bool) → (f.1 == x) ≡ b → Among k (map (λ e. e.0) (cond b (f ∷ filter (λ e. e.1 == x) m) (filter (λ e. e.1 == x) m))) → (Among k (places_of m x) → value_at named_cmp k m ≡ Some x)
        → value_at named_cmp k (f ∷ m) ≡ Some x
    one true t (inl same) more = itself same (eqb-true f.1 x t)
    one true t (inr a) more = skipped (more a)
    one false t a more = skipped (more a)

-- ---- a directory has one name

alone : {A : Type 0} (x y : A) (xs rest : List A) → xs ≡ y ∷ rest → length xs ≤ 1 → Among x xs → x ≡ y
alone x y [] rest e l a = cc
alone x y (z ∷ []) rest e l (inl same) = cc
alone x y (z ∷ []) rest e l (inr more) = absurd more
alone x y (z ∷ w ∷ xs) rest e l a = absurd (omega (arith, l))

module _ {C : Type 0} (s : Subvolume C) where
  -- A name that leads to a directory stands at the first of the directory's places.
  pub directory_place : IsSound s → (directory : ℕ) → is_directory s directory ≡ true → (first : ℕ × List ℕ) (rest : List (ℕ × List ℕ)) → places_of s.names directory ≡ first ∷ rest
      → (place : ℕ × List ℕ) → named s place.0 place.1 ≡ Some directory → place ≡ first
  unfolding name_count
  directory_place sound directory is first rest e place found =
      let few : length (filter (λ e. e.1 == directory) s.names) ≤ 1 = sound.one_name directory is in
      let short : length (places_of s.names directory) ≤ 1 = omega (arith, few, length-map (filter (λ (e : (ℕ × List ℕ) × ℕ). e.1 == directory) s.names) (λ e. e.0)) in
      alone place first (places_of s.names directory) rest e short (place_among s.names place directory found)
