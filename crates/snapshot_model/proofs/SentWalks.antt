-- Paths of a subvolume and of those above them: a directory's path stands before the paths of its
-- entries, and is its only one; and which paths there are once a name was added.
use Rattle.std.specs.Prelude.{◌≡◌, ◌⊎◌, ℕ, zero, suc, ◌+◌, ◌≤◌, Bool, true, cond, ◌==◌, ◌&&◌, List, [], ◌∷◌, ◌++◌, length, Some, IsTrue}
use Rattle.std.specs.declared.cmp.Ordering.{Ordering}
use Rattle.std.specs.declared.cmp.Ordering.TheVariants.{Less}
use Rattle.std.specs.Ordering.{ordering_then}
use Rattle.std.specs.Cmp.{tied_itself, nat_cmp_total}
use Rattle.std.specs.List.{list_all, join_with_byte}
use Rattle.std.proofs.Common.{refl, sym, ap, ap₂, subst, ◌∙◌, arith, inl, inr, append_assoc, length-append}
use Rattle.std.proofs.lemmas.Bool.{and_parts, eq-eqb}
use Rattle.send_model.specs.Path.{slash, is_name, between_slashes, path_names}
use Rattle.send_model.specs.Map.{Map, bytes_cmp, named_cmp, value_at, without}
use Rattle.send_model.specs.Subvolume.{Subvolume, IsSound, root, named, is_directory, name_count, last_name, all_but_last}
use Rattle.send_model.proofs.MapLaws.{named_cmp_total, named_cmp_exact, cases_key, count-without, count-found, without-other, counts_one}
use Rattle.send_model.proofs.PathLaws.{path_by_pieces, path_names_short, path_names_all, is_name_length}
use Rattle.send_model.proofs.LeastPaths.{name_has_no_slash, no_slash_alone, joined, join_all}
use Rattle.send_model.proofs.FirstPaths.{slashes_append}
use Rattle.send_model.proofs.WalkLaws.{Leads, Step}

-- ---- lists at their last element

pub data Ends {A : Type 0} (xs : List A) : Type 0 where
  AtNone : xs ≡ [] → Ends xs
  AtLast : (front : List A) (last : A) → xs ≡ front ++ last ∷ [] → Ends xs

pub ends : {A : Type 0} (xs : List A) → Ends xs
ends [] = AtNone refl
ends (x ∷ xs) = one (ends xs)
  where
    one : Ends xs → Ends (x ∷ xs)
    one (AtNone e) = AtLast [] x (ap (λ (r : List _). x ∷ r) e)
    one (AtLast front last e) = AtLast (x ∷ front) last (ap (λ (r : List _). x ∷ r) e)

pub last_of : (front : List (List ℕ)) (name : List ℕ) → last_name (front ++ name ∷ []) ≡ Some name
last_of [] name = refl
last_of (x ∷ []) name = refl
last_of (x ∷ y ∷ front) name = last_of (y ∷ front) name

pub but_last_of : (front : List (List ℕ)) (name : List ℕ) → all_but_last (front ++ name ∷ []) ≡ front
but_last_of [] name = refl
but_last_of (x ∷ []) name = refl
but_last_of (x ∷ y ∷ front) name = ap (λ (r : List (List ℕ)). x ∷ r) (but_last_of (y ∷ front) name)

all_front : (front : List (List ℕ)) (name : List ℕ) → list_all is_name (front ++ name ∷ []) ≡ true → list_all is_name front ≡ true
all_front [] name h = refl
all_front (x ∷ front) name h =
    let p = and_parts (is_name x) (list_all is_name (front ++ name ∷ [])) h in
    ap₂ (λ (a b : Bool). a && b) p.0 (all_front front name p.1)

-- ---- the path above a path

join_last : (x : List ℕ) (front : List (List ℕ)) (name : List ℕ) → join_with_byte slash ((x ∷ front) ++ name ∷ []) ≡ join_with_byte slash (x ∷ front) ++ slash ∷ name
join_last x [] name = refl
join_last x (y ∷ front) name = ap (λ (r : List ℕ). x ++ slash ∷ r) (join_last y front name) ∙ sym (append_assoc x (slash ∷ join_with_byte slash (y ∷ front)) (slash ∷ name))

pieces_join : (x : List ℕ) (front : List (List ℕ)) → list_all is_name (x ∷ front) ≡ true → between_slashes (join_with_byte slash (x ∷ front)) ≡ x ∷ front
pieces_join x [] h = no_slash_alone x (name_has_no_slash x (and_parts (is_name x) true h).0)
pieces_join x (y ∷ front) h =
    let p = and_parts (is_name x) (list_all is_name (y ∷ front)) h in
    slashes_append x (join_with_byte slash (y ∷ front)) ∙ ap₂ (λ (a b : List (List ℕ)). a ++ b) (no_slash_alone x (name_has_no_slash x p.0)) (pieces_join y front p.1)

cmp_longer : (p : List ℕ) (b : ℕ) (more : List ℕ) → bytes_cmp p (p ++ b ∷ more) ≡ Less
cmp_longer [] b more = refl
cmp_longer (x ∷ p) b more = ap (λ (r : Ordering). ordering_then r (bytes_cmp p (p ++ b ∷ more))) (tied_itself nat_cmp_total x) ∙ cmp_longer p b more

same_names : (names others : List (List ℕ)) → Some names ≡ Some others → names ≡ others
same_names names others e = cc e

-- Paths with the same names are the same.
pub names_path : {C : Type 0} (s : Subvolume C) (p q : List ℕ) (names : List (List ℕ)) → path_names p ≡ Some names → path_names q ≡ Some names → p ≡ q
names_path s p q names e f = sym (joined s p names e).0 ∙ (joined s q names f).0

pub record Above (p : List ℕ) (front : List (List ℕ)) : Type 0 where
  pub path : List ℕ
  pub names_are : path_names path ≡ Some front
  pub before : bytes_cmp path p ≡ Less

pub above : {C : Type 0} (s : Subvolume C) (p : List ℕ) (front : List (List ℕ)) (name : List ℕ) → path_names p ≡ Some (front ++ name ∷ []) → Above p front
unfolding path_names
above s [] front name e = absurd (none front (same_names [] (front ++ name ∷ []) e))
  where
    none : (front : List (List ℕ)) → [] ≡ front ++ name ∷ [] → ⊥
    none [] f = cc f
    none (x ∷ front) f = cc f
above s (b ∷ p) [] name e = record { path = []; names_are = refl; before = refl }
above s (b ∷ p) (x ∷ front) name e =
    let good : list_all is_name ((x ∷ front) ++ name ∷ []) ≡ true = path_names_all (b ∷ p) ((x ∷ front) ++ name ∷ []) e in
    let all : list_all is_name (x ∷ front) ≡ true = all_front (x ∷ front) name good in
    let up : List ℕ = join_with_byte slash (x ∷ front) in
    let whole : b ∷ p ≡ up ++ slash ∷ name = sym (joined s (b ∷ p) ((x ∷ front) ++ name ∷ []) e).0 ∙ join_all ((x ∷ front) ++ name ∷ []) good ∙ join_last x front name in
    let short : length (b ∷ p) ≤ 4095 = path_names_short (b ∷ p) ((x ∷ front) ++ name ∷ []) e in
    let pieces : between_slashes up ≡ x ∷ front = pieces_join x front all in
    record {
      path = up;
      names_are = path_by_pieces up true (some x front all) (omega (arith, short, ap length whole, length-append up (slash ∷ name))) (ap (list_all is_name) pieces ∙ all) ∙ ap Some pieces;
      before = ap (bytes_cmp up) whole ∙ cmp_longer up slash name;
    }
  where
    some : (y : List ℕ) (rest : List (List ℕ)) → list_all is_name (y ∷ rest) ≡ true → 1 ≤ length (join_with_byte slash (y ∷ rest))
    some y [] h = (is_name_length y (and_parts (is_name y) true h).0).0
    some y (z ∷ rest) h = omega (arith, length-append y (slash ∷ join_with_byte slash (z ∷ rest)))

-- ---- steps

module _ (E : ℕ → List ℕ → ℕ → Type 0) where
  pub leads_last : (front : List (List ℕ)) (name : List ℕ) (from to : ℕ) → Leads E (front ++ name ∷ []) from to → (d : ℕ) × Leads E front from d × E d name to
  leads_last [] name from to l = (from, refl, subst (λ (i : ℕ). E from name i) l.2 l.1)
  leads_last (x ∷ front) name from to l = let r = leads_last front name l.0 to l.2 in (r.0, (l.0, l.1, r.1), r.2)

  pub leads_more : (front : List (List ℕ)) (name : List ℕ) (from d to : ℕ) → Leads E front from d → E d name to → Leads E (front ++ name ∷ []) from to
  leads_more [] name from d to l e = (to, subst (λ (i : ℕ). E i name to) (sym l) e, refl)
  leads_more (x ∷ front) name from d to l e = (l.0, l.1, leads_more front name l.0 d to l.2 e)

-- All steps but one were there before; that one leads to an inode that no step leaves.
module _ (E F : ℕ → List ℕ → ℕ → Type 0) (d x : ℕ) (name : List ℕ) (leaf : (n : List ℕ) (below : ℕ) → E x n below → ⊥)
    (was : (from : ℕ) (n : List ℕ) (below : ℕ) → E from n below → F from n below ⊎ ((from ≡ d) × (n ≡ name) × (below ≡ x))) where
  pub record Newly (names : List (List ℕ)) (from to : ℕ) : Type 0 where
    pub front : List (List ℕ)
    pub names_are : names ≡ front ++ name ∷ []
    pub leads : Leads F front from d
    pub ends_there : to ≡ x

  pub leads_new : (names : List (List ℕ)) (from to : ℕ) → Leads E names from to → Leads F names from to ⊎ Newly names from to
  leads_new [] from to l = inl l
  leads_new (n ∷ names) from to l = one (was from n l.0 l.1) (leads_new names l.0 to l.2)
    where
      stops : (names : List (List ℕ)) (below : ℕ) → below ≡ x → Leads E names below to → (names ≡ []) × (below ≡ to)
      stops [] below at m = (refl, m)
      stops (k ∷ names) below at m = absurd (leaf k m.0 (subst (λ (i : ℕ). E i k m.0) at m.1))

      one : F from n l.0 ⊎ ((from ≡ d) × (n ≡ name) × (l.0 ≡ x)) → Leads F names l.0 to ⊎ Newly names l.0 to → Leads F (n ∷ names) from to ⊎ Newly (n ∷ names) from to
      one (inl f) (inl rest) = inl (l.0, f, rest)
      one (inl f) (inr new) = inr (record { front = n ∷ new.front; names_are = ap (λ (r : List (List ℕ)). n ∷ r) new.names_are; leads = (l.0, f, new.leads); ends_there = new.ends_there })
      one (inr (at, is, below)) rest = let st = stops names l.0 below l.2 in
          inr (record { front = []; names_are = ap₂ (λ (a : List ℕ) (r : List (List ℕ)). a ∷ r) is st.0; leads = at; ends_there = sym st.1 ∙ below })

-- ---- a directory has one path

module _ {C : Type 0} (s : Subvolume C) (sound : IsSound s) where
  one_place : (d : ℕ) → IsTrue (is_directory s d) → (a b : ℕ × List ℕ) → value_at named_cmp a s.names ≡ Some d → value_at named_cmp b s.names ≡ Some d → a ≡ b
  unfolding name_count
  one_place d is a b at there = elim (cases_key named_cmp named_cmp_total named_cmp_exact a b) [
    | inl e ↦ e
    | inr n ↦
        let rest : Map (ℕ × List ℕ) ℕ = without named_cmp a s.names in
        let left : value_at named_cmp b rest ≡ Some d = without-other named_cmp named_cmp_total named_cmp_exact b a s.names (λ e. n (sym e)) ∙ there in
        let two = count-without named_cmp named_cmp_total named_cmp_exact d a d s.names sound.names_in_order at in
        let more = count-found named_cmp named_cmp_total named_cmp_exact d b rest left in
        let here : ◌≡◌ {A = ℕ} (cond (d == d) 1 0) 1 = counts_one (d == d) (eq-eqb d d refl) in
        absurd (omega (arith, two, more, here, sound.one_name d is))
  ]

  unnamed : (d : ℕ) (front : List (List ℕ)) (last : List ℕ) → Leads (Step s) (front ++ last ∷ []) root d → root ≡ d → ⊥
  unnamed d front last way at = let r = leads_last (Step s) front last root d way in sound.root_unnamed r.0 last (subst (λ (i : ℕ). named s r.0 last ≡ Some i) (sym at) r.2.1)

  by_ends : (names others : List (List ℕ)) (d : ℕ) → IsTrue (is_directory s d) → Leads (Step s) names root d → Leads (Step s) others root d
      → ((front front' : List (List ℕ)) (e : ℕ) → length front + 1 ≤ length names → IsTrue (is_directory s e) → Leads (Step s) front root e → Leads (Step s) front' root e → front ≡ front')
      → Ends names → Ends others → names ≡ others
  by_ends names others d is l m again (AtNone e) (AtNone f) = e ∙ sym f
  by_ends names others d is l m again (AtNone e) (AtLast front last f) = absurd (unnamed d front last (subst (λ (r : List (List ℕ)). Leads (Step s) r root d) f m) (subst (λ (r : List (List ℕ)). Leads (Step s) r root d) e l))
  by_ends names others d is l m again (AtLast front last e) (AtNone f) = absurd (unnamed d front last (subst (λ (r : List (List ℕ)). Leads (Step s) r root d) e l) (subst (λ (r : List (List ℕ)). Leads (Step s) r root d) f m))
  by_ends names others d is l m again (AtLast front last e) (AtLast front' last' f) =
      let a = leads_last (Step s) front last root d (subst (λ (r : List (List ℕ)). Leads (Step s) r root d) e l) in
      let b = leads_last (Step s) front' last' root d (subst (λ (r : List (List ℕ)). Leads (Step s) r root d) f m) in
      let same : (a.0, last) ≡ (b.0, last') = one_place d is (a.0, last) (b.0, last') a.2.1 b.2.1 in
      let at : a.0 ≡ b.0 = ap (λ (k : ℕ × List ℕ). k.0) same in
      let fronts : front ≡ front' = again front front' a.0 (omega (arith, ap length e, length-append front (last ∷ []))) a.2.0 a.1 (subst (λ (i : ℕ). Leads (Step s) front' root i) (sym at) b.1) in
      e ∙ ap₂ (λ (r : List (List ℕ)) (k : List ℕ). r ++ k ∷ []) fronts (ap (λ (k : ℕ × List ℕ). k.1) same) ∙ sym f

  one_way_to : (n : ℕ) (names others : List (List ℕ)) (d : ℕ) → length names ≤ n → IsTrue (is_directory s d) → Leads (Step s) names root d → Leads (Step s) others root d → names ≡ others
  one_way_to zero names others d short is l m = by_ends names others d is l m (λ front front' e less. absurd (omega (arith, less, short))) (ends names) (ends others)
  one_way_to (suc n) names others d short is l m =
      by_ends names others d is l m (λ front front' e less. one_way_to n front front' e (omega (arith, less, short))) (ends names) (ends others)

  pub one_way : (names others : List (List ℕ)) (d : ℕ) → IsTrue (is_directory s d) → Leads (Step s) names root d → Leads (Step s) others root d → names ≡ others
  one_way names others d is l m = one_way_to (length names) names others d (omega arith) is l m
