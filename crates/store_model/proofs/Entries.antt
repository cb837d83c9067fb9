-- Entries of stores: where they stand, and what a key finds.
use Rattle.std.specs.Prelude.{◌≡◌, ◌⊎◌, ℕ, Bool, true, false, ◌||◌, List, [], ◌∷◌, ◌++◌, Option, None, Some, is_some, if◌then◌else◌}
use Rattle.std.specs.List.{list_any, filter}
use Rattle.std.specs.Str.{bytes_eq}
use Rattle.std.proofs.Common.{refl, sym, ap, subst, ◌∙◌, inl, inr}
use Rattle.std.proofs.lemmas.Bool.{false≢true, true≢false}
use Rattle.send_model.specs.Store.{Key, same_key, Entry, IsStore, has_name, has_uuid, find, with_contents}
use Rattle.send_model.proofs.Stores.{bytes_eq_same, same_key_same, bytes_eq_true, same_key_true, or_parts}
use Rattle.store_model.specs.TurnLaws.{IsIn, IsComplete}

both_fail : (a b : Bool) → a ≡ false → b ≡ false → a || b ≡ false
both_fail false b e f = f
both_fail true b e f = absurd (true≢false e)

one_passes : (a b : Bool) → (a ≡ true) ⊎ (b ≡ true) → a || b ≡ true
one_passes true b h = refl
one_passes false b (inl e) = absurd (false≢true e)
one_passes false b (inr e) = e

module _ {A : Type 0} where
  pub in_left : (a : A) (xs ys : List A) → IsIn a xs → IsIn a (xs ++ ys)
  in_left a [] ys h = absurd h
  in_left a (x ∷ xs) ys (inl e) = inl e
  in_left a (x ∷ xs) ys (inr h) = inr (in_left a xs ys h)

  pub in_right : (a : A) (xs ys : List A) → IsIn a ys → IsIn a (xs ++ ys)
  in_right a [] ys h = h
  in_right a (x ∷ xs) ys h = inr (in_right a xs ys h)

  pub in_either : (a : A) (xs ys : List A) → IsIn a (xs ++ ys) → IsIn a xs ⊎ IsIn a ys
  in_either a [] ys h = inr h
  in_either a (x ∷ xs) ys (inl e) = inl (inl e)
  in_either a (x ∷ xs) ys (inr h) = elim (in_either a xs ys h) [ inl q ↦ inl (inr q) | inr q ↦ inr q ]

  -- a test that no element passes fails at each
  pub none_passes : (test : A → Bool) (a : A) (xs : List A) → list_any test xs ≡ false → IsIn a xs → test a ≡ false
  none_passes test a [] n h = absurd h
  none_passes test a (x ∷ xs) n (inl e) = ap test e ∙ (or_parts (test x) (list_any test xs) n).0
  none_passes test a (x ∷ xs) n (inr h) = none_passes test a xs (or_parts (test x) (list_any test xs) n).1 h

  pub all_fail : (test : A → Bool) (xs : List A) → ((a : A) → IsIn a xs → test a ≡ false) → list_any test xs ≡ false
  all_fail test [] f = refl
  all_fail test (x ∷ xs) f = both_fail (test x) (list_any test xs) (f x (inl refl)) (all_fail test xs (λ a h. f a (inr h)))

  pub passes : (test : A → Bool) (a : A) (xs : List A) → IsIn a xs → test a ≡ true → list_any test xs ≡ true
  passes test a [] h t = absurd h
  passes test a (x ∷ xs) (inl e) t = one_passes (test x) (list_any test xs) (inl (sym (ap test e) ∙ t))
  passes test a (x ∷ xs) (inr h) t = one_passes (test x) (list_any test xs) (inr (passes test a xs h t))

  pub which_passes : (test : A → Bool) (xs : List A) → list_any test xs ≡ true → (a : A) × IsIn a xs × (test a ≡ true)
  which_passes test [] h = absurd (false≢true h)
  which_passes test (x ∷ xs) h = one (test x) refl (λ q. which_passes test xs q) h
    where
      one : (b : Bool) → test x ≡ b → (list_any test xs ≡ true → (a : A) × IsIn a xs × (test a ≡ true)) → b || list_any test xs ≡ true → (a : A) × IsIn a (x ∷ xs) × (test a ≡ true)
      one true e more q = (x, inl refl, e)
      one false e more q = let r = more q in (r.0, inr r.1, r.2)

  -- what a filter keeps
  pub kept : (test : A → Bool) (a : A) (xs : List A) → IsIn a xs → test a ≡ true → IsIn a (filter test xs)
  kept test a [] h t = absurd h
  kept test a (x ∷ xs) h t = one (test x) refl (λ q. kept test a xs q t) h
    where
      one : (b : Bool) → test x ≡ b → (IsIn a xs → IsIn a (filter test xs)) → IsIn a (x ∷ xs) → IsIn a (if b then x ∷ filter test xs else filter test xs)
      one true e more (inl q) = inl q
      one true e more (inr q) = inr (more q)
      one false e more (inl q) = absurd (true≢false (sym t ∙ ap test q ∙ e))
      one false e more (inr q) = more q

  pub was_kept : (test : A → Bool) (a : A) (xs : List A) → IsIn a (filter test xs) → IsIn a xs × (test a ≡ true)
  was_kept test a [] h = absurd h
  was_kept test a (x ∷ xs) h = one (test x) refl (λ q. was_kept test a xs q) h
    where
      one : (b : Bool) → test x ≡ b → (IsIn a (filter test xs) → IsIn a xs × (test a ≡ true)) → IsIn a (if b then x ∷ filter test xs else filter test xs) → IsIn a (x ∷ xs) × (test a ≡ true)
      one true e more (inl q) = (inl q, ap test q ∙ e)
      one true e more (inr q) = let r = more q in (inr r.0, r.1)
      one false e more q = let r = more q in (inr r.0, r.1)

pub differ : (xs ys : List ℕ) → bytes_eq xs ys ≡ false → xs ≡ ys → ⊥
differ xs ys n e = false≢true (sym n ∙ ap (λ (zs : List ℕ). bytes_eq zs ys) e ∙ bytes_eq_same ys)

pub not_equal : (xs ys : List ℕ) → (xs ≡ ys → ⊥) → bytes_eq xs ys ≡ false
not_equal xs ys n = one (bytes_eq xs ys) refl
  where
    one : (b : Bool) → bytes_eq xs ys ≡ b → b ≡ false
    one true e = absurd (n (bytes_eq_true xs ys e))
    one false e = refl

module _ {S : Type 0} where
  -- two entries of one name, or of one uuid, are one
  pub one_name : (store : List (Entry S)) (a b : Entry S) → IsStore store → IsIn a store → IsIn b store → a.name ≡ b.name → a ≡ b
  one_name [] a b d h k e = absurd h
  one_name (x ∷ store) a b d (inl p) (inl q) e = p ∙ sym q
  one_name (x ∷ store) a b d (inl p) (inr q) e = absurd (differ b.name x.name (none_passes (λ y. bytes_eq y.name x.name) b store d.0 q) (sym e ∙ ap (λ (y : Entry S). y.name) p))
  one_name (x ∷ store) a b d (inr p) (inl q) e = absurd (differ a.name x.name (none_passes (λ y. bytes_eq y.name x.name) a store d.0 p) (e ∙ ap (λ (y : Entry S). y.name) q))
  one_name (x ∷ store) a b d (inr p) (inr q) e = one_name store a b d.2 p q e

  pub one_uuid : (store : List (Entry S)) (a b : Entry S) → IsStore store → IsIn a store → IsIn b store → a.key.uuid ≡ b.key.uuid → a ≡ b
  one_uuid [] a b d h k e = absurd h
  one_uuid (x ∷ store) a b d (inl p) (inl q) e = p ∙ sym q
  one_uuid (x ∷ store) a b d (inl p) (inr q) e = absurd (differ b.key.uuid x.key.uuid (none_passes (λ y. bytes_eq y.key.uuid x.key.uuid) b store d.1 q) (sym e ∙ ap (λ (y : Entry S). y.key.uuid) p))
  one_uuid (x ∷ store) a b d (inr p) (inl q) e = absurd (differ a.key.uuid x.key.uuid (none_passes (λ y. bytes_eq y.key.uuid x.key.uuid) a store d.1 p) (e ∙ ap (λ (y : Entry S). y.key.uuid) q))
  one_uuid (x ∷ store) a b d (inr p) (inr q) e = one_uuid store a b d.2 p q e

  -- one entry more, of a new name and a new uuid
  pub one_more : (store : List (Entry S)) (last : Entry S) → IsStore store → has_name last.name store ≡ false → has_uuid last.key.uuid store ≡ false → IsStore (store ++ last ∷ [])
  one_more [] last d n u = (refl, refl, tt)
  one_more (x ∷ store) last d n u =
      let a = or_parts (bytes_eq x.name last.name) (has_name last.name store) n in
      let b = or_parts (bytes_eq x.key.uuid last.key.uuid) (has_uuid last.key.uuid store) u in (
        all_fail (λ y. bytes_eq y.name x.name) (store ++ last ∷ []) (λ y h. elim (in_either y store (last ∷ []) h) [
          | inl q ↦ none_passes (λ z. bytes_eq z.name x.name) y store d.0 q
          | inr q ↦ elim q [ inl e ↦ not_equal y.name x.name (λ p. differ x.name last.name a.0 (sym p ∙ ap (λ (z : Entry S). z.name) e)) | inr e ↦ absurd e ]
        ]),
        all_fail (λ y. bytes_eq y.key.uuid x.key.uuid) (store ++ last ∷ []) (λ y h. elim (in_either y store (last ∷ []) h) [
          | inl q ↦ none_passes (λ z. bytes_eq z.key.uuid x.key.uuid) y store d.1 q
          | inr q ↦ elim q [ inl e ↦ not_equal y.key.uuid x.key.uuid (λ p. differ x.key.uuid last.key.uuid b.0 (sym p ∙ ap (λ (z : Entry S). z.key.uuid) e)) | inr e ↦ absurd e ]
        ]),
        one_more store last d.2 a.1 b.1,
      )

  -- what a key finds stands there, and what stands there is found
  abbrev Found : List (Entry S) → Key → S → Type 0
  Found store key s = (e : Entry S) × IsIn e store × (e.key ≡ key) × (e.contents ≡ Some s)

  pub find_in : (store : List (Entry S)) (key : Key) (s : S) → find store key ≡ Some s → Found store key s
  unfolding find
  find_in [] key s h = cc
  find_in (x ∷ store) key s h = one (same_key x.key key) refl (λ q. let r = find_in store key s q in (r.0, inr r.1, r.2, r.3)) h
    where
      two : (o : Option S) → x.contents ≡ o → x.key ≡ key → (find store key ≡ Some s → Found (x ∷ store) key s) → (elim o as (λ z. Option S) [ None ↦ find store key | Some t ↦ Some t ]) ≡ Some s → Found (x ∷ store) key s
      two None c k more q = more q
      two (Some t) c k more q = (x, inl refl, k, c ∙ q)

      one : (b : Bool) → same_key x.key key ≡ b → (find store key ≡ Some s → Found (x ∷ store) key s) → (if b then elim x.contents as (λ z. Option S) [ None ↦ find store key | Some t ↦ Some t ] else find store key) ≡ Some s → Found (x ∷ store) key s
      one true k more q = two x.contents refl (same_key_true x.key key k) more q
      one false k more q = more q

  pub in_find : (store : List (Entry S)) (e : Entry S) (s : S) → IsStore store → IsIn e store → e.contents ≡ Some s → find store e.key ≡ Some s
  unfolding find
  in_find [] e s d h c = absurd h
  in_find (x ∷ store) e s d (inl p) c = here (same_key x.key e.key) (ap (λ (y : Entry S). same_key y.key e.key) (sym p) ∙ same_key_same e.key) (x.contents) (sym (ap (λ (y : Entry S). y.contents) p) ∙ c)
    where
      here : (b : Bool) → b ≡ true → (o : Option S) → o ≡ Some s → (if b then elim o as (λ z. Option S) [ None ↦ find store e.key | Some t ↦ Some t ] else find store e.key) ≡ Some s
      here true q None c = cc
      here true q (Some t) c = c
      here false q o c = absurd (false≢true q)
  in_find (x ∷ store) e s d (inr p) c = there (same_key x.key e.key) refl (in_find store e s d.2 p c)
    where
      there : (b : Bool) → same_key x.key e.key ≡ b → find store e.key ≡ Some s → (if b then elim x.contents as (λ z. Option S) [ None ↦ find store e.key | Some t ↦ Some t ] else find store e.key) ≡ Some s
      there true q f = absurd (differ e.key.uuid x.key.uuid (none_passes (λ y. bytes_eq y.key.uuid x.key.uuid) e store d.1 p) (ap (λ (k : Key). k.uuid) (sym (same_key_true x.key e.key q))))
      there false q f = f

  -- a store that has all complete entries of another finds what that one finds
  pub finds_more : (old new : List (Entry S)) → IsStore new → ((e : Entry S) → IsComplete e → IsIn e old → IsIn e new) → (key : Key) (s : S) → find old key ≡ Some s → find new key ≡ Some s
  finds_more old new d f key s h =
      let r = find_in old key s h in
      subst (λ (k : Key). find new k ≡ Some s) r.2 (in_find new r.0 s d (f r.0 (ap is_some r.3) r.1) r.3)

  -- ---- the entry of a uuid gets its contents

  -- what stands in the store then: another entry as it was, or that of the uuid with its contents
  abbrev pub Was : List ℕ → S → List (Entry S) → Entry S → Type 0
  Was uuid s store e = (IsIn e store × (bytes_eq e.key.uuid uuid ≡ false)) ⊎ ((d : Entry S) × IsIn d store × (d.key.uuid ≡ uuid) × (e ≡ record d { contents = Some s }))

  pub in_contents : (uuid : List ℕ) (s : S) (store : List (Entry S)) (e : Entry S) → IsStore store → IsIn e (with_contents uuid s store) → Was uuid s store e
  unfolding with_contents
  in_contents uuid s [] e d h = absurd h
  in_contents uuid s (x ∷ store) e d h = one (bytes_eq x.key.uuid uuid) refl (λ p. in_contents uuid s store e d.2 p) h
    where
      one : (b : Bool) → bytes_eq x.key.uuid uuid ≡ b → (IsIn e (with_contents uuid s store) → Was uuid s store e) → IsIn e (if b then record x { contents = Some s } ∷ store else x ∷ with_contents uuid s store) → Was uuid s (x ∷ store) e
      one true u more (inl p) = inr (x, inl refl, bytes_eq_true x.key.uuid uuid u, p)
      one true u more (inr p) = inl (inr p, not_equal e.key.uuid uuid (λ q. differ e.key.uuid x.key.uuid (none_passes (λ y. bytes_eq y.key.uuid x.key.uuid) e store d.1 p) (q ∙ sym (bytes_eq_true x.key.uuid uuid u))))
      one false u more (inl p) = inl (inl p, ap (λ (y : Entry S). bytes_eq y.key.uuid uuid) p ∙ u)
      one false u more (inr p) = elim (more p) [ inl q ↦ inl (inr q.0, q.1) | inr q ↦ inr (q.0, inr q.1, q.2, q.3) ]

  pub others_stay : (uuid : List ℕ) (s : S) (store : List (Entry S)) (e : Entry S) → IsIn e store → bytes_eq e.key.uuid uuid ≡ false → IsIn e (with_contents uuid s store)
  unfolding with_contents
  others_stay uuid s [] e h n = absurd h
  others_stay uuid s (x ∷ store) e h n = one (bytes_eq x.key.uuid uuid) refl (λ p. others_stay uuid s store e p n) h
    where
      one : (b : Bool) → bytes_eq x.key.uuid uuid ≡ b → (IsIn e store → IsIn e (with_contents uuid s store)) → IsIn e (x ∷ store) → IsIn e (if b then record x { contents = Some s } ∷ store else x ∷ with_contents uuid s store)
      one true u more (inl p) = absurd (false≢true (sym n ∙ ap (λ (y : Entry S). bytes_eq y.key.uuid uuid) p ∙ u))
      one true u more (inr p) = inr p
      one false u more (inl p) = inl p
      one false u more (inr p) = inr (more p)

  pub own_gets : (uuid : List ℕ) (s : S) (store : List (Entry S)) (e : Entry S) → IsStore store → IsIn e store → e.key.uuid ≡ uuid → IsIn (record e { contents = Some s }) (with_contents uuid s store)
  unfolding with_contents
  own_gets uuid s [] e d h k = absurd h
  own_gets uuid s (x ∷ store) e d h k = one (bytes_eq x.key.uuid uuid) refl (λ p. own_gets uuid s store e d.2 p k) h
    where
      one : (b : Bool) → bytes_eq x.key.uuid uuid ≡ b → (IsIn e store → IsIn (record e { contents = Some s }) (with_contents uuid s store)) → IsIn e (x ∷ store) → IsIn (record e { contents = Some s }) (if b then record x { contents = Some s } ∷ store else x ∷ with_contents uuid s store)
      one true u more (inl p) = inl (ap (λ (y : Entry S). record y { contents = Some s }) p)
      one true u more (inr p) = absurd (differ e.key.uuid x.key.uuid (none_passes (λ y. bytes_eq y.key.uuid x.key.uuid) e store d.1 p) (k ∙ sym (bytes_eq_true x.key.uuid uuid u)))
      one false u more (inl p) = absurd (differ x.key.uuid uuid u (ap (λ (y : Entry S). y.key.uuid) (sym p) ∙ k))
      one false u more (inr p) = inr (more p)

  same_tests : (test : Entry S → Bool) → ((e : Entry S) (o : Option S) → test (record e { contents = o }) ≡ test e) → (uuid : List ℕ) (s : S) (store : List (Entry S)) → list_any test (with_contents uuid s store) ≡ list_any test store
  unfolding with_contents
  same_tests test same uuid s [] = refl
  same_tests test same uuid s (e ∷ store) = one (bytes_eq e.key.uuid uuid) (same_tests test same uuid s store)
    where
      one : (b : Bool) → list_any test (with_contents uuid s store) ≡ list_any test store → list_any test (if b then record e { contents = Some s } ∷ store else e ∷ with_contents uuid s store) ≡ list_any test (e ∷ store)
      one true more = ap (λ (b : Bool). b || list_any test store) (same e (Some s))
      one false more = ap (λ (b : Bool). test e || b) more

  pub same_uuids : (uuid : List ℕ) (s : S) (store : List (Entry S)) (other : List ℕ) → has_uuid other (with_contents uuid s store) ≡ has_uuid other store
  same_uuids uuid s store other = same_tests (λ x. bytes_eq x.key.uuid other) (λ x o. refl) uuid s store

  pub still_distinct : (uuid : List ℕ) (s : S) (store : List (Entry S)) → IsStore store → IsStore (with_contents uuid s store)
  unfolding with_contents
  still_distinct uuid s [] h = tt
  still_distinct uuid s (e ∷ store) h = one (bytes_eq e.key.uuid uuid) (still_distinct uuid s store h.2)
    where
      one : (b : Bool) → IsStore (with_contents uuid s store) → IsStore (if b then record e { contents = Some s } ∷ store else e ∷ with_contents uuid s store)
      one true more = h
      one false more = (same_tests (λ x. bytes_eq x.name e.name) (λ x o. refl) uuid s store ∙ h.0, same_tests (λ x. bytes_eq x.key.uuid e.key.uuid) (λ x o. refl) uuid s store ∙ h.1, more)
