-- What an entry that is put into an ordered map leaves.
use Rattle.std.proofs.Common.{◌≡◌, ◌⊎◌, inl, inr, Bool, true, false, cond, List, [], ◌∷◌, map, Option, Some, None, refl, sym, ap, subst, ◌∙◌}
use Rattle.std.specs.declared.cmp.Ordering.{Ordering}
use Rattle.std.specs.declared.cmp.Ordering.TheVariants.{Less, Equal, Greater}
use Rattle.std.specs.List.{AllByRecursion}
use Rattle.std.specs.Map.{lookup}
use Rattle.std.specs.Ordering.{match_ordering, is_eq}
use Rattle.std.specs.BTreeMap.{insert_entry, is_at}
use Rattle.stand_index.specs.Blocks.{OneHas}

module _ {K X : Type 0} (order : K → K → Ordering) (exact : (a b : K) → order a b ≡ Equal → a ≡ b) (k : K) (v : X) where
  -- Each entry has a property where each had it and the new one has.
  pub all_inserted : (P : K × X → Type 0) (es : List (K × X)) → AllByRecursion P es → P (k, v) → AllByRecursion P (insert_entry order es k v)
  all_inserted P [] all new = (new, tt)
  all_inserted P (e ∷ es) all new = one (order k e.0) refl (all_inserted P es all.1 new)
    where
      one : (o : Ordering) → order k e.0 ≡ o → AllByRecursion P (insert_entry order es k v) → AllByRecursion P (match_ordering o ((k, v) ∷ e ∷ es) ((e.0, v) ∷ es) (e ∷ insert_entry order es k v))
      one Less is more = (new, all)
      one Equal is more = (subst (λ (j : K). P (j, v)) (exact k e.0 is) new, all.1)
      one Greater is more = (all.0, more)

  module _ {B : Type 0} (f : K × X → B) (P : B → Type 0) where
    -- The new one is there.
    pub new_there : (es : List (K × X)) → P (f (k, v)) → OneHas P (map f (insert_entry order es k v))
    new_there [] new = inl new
    new_there (e ∷ es) new = one (order k e.0) refl (new_there es new)
      where
        one : (o : Ordering) → order k e.0 ≡ o → OneHas P (map f (insert_entry order es k v)) → OneHas P (map f (match_ordering o ((k, v) ∷ e ∷ es) ((e.0, v) ∷ es) (e ∷ insert_entry order es k v)))
        one Less is more = inl new
        one Equal is more = inl (subst (λ (j : K). P (f (j, v))) (exact k e.0 is) new)
        one Greater is more = inr more

    -- The others are there still, where what stood at the key is had by the new one too.
    pub old_there : (es : List (K × X)) → ((was : X) → lookup (is_at (order k)) es ≡ Some was → P (f (k, was)) → P (f (k, v)))
        → OneHas P (map f es) → OneHas P (map f (insert_entry order es k v))
    old_there [] more has = inl (elim has [ ])
    old_there (e ∷ es) more has = one (order k e.0) refl (old_there es)
      where
        one : (o : Ordering) → order k e.0 ≡ o → (((was : X) → lookup (is_at (order k)) es ≡ Some was → P (f (k, was)) → P (f (k, v)))
            → OneHas P (map f es) → OneHas P (map f (insert_entry order es k v))) → OneHas P (map f (match_ordering o ((k, v) ∷ e ∷ es) ((e.0, v) ∷ es) (e ∷ insert_entry order es k v)))
        one Less is rest = inr has
        one Equal is rest =
            let same : k ≡ e.0 = exact k e.0 is in
            let finds : lookup (is_at (order k)) (e ∷ es) ≡ Some e.1 = ap (λ (o : Ordering). cond (is_eq o) (Some e.1) (lookup (is_at (order k)) es)) is in
            elim has [
              | inl here ↦ inl (subst (λ (j : K). P (f (j, v))) same (more e.1 finds (subst (λ (j : K). P (f (j, e.1))) (sym same) here)))
              | inr there ↦ inr there
            ]
        one Greater is rest =
            let on : (was : X) → lookup (is_at (order k)) es ≡ Some was → lookup (is_at (order k)) (e ∷ es) ≡ Some was
            = λ was finds. ap (λ (o : Ordering). cond (is_eq o) (Some e.1) (lookup (is_at (order k)) es)) is ∙ finds in
            elim has [
              | inl here ↦ inl here
              | inr there ↦ inr (rest (λ was finds. more was (on was finds)) there)
            ]

    -- And nothing else is.
    pub only_these : (es : List (K × X)) → OneHas P (map f (insert_entry order es k v)) → OneHas P (map f es) ⊎ P (f (k, v))
    only_these [] has = elim has [ inl new ↦ inr new | inr none ↦ inl none ]
    only_these (e ∷ es) has = one (order k e.0) refl (only_these es) has
      where
        one : (o : Ordering) → order k e.0 ≡ o → (OneHas P (map f (insert_entry order es k v)) → OneHas P (map f es) ⊎ P (f (k, v)))
            → OneHas P (map f (match_ordering o ((k, v) ∷ e ∷ es) ((e.0, v) ∷ es) (e ∷ insert_entry order es k v)))
            → OneHas P (map f (e ∷ es)) ⊎ P (f (k, v))
        one Less is rest has = elim has [ inl new ↦ inr new | inr old ↦ inl old ]
        one Equal is rest has = elim has [ inl new ↦ inr (subst (λ (j : K). P (f (j, v))) (sym (exact k e.0 is)) new) | inr old ↦ inl (inr old) ]
        one Greater is rest has = elim has [
          | inl here ↦ inl (inl here)
          | inr there ↦ elim (rest there) [ inl old ↦ inl (inr old) | inr new ↦ inr new ]
        ]

-- What a look-up finds is there.
pub found_there : {K X B : Type 0} (order : K → K → Ordering) (exact : (a b : K) → order a b ≡ Equal → a ≡ b) (k : K) (f : K × X → B) (P : B → Type 0) (es : List (K × X)) (was : X)
    → lookup (is_at (order k)) es ≡ Some was → P (f (k, was)) → OneHas P (map f es)
found_there order exact k f P [] was finds has = absurd (none finds)
  where
    none : None ≡ Some was → ⊥
    none e = cc
found_there {K} {X} {B} order exact k f P (e ∷ es) was finds has = one (order k e.0) refl (λ there. found_there order exact k f P es was there has) finds
  where
    one : (o : Ordering) → order k e.0 ≡ o → (lookup (is_at (order k)) es ≡ Some was → OneHas P (map f es)) → cond (is_eq o) (Some e.1) (lookup (is_at (order k)) es) ≡ Some was → OneHas P (map f (e ∷ es))
    one Less is rest finds = inr (rest finds)
    one Equal is rest finds = inl (there (exact k e.0 is) (value e.1 was finds))
      where
        value : (a b : X) → Some a ≡ Some b → a ≡ b
        value a b e = cc

        there : k ≡ e.0 → e.1 ≡ was → P (f e)
        there p q = subst (λ (j : K). P (f (j, e.1))) p (subst (λ (v : X). P (f (k, v))) (sym q) has)
    one Greater is rest finds = inr (rest finds)
