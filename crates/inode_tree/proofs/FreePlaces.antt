-- Names that come to a place only if it is free, and entries that are put back where they were
-- taken from.
use Rattle.std.specs.Prelude.{◌≡◌, ℕ, Bool, true, false, List, Option, None, Some, is_some}
use Rattle.std.specs.declared.cmp.Ordering.{Ordering}
use Rattle.std.specs.Cmp.{IsTotalOrder}
use Rattle.std.specs.FinMap.Entries.{same_entries}
use Rattle.std.proofs.Common.{refl, sym, ap, subst, ◌∙◌, inl, inr}
use Rattle.std.proofs.lemmas.Bool.{true≢false}
use Rattle.std.proofs.lemmas.Map.Lookups.{CmpEqualImpliesEq}
use Rattle.send_model.specs.Map.{Map, IsMap, named_cmp, value_at, with_value, without}
use Rattle.send_model.specs.Subvolume.{Subvolume, named}
use Rattle.send_model.proofs.MapLaws.{named_cmp_total, named_cmp_exact, cases_key, with_value-order, without-order, with_value-here, with_value-other, without-here, without-other}
use Rattle.shared_map.specs.Edited.{PutsNew}
use Rattle.inode_tree.specs.Places.{MovesIfFree}

-- ---- what is said of a key that may have a value

module _ {K W : Type 0} where
  pub was_taken : (was : Option W) (put old new : Map K W) (fresh : Bool) → fresh ≡ false → PutsNew was put old new fresh → (is_some was ≡ true) × (new ≡ old)
  was_taken None put old new fresh e puts = absurd (true≢false (sym puts.0 ∙ e))
  was_taken (Some value) put old new fresh e puts = (refl, puts.1)

  pub was_free : (was : Option W) (put old new : Map K W) (fresh : Bool) → fresh ≡ true → PutsNew was put old new fresh → (was ≡ None) × (new ≡ put)
  was_free None put old new fresh e puts = (refl, puts.1)
  was_free (Some value) put old new fresh e puts = absurd (true≢false (sym e ∙ puts.0))

module _ {S : Type 0} where
  pub has_moved : (was : Option ℕ) (moved old new : S) → was ≡ None → new ≡ moved → MovesIfFree was moved old new true
  has_moved None moved old new none is = (refl, is)
  has_moved (Some there) moved old new none is = cc

  pub if_taken : (was : Option ℕ) (moved old new : S) (free : Bool) → free ≡ false → MovesIfFree was moved old new free → (is_some was ≡ true) × (new ≡ old)
  if_taken None moved old new free e moves = absurd (true≢false (sym moves.0 ∙ e))
  if_taken (Some there) moved old new free e moves = (refl, moves.1)

  pub if_free : (was : Option ℕ) (moved old new : S) (free : Bool) → free ≡ true → MovesIfFree was moved old new free → (was ≡ None) × (new ≡ moved)
  if_free None moved old new free e moves = (refl, moves.1)
  if_free (Some there) moved old new free e moves = absurd (true≢false (sym e ∙ moves.0))

  pub moved_there_free : (was : Option ℕ) (moved old new : S) (free : Bool) → was ≡ None → MovesIfFree was moved old new free → new ≡ moved
  moved_there_free None moved old new free none moves = moves.1
  moved_there_free (Some there) moved old new free none moves = cc

-- ---- entries that are taken out and put in

module _ {K X : Type 0} (R : K → K → Ordering) (o : IsTotalOrder R) (exact : CmpEqualImpliesEq R) where
  pub put_back : (k : K) (x : X) (m : Map K X) → IsMap R m → value_at R k m ≡ Some x → with_value R k x (without R k m) ≡ m
  put_back k x m h there = same_entries R o exact (with_value R k x (without R k m)) m (with_value-order R o exact k x (without R k m) (without-order R o exact k m h)) h
      (λ q. elim (cases_key R o exact q k) [
        | inl e ↦ subst (λ (z : K). value_at R z (with_value R k x (without R k m)) ≡ value_at R z m) (sym e) (with_value-here R o exact k x (without R k m) ∙ sym there)
        | inr n ↦ with_value-other R o exact q k x (without R k m) n ∙ without-other R o exact q k m n
      ])

  pub none_taken : (k : K) (m : Map K X) → IsMap R m → value_at R k m ≡ None → without R k m ≡ m
  none_taken k m h none = same_entries R o exact (without R k m) m (without-order R o exact k m h) h
      (λ q. elim (cases_key R o exact q k) [
        | inl e ↦ subst (λ (z : K). value_at R z (without R k m) ≡ value_at R z m) (sym e) (without-here R o exact k m ∙ sym none)
        | inr n ↦ without-other R o exact q k m n
      ])

  -- Of two keys the one may come first or the other may go first.
  pub either_first : (k q : K) (x : X) (m : Map K X) → IsMap R m → (q ≡ k → ⊥) → without R k (with_value R q x m) ≡ with_value R q x (without R k m)
  either_first k q x m h differ =
      same_entries R o exact (without R k (with_value R q x m)) (with_value R q x (without R k m))
      (without-order R o exact k (with_value R q x m) (with_value-order R o exact q x m h))
      (with_value-order R o exact q x (without R k m) (without-order R o exact k m h))
      (λ y. elim (cases_key R o exact y k) [
        | inl e ↦ subst (λ (z : K). value_at R z (without R k (with_value R q x m)) ≡ value_at R z (with_value R q x (without R k m))) (sym e)
            (without-here R o exact k (with_value R q x m) ∙ sym (with_value-other R o exact k q x (without R k m) (λ s. differ (sym s)) ∙ without-here R o exact k m))
        | inr n ↦ elim (cases_key R o exact y q) [
          | inl e ↦ subst (λ (z : K). value_at R z (without R k (with_value R q x m)) ≡ value_at R z (with_value R q x (without R k m))) (sym e)
              (without-other R o exact q k (with_value R q x m) differ ∙ with_value-here R o exact q x m ∙ sym (with_value-here R o exact q x (without R k m)))
          | inr d ↦ without-other R o exact y k (with_value R q x m) n ∙ with_value-other R o exact y q x m d
              ∙ sym (with_value-other R o exact y q x (without R k m) d ∙ without-other R o exact y k m n)
        ]
      ])

-- A name that came to its new place before it went from the old one.
pub moved_names : (from to : ℕ × List ℕ) (moved : ℕ) (m mid new : Map (ℕ × List ℕ) ℕ) → IsMap named_cmp m → value_at named_cmp from m ≡ Some moved → value_at named_cmp to m ≡ None
    → mid ≡ with_value named_cmp to moved m → new ≡ without named_cmp from mid → new ≡ with_value named_cmp to moved (without named_cmp from m)
moved_names from to moved m mid new h mine free came went =
    went ∙ ap (without named_cmp from) came
    ∙ either_first named_cmp named_cmp_total named_cmp_exact from to moved m h (λ same. let e : value_at named_cmp to m ≡ Some moved = ap (λ (k : ℕ × List ℕ). value_at named_cmp k m) same ∙ mine in cc)

-- ---- a tree that is as it was

module _ {C : Type 0} where
  pub same_fields : (s t : Subvolume C) → t.inodes ≡ s.inodes → t.names ≡ s.names → t.next ≡ s.next → t ≡ s
  same_fields s t a b c = λ i. record { inodes = a i; names = b i; next = c i }

  -- What stands at a place among the names of a tree stands there in the tree that contracts see.
  pub stands_in : (s S : Subvolume C) → s ≡ S → (place : ℕ × List ℕ) (o : Option ℕ) → value_at named_cmp place s.names ≡ o → named S place.0 place.1 ≡ o
  stands_in s S view place o e = subst (λ (x : Subvolume C). named x place.0 place.1 ≡ o) view e
