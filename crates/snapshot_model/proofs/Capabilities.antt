-- An inode without its capabilities, and how its attributes are whole again.
use Rattle.std.specs.Prelude.{◌≡◌, ℕ, Bool, true, false, not, cond, T, List, [], ◌∷◌}
use Rattle.std.specs.declared.cmp.Ordering.{Ordering}
use Rattle.std.specs.declared.cmp.Ordering.TheVariants.{Less, Equal, Greater}
use Rattle.std.specs.Ordering.{ordering_reverse}
use Rattle.std.specs.Cmp.{tied_itself}
use Rattle.std.specs.Cmp.Lexicographic.{nat_list_cmp_total}
use Rattle.std.specs.Str.{bytes_eq}
use Rattle.std.specs.List.{filter}
use Rattle.std.specs.FinMap.Entries.{by_order, below_all, is_sorted-where_key}
use Rattle.std.proofs.Common.{refl, sym, ap, subst, ◌∙◌}
use Rattle.send_model.specs.Map.{Map, IsMap, bytes_cmp, with_value}
use Rattle.send_model.specs.Subvolume.{Inode}
use Rattle.snapshot_model.specs.Restored.{capability, is_capability, other_xattrs}
use Rattle.send_model.proofs.MapLaws.{T_left, T_right, is_less}
use Rattle.send_model.proofs.Stores.{bytes_eq_true}

abbrev Xattrs : Type 0
Xattrs = Map (List ℕ) (List ℕ)

abbrev pub bare : {C : Type 0} → Inode C → Inode C
bare inode = record inode { xattrs = other_xattrs inode.xattrs }

pub others_ordered : (m : Map (List ℕ) (List ℕ)) → IsMap bytes_cmp m → IsMap bytes_cmp (other_xattrs m)
others_ordered m ordered = is_sorted-where_key bytes_cmp (λ k. not (bytes_eq k capability)) m ordered

-- Attributes have none, or those that are put among the others make all.
pub data Capabilities (m : Map (List ℕ) (List ℕ)) : Type 0 where
  NoneThere : filter is_capability m ≡ [] → other_xattrs m ≡ m → Capabilities m
  OneThere : (value : List ℕ) → filter is_capability m ≡ (capability, value) ∷ [] → with_value bytes_cmp capability value (other_xattrs m) ≡ m → Capabilities m

-- An entry in front of all others is put in front of them.
put_first : (k v : List ℕ) (m : Xattrs) → T (below_all bytes_cmp k m) → with_value bytes_cmp k v m ≡ (k, v) ∷ m
put_first k v [] h = refl
put_first k v (e ∷ m) h = ap (λ (r : Ordering). by_order r ((k, v) ∷ e ∷ m) ((e.0, v) ∷ m) (e ∷ with_value bytes_cmp k v m)) (is_less _ (T_left _ _ h))

-- Those behind the name have none.
record NoneIn (m : Xattrs) : Type 0 where
  kept : filter is_capability m ≡ []
  others : other_xattrs m ≡ m

above_none : (m : Xattrs) → T (below_all bytes_cmp capability m) → NoneIn m
above_none [] h = record { kept = refl; others = refl }
above_none (e ∷ m) h = one (is_capability e) refl (above_none m (T_right _ _ h))
  where
    one : (b : Bool) → is_capability e ≡ b → NoneIn m → NoneIn (e ∷ m)
    one true is rest =
        let less : bytes_cmp capability e.0 ≡ Less = is_less (bytes_cmp capability e.0) (T_left _ _ h) in
        let tie : bytes_cmp capability e.0 ≡ Equal = ap (bytes_cmp capability) (bytes_eq_true e.0 capability is) ∙ tied_itself nat_list_cmp_total capability in cc (less, tie)
    one false is rest = record {
      kept = ap (λ (c : Bool). cond c (e ∷ filter is_capability m) (filter is_capability m)) is ∙ rest.kept;
      others = ap (λ (c : Bool). cond (not c) (e ∷ other_xattrs m) (other_xattrs m)) is ∙ ap (λ (r : Xattrs). e ∷ r) rest.others;
    }

-- What stands in front of all stands in front of it.
below_kept : (k v : List ℕ) (m : Xattrs) → T (below_all bytes_cmp k m) → filter is_capability m ≡ (capability, v) ∷ [] → bytes_cmp k capability ≡ Less
below_kept k v [] h there = cc
below_kept k v (e ∷ m) h there = one (is_capability e) refl (λ more. below_kept k v m (T_right _ _ h) more)
  where
    one : (b : Bool) → is_capability e ≡ b → (filter is_capability m ≡ (capability, v) ∷ [] → bytes_cmp k capability ≡ Less) → bytes_cmp k capability ≡ Less
    one true is behind = sym (ap (bytes_cmp k) (bytes_eq_true e.0 capability is)) ∙ is_less _ (T_left _ _ h)
    one false is behind = behind (sym (ap (λ (c : Bool). cond c (e ∷ filter is_capability m) (filter is_capability m)) is) ∙ there)

pub capabilities_of : (m : Map (List ℕ) (List ℕ)) → IsMap bytes_cmp m → Capabilities m
capabilities_of [] ordered = NoneThere refl refl
capabilities_of (e ∷ m) ordered = one (is_capability e) refl (capabilities_of m (T_right _ _ ordered))
  where
    kept_by : (b : Bool) → is_capability e ≡ b → filter is_capability (e ∷ m) ≡ cond b (e ∷ filter is_capability m) (filter is_capability m)
    kept_by b is = ap (λ (c : Bool). cond c (e ∷ filter is_capability m) (filter is_capability m)) is

    others_by : (b : Bool) → is_capability e ≡ b → other_xattrs (e ∷ m) ≡ cond (not b) (e ∷ other_xattrs m) (other_xattrs m)
    others_by b is = ap (λ (c : Bool). cond (not c) (e ∷ other_xattrs m) (other_xattrs m)) is

    one : (b : Bool) → is_capability e ≡ b → Capabilities m → Capabilities (e ∷ m)
    one true is more =
        let same : e.0 ≡ capability = bytes_eq_true e.0 capability is in
        let above : T (below_all bytes_cmp capability m) = subst (λ (k : List ℕ). T (below_all bytes_cmp k m)) same (T_left _ _ ordered) in
        let none = above_none m above in
        OneThere e.1 (kept_by true is ∙ ap (λ (r : Xattrs). e ∷ r) none.kept ∙ ap (λ (k : List ℕ). (k, e.1) ∷ []) same)
        (ap (with_value bytes_cmp capability e.1) (others_by true is ∙ none.others) ∙ put_first capability e.1 m above ∙ ap (λ (k : List ℕ). (k, e.1) ∷ m) (sym same))
    one false is (NoneThere none same) = NoneThere (kept_by false is ∙ none) (others_by false is ∙ ap (λ (r : Xattrs). e ∷ r) same)
    one false is (OneThere value there whole) =
        let less : bytes_cmp e.0 capability ≡ Less = below_kept e.0 value m (T_left _ _ ordered) there in
        let greater : bytes_cmp capability e.0 ≡ Greater = nat_list_cmp_total.antisymm capability e.0 ∙ ap ordering_reverse less in
        OneThere value (kept_by false is ∙ there)
        (ap (with_value bytes_cmp capability value) (others_by false is)
        ∙ ap (λ (r : Ordering). by_order r ((capability, value) ∷ e ∷ other_xattrs m) ((e.0, value) ∷ other_xattrs m) (e ∷ with_value bytes_cmp capability value (other_xattrs m))) greater
        ∙ ap (λ (r : Xattrs). e ∷ r) whole)
