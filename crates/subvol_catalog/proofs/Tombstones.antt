-- Slots of which some are empty: what a number finds in those that are not, and what is there once
-- something was put in, changed or taken out, and once the empty ones are cleared.
use Rattle.std.proofs.Common.{◌≡◌, ℕ, ◌+◌, ◌-◌, ◌<◌, ◌≤◌, Bool, true, false, cond, ◌==◌, List, [], ◌∷◌, ◌++◌, length, slice_get, zero, suc, filter, Some, None, Option, is_some, refl, sym, ap, subst, ◌∙◌, arith}
use Rattle.std.proofs.lemmas.Bool.{eqb-true, ne_eqb}
use Rattle.std.proofs.lemmas.List.{length-append}
use Rattle.std.proofs.lemmas.List.Elements.{filter_map-append}
use Rattle.std.proofs.lemmas.Map.{keys-set_value, length-set_value}
use Rattle.std.proofs.lemmas.Option.{slice_get-map}
use Rattle.std.specs.List.{AllByRecursion, IsDistinct}
use Rattle.std.specs.Map.{lookup, remove_entry, set_value, keys_of, values_of}
use Rattle.std.specs.Borrow.{Bor}
use Rattle.std.specs.Option.{option_map, option_copied, option_flatten}
use Rattle.subvol_catalog.specs.declared.entry.Entry.{Entry}
use Rattle.subvol_catalog.specs.Entries.{entry_of, listed, occupants}
use Rattle.subvol_catalog.specs.Slots.{occupied, AreSlots}

module _ {T : Type 0} where
  -- A number that no slot has finds nothing.
  none_there : (n : ℕ) (slots : List (ℕ × Option T)) → AllByRecursion (λ k. (n == k) ≡ false) (keys_of slots) → lookup (λ k. n == k) slots ≡ None
  none_there n [] l = refl
  none_there n (s ∷ slots) l = ap (λ (b : Bool). cond b (Some s.1) (lookup (λ k. n == k) slots)) l.0 ∙ none_there n slots l.1

  -- Nor does a number that finds nothing find anything in those that are not empty.
  none_occupied : (n : ℕ) (slots : List (ℕ × Option T)) → lookup (λ k. n == k) slots ≡ None → lookup (λ k. n == k) (occupied slots) ≡ None
  none_occupied n [] e = refl
  none_occupied n (s ∷ slots) e = one s.1 (n == s.0) refl e (none_occupied n slots)
    where
      one : (o : Option T) (b : Bool) → (n == s.0) ≡ b → cond b (Some o) (lookup (λ k. n == k) slots) ≡ None → (lookup (λ k. n == k) slots ≡ None → lookup (λ k. n == k) (occupied slots) ≡ None)
          → lookup (λ k. n == k) (occupied ((s.0, o) ∷ slots)) ≡ None
      one o true is e more = cc
      one None false is e more = more e
      one (Some x) false is e more = ap (λ (b : Bool). cond b (Some x) (lookup (λ k. n == k) (occupied slots))) is ∙ more e

  -- What a number finds in those that are not empty is what its slot has.
  pub found : (n : ℕ) (slots : List (ℕ × Option T)) → IsDistinct (λ a b. a == b) (keys_of slots) → lookup (λ k. n == k) (occupied slots) ≡ option_flatten (lookup (λ k. n == k) slots)
  unfolding IsDistinct
  found n [] d = refl
  found n (s ∷ slots) d = one s.1 (n == s.0) refl (found n slots d.1)
    where
      one : (o : Option T) (b : Bool) → (n == s.0) ≡ b → lookup (λ k. n == k) (occupied slots) ≡ option_flatten (lookup (λ k. n == k) slots)
          → lookup (λ k. n == k) (occupied ((s.0, o) ∷ slots)) ≡ option_flatten (cond b (Some o) (lookup (λ k. n == k) slots))
      one None true is more = none_occupied n slots (none_there n slots (subst (λ (m : ℕ). AllByRecursion (λ k. (m == k) ≡ false) (keys_of slots)) (sym (eqb-true n s.0 is)) d.0))
      one (Some x) true is more = ap (λ (b : Bool). cond b (Some x) (lookup (λ k. n == k) (occupied slots))) is
      one None false is more = more
      one (Some x) false is more = ap (λ (b : Bool). cond b (Some x) (lookup (λ k. n == k) (occupied slots))) is ∙ more

  -- Where a number finds nothing, none goes.
  pub none_goes : (n : ℕ) (es : List (ℕ × T)) → lookup (λ k. n == k) es ≡ None → remove_entry (λ k. n == k) es ≡ es
  none_goes n [] e = refl
  none_goes n (p ∷ es) e = one (n == p.0) e (none_goes n es)
    where
      one : (b : Bool) → cond b (Some p.1) (lookup (λ k. n == k) es) ≡ None → (lookup (λ k. n == k) es ≡ None → remove_entry (λ k. n == k) es ≡ es) → cond b es (p ∷ remove_entry (λ k. n == k) es) ≡ p ∷ es
      one true e more = cc
      one false e more = ap (λ (r : List (ℕ × T)). p ∷ r) (more e)

  -- ---- one more

  pub occupied_more : (slots : List (ℕ × Option T)) (n : ℕ) (x : T) → occupied (slots ++ (n, Some x) ∷ []) ≡ occupied slots ++ (n, x) ∷ []
  occupied_more slots n x = filter_map-append _ slots ((n, Some x) ∷ [])

  -- The next number is no slot's.
  pub unused : (next : ℕ) (slots : List (ℕ × Option T)) → AllByRecursion (λ n. n < next) (keys_of slots) → lookup (λ k. next == k) slots ≡ None
  unused next [] l = refl
  unused next (s ∷ slots) l =
      ap (λ (b : Bool). cond b (Some s.1) (lookup (λ k. next == k) slots)) (ne_eqb next s.0 (above s.0 next l.0)) ∙ unused next slots l.1
    where
      above : (m n : ℕ) → m < n → n ≡ m → ⊥
      above m n f e = omega arith

  below_more : (next : ℕ) (slots : List (ℕ × Option T)) (o : Option T) → AllByRecursion (λ n. n < next) (keys_of slots) → AllByRecursion (λ n. n < next + 1) (keys_of (slots ++ (next, o) ∷ []))
  below_more next [] o l = (omega arith, tt)
  below_more next (s ∷ slots) o l = (further s.0 next l.0, below_more next slots o l.1)
    where
      further : (m n : ℕ) → m < n → m < n + 1
      further m n f = omega arith

  -- ---- a slot that changes

  -- Another entry in the place of one.
  pub occupied_set : (n : ℕ) (slots : List (ℕ × Option T)) (x w : T) → lookup (λ k. n == k) slots ≡ Some (Some x) → occupied (set_value (λ k. n == k) slots (Some w)) ≡ set_value (λ k. n == k) (occupied slots) w
  occupied_set n [] x w e = cc
  occupied_set n (s ∷ slots) x w e = one s.1 (n == s.0) refl e (occupied_set n slots x w)
    where
      new : List (ℕ × Option T)
      new = set_value (λ k. n == k) slots (Some w)

      one : (o : Option T) (b : Bool) → (n == s.0) ≡ b → cond b (Some o) (lookup (λ k. n == k) slots) ≡ Some (Some x)
          → (lookup (λ k. n == k) slots ≡ Some (Some x) → occupied new ≡ set_value (λ k. n == k) (occupied slots) w)
          → occupied (cond b ((s.0, Some w) ∷ slots) ((s.0, o) ∷ new)) ≡ set_value (λ k. n == k) (occupied ((s.0, o) ∷ slots)) w
      one None true is e more = cc
      one (Some y) true is e more = sym (ap (λ (b : Bool). cond b ((s.0, w) ∷ occupied slots) ((s.0, y) ∷ set_value (λ k. n == k) (occupied slots) w)) is)
      one None false is e more = more e
      one (Some y) false is e more =
          ap (λ (r : List (ℕ × T)). (s.0, y) ∷ r) (more e)
          ∙ sym (ap (λ (b : Bool). cond b ((s.0, w) ∷ occupied slots) ((s.0, y) ∷ set_value (λ k. n == k) (occupied slots) w)) is)

  -- Nothing in the place of one.
  pub occupied_less : (n : ℕ) (slots : List (ℕ × Option T)) (x : T) → lookup (λ k. n == k) slots ≡ Some (Some x) → occupied (set_value (λ k. n == k) slots None) ≡ remove_entry (λ k. n == k) (occupied slots)
  occupied_less n [] x e = cc
  occupied_less n (s ∷ slots) x e = one s.1 (n == s.0) refl e (occupied_less n slots x)
    where
      new : List (ℕ × Option T)
      new = set_value (λ k. n == k) slots None

      one : (o : Option T) (b : Bool) → (n == s.0) ≡ b → cond b (Some o) (lookup (λ k. n == k) slots) ≡ Some (Some x)
          → (lookup (λ k. n == k) slots ≡ Some (Some x) → occupied new ≡ remove_entry (λ k. n == k) (occupied slots))
          → occupied (cond b ((s.0, None) ∷ slots) ((s.0, o) ∷ new)) ≡ remove_entry (λ k. n == k) (occupied ((s.0, o) ∷ slots))
      one None true is e more = cc
      one (Some y) true is e more = sym (ap (λ (b : Bool). cond b (occupied slots) ((s.0, y) ∷ remove_entry (λ k. n == k) (occupied slots))) is)
      one None false is e more = more e
      one (Some y) false is e more =
          ap (λ (r : List (ℕ × T)). (s.0, y) ∷ r) (more e)
          ∙ sym (ap (λ (b : Bool). cond b (occupied slots) ((s.0, y) ∷ remove_entry (λ k. n == k) (occupied slots))) is)

  -- There is one less then.
  pub one_less : (n : ℕ) (slots : List (ℕ × Option T)) (x : T) → lookup (λ k. n == k) slots ≡ Some (Some x) → length (occupied (set_value (λ k. n == k) slots None)) + 1 ≡ length (occupied slots)
  one_less n [] x e = cc
  one_less n (s ∷ slots) x e = one s.1 (n == s.0) e (one_less n slots x)
    where
      new : List (ℕ × Option T)
      new = set_value (λ k. n == k) slots None

      one : (o : Option T) (b : Bool) → cond b (Some o) (lookup (λ k. n == k) slots) ≡ Some (Some x)
          → (lookup (λ k. n == k) slots ≡ Some (Some x) → length (occupied new) + 1 ≡ length (occupied slots))
          → length (occupied (cond b ((s.0, None) ∷ slots) ((s.0, o) ∷ new))) + 1 ≡ length (occupied ((s.0, o) ∷ slots))
      one None true e more = cc
      one (Some y) true e more = omega arith
      one None false e more = more e
      one (Some y) false e more = omega (arith, more e)

  -- ---- the empty ones are cleared

  pub occupied_cleared : (slots : List (ℕ × Option T)) → occupied (filter (λ s. is_some s.1) slots) ≡ occupied slots
  occupied_cleared [] = refl
  occupied_cleared (s ∷ slots) = one s.1 (occupied_cleared slots)
    where
      one : (o : Option T) → occupied (filter (λ s. is_some s.1) slots) ≡ occupied slots → occupied (filter (λ s. is_some s.1) ((s.0, o) ∷ slots)) ≡ occupied ((s.0, o) ∷ slots)
      one None more = more
      one (Some x) more = ap (λ (r : List (ℕ × T)). (s.0, x) ∷ r) more

  below_cleared : (next : ℕ) (slots : List (ℕ × Option T)) → AllByRecursion (λ n. n < next) (keys_of slots) → AllByRecursion (λ n. n < next) (keys_of (filter (λ s. is_some s.1) slots))
  below_cleared next [] l = tt
  below_cleared next (s ∷ slots) l = one (is_some s.1) (below_cleared next slots l.1)
    where
      one : (b : Bool) → AllByRecursion (λ n. n < next) (keys_of (filter (λ s. is_some s.1) slots)) → AllByRecursion (λ n. n < next) (keys_of (cond b (s ∷ filter (λ s. is_some s.1) slots) (filter (λ s. is_some s.1) slots)))
      one true more = (l.0, more)
      one false more = more

  -- As many slots are left as were not empty.
  pub left_cleared : (slots : List (ℕ × Option T)) → length (filter (λ s. is_some s.1) slots) ≡ length (occupied slots)
  left_cleared [] = refl
  left_cleared (s ∷ slots) = one s.1 (left_cleared slots)
    where
      one : (o : Option T) → length (filter (λ s. is_some s.1) slots) ≡ length (occupied slots) → length (filter (λ s. is_some s.1) ((s.0, o) ∷ slots)) ≡ length (occupied ((s.0, o) ∷ slots))
      one None more = more
      one (Some x) more = ap suc more

  -- ---- where none is empty

  pub few : (slots : List (ℕ × Option T)) → length (occupied slots) ≤ length slots
  few [] = omega arith
  few (s ∷ slots) = one s.1 (few slots)
    where
      one : (o : Option T) → length (occupied slots) ≤ length slots → length (occupied ((s.0, o) ∷ slots)) ≤ length (s ∷ slots)
      one None more = omega arith
      one (Some x) more = omega arith

  -- What stands at a place.
  at_place : (slots : List (ℕ × Option T)) (i : ℕ) → length slots ≤ length (occupied slots) → option_flatten (option_map (λ s. s.1) (slice_get slots i)) ≡ option_map (λ s. s.1) (slice_get (occupied slots) i)
  at_place [] i l = refl
  at_place (s ∷ slots) i l = one s.1 i l (λ i. at_place slots i)
    where
      one : (o : Option T) (i : ℕ) → length (s ∷ slots) ≤ length (occupied ((s.0, o) ∷ slots))
          → ((i : ℕ) → length slots ≤ length (occupied slots) → option_flatten (option_map (λ s. s.1) (slice_get slots i)) ≡ option_map (λ s. s.1) (slice_get (occupied slots) i))
          → option_flatten (option_map (λ s. s.1) (slice_get ((s.0, o) ∷ slots) i)) ≡ option_map (λ s. s.1) (slice_get (occupied ((s.0, o) ∷ slots)) i)
      one None i l more = absurd (omega (arith, few slots))
      one (Some x) zero l more = refl
      one (Some x) (suc i) l more = more i (omega arith)

  -- ---- what holds of slots holds of what became of them

  module _ (slots : List (ℕ × Option T)) (count next : ℕ) (are : AreSlots slots count next) where
    pub slots_more : (x : T) (new : List (ℕ × Option T)) → new ≡ slots ++ (next, Some x) ∷ [] → IsDistinct (λ a b. a == b) (keys_of new) → AreSlots new (count + 1) (next + 1)
    slots_more x new is apart = record {
      apart = apart;
      below = subst (λ (r : List (ℕ × Option T)). AllByRecursion (λ n. n < next + 1) (keys_of r)) (sym is) (below_more next slots (Some x) are.below);
      counted = ap (λ (n : ℕ). n + 1) are.counted ∙ sym (ap (λ (r : List (ℕ × Option T)). length (occupied r)) is ∙ ap length (occupied_more slots next x) ∙ length-append (occupied slots) ((next, x) ∷ []));
    }

    pub slots_set : (n : ℕ) (x w : T) → lookup (λ k. n == k) slots ≡ Some (Some x) → AreSlots (set_value (λ k. n == k) slots (Some w)) count next
    slots_set n x w there =
        let keys = keys-set_value (λ k. n == k) slots (Some w) in record {
          apart = rw keys are.apart;
          below = rw keys are.below;
          counted = are.counted ∙ sym (ap length (occupied_set n slots x w there) ∙ length-set_value (λ k. n == k) (occupied slots) w);
        }

    pub slots_less : (n : ℕ) (x : T) → lookup (λ k. n == k) slots ≡ Some (Some x) → AreSlots (set_value (λ k. n == k) slots None) (count - 1) next
    slots_less n x there =
        let keys = keys-set_value (λ k. n == k) slots None in record {
          apart = rw keys are.apart;
          below = rw keys are.below;
          counted = omega (arith, are.counted, one_less n slots x there);
        }

    pub slots_cleared : (new : List (ℕ × Option T)) → new ≡ filter (λ s. is_some s.1) slots → IsDistinct (λ a b. a == b) (keys_of new) → AreSlots new count next
    slots_cleared new is apart = record {
      apart = apart;
      below = subst (λ (r : List (ℕ × Option T)). AllByRecursion (λ n. n < next) (keys_of r)) (sym is) (below_cleared next slots are.below);
      counted = are.counted ∙ sym (ap (λ (r : List (ℕ × Option T)). length (occupied r)) is ∙ ap length (occupied_cleared slots));
    }

-- The entries as the definitions have them.
pub shown : {V : Type 0} (slots : List (ℕ × Option (Entry V))) → occupants (values_of slots) ≡ listed (occupied slots)
shown [] = refl
shown {V} (s ∷ slots) = one s.1 (shown slots)
  where
    one : (o : Option (Entry V)) → occupants (values_of slots) ≡ listed (occupied slots) → occupants (values_of ((s.0, o) ∷ slots)) ≡ listed (occupied ((s.0, o) ∷ slots))
    one None more = more
    one (Some e) more = ap (λ r. entry_of e ∷ r) more

-- The one at a place, where no slot is empty.
pub entry_at : {V : Type 0} (slots : List (ℕ × Option (Entry V))) (i : ℕ) (o : Option (Entry V)) → length slots ≤ length (occupied slots) → option_flatten (option_map (λ s. s.1) (slice_get slots i)) ≡ o
    → option_map entry_of o ≡ slice_get (listed (occupied slots)) i
entry_at {V} slots i o full at =
    ap (option_map entry_of) (sym at ∙ at_place slots i full) ∙ both (slice_get (occupied slots) i)
    ∙ sym (slice_get-map (λ p. entry_of p.1) (occupied slots) i)
  where
    both : (p : Option (ℕ × Entry V)) → option_map entry_of (option_map (λ s. s.1) p) ≡ option_map (λ s. entry_of s.1) p
    both None = refl
    both (Some p) = refl

-- What is behind a reference, as the definitions have it.
pub entry_behind : {V : Type 0} (o : Option (Bor (Entry V))) → option_map (λ e. entry_of e.now) o ≡ option_map entry_of (option_copied o)
entry_behind None = refl
entry_behind (Some e) = refl
