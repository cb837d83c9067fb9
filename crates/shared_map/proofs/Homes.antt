-- Which page a key's place is in.
use Rattle.std.proofs.Common.{◌≡◌, ℕ, zero, suc, ◌+◌, ◌-◌, ◌<◌, ◌≤◌, Bool, true, false, not, List, [], ◌∷◌, ◌++◌, length, get_or, take, drop, refl, sym, ap, ◌∙◌, subst, arith, append_assoc, inl, inr}
use mathlib.Core.Bool.{true≢false}
use Rattle.std.specs.Cmp.{IsTotalOrder}
use Rattle.std.specs.Ordering.{is_gt}
use Rattle.std.specs.declared.cmp.Ordering.{Ordering}
use Rattle.std.specs.declared.cmp.Ordering.TheVariants.{Less, Equal, Greater}
use Rattle.std.specs.List.{AllByRecursion}
use Rattle.std.specs.List.Sorted.{IsPartitionedBy, IsPartitionPoint}
use Rattle.std.proofs.lemmas.List.{get_or_default, drop_all}
use Rattle.std.proofs.lemmas.Bool.{cases_lt}
use Rattle.send_model.proofs.ElementLaws.{all_both, all_rest}
use Rattle.shared_map.specs.Pages.{Rises, AreFilled, joined, starts_by, IsHome}
use Rattle.shared_map.proofs.Lists.{split_at}
use Rattle.shared_map.proofs.Orders.{each_weaker, rises_right, rises_across, less_equal, greater_less}

pub joined_append : {X : Type 0} (ps qs : List (List X)) → joined (ps ++ qs) ≡ joined ps ++ joined qs
joined_append [] qs = refl
joined_append (p ∷ ps) qs = ap (λ r. p ++ r) (joined_append ps qs) ∙ sym (append_assoc p (joined ps) (joined qs))

-- pages as those before one, that one, and those after it
pub joined_split : {X : Type 0} (ps : List (List X)) (i : ℕ) (p : List X) → i < length ps → p ≡ get_or ps i p → joined ps ≡ joined (take i ps) ++ (p ++ joined (drop (i + 1) ps))
joined_split ps i p lt read = ap joined (split_at ps i p lt read) ∙ joined_append (take i ps) (p ∷ drop (i + 1) ps)

greater_is : (o : Ordering) → is_gt o ≡ true → o ≡ Greater
greater_is Less h = absurd (true≢false (sym h))
greater_is Equal h = absurd (true≢false (sym h))
greater_is Greater h = refl

not_true : (b : Bool) → not b ≡ true → b ≡ false
not_true true h = absurd (true≢false (sym h))
not_true false h = refl

not_false : (b : Bool) → not b ≡ false → b ≡ true
not_false true h = refl
not_false false h = absurd (true≢false h)

module _ {K : Type 0} {order : K → K → Ordering} (total : IsTotalOrder order) (key : K) where
  less_by : (a b : K) → order a b ≡ Less → (o : Ordering) → order b key ≡ o → is_gt o ≡ false → order a key ≡ Less
  less_by a b less Less e h = total.trans a b key less e
  less_by a b less Equal e h = less_equal total a b key less e
  less_by a b less Greater e h = absurd (true≢false h)

module _ {K V : Type 0} {order : K → K → Ordering} (total : IsTotalOrder order) (key : K) where
  -- in a page that begins by the key, some entry is not above it
  reach : (Q : K × V → Type 0) (ps : List (List (K × V))) (i : ℕ) → AllByRecursion Q (joined ps) → AreFilled ps → i < length ps → starts_by order key (get_or ps i []) ≡ true → (e : K × V) × Q e × (is_gt (order e.0 key) ≡ false)
  reach Q [] i q filled lt starts = absurd (omega arith)
  reach Q ([] ∷ ps) zero q filled lt starts = absurd (omega (arith, filled.0))
  reach Q ((e ∷ p) ∷ ps) zero q filled lt starts = (e, q.0, not_true _ starts)
  reach Q (p ∷ ps) (suc i) q filled lt starts = reach Q ps i (all_rest Q p (joined ps) q) filled.1 (omega arith) starts

  -- what stands before a page that begins by the key is below it
  pub before : (ps : List (List (K × V))) (i : ℕ) → Rises order (joined ps) → AreFilled ps → i < length ps → starts_by order key (get_or ps i []) ≡ true → AllByRecursion (λ e. order e.0 key ≡ Less) (joined (take i ps))
  before ps zero rises filled lt starts = tt
  before [] (suc i) rises filled lt starts = absurd (omega arith)
  before (p ∷ ps) (suc i) rises filled lt starts =
      let first : AllByRecursion (λ e. order e.0 key ≡ Less) p =
      each_weaker _ _ (λ x across.
      let found = reach (λ y. order x.0 y.0 ≡ Less) ps i across filled.1 (omega arith) starts in
      less_by total key x.0 found.0.0 found.1 _ refl found.2) p (rises_across order p (joined ps) rises) in
      all_both _ p (joined (take i ps)) first (before ps i (rises_right order p (joined ps) rises) filled.1 (omega arith) starts)

  -- a page that begins above the key, and what stands after it, is above it
  pub behind : (ps : List (List (K × V))) (i : ℕ) → Rises order (joined ps) → AreFilled ps → i < length ps → starts_by order key (get_or ps i []) ≡ false → AllByRecursion (λ e. order e.0 key ≡ Greater) (joined (drop i ps))
  behind [] i rises filled lt starts = absurd (omega arith)
  behind ([] ∷ ps) zero rises filled lt starts = absurd (true≢false starts)
  behind ((e ∷ p) ∷ ps) zero rises filled lt starts =
      let here : order e.0 key ≡ Greater = greater_is _ (not_false _ starts) in
      (here, each_weaker _ _ (λ f less. greater_less total e.0 key f.0 here less) (p ++ joined ps) rises.0)
  behind (p ∷ ps) (suc i) rises filled lt starts = behind ps i (rises_right order p (joined ps) rises) filled.1 (omega arith) starts

  rising : (ps : List (List (K × V))) → Rises order (joined ps) → AreFilled ps → (i j : ℕ) → i ≤ j → j < length ps → starts_by order key (get_or ps j []) ≡ true → starts_by order key (get_or ps i []) ≡ true
  rising [] rises filled i j le lt starts = absurd (omega arith)
  rising ([] ∷ ps) rises filled zero j le lt starts = refl
  rising ((e ∷ p) ∷ ps) rises filled zero zero le lt starts = starts
  rising ((e ∷ p) ∷ ps) rises filled zero (suc j) le lt starts =
      let found = reach (λ y. order e.0 y.0 ≡ Less) ps j (all_rest _ p (joined ps) rises.0) filled.1 (omega arith) starts in
      ap (λ o. not (is_gt o)) (less_by total key e.0 found.0.0 found.1 _ refl found.2)
  rising (p ∷ ps) rises filled (suc i) zero le lt starts = absurd (omega arith)
  rising (p ∷ ps) rises filled (suc i) (suc j) le lt starts = rising ps (rises_right order p (joined ps) rises) filled.1 i j (omega arith) (omega arith) starts

  -- the pages that begin by the key stand first, as a search for the last of them asks
  pub partitioned : (ps : List (List (K × V))) → Rises order (joined ps) → AreFilled ps → IsPartitionedBy (starts_by order key) ps
  partitioned ps rises filled i j d le lt starts =
      rw (get_or_default ps i d [] (omega arith)) (rising ps rises filled i j le lt (rw (get_or_default ps j d [] lt) at starts))

  pub home_first : (ps : List (List (K × V))) → Rises order (joined ps) → AreFilled ps → IsPartitionPoint (λ p. starts_by order key p ≡ true) (λ p. starts_by order key p ≡ false) ps 0 → IsHome order key ps 0
  home_first [] rises filled parted = record { in_range = λ h. h; below = tt; after = tt }
  home_first (p ∷ ps) rises filled parted =
      record { in_range = λ h. h; below = tt; after = all_rest _ p (joined ps) (behind (p ∷ ps) 0 rises filled (omega arith) (parted.1 0 [] (omega arith) (omega arith))) }

  pub home_at : (ps : List (List (K × V))) → Rises order (joined ps) → AreFilled ps → (n : ℕ) → 0 < n → n ≤ length ps → IsPartitionPoint (λ p. starts_by order key p ≡ true) (λ p. starts_by order key p ≡ false) ps n → IsHome order key ps (n - 1)
  home_at ps rises filled n positive le parted =
      let same : n - 1 + 1 ≡ n = omega arith in
      record {
        in_range = λ h. omega arith;
        below = before ps (n - 1) rises filled (omega arith) (parted.0 (n - 1) [] (omega arith) (omega arith));
        after = subst (λ m. AllByRecursion (λ e. order e.0 key ≡ Greater) (joined (drop m ps))) (sym same) (elim (cases_lt n (length ps)) [
          | inl lt ↦ behind ps n rises filled lt (parted.1 n [] (omega arith) lt)
          | inr all ↦ subst (λ qs. AllByRecursion (λ e. order e.0 key ≡ Greater) (joined qs)) (sym (drop_all n ps all)) tt
        ]);
      }
