-- What is seen of the kinds of trees.
use Rattle.std.proofs.Common.{◌≡◌, ℕ, Bool, ◌+◌, ◌*◌, ◌^◌, ◌<◌, ◌≤◌, List, [], ◌∷◌, length, suc, refl, sym, ap, ◌∙◌, subst, arith, Vec, Global}
use Rattle.std.proofs.lemmas.List.Elements.{All-head, All-tail}
use Rattle.std.proofs.lemmas.List.Sums.{sum_by-cons}
use Rattle.std.specs.List.{sum_by}
use native.Mathlib.Nat.{two-pow-succ}
use Rattle.extent_map.specs.Seen.{Seen, cells_count, joined, IsKid, AreKids}
use Rattle.extent_map.specs.Trees.{count_of, height_of, seen, HasParts}
use Rattle.extent_map.specs.declared.tree.Shape.{Shape}
use Rattle.extent_map.specs.declared.tree.Shape.TheVariants.{Empty, Leaf, Fork}
use Rattle.std.specs.declared.rc.Rc.{Rc}
use Rattle.extent_map.specs.declared.piece.Piece.{Piece}
use Rattle.extent_map.specs.Leaves.{all_cells, ArePieces}
use Rattle.extent_map.specs.Opened.{ArePiecesOf, AreKidsOf}
use Rattle.extent_map.proofs.LeafEdits.{length-all_cells}
use Rattle.extent_map.proofs.Spans.{length-all}

module _ {O : Type 0} (advanced : O → ℕ → O) (reach : O → ℕ) where
  pub length-seen : (t : Shape O) → HasParts reach t → length (seen advanced t).cells ≡ count_of t
  length-seen Empty h = refl
  length-seen (Leaf foreign len pieces) h = length-all_cells advanced reach pieces.value.items ∙ sym h.counted
  length-seen (Fork height foreign len kids) h = length-all (λ (k : Seen O). k.cells) cells_count (λ k. refl) kids.value.items ∙ sym h.counted

-- one step up is twice as many
twice : (n : ℕ) → 2 ^ (n + 1) ≡ 2 ^ n + 2 ^ n
twice n =
    let e : n + 1 ≡ suc n = omega arith in
    ap (λ k. 2 ^ k) e ∙ two-pow-succ n

-- what holds of trees that are two at least
module _ {O : Type 0} where
  pub kids_up : (steps : ℕ) (kids : List (Seen O)) → AreKids steps kids → 2 ≤ length kids → 0 < steps
  kids_up steps [] each two = absurd (omega (arith, two))
  kids_up steps (k ∷ ks) each two = (All-head (IsKid steps) k ks each).high

  pub kids_many : (steps : ℕ) (kids : List (Seen O)) → AreKids steps kids → 2 ≤ length kids → 2 ^ (steps + 1) ≤ 2 * sum_by cells_count kids
  kids_many steps [] each two = absurd (omega (arith, two))
  kids_many steps (k ∷ []) each two = absurd (omega (arith, two))
  kids_many steps (k ∷ l ∷ ks) each two =
      let a = All-head (IsKid steps) k (l ∷ ks) each in
      let b = All-head (IsKid steps) l ks (All-tail (IsKid steps) k (l ∷ ks) each) in
      omega (arith, twice steps, a.balanced, b.balanced, sum_by-cons cells_count k (l ∷ ks), sum_by-cons cells_count l ks)

  pub kids_some : (steps : ℕ) (kids : List (Seen O)) → AreKids steps kids → 2 ≤ length kids → 0 < sum_by cells_count kids
  kids_some steps [] each two = absurd (omega (arith, two))
  kids_some steps (k ∷ ks) each two = omega (arith, (All-head (IsKid steps) k ks each).some, sum_by-cons cells_count k ks)

module _ {O : Type 0} (advanced : O → ℕ → O) (reach : O → ℕ) where
  pub is_kid : (t : Shape O) → HasParts reach t → 0 < (seen advanced t).height → IsKid (seen advanced t).height (seen advanced t)
  is_kid Empty h up = absurd (omega (arith, up))
  is_kid (Leaf foreign len pieces) h up =
      let l = length-seen advanced reach (Leaf foreign len pieces) h in
      let e : 2 ^ 1 ≡ 2 = refl in
      record { height = refl; some = omega (arith, l, h.some); high = up; balanced = omega (arith, l, h.some, e) }
  is_kid (Fork height foreign len kids) h up =
      let l = length-seen advanced reach (Fork height foreign len kids) h in
      let b = h.below in
      record {
        height = refl;
        some = omega (arith, l, h.counted, kids_some b.steps kids.value.items b.each h.two);
        high = up;
        balanced = subst (λ (n : ℕ). 2 ^ n ≤ 2 * length (joined kids.value.items)) (sym b.height) (omega (arith, l, h.counted, kids_many b.steps kids.value.items b.each h.two));
      }

  -- a leaf that is taken apart
  pub leaf_opened : (s : Seen O) (t : Shape O) (foreign : Bool) (len : ℕ) (node : Rc (Vec (Piece O) Global) Global) (pieces : List (Piece O)) → seen advanced t ≡ s → HasParts reach t → t ≡ Leaf foreign len node → pieces ≡ node.value.items → ArePiecesOf advanced reach s pieces
  leaf_opened s t foreign len node pieces v h e p =
      let tree : HasParts reach (Leaf foreign len node) = subst (HasParts reach) e h in
      let view : seen advanced (Leaf foreign len node) ≡ s = ap (seen advanced) (sym e) ∙ v in
      record {
        have = record {
          are = ap (all_cells advanced) p ∙ ap (λ (x : Seen O). x.cells) view;
          each = subst (ArePieces reach) (sym p) tree.each;
        };
        height = sym (ap (λ (x : Seen O). x.height) view);
        some = omega (arith, ap (λ (x : Seen O). length x.cells) view, length-seen advanced reach (Leaf foreign len node) tree, tree.some);
      }

  pub height-seen : (t : Shape O) → (seen advanced t).height ≡ height_of t
  height-seen Empty = refl
  height-seen (Leaf foreign len pieces) = refl
  height-seen (Fork height foreign len kids) = refl

  -- a tree over others that is taken apart
  pub fork_opened : (s : Seen O) (t : Shape O) (high : ℕ) (foreign : Bool) (len : ℕ) (node : Rc (Vec (Seen O) Global) Global) → seen advanced t ≡ s → HasParts reach t → t ≡ Fork high foreign len node → AreKidsOf s high node.value.items
  fork_opened s t high foreign len node v h e =
      let tree : HasParts reach (Fork high foreign len node) = subst (HasParts reach) e h in
      let view : seen advanced (Fork high foreign len node) ≡ s = ap (seen advanced) (sym e) ∙ v in
      record {
        below = tree.below;
        as_high = sym (ap (λ (x : Seen O). x.height) view);
        two = tree.two;
        are = ap (λ (x : Seen O). x.cells) view;
      }
