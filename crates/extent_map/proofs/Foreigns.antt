-- Foreign cells: of a piece, of parts one after the other, and the first from a place on.
use Rattle.std.proofs.Common.{◌≡◌, ℕ, Bool, true, false, ◌+◌, ◌-◌, ◌<◌, ◌≤◌, List, Option, Some, None, [], ◌∷◌, length, take, get_or, refl, sym, ap, ap₂, ◌∙◌, subst, arith}
use Rattle.std.specs.Prelude.{◌||◌, IfSome}
use Rattle.std.proofs.Math.Logic.{⊎_elim}
use Rattle.std.proofs.lemmas.Bool.{cases_lt}
use Rattle.std.proofs.lemmas.List.{take_all}
use Rattle.std.proofs.lemmas.List.Concat.{get_or-flat_map}
use Rattle.std.proofs.lemmas.List.Elements.{All-from_get_or, All-get_or, All-head, All-tail}
use Rattle.std.proofs.lemmas.List.Folds.{list_any_none, list_any_at, list_any-append}
use Rattle.std.proofs.lemmas.List.Sums.{sum_by_more, sum_by_more_le}
use Rattle.std.specs.List.{flat_map, sum_by, list_any}
use Rattle.extent_map.specs.declared.piece.Piece.{Piece}
use Rattle.extent_map.specs.Cells.{NonePass, IsFirstFrom}
use Rattle.extent_map.specs.Leaves.{all_cells, cells_in, IsPiece, ArePieces}
use Rattle.extent_map.specs.Opened.{AreKidsOf}
use Rattle.extent_map.specs.Pieces.{foreign_cell, have_foreign, piece_cells}
use Rattle.extent_map.specs.Seen.{Seen, cells_count, joined, IsKid}
use Rattle.extent_map.proofs.Layouts.{get_or-hole, get_or-run}
use Rattle.extent_map.proofs.LeafEdits.{length-cells_in}
use Rattle.extent_map.proofs.Spans.{length-all}

-- cells that are tested
module _ {C : Type 0} (test : C → Bool) (empty : C) where
  -- cells that all answer the same
  pub any_same : (xs : List C) (b : Bool) → 0 < length xs → ((k : ℕ) → k < length xs → test (get_or xs k empty) ≡ b) → list_any test xs ≡ b
  any_same xs true some same = list_any_at test xs 0 empty some (same 0 some)
  any_same xs false some same = list_any_none test xs (All-from_get_or (λ c. test c ≡ false) xs empty same)

  fails_at : (xs : List C) (k : ℕ) (b : Bool) → list_any test xs ≡ false → k < length xs → test (get_or xs k empty) ≡ b → b ≡ false
  fails_at xs k true none within is = sym (list_any_at test xs k empty within is) ∙ none
  fails_at xs k false none within is = refl

  -- where none passes, there is no first one
  pub first_of_none : (xs : List C) (at place : ℕ) → list_any test xs ≡ false → at ≤ length xs → place ≡ length xs → IsFirstFrom test empty at xs place
  first_of_none xs at place none within end =
      record {
        from = omega (arith, within, end);
        within = omega (arith, end);
        before = λ k low high. fails_at xs k (test (get_or xs k empty)) none (omega (arith, high, end)) refl;
        there = λ h. absurd (omega (arith, h, end));
      }

-- parts one after the other
module _ {A C : Type 0} (cells : A → List C) (test : C → Bool) where
  pub any_of_parts : (xs : List A) → list_any (λ x. list_any test (cells x)) xs ≡ list_any test (flat_map cells xs)
  any_of_parts [] = refl
  any_of_parts (x ∷ xs) = ap (λ (b : Bool). list_any test (cells x) || b) (any_of_parts xs) ∙ sym (list_any-append test (cells x) (flat_map cells xs))

-- parts that are gone through from a place on
module _ {A C : Type 0} (cells : A → List C) (span : A → ℕ) (spanned : (x : A) → length (cells x) ≡ span x) (parts : List A) (test : C → Bool) (empty : C) (at i start : ℕ) (begins : start ≡ sum_by span (take i parts)) (none : NonePass test empty at start (flat_map cells parts)) where
  -- the part that was come to
  module _ (part : A) (within : i < length parts) (is : part ≡ get_or parts i part) where
    cell_there : (j : ℕ) → j < span part → get_or (flat_map cells parts) (start + j) empty ≡ get_or (cells part) j empty
    cell_there j under =
        let n : start ≡ length (flat_map cells (take i parts)) = begins ∙ sym (length-all cells span spanned (take i parts)) in
        ap (λ (k : ℕ). get_or (flat_map cells parts) (k + j) empty) n
        ∙ get_or-flat_map cells parts i j part empty within (omega (arith, under, spanned part, ap (λ (x : A). length (cells x)) is))
        ∙ ap (λ (x : A). get_or (cells x) j empty) (sym is)

    pub sum_on : start + span part ≡ sum_by span (take (i + 1) parts)
    sum_on = omega (arith, begins, sum_by_more span parts i part within, ap span is)

    pub fits_on : start + span part ≤ length (flat_map cells parts)
    fits_on = omega (arith, begins, sum_by_more_le span parts i part within, ap span is, length-all cells span spanned parts)

    module _ (place from : ℕ) (from_is : from ≡ at - start) (first : IsFirstFrom test empty from (cells part) place) where
      pub none_on : (to : ℕ) → to ≤ place → NonePass test empty at (start + to) (flat_map cells parts)
      none_on to up k low high = ⊎_elim
          (λ below. none k low below)
          (λ above.
          let e : start + (k - start) ≡ k = omega (arith, above) in
          ap (λ (n : ℕ). test (get_or (flat_map cells parts) n empty)) (sym e)
          ∙ ap test (cell_there (k - start) (omega (arith, above, high, up, first.within, spanned part)))
          ∙ first.before (k - start) (omega (arith, low, from_is)) (omega (arith, above, high, up)))
          (cases_lt k start)

      pub first_there : place < span part → IsFirstFrom test empty at (flat_map cells parts) (start + place)
      first_there under =
          record {
            from = omega (arith, first.from, from_is);
            within = omega (arith, under, fits_on);
            before = none_on place (omega arith);
            there = λ h. ap test (cell_there place under) ∙ first.there (omega (arith, under, spanned part));
          }

  -- all parts were gone through
  pub first_is_end : length parts ≤ i → at ≤ length (flat_map cells parts) → IsFirstFrom test empty at (flat_map cells parts) start
  first_is_end past within =
      let end : start ≡ length (flat_map cells parts) = begins ∙ ap (sum_by span) (take_all i parts past) ∙ sym (length-all cells span spanned parts) in
      record {
        from = omega (arith, within, end);
        within = omega (arith, end);
        before = none;
        there = λ h. absurd (omega (arith, h, end));
      }

module _ {O : Type 0} (advanced : O → ℕ → O) (foreign : O → Bool) (reach : O → ℕ) (stays : (o : O) (k : ℕ) → k ≤ reach o → foreign (advanced o k) ≡ foreign o) where
  cell_of : (origin : Option O) (len k : ℕ) → IfSome origin (λ o. len ≤ reach o) → k < len → foreign_cell foreign (get_or (piece_cells advanced origin len) k None) ≡ foreign_cell foreign origin
  cell_of None len k reached under = ap (foreign_cell foreign) (get_or-hole advanced len k under)
  cell_of (Some o) len k reached under = ap (foreign_cell foreign) (get_or-run advanced o len k under) ∙ stays o k (omega (arith, reached, under))

  -- all cells of a piece are foreign, or none is
  module _ (piece : Piece O) (good : IsPiece reach piece) where
    long : length (cells_in advanced piece) ≡ piece.len
    long = length-cells_in advanced reach piece

    pub piece_says : foreign_cell foreign piece.origin ≡ have_foreign foreign (cells_in advanced piece)
    piece_says =
        sym (any_same (foreign_cell foreign) None (cells_in advanced piece) (foreign_cell foreign piece.origin) (omega (arith, long, good.some)) (λ k under. cell_of piece.origin piece.len k good.reaches (omega (arith, long, under))))

    pub first_in_foreign : (at : ℕ) → foreign_cell foreign piece.origin ≡ true → at ≤ piece.len → IsFirstFrom (foreign_cell foreign) None at (cells_in advanced piece) at
    first_in_foreign at is within =
        record {
          from = omega arith;
          within = omega (arith, within, long);
          before = λ k low high. absurd (omega (arith, low, high));
          there = λ h. cell_of piece.origin piece.len at good.reaches (omega (arith, h, long)) ∙ is;
        }

    pub first_in_other : (at : ℕ) → foreign_cell foreign piece.origin ≡ false → at ≤ piece.len → IsFirstFrom (foreign_cell foreign) None at (cells_in advanced piece) piece.len
    first_in_other at is within = first_of_none (foreign_cell foreign) None (cells_in advanced piece) at piece.len (sym piece_says ∙ is) (omega (arith, within, long)) (sym long)

  -- what a leaf says
  pub leaf_says : (ps : List (Piece O)) → ArePieces reach ps → list_any (λ (p : Piece O). foreign_cell foreign p.origin) ps ≡ have_foreign foreign (all_cells advanced ps)
  leaf_says [] each = refl
  leaf_says (p ∷ ps) each =
      ap₂ (λ (a b : Bool). a || b) (piece_says p (All-head (IsPiece reach) p ps each)) (leaf_says ps (All-tail (IsPiece reach) p ps each))
      ∙ sym (list_any-append (foreign_cell foreign) (cells_in advanced p) (all_cells advanced ps))

-- what a tree over others says
pub fork_says : {O : Type 0} (foreign : O → Bool) (kids : List (Seen O)) → list_any (λ (k : Seen O). have_foreign foreign k.cells) kids ≡ have_foreign foreign (joined kids)
fork_says foreign kids = any_of_parts (λ k. k.cells) (foreign_cell foreign) kids

-- trees that are gone through, which one is over
module _ {O : Type 0} (foreign : O → Bool) (tree : Seen O) (high : ℕ) (kids : List (Seen O)) (ks : AreKidsOf tree high kids) (at i start : ℕ) (begins : start ≡ sum_by cells_count (take i kids)) (none : NonePass (foreign_cell foreign) None at start (joined kids)) where
  module _ (kid : Seen O) (within : i < length kids) (is : kid ≡ get_or kids i kid) where
    pub kid_low : kid.height + 1 ≡ tree.height
    kid_low =
        let k : IsKid ks.below.steps kid = subst (IsKid ks.below.steps) (sym is) (All-get_or (IsKid ks.below.steps) kids i kid within ks.below.each) in
        omega (arith, k.height, ks.below.height, ks.as_high)

    pub kid_sum : start + length kid.cells ≡ sum_by cells_count (take (i + 1) kids)
    kid_sum = sum_on (λ (k : Seen O). k.cells) cells_count (λ k. refl) kids (foreign_cell foreign) None at i start begins none kid within is

    pub kid_fits : start + length kid.cells ≤ length tree.cells
    kid_fits = omega (arith, fits_on (λ (k : Seen O). k.cells) cells_count (λ k. refl) kids (foreign_cell foreign) None at i start begins none kid within is, ap length ks.are)

    module _ (place from : ℕ) (from_is : from ≡ at - start) (first : IsFirstFrom (foreign_cell foreign) None from kid.cells place) where
      pub kid_none : length kid.cells ≤ place → NonePass (foreign_cell foreign) None at (start + length kid.cells) (joined kids)
      kid_none up = none_on (λ (k : Seen O). k.cells) cells_count (λ k. refl) kids (foreign_cell foreign) None at i start begins none kid within is place from from_is first (length kid.cells) up

      pub kid_first : place < length kid.cells → IsFirstFrom (foreign_cell foreign) None at tree.cells (start + place)
      kid_first under =
          subst (λ (l : List (Option O)). IsFirstFrom (foreign_cell foreign) None at l (start + place)) ks.are
          (first_there (λ (k : Seen O). k.cells) cells_count (λ k. refl) kids (foreign_cell foreign) None at i start begins none kid within is place from from_is first under)

  pub kids_end : length kids ≤ i → at ≤ length tree.cells → IsFirstFrom (foreign_cell foreign) None at tree.cells start
  kids_end past within =
      subst (λ (l : List (Option O)). IsFirstFrom (foreign_cell foreign) None at l start) ks.are
      (first_is_end (λ (k : Seen O). k.cells) cells_count (λ k. refl) kids (foreign_cell foreign) None at i start begins none past (omega (arith, within, ap length ks.are)))
