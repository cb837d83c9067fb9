-- Pieces that are read from a place on.
use Rattle.std.proofs.Common.{◌≡◌, ℕ, ◌+◌, ◌-◌, ◌<◌, ◌≤◌, List, Option, [], ◌∷◌, ◌++◌, length, take, drop, get_or, length-append, length-take, length-drop, refl, sym, ap, ap₂, ◌∙◌, subst, arith}
use Rattle.std.proofs.Math.Seq.{take-add}
use Rattle.std.proofs.lemmas.List.{take_rest, take_all, take_at, drop_at, take-take, drop-drop, take-append-le, drop-append-le}
use Rattle.std.proofs.lemmas.List.Elements.{All-nil, All-drop, All-head, All-tail, All-get_or}
use Rattle.extent_map.specs.declared.piece.Piece.{Piece}
use Rattle.extent_map.specs.Cells.{cells_between}
use Rattle.extent_map.specs.Leaves.{all_cells, cells_in, IsReached, IsPiece, ArePieces, HaveCells}
use Rattle.extent_map.specs.Parts.{IsFound}
use Rattle.extent_map.specs.Reading.{FirstHas, AreAhead, IsNext}
use Rattle.extent_map.proofs.LeafEdits.{length-cells_in}
use Rattle.extent_map.proofs.Spans.{found_from, drop_found}

module _ {O : Type 0} (advanced : O → ℕ → O) (reach : O → ℕ) where
  pub leaf_ahead : (cells : List (Option O)) (ps now : List (Piece O)) (at index start : ℕ) → HaveCells advanced reach cells ps → (f : IsFound (λ p. p.len) ps at index start) → now ≡ take (length ps - index) (drop index ps) → AreAhead advanced reach cells at now (at - start)
  leaf_ahead cells ps now at index start have f now_is =
      let from : now ≡ f.part ∷ f.after = now_is ∙ take_rest ps index ∙ found_from (λ p. p.len) ps at index start f in
      let skip : at - start ≤ length (cells_in advanced f.part) = omega (arith, f.to, length-cells_in advanced reach f.part) in
      let d : drop at cells ≡ drop (at - start) (all_cells advanced (f.part ∷ f.after)) =
      ap (drop at) (sym have.are)
      ∙ drop_found (cells_in advanced) (λ p. p.len) (length-cells_in advanced reach) ps f.before f.part f.after at start f.all f.begins f.from (omega (arith, f.to))
      ∙ sym (drop-append-le (at - start) (cells_in advanced f.part) (all_cells advanced f.after) skip) in
      subst (λ (l : List (Piece O)). AreAhead advanced reach cells at l (at - start)) (sym from)
      (record {
        each = subst (ArePieces reach) (found_from (λ p. p.len) ps at index start f) (All-drop (IsPiece reach) index ps have.each);
        first = omega (arith, f.to, f.from);
        are =
            sym (take_all (length (all_cells advanced (f.part ∷ f.after)) - (at - start)) (drop (at - start) (all_cells advanced (f.part ∷ f.after))) (omega (arith, length-drop (at - start) (all_cells advanced (f.part ∷ f.after)))))
            ∙ ap (take (length (all_cells advanced (f.part ∷ f.after)) - (at - start))) (sym d);
      })

  pub fork_ahead : (cells kid rest : List (Option O)) (at place : ℕ) (ps : List (Piece O)) (skip : ℕ) → drop at cells ≡ drop place kid ++ rest → AreAhead advanced reach kid place ps skip → AreAhead advanced reach cells at ps skip
  fork_ahead cells kid rest at place ps skip is h =
      let n = length (all_cells advanced ps) - skip in
      record {
        each = h.each;
        first = h.first;
        are =
            h.are
            ∙ sym (ap (take n) is ∙ take-append-le n (drop place kid) rest (omega (arith, ap length h.are, length-drop skip (all_cells advanced ps), length-take n (drop place kid))));
      }

  -- no piece is passed over in part
  from_first : (ps : List (Piece O)) → ArePieces reach ps → FirstHas 0 ps
  from_first [] each = tt
  from_first (p ∷ ps) each = (All-head (IsPiece reach) p ps each).some

  -- two lists that go on in front of a third
  module _ (front rest cells : List (Option O)) (e : front ++ rest ≡ take (length front + length rest) cells) where
    long : length front + length rest ≤ length cells
    long = omega (arith, ap length e, length-append front rest, length-take (length front + length rest) cells)

    split_is : front ++ rest ≡ take (length front) cells ++ take (length rest) (drop (length front) cells)
    split_is = e ∙ take-add (length front) (length rest) cells

    front_length : length (take (length front) cells) ≡ length front
    front_length = omega (arith, long, length-take (length front) cells)

    front_is : front ≡ take (length front) cells
    front_is =
        sym (take_at front rest (length front) refl)
        ∙ ap (take (length front)) split_is
        ∙ take_at (take (length front) cells) (take (length rest) (drop (length front) cells)) (length front) front_length

    rest_is : rest ≡ take (length rest) (drop (length front) cells)
    rest_is =
        sym (drop_at front rest (length front) refl)
        ∙ ap (drop (length front)) split_is
        ∙ drop_at (take (length front) cells) (take (length rest) (drop (length front) cells)) (length front) front_length

  -- the first piece of those ahead, from the place on
  pub first_next : (cells : List (Option O)) (at skip : ℕ) (p : Piece O) (ps : List (Piece O)) (q : Piece O) → AreAhead advanced reach cells at (p ∷ ps) skip → q.len ≡ p.len - skip → IsReached reach q → cells_in advanced q ≡ drop skip (cells_in advanced p)
      → IsNext advanced reach cells at q ps
  first_next cells at skip p ps q h len reached is =
      let n : length (cells_in advanced q) ≡ q.len = length-cells_in advanced reach q in
      let under : skip < p.len = h.first in
      let rest = all_cells advanced ps in
      let e : cells_in advanced q ++ rest ≡ take (length (cells_in advanced q) + length rest) (drop at cells) =
      ap (λ (l : List (Option O)). l ++ rest) is
      ∙ sym (drop-append-le skip (cells_in advanced p) rest (omega (arith, under, length-cells_in advanced reach p)))
      ∙ h.are
      ∙ ap (λ k. take k (drop at cells)) (let m : length (cells_in advanced p ++ rest) - skip ≡ length (cells_in advanced q) + length rest = omega (arith, under, len, n, length-append (cells_in advanced p) rest, length-cells_in advanced reach p) in m) in
      let each = All-tail (IsPiece reach) p ps h.each in
      let zero : length rest ≡ length rest - 0 = omega arith in
      record {
        good = record { some = omega (arith, len, under); reaches = reached };
        are = front_is (cells_in advanced q) rest (drop at cells) e ∙ ap (λ k. take k (drop at cells)) n;
        ahead = record {
          each = each;
          first = from_first ps each;
          are =
              rest_is (cells_in advanced q) rest (drop at cells) e
              ∙ ap₂ (λ k (l : List (Option O)). take k l) zero (ap (λ k. drop k (drop at cells)) n ∙ drop-drop q.len at cells);
        };
      }

  pub pieces_next : (cells : List (Option O)) (at skip : ℕ) (ps now : List (Piece O)) (p q : Piece O) → AreAhead advanced reach cells at ps skip → 0 < length ps → p ≡ get_or ps 0 p → now ≡ take (length ps - 1) (drop 1 ps) → q.len ≡ p.len - skip → IsReached reach q → cells_in advanced q ≡ drop skip (cells_in advanced p)
      → IsNext advanced reach cells at q now
  pieces_next cells at skip [] now p q h some p_is now_is len reached is = absurd (omega (arith, some))
  pieces_next cells at skip (r ∷ rs) now p q h some p_is now_is len reached is =
      subst (IsNext advanced reach cells at q) (sym (now_is ∙ take_rest (r ∷ rs) 1))
      (first_next cells at skip r rs q h (omega (arith, len, ap (λ (x : Piece O). x.len) p_is)) reached (is ∙ ap (λ (x : Piece O). drop skip (cells_in advanced x)) p_is))

  pub whole_next : (cells : List (Option O)) (at : ℕ) (ps now : List (Piece O)) (p : Piece O) → AreAhead advanced reach cells at ps 0 → 0 < length ps → p ≡ get_or ps 0 p → now ≡ take (length ps - 1) (drop 1 ps) → IsNext advanced reach cells at p now
  whole_next cells at ps now p h some p_is now_is =
      let good : IsPiece reach p = subst (IsPiece reach) (sym p_is) (All-get_or (IsPiece reach) ps 0 p some h.each) in
      pieces_next cells at 0 ps now p p h some p_is now_is (omega arith) good.reaches refl

  -- one piece from a place on
  pub one_next : (p q : Piece O) (at : ℕ) → at < p.len → q.len ≡ p.len - at → IsReached reach q → cells_in advanced q ≡ drop at (cells_in advanced p) → IsNext advanced reach (cells_in advanced p) at q []
  one_next p q at h len reached is =
      record {
        good = record { some = omega (arith, h, len); reaches = reached };
        are = is ∙ sym (take_all q.len (drop at (cells_in advanced p)) (omega (arith, len, length-drop at (cells_in advanced p), length-cells_in advanced reach p)));
        ahead = record { each = All-nil (IsPiece reach); first = tt; are = refl };
      }

  -- the cells of a piece that is read, and those that are left
  pub read_on : (cells : List (Option O)) (at end : ℕ) (p q : Piece O) (ps : List (Piece O)) → IsNext advanced reach cells at p ps → q.len ≤ p.len → at + q.len ≤ end → cells_in advanced q ≡ take q.len (cells_in advanced p)
      → cells_between at (end - at) cells ≡ cells_in advanced q ++ cells_between (at + q.len) (end - (at + q.len)) cells
  unfolding cells_between
  read_on cells at end p q ps h le within is =
      let e : end - at ≡ q.len + (end - (at + q.len)) = omega (arith, within) in
      ap (λ k. take k (drop at cells)) e
      ∙ take-add q.len (end - (at + q.len)) (drop at cells)
      ∙ ap₂ (λ (k l : List (Option O)). k ++ l)
      (sym (is ∙ ap (take q.len) h.are ∙ take-take q.len p.len (drop at cells) le))
      (ap (take (end - (at + q.len))) (drop-drop q.len at cells))

-- nothing is read from the end on
pub none_left : {C : Type 0} (cells : List C) (at end : ℕ) → end ≤ at → cells_between at (end - at) cells ≡ []
unfolding cells_between
none_left cells at end h =
    let e : end - at ≡ 0 = omega (arith, h) in
    ap (λ k. take k (drop at cells)) e
