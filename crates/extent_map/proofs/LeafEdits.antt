-- What the edits of the pieces of a leaf leave.
use Rattle.std.proofs.Common.{◌≡◌, ℕ, suc, ◌+◌, ◌-◌, ◌<◌, ◌≤◌, Option, List, [], ◌∷◌, ◌++◌, length, take, drop, get_or, set, length-append, refl, sym, ap, ap₂, ◌∙◌, subst, arith}
use Rattle.std.proofs.lemmas.List.{append_assoc, append-nil, take_at, drop_at, take-append-drop, length-take-le, drop_more, take_more, take_more_set, drop-set-lt, length-set, nil_from_length, drop-drop, take_all, drop_all}
use Rattle.std.proofs.lemmas.List.Elements.{All-append, All-cons, All-take, All-drop, All-set, All-get_or}
use Rattle.std.specs.List.{sum_by, insert, remove}
use Rattle.std.proofs.lemmas.List.Concat.{flat_map-append}
use Rattle.std.proofs.lemmas.List.Sums.{sum_by-append}
use Rattle.extent_map.specs.declared.piece.Piece.{Piece}
use Rattle.extent_map.specs.Leaves.{cells_in, all_cells, IsReached, IsPiece, ArePieces, IsBoth, IsAdded, pieces_at, HaveCells, overwritten}
use Rattle.extent_map.proofs.Layouts.{length-piece}
use Rattle.extent_map.specs.Parts.{IsFound}
use Rattle.extent_map.proofs.Spans.{length-all, found_sum, found_part, found_before, found_from, found_after, found_below, take_found, drop_found}

module _ {O : Type 0} (advanced : O → ℕ → O) (reach : O → ℕ) where
  pub length-cells_in : (p : Piece O) → length (cells_in advanced p) ≡ p.len
  length-cells_in p = length-piece advanced p.origin p.len

  pub length-all_cells : (ps : List (Piece O)) → length (all_cells advanced ps) ≡ sum_by (λ p. p.len) ps
  length-all_cells ps = length-all (cells_in advanced) (λ p. p.len) length-cells_in ps

  -- a piece of no cells
  pub added_none : (old : List (Piece O)) (at : ℕ) (p : Piece O) → at ≤ length old → p.len ≡ 0 → ArePieces reach old → IsAdded advanced reach (pieces_at old at) p (pieces_at old at)
  added_none old at p within none are =
      record {
        front =
            sym (append-nil (all_cells advanced (take at old)))
            ∙ ap (λ l. all_cells advanced (take at old) ++ l) (sym (nil_from_length (cells_in advanced p) (length-cells_in p ∙ none)));
        back = refl;
        within = within;
        pieces = are;
      }

  -- a piece that was put in
  pub added_in : (old new : List (Piece O)) (at : ℕ) (p : Piece O) → at ≤ length old → new ≡ insert old at p → IsPiece reach p → ArePieces reach old → IsAdded advanced reach (pieces_at old at) p (pieces_at new (at + 1))
  added_in old new at p within is good are =
      let n : length (take at old) ≡ at = length-take-le at old within in
      let e : new ≡ (take at old ++ p ∷ []) ++ drop at old = is ∙ sym (append_assoc (take at old) (p ∷ []) (drop at old)) in
      let m : length (take at old ++ p ∷ []) ≡ at + 1 = omega (arith, length-append (take at old) (p ∷ []), n) in
      record {
        front =
            ap (all_cells advanced) (ap (take (at + 1)) e ∙ take_at (take at old ++ p ∷ []) (drop at old) (at + 1) m)
            ∙ flat_map-append (cells_in advanced) (take at old) (p ∷ [])
            ∙ ap (λ l. all_cells advanced (take at old) ++ l) (append-nil (cells_in advanced p));
        back = ap (drop (at + 1)) e ∙ drop_at (take at old ++ p ∷ []) (drop at old) (at + 1) m;
        within = omega (arith, ap length e, length-append (take at old ++ p ∷ []) (drop at old), m);
        pieces =
            subst (ArePieces reach) (sym is)
            (All-append (IsPiece reach) (take at old) (p ∷ drop at old) (All-take (IsPiece reach) at old are)
            (All-cons (IsPiece reach) p (drop at old) good (All-drop (IsPiece reach) at old are)));
      }

  -- a piece that was joined to the one before it
  pub added_to : (old new : List (Piece O)) (i at : ℕ) (p q both : Piece O) → at ≡ i + 1 → at ≤ length old → q ≡ get_or old i q → IsBoth advanced reach q p both → 0 < p.len → new ≡ set old i both → ArePieces reach old
      → IsAdded advanced reach (pieces_at old at) p (pieces_at new at)
  added_to old new i at p q both e within q_is is some new_is are =
      let lt : i < length old = omega (arith, e, within) in
      let t : take at new ≡ take i old ++ both ∷ [] = ap₂ (λ (n : ℕ) (l : List (Piece O)). take n l) e new_is ∙ take_more_set old i both lt in
      let u : take at old ≡ take i old ++ q ∷ [] = ap (λ n. take n old) e ∙ take_more old i q lt ∙ ap (λ x. take i old ++ x ∷ []) (sym q_is) in
      let f : all_cells advanced (take at old) ≡ all_cells advanced (take i old) ++ cells_in advanced q =
      ap (all_cells advanced) u ∙ flat_map-append (cells_in advanced) (take i old) (q ∷ [])
      ∙ ap (λ l. all_cells advanced (take i old) ++ l) (append-nil (cells_in advanced q)) in
      record {
        front =
            ap (all_cells advanced) t ∙ flat_map-append (cells_in advanced) (take i old) (both ∷ [])
            ∙ ap (λ l. all_cells advanced (take i old) ++ l) (append-nil (cells_in advanced both) ∙ is.cells)
            ∙ sym (append_assoc (all_cells advanced (take i old)) (cells_in advanced q) (cells_in advanced p))
            ∙ ap (λ l. l ++ cells_in advanced p) (sym f);
        back = ap (drop at) new_is ∙ drop-set-lt at old i both (omega (arith, e));
        within = omega (arith, ap length new_is, length-set old i both, within);
        pieces =
            subst (ArePieces reach) (sym new_is)
            (All-set (IsPiece reach) old i both (record { some = omega (arith, is.len, some); reaches = is.reaches }) are);
      }

  -- all pieces where one was put in
  pub added_all : (old new : List (Piece O)) (at next : ℕ) (p : Piece O) → IsAdded advanced reach (pieces_at old at) p (pieces_at new next)
      → all_cells advanced new ≡ (all_cells advanced (take at old) ++ cells_in advanced p) ++ all_cells advanced (drop at old)
  added_all old new at next p is =
      ap (all_cells advanced) (sym (take-append-drop next new))
      ∙ flat_map-append (cells_in advanced) (take next new) (drop next new)
      ∙ ap₂ (λ (k l : List (Option O)). k ++ l) is.front (ap (all_cells advanced) is.back)

  pub added_sum : (old new : List (Piece O)) (at next : ℕ) (p : Piece O) → IsAdded advanced reach (pieces_at old at) p (pieces_at new next) → sum_by (λ p. p.len) new ≡ sum_by (λ p. p.len) old + p.len
  added_sum old new at next p is =
      omega (
        arith,
        length-all_cells new,
        length-all_cells old,
        length-cells_in p,
        ap length (added_all old new at next p is),
        length-append (all_cells advanced (take at old) ++ cells_in advanced p) (all_cells advanced (drop at old)),
        length-append (all_cells advanced (take at old)) (cells_in advanced p),
        length-append (all_cells advanced (take at old)) (all_cells advanced (drop at old)),
        ap length (sym (flat_map-append (cells_in advanced) (take at old) (drop at old)) ∙ ap (all_cells advanced) (take-append-drop at old)),
      )

  -- two pieces that became one
  pub closed : (old new : List (Piece O)) (i at : ℕ) (p q both : Piece O) → at ≡ i + 1 → at < length old → p ≡ get_or old i p → q ≡ get_or old at q → IsBoth advanced reach p q both → new ≡ remove (set old i both) at → ArePieces reach old
      → HaveCells advanced reach (all_cells advanced old) new
  closed old new i at p q both e within p_is q_is is new_is are =
      let lt : i < length old = omega (arith, e, within) in
      let t : take at (set old i both) ≡ take i old ++ both ∷ [] = ap (λ n. take n (set old i both)) e ∙ take_more_set old i both lt in
      let k : suc at ≡ at + 1 = omega arith in
      let d : drop (suc at) (set old i both) ≡ drop (at + 1) old = drop-set-lt (suc at) old i both (omega (arith, e)) ∙ ap (λ n. drop n old) k in
      let n : new ≡ take i old ++ both ∷ drop (at + 1) old =
      new_is ∙ ap₂ (λ (k l : List (Piece O)). k ++ l) t d ∙ append_assoc (take i old) (both ∷ []) (drop (at + 1) old) in
      let o : old ≡ take i old ++ p ∷ q ∷ drop (at + 1) old =
      sym (take-append-drop i old)
      ∙ ap (λ l. take i old ++ l)
      (drop_more old i p lt
      ∙ ap₂ (λ (x : Piece O) (l : List (Piece O)). x ∷ l) (sym p_is)
      (ap (λ k. drop k old) (sym e) ∙ drop_more old at q within ∙ ap (λ x. x ∷ drop (at + 1) old) (sym q_is))) in
      record {
        are =
            ap (all_cells advanced) n
            ∙ flat_map-append (cells_in advanced) (take i old) (both ∷ drop (at + 1) old)
            ∙ ap (λ l. all_cells advanced (take i old) ++ (l ++ all_cells advanced (drop (at + 1) old))) is.cells
            ∙ ap (λ l. all_cells advanced (take i old) ++ l) (append_assoc (cells_in advanced p) (cells_in advanced q) (all_cells advanced (drop (at + 1) old)))
            ∙ sym (flat_map-append (cells_in advanced) (take i old) (p ∷ q ∷ drop (at + 1) old))
            ∙ ap (all_cells advanced) (sym o);
        each =
            let first : IsPiece reach p = subst (IsPiece reach) (sym p_is) (All-get_or (IsPiece reach) old i p lt are) in
            subst (ArePieces reach) (sym n)
            (All-append (IsPiece reach) (take i old) (both ∷ drop (at + 1) old) (All-take (IsPiece reach) i old are)
            (All-cons (IsPiece reach) both (drop (at + 1) old) (record { some = omega (arith, is.len, first.some); reaches = is.reaches }) (All-drop (IsPiece reach) (at + 1) old are)));
      }

-- one behind the front
drop_behind : {X : Type 0} (front rest : List X) (from : ℕ) → length front ≡ from → drop (suc from) (front ++ rest) ≡ drop 1 rest
drop_behind front rest from n =
    let e : from + 1 ≡ suc from = omega arith in
    sym (drop-drop 1 from (front ++ rest) ∙ ap (λ k. drop k (front ++ rest)) e)
    ∙ ap (drop 1) (drop_at front rest from n)

-- pieces that go
pub removed : {X : Type 0} (old now new : List X) (from at : ℕ) → from ≤ at → at < length old → now ≡ take from old ++ drop at old → new ≡ remove now from → new ≡ take from old ++ drop (at + 1) old
removed old now new from at order within now_is new_is =
    let n : length (take from old) ≡ from = length-take-le from old (omega (arith, order, within)) in
    new_is
    ∙ ap (λ l. remove l from) now_is
    ∙ ap₂ (λ (k l : List _). k ++ l) (take_at (take from old) (drop at old) from n)
    (drop_behind (take from old) (drop at old) from n ∙ drop-drop 1 at old)

module _ {O : Type 0} (advanced : O → ℕ → O) (reach : O → ℕ) where
  -- the cells up to a place in a piece that was found, and those from there on
  pub front_lead : (old : List (Piece O)) (at now index start : ℕ) (x lead : Piece O) → (f : IsFound (λ p. p.len) old at index start) → x ≡ get_or old index x → start ≤ now → now ≤ start + f.part.len
      → cells_in advanced lead ≡ take (now - start) (cells_in advanced x) → all_cells advanced (take index old) ++ cells_in advanced lead ≡ take now (all_cells advanced old)
  front_lead old at now index start x lead f x_is from to is =
      ap₂ (λ (k l : List (Option O)). k ++ l)
      (ap (all_cells advanced) (found_before (λ p. p.len) old at index start f))
      (is ∙ ap (λ p. take (now - start) (cells_in advanced p)) (found_part (λ p. p.len) old at index start f x x_is))
      ∙ sym (take_found (cells_in advanced) (λ p. p.len) (length-cells_in advanced reach) old f.before f.part f.after now start f.all f.begins from to)

  pub tail_back : (old : List (Piece O)) (at now index start : ℕ) (x tail : Piece O) → (f : IsFound (λ p. p.len) old at index start) → x ≡ get_or old index x → start ≤ now → now ≤ start + f.part.len
      → cells_in advanced tail ≡ drop (now - start) (cells_in advanced x) → cells_in advanced tail ++ all_cells advanced (drop (index + 1) old) ≡ drop now (all_cells advanced old)
  tail_back old at now index start x tail f x_is from to is =
      ap₂ (λ (k l : List (Option O)). k ++ l)
      (is ∙ ap (λ p. drop (now - start) (cells_in advanced p)) (found_part (λ p. p.len) old at index start f x x_is))
      (ap (all_cells advanced) (found_after (λ p. p.len) old at index start f))
      ∙ sym (drop_found (cells_in advanced) (λ p. p.len) (length-cells_in advanced reach) old f.before f.part f.after now start f.all f.begins from to)

  -- three pieces that were put in after one another, in place of some
  pub written : (old p1 p2 p3 p4 p5 : List (Piece O)) (at first last n1 n2 n3 : ℕ) (lead new tail : Piece O)
      → first ≤ length old
      → p1 ≡ take first old ++ drop (last + 1) old
      → IsAdded advanced reach (pieces_at p1 first) lead (pieces_at p2 n1)
      → IsAdded advanced reach (pieces_at p2 n1) new (pieces_at p3 n2)
      → IsAdded advanced reach (pieces_at p3 n2) tail (pieces_at p4 n3)
      → HaveCells advanced reach (all_cells advanced p4) p5
      → all_cells advanced (take first old) ++ cells_in advanced lead ≡ take at (all_cells advanced old)
      → cells_in advanced tail ++ all_cells advanced (drop (last + 1) old) ≡ drop (at + new.len) (all_cells advanced old)
      → HaveCells advanced reach (overwritten at (cells_in advanced new) (all_cells advanced old)) p5
  written old p1 p2 p3 p4 p5 at first last n1 n2 n3 lead new tail within p1_is a1 a2 a3 cl front back =
      let n : length (take first old) ≡ first = length-take-le first old within in
      let t : take first p1 ≡ take first old = ap (take first) p1_is ∙ take_at (take first old) (drop (last + 1) old) first n in
      let d : drop first p1 ≡ drop (last + 1) old = ap (drop first) p1_is ∙ drop_at (take first old) (drop (last + 1) old) first n in
      let f : all_cells advanced (take n2 p3) ≡ take at (all_cells advanced old) ++ cells_in advanced new =
      a2.front
      ∙ ap (λ l. l ++ cells_in advanced new) (a1.front ∙ ap (λ l. all_cells advanced l ++ cells_in advanced lead) t ∙ front) in
      let b : drop n2 p3 ≡ drop (last + 1) old = a2.back ∙ a1.back ∙ d in
      record {
        are =
            cl.are
            ∙ added_all advanced reach p3 p4 n2 n3 tail a3
            ∙ ap₂ (λ (k : List (Option O)) (l : List (Piece O)). (k ++ cells_in advanced tail) ++ all_cells advanced l) f b
            ∙ append_assoc (take at (all_cells advanced old) ++ cells_in advanced new) (cells_in advanced tail) (all_cells advanced (drop (last + 1) old))
            ∙ ap (λ l. (take at (all_cells advanced old) ++ cells_in advanced new) ++ l) back
            ∙ ap (λ k. (take at (all_cells advanced old) ++ cells_in advanced new) ++ drop (at + k) (all_cells advanced old)) (sym (length-cells_in advanced reach new));
        each = cl.each;
      }

  -- how many cells are left where some pieces went
  pub gone_sum : (old p1 : List (Piece O)) (at end first start last last_start : ℕ) → (f : IsFound (λ p. p.len) old at first start) (l : IsFound (λ p. p.len) old end last last_start) → p1 ≡ take first old ++ drop (last + 1) old
      → sum_by (λ p. p.len) p1 + (last_start + l.part.len) ≡ start + sum_by (λ p. p.len) old
  gone_sum old p1 at end first start last last_start f l p1_is =
      omega (
        arith,
        ap (sum_by (λ p. p.len)) p1_is,
        sum_by-append (λ p. p.len) (take first old) (drop (last + 1) old),
        ap (sum_by (λ p. p.len)) (found_before (λ p. p.len) old at first start f),
        ap (sum_by (λ p. p.len)) (found_after (λ p. p.len) old end last last_start l),
        f.begins,
        found_sum (λ p. p.len) old end last last_start l,
      )

  -- the pieces before a place, the last of them cut there
  pub split_front : (old low new : List (Piece O)) (at index start next : ℕ) (x lead : Piece O) → (f : IsFound (λ p. p.len) old at index start) → x ≡ get_or old index x
      → cells_in advanced lead ≡ take (at - start) (cells_in advanced x) → low ≡ take index old → IsAdded advanced reach (pieces_at low index) lead (pieces_at new next) → HaveCells advanced reach (take at (all_cells advanced old)) new
  split_front old low new at index start next x lead f x_is lead_is low_is is =
      let n : length (take index old) ≡ index = length-take-le index old (omega (arith, found_below (λ p. p.len) old at index start f)) in
      let t : take index low ≡ take index old = ap (take index) low_is ∙ take_all index (take index old) (omega (arith, n)) in
      let d : drop index low ≡ [] = ap (drop index) low_is ∙ drop_all index (take index old) (omega (arith, n)) in
      record {
        are =
            added_all advanced reach low new index next lead is
            ∙ ap₂ (λ (k l : List (Piece O)). (all_cells advanced k ++ cells_in advanced lead) ++ all_cells advanced l) t d
            ∙ append-nil (all_cells advanced (take index old) ++ cells_in advanced lead)
            ∙ front_lead old at at index start x lead f x_is f.from (omega (arith, f.to)) lead_is;
        each = is.pieces;
      }

  -- the pieces from a place on, the first of them cut there
  pub split_back : (old back : List (Piece O)) (at index start : ℕ) (x tail : Piece O) → (f : IsFound (λ p. p.len) old at index start) → x ≡ get_or old index x → ArePieces reach old
      → cells_in advanced tail ≡ drop (at - start) (cells_in advanced x) → tail.len ≡ x.len - (at - start) → IsReached reach tail → back ≡ drop index old → HaveCells advanced reach (drop at (all_cells advanced old)) (set back 0 tail)
  split_back old back at index start x tail f x_is are tail_is len reached back_is =
      let from : back ≡ f.part ∷ f.after = back_is ∙ found_from (λ p. p.len) old at index start f in
      let s : set back 0 tail ≡ tail ∷ f.after = ap (λ l. set l 0 tail) from in
      let a : drop (index + 1) old ≡ f.after = found_after (λ p. p.len) old at index start f in
      let p : x ≡ f.part = found_part (λ p. p.len) old at index start f x x_is in
      record {
        are =
            ap (all_cells advanced) s
            ∙ ap (λ l. cells_in advanced tail ++ all_cells advanced l) (sym a)
            ∙ tail_back old at at index start x tail f x_is f.from (omega (arith, f.to)) tail_is;
        each =
            subst (ArePieces reach) (sym s)
            (All-cons (IsPiece reach) tail f.after
            (record { some = omega (arith, len, f.to, f.from, ap (λ (q : Piece O). q.len) p); reaches = reached })
            (subst (ArePieces reach) a (All-drop (IsPiece reach) (index + 1) old are)));
      }
