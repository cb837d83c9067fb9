-- The cells in front of some contents, piece by piece.
use Rattle.std.specs.Prelude.{◌≡◌, ℕ, ◌+◌, ◌-◌, ◌<◌, ◌≤◌, List, ◌++◌, map, length, take, drop, get_or, Option, None, Some, is_some, not, Bool, true, false}
use Rattle.std.proofs.Common.{refl, sym, ap, ◌∙◌, arith}
use Rattle.std.proofs.Math.Logic.{⊎_elim}
use Rattle.std.proofs.lemmas.Bool.{cases_lt, false≢true}
use Rattle.std.proofs.lemmas.List.{drop_at, length-append, length-map, length-take, length-drop, get_or-drop, get_or-take, get_or-map, get_or_append_left, drop-map, drop-take}
use Rattle.send_model.specs.Provenance.{Place}
use Rattle.send_model.proofs.Overwriting.{drop_twice}
use Rattle.extent_map.specs.Cells.{cells_between, IsFirstFrom}
use Rattle.extent_map.specs.Pieces.{foreign_cell, piece_cells}
use Rattle.extent_map.proofs.Layouts.{length-piece, get_or-hole, get_or-run}
use Rattle.extent_map.proofs.PieceByPiece.{reaches}
use Rattle.provenance.specs.declared.trace.Trace.{Trace}
use Rattle.provenance.specs.declared.trace.Trace.TheVariants.{Fresh, Outside}
use Rattle.provenance.specs.Traces.{advanced_by, is_outside, place_of, place_in}
use Rattle.provenance.specs.Cuts.{later, Follows, Stops}
use Rattle.provenance.specs.Plans.{spot_in}
use Rattle.provenance.specs.declared.front.Spot.{Spot}
use Rattle.provenance.proofs.CutLaws.{after_none, later_twice}

trace_later : (t : Trace) (k : ℕ) → place_of (advanced_by t k) ≡ later (place_of t) k
trace_later (Fresh file at) k = refl
trace_later (Outside key ino at) k = refl

piece_later : (origin : Option Trace) (n i : ℕ) → i < n → place_in (get_or (piece_cells advanced_by origin n) i None) ≡ later (place_in origin) i
piece_later None n i lt = ap place_in (get_or-hole advanced_by n i lt)
piece_later (Some t) n i lt = ap place_in (get_or-run advanced_by t n i lt) ∙ trace_later t i

-- The places of a piece, in cells that begin with it.
piece_follows : (origin : Option Trace) (n : ℕ) (rest cells : List (Option Trace)) → cells ≡ piece_cells advanced_by origin n ++ rest → (i : ℕ) → i < n → place_in (get_or cells i None) ≡ later (place_in origin) i
piece_follows origin n rest cells is i lt =
    ap (λ (l : List (Option Trace)). place_in (get_or l i None)) is
    ∙ ap place_in (get_or_append_left (piece_cells advanced_by origin n) rest None i (omega (arith, lt, length-piece advanced_by origin n)))
    ∙ piece_later origin n i lt

place_there : (cells : List (Option Trace)) (i : ℕ) → i < length cells → get_or (map place_in cells) i None ≡ place_in (get_or cells i None)
place_there cells i lt = get_or-map place_in cells i None None lt

module _ (whole : List (Option Trace)) (have : ℕ) (origin : Option Trace) (n : ℕ) (rest : List (Option Trace)) (is : drop have whole ≡ piece_cells advanced_by origin n ++ rest) where
  next_place_is : 0 < n → (i : ℕ) → i < n → get_or (map place_in whole) (have + i) None ≡ later (place_in origin) i
  next_place_is some i lt =
      let r = reaches advanced_by whole have n origin rest is some in
      place_there whole (have + i) (omega (arith, r, lt)) ∙ ap place_in (sym (get_or-drop have whole i None)) ∙ piece_follows origin n rest (drop have whole) is i lt

  -- A piece that goes on from what stands before it.
  pub goes_further : 0 < n → (first : Option Place) → Follows first have (map place_in whole) → place_in origin ≡ later first have → Follows first (have + n) (map place_in whole)
  goes_further some first follows on i lt = ⊎_elim
      (λ below. follows i below)
      (λ above.
      let e : have + (i - have) ≡ i = omega (arith, above) in
      ap (λ (k : ℕ). get_or (map place_in whole) k None) (sym e)
      ∙ next_place_is some (i - have) (omega (arith, lt, above))
      ∙ ap (λ (o : Option Place). later o (i - have)) on ∙ later_twice first have (i - have) ∙ ap (later first) e)
      (cases_lt i have)

  -- A piece that does not go on.
  pub stops : 0 < n → (first : Option Place) → (place_in origin ≡ later first have → ⊥) → Stops first have (map place_in whole)
  stops some None other = tt
  stops some (Some p) other = λ lt there.
      let e : have + 0 ≡ have = omega arith in
      let here = sym (ap (λ (k : ℕ). get_or (map place_in whole) k None) e) in
      other (sym (later_none (place_in origin)) ∙ sym (next_place_is some 0 (omega (arith, some))) ∙ sym here ∙ there)
    where
      later_none : (o : Option Place) → later o 0 ≡ o
      later_none None = refl
      later_none (Some q) = ap Some (after_none q)

-- The first piece.
module _ (whole : List (Option Trace)) (origin : Option Trace) (n : ℕ) (rest : List (Option Trace)) (is : whole ≡ piece_cells advanced_by origin n ++ rest) where
  pub first_within : n ≤ length whole
  first_within = omega (arith, ap length is, length-append (piece_cells advanced_by origin n) rest, length-piece advanced_by origin n)

  pub first_left : drop n whole ≡ rest
  first_left = ap (drop n) is ∙ drop_at (piece_cells advanced_by origin n) rest n (length-piece advanced_by origin n)

  pub begins : Follows (place_in origin) n (map place_in whole)
  begins i lt = place_there whole i (omega (arith, lt, first_within)) ∙ piece_follows origin n rest whole is i lt

-- All cells are in front.
pub stops_at_end : (first : Option Place) (have : ℕ) (cells : List (Option Place)) → length cells ≤ have → Stops first have cells
stops_at_end None have cells all = tt
stops_at_end (Some p) have cells all = λ lt there. absurd (omega (arith, lt, all))

pub length-places : (from len : ℕ) (cells : List (Option Trace)) → from + len ≤ length cells → length (map place_in (cells_between from len cells)) ≡ len
unfolding cells_between
length-places from len cells within = length-map (take len (drop from cells)) place_in ∙ length-take len (drop from cells) ∙ omega (arith, within, length-drop from cells)

-- What is left of a range after some of its cells.
pub places_after : (at s end : ℕ) (cells : List (Option Trace)) → at + s ≤ end → drop s (map place_in (cells_between at (end - at) cells)) ≡ map place_in (cells_between (at + s) (end - (at + s)) cells)
unfolding cells_between
places_after at s end cells le =
    let e : end - at ≡ s + (end - (at + s)) = omega (arith, le) in
    drop-map place_in s (take (end - at) (drop at cells))
    ∙ ap (map place_in) (ap (λ (k : ℕ). drop s (take k (drop at cells))) e ∙ drop-take s (end - (at + s)) (drop at cells) ∙ ap (take (end - (at + s))) (drop_twice at s cells))

-- A cell that is not from outside has no place, and one without a place is not from outside.
other_place : (c : Option Trace) → foreign_cell is_outside c ≡ false → place_in c ≡ None
other_place None h = refl
other_place (Some (Fresh file at)) h = refl
other_place (Some (Outside key ino at)) h = absurd (false≢true (sym h))

placed_cell : (c : Option Trace) → foreign_cell is_outside c ≡ true → is_some (place_in c) ≡ true
placed_cell None h = absurd (false≢true h)
placed_cell (Some (Fresh file at)) h = absurd (false≢true h)
placed_cell (Some (Outside key ino at)) h = refl

-- Where there is no spot, there is no place.
pub unplaced : (s : Option Spot) (o : Option Place) (none : Bool) → spot_in s ≡ o → is_some s ≡ not none → none ≡ true → o ≡ None
unplaced None o none e h is = sym e
unplaced (Some spot) o none e h is = absurd (false≢true (sym (h ∙ ap not is)))

-- The cells from one place of some contents up to another.
module _ (contents : List (Option Trace)) (at end : ℕ) (within : end ≤ length contents) where
  cell_at : (i : ℕ) → at + i < end → get_or (map place_in (cells_between at (end - at) contents)) i None ≡ place_in (get_or contents (at + i) None)
  unfolding cells_between
  cell_at i lt =
      place_there (take (end - at) (drop at contents)) i (omega (arith, lt, within, length-take (end - at) (drop at contents), length-drop at contents))
      ∙ ap place_in (get_or-take (end - at) (drop at contents) i None (omega (arith, lt)) ∙ get_or-drop at contents i None)

  module _ (place : ℕ) (next : IsFirstFrom (foreign_cell is_outside) None at contents place) where
    -- Those before the next one from outside have no place.
    pub none_follow : (len : ℕ) → at + len ≤ place → at + len ≤ end → Follows None len (map place_in (cells_between at (end - at) contents))
    none_follow len before in_range i lt = cell_at i (omega (arith, lt, in_range)) ∙ other_place (get_or contents (at + i) None) (next.before (at + i) (omega arith) (omega (arith, lt, before)))

    -- Where the first one has no place, the next one from outside is another.
    pub goes_past : (origin : Option Trace) (n : ℕ) (rest : List (Option Trace)) → cells_between at (end - at) contents ≡ piece_cells advanced_by origin n ++ rest → 0 < n → at < end → place_in origin ≡ None → at < place
    goes_past origin n rest is some order none = ⊎_elim
        (λ (past : at < place). past)
        (λ (up : place ≤ at).
        let here : place ≡ at + 0 = omega (arith, up, next.from) in
        let outside : foreign_cell is_outside (get_or contents (at + 0) None) ≡ true =
        ap (λ (k : ℕ). foreign_cell is_outside (get_or contents k None)) (sym here) ∙ next.there (omega (arith, up, order, within)) in
        let placed = placed_cell (get_or contents (at + 0) None) outside in
        let missing : place_in (get_or contents (at + 0) None) ≡ None =
        sym (cell_at 0 (omega (arith, order))) ∙ begins (cells_between at (end - at) contents) origin n rest is 0 some ∙ ap (λ (o : Option Place). later o 0) none in
        absurd (false≢true (sym (sym placed ∙ ap is_some missing))))
        (cases_lt at place)
