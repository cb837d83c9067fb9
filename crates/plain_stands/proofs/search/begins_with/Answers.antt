use Rattle.std.proofs.Common.{◌≡◌, ℕ, zero, suc, ◌+◌, ◌-◌, ◌<◌, ◌≤◌, Bool, true, false, List, [], ◌∷◌, map, length, take, drop, Option, None, Some, refl, sym, ap, subst, ◌∙◌, arith}
use Rattle.std.proofs.lemmas.List.{drop-drop}
use Rattle.extent_map.specs.Cells.{cells_between}
use Rattle.extent_map.specs.Pieces.{piece_cells}
use Rattle.standing_model.specs.Standing.{begin_with}
use Rattle.provenance.specs.declared.trace.Trace.{Trace}
use Rattle.provenance.specs.Traces.{advanced_by}
use Rattle.plain_stands.specs.Tags.{tagged}
use Rattle.plain_stands.specs.Stands.{AreAlike}
use Rattle.plain_stands.proofs.Alike.{piece_passed, first_apart, first_is, part_front, range_part, range_left, block_done}
use Rattle.plain_stands.proofs.search.begins_with.Goals as goal

pub overflow_add-at : goal.overflow_add-at
overflow_add-at c = omega (arith, c.requires.there, c.loop-done-test.true, c.size-size.ensures.fits)

pub overflow_add-from : goal.overflow_add-from
overflow_add-from c =
    omega (arith, c.requires.within, c.loop-done-test.true, c.size-own_size.ensures.fits)

module _ (byte : Option Trace → ℕ) (there contents : List (Option Trace)) (at from len : ℕ) where
  abbrev begins : ℕ → Bool
  begins done =
      begin_with (map (tagged byte) (drop (at + done) there))
      (map (tagged byte) (cells_between (from + done) (len - done) contents))

  -- The pieces at a place are not alike.
  apart_here : (done : ℕ) → done < len → (own other : Option Trace) (few more : ℕ) → 0 < few
      → 0 < more → take more (drop (at + done) there) ≡ piece_cells advanced_by other more
      → take few (drop (from + done) contents) ≡ piece_cells advanced_by own few
      → AreAlike own other false → begins done ≡ false
  unfolding cells_between
  apart_here done below own other few more some some' p q apart =
      let x = first_is other more (drop (at + done) there) some' p in
      let y = first_is own few (drop (from + done) contents) some q in
      two (len - done) (omega (arith, below)) (drop (at + done) there)
      (drop (from + done) contents) x.0 x.1 y.0 y.1
    where
      two : (left : ℕ) → 0 < left → (xs ys : List (Option Trace)) (xs' : List (Option Trace))
          → xs ≡ other ∷ xs' → (ys' : List (Option Trace)) → ys ≡ own ∷ ys'
          → begin_with (map (tagged byte) xs) (map (tagged byte) (take left ys)) ≡ false
      two zero some xs ys xs' e ys' f = absurd (omega (arith, some))
      two (suc left) some xs ys xs' e ys' f =
          ap (λ (zs : List (Option Trace)). begin_with (map (tagged byte) zs)
          (map (tagged byte) (take (suc left) ys))) e
          ∙ ap (λ (zs : List (Option Trace)). begin_with (map (tagged byte) (other ∷ xs'))
          (map (tagged byte) (take (suc left) zs))) f
          ∙ first_apart byte own other xs' (take left ys') apart

  -- They are, so both are passed as far as the shorter one goes.
  alike_here : (done : ℕ) → done < len → (t : Trace) (few more n : ℕ) → n ≤ few → n ≤ more
      → n ≤ len - done → take more (drop (at + done) there) ≡ piece_cells advanced_by (Some t) more
      → take few (drop (from + done) contents) ≡ piece_cells advanced_by (Some t) few
      → begins done ≡ begins (done + n)
  alike_here done below t few more n low low' within p q =
      piece_passed byte t n (drop (at + done) there)
      (cells_between (from + done) (len - done) contents)
      (part_front (at + done) more n there t low' p)
      (range_part (from + done) (len - done) n contents within
      ∙ part_front (from + done) few n contents t low q)
      ∙ ap (λ (zs : List (Option Trace)). begin_with (map (tagged byte) zs)
      (map (tagged byte) (drop n (cells_between (from + done) (len - done) contents))))
      (drop-drop n (at + done) there ∙ ap (λ (k : ℕ). drop k there) (sum at done n))
      ∙ ap (λ (zs : List (Option Trace)). begin_with
      (map (tagged byte) (drop (at + (done + n)) there)) (map (tagged byte) zs))
      (range_left (from + done) (len - done) n contents within ∙ both)
    where
      sum : (a b d : ℕ) → a + b + d ≡ a + (b + d)
      sum a b d = omega arith

      both : cells_between (from + done + n) (len - done - n) contents
          ≡ cells_between (from + (done + n)) (len - (done + n)) contents
      both = ap (λ (k : ℕ). cells_between k (len - done - n) contents) (sum from done n)
          ∙ ap (λ (k : ℕ). cells_between (from + (done + n)) k contents) (omega arith)

pub returns-then-not-are_alike : goal.returns-then-not-are_alike
returns-then-not-are_alike c = λ byte. sym (c.loop-done.invariant.1 byte
    ∙ apart_here byte c.args.there.now c.args.contents.now c.args.at c.args.from c.args.len
    c.loop-done.done c.loop-done-test.true c.first_piece-own.result.0
    c.first_piece-other.result.0 c.first_piece-own.result.1 c.first_piece-other.result.1
    c.first_piece-own.ensures.some c.first_piece-other.ensures.some
    c.first_piece-other.ensures.cells c.first_piece-own.ensures.cells
    c.if-not-are_alike.ensures)

pub loop-done-preserved : goal.loop-done-preserved
loop-done-preserved c =
    let same = c.if-not-are_alike.ensures in
    let n = c.min-done.ensures in
    let most = c.first_piece-own.ensures.most in (
      omega (arith, n, most, c.loop-done-test.true),
      λ byte. c.loop-done.invariant.1 byte
          ∙ alike_here byte c.args.there.now c.args.contents.now c.args.at c.args.from c.args.len
          c.loop-done.done c.loop-done-test.true same.0 c.first_piece-own.result.1
          c.first_piece-other.result.1 c.min-done.result
          (omega (arith, n)) (omega (arith, n)) (omega (arith, n, most))
          (piece_of c.first_piece-other.result.0 same.0 c.first_piece-other.result.1
          (c.args.at + c.loop-done.done) c.args.there.now same.2
          c.first_piece-other.ensures.cells)
          (piece_of c.first_piece-own.result.0 same.0 c.first_piece-own.result.1
          (c.args.from + c.loop-done.done) c.args.contents.now same.1
          c.first_piece-own.ensures.cells),
    )
  where
    piece_of : (o : Option Trace) (t : Trace) (n at : ℕ) (cells : List (Option Trace)) → o ≡ Some t
        → take n (drop at cells) ≡ piece_cells advanced_by o n
        → take n (drop at cells) ≡ piece_cells advanced_by (Some t) n
    piece_of o t n at cells is e = e ∙ ap (λ (x : Option Trace). piece_cells advanced_by x n) is

pub returns : goal.returns
returns c = λ byte. sym
    (c.loop-done.invariant.1 byte
    ∙ block_done byte c.args.there.now c.args.contents.now (c.args.at + c.loop-done.done)
    (c.args.from + c.loop-done.done) (c.args.len - c.loop-done.done)
    (omega (arith, c.loop-done-test.false)))
