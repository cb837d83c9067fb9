-- The pieces of a range stand one behind the other, and their runs come from files that a path
-- names.
use Rattle.std.specs.Prelude.{◌≡◌, ℕ, ◌+◌, ◌≤◌, Bool, true, false, ◌&&◌, IsTrue, is_some, List, [], ◌∷◌, ◌++◌, map, length, Option, Some, None, if◌then◌else◌}
use Rattle.std.specs.List.{AllByRecursion, sum_by, flat_map}
use Rattle.std.proofs.Common.{refl, sym, ap, ap₂, subst, ◌∙◌, arith}
use Rattle.std.proofs.lemmas.List.{length-append, length-map}
use Rattle.std.proofs.lemmas.List.Sums.{sum_by-cons}
use Rattle.send_model.specs.Command.{Command, Clone}
use Rattle.send_model.specs.Store as meant
use Rattle.send_model.specs.Store.{Store}
use Rattle.send_model.specs.Composed.{writes_from, path_of}
use Rattle.send_model.specs.Provenance.{Traced, Place, Piece, Carried, Literal, same_place, place_after, blocks, carried_from, join_piece, pieces_from, pieces_of, literal_len}
use Rattle.extent_map.specs.Cells.{cells_between}
use Rattle.provenance.specs.declared.trace.Trace.{Trace}
use Rattle.provenance.specs.Traces.{place_of, place_in}
use Rattle.provenance.specs.Cuts.{Cut, Run, Rest, AreEndsOf, IsCutAsMeant, shown, succeed, may_serve, carrier, cut_of, join_cut, cuts_from, cuts_of}
use Rattle.clone_pieces.specs.Seen.{seen}
use Rattle.clone_pieces.specs.Cutting.{cut_len, rest_len, StandsIn, IsNamed, all_commands}
use Rattle.send_model.proofs.Tracing.{byte_of}
use Rattle.clone_pieces.proofs.LiteralBytes.{len_of, joined, blocks_of, of_blocks, one_more, blocks_joined, again}
use Rattle.clone_pieces.proofs.LiteralBytes as piece
use Rattle.clone_pieces.proofs.Chunks.{bytes_within}

-- ---- pieces

-- Pieces stand one behind the other, from one place of the range up to another.
abbrev pub InRow : ℕ → List Piece → ℕ → Type 0
InRow at [] end = at ≡ end
InRow at (p ∷ ps) end = (piece.place_in p ≡ at) × InRow (at + len_of p) ps end

row_moved : (a b : ℕ) (ps : List Piece) (end : ℕ) → a ≡ b → InRow a ps end → InRow b ps end
row_moved a b ps end e row = subst (λ (n : ℕ). InRow n ps end) e row

join_row : (at end : ℕ) (p : Piece) (ps : List Piece) → piece.place_in p ≡ at → InRow (at + len_of p) ps end → InRow at (join_piece p ps) end
join_row at end (Literal at₁ bytes) [] here row = (here, row)
join_row at end (Literal at₁ bytes) (Literal at' bytes' ∷ rest) here row =
    (here, row_moved (at + length bytes + length bytes') (at + length (bytes ++ bytes')) rest end (let l = length-append bytes bytes' in omega (arith, l)) row.1)
join_row at end (Literal at₁ bytes) (Carried at' place' len' ∷ rest) here row = (here, row)
join_row at end (Carried at₁ place len) [] here row = (here, row)
join_row at end (Carried at₁ place len) (Literal at' bytes' ∷ rest) here row = (here, row)
join_row at end (Carried at₁ place len) (Carried at' place' len' ∷ rest) here row = one (same_place (place_after place len) place')
  where
    one : (b : Bool) → InRow at (if b then Carried at₁ place (len + len') ∷ rest else Carried at₁ place len ∷ Carried at' place' len' ∷ rest) end
    one true = (here, row_moved (at + len + len') (at + (len + len')) rest end (omega arith) row.1)
    one false = (here, row)

blocks_row : (store : Store ℕ) (bs : List (List Traced)) (at : ℕ) → InRow at (pieces_from store at bs) (at + length (joined bs))
blocks_row store [] at = omega arith
blocks_row store (b ∷ bs) at =
    let e : at + length b + length (joined bs) ≡ at + length (joined (b ∷ bs)) = (let l = length-append b (joined bs) in omega (arith, l)) in
    one (carried_from store b) (length-map b byte_of) (subst (λ (end : ℕ). InRow (at + length b) (pieces_from store (at + length b) bs) end) e (blocks_row store bs (at + length b)))
  where
    one : (o : Option Place) → length (map byte_of b) ≡ length b → InRow (at + length b) (pieces_from store (at + length b) bs) (at + length (joined (b ∷ bs)))
        → InRow at (join_piece (elim o as (λ x. Piece) [ None ↦ Literal at (map byte_of b) | Some place ↦ Carried at place (length b) ]) (pieces_from store (at + length b) bs)) (at + length (joined (b ∷ bs)))
    one None long row = join_row at (at + length (joined (b ∷ bs))) (Literal at (map byte_of b)) (pieces_from store (at + length b) bs) refl
        (row_moved (at + length b) (at + length (map byte_of b)) (pieces_from store (at + length b) bs) (at + length (joined (b ∷ bs))) (omega (arith, long)) row)
    one (Some place) long row = join_row at (at + length (joined (b ∷ bs))) (Carried at place (length b)) (pieces_from store (at + length b) bs) refl row

pub pieces_row : (store : Store ℕ) (range : List Traced) → InRow 0 (pieces_of store range) (length range)
unfolding pieces_of blocks
pieces_row store range =
    let all : joined (blocks range) ≡ range = ap joined (of_blocks (length range) range ∙ ap (λ (m : ℕ). blocks_of m (length range) range) one_more) ∙ blocks_joined 4095 (length range) range (omega arith) in
    let e : 0 + length (joined (blocks range)) ≡ length range = (let l = ap length all in omega (arith, l)) in
    subst (λ (end : ℕ). InRow 0 (pieces_of store range) end) e (blocks_row store (blocks range) 0)

row_end : (at end : ℕ) (ps : List Piece) → InRow at ps end → at ≤ end
row_end at end [] row = omega (arith, row)
row_end at end (p ∷ ps) row = let r = row_end (at + len_of p) end ps row.1 in omega (arith, r)

-- ---- cuts

-- Cuts of a range from a place of the contents on stand one behind the other.
abbrev pub CutRow : (from done : ℕ) → List Cut → (end : ℕ) → Type 0
CutRow from done [] end = done ≡ end
CutRow from done (Run place len ∷ cuts) end = CutRow from (done + len) cuts end
CutRow from done (Rest at len ∷ cuts) end = (at ≡ from + done) × CutRow from (done + len) cuts end

shown_row : (from at end : ℕ) (ps : List Piece) → InRow at ps end → CutRow from at (map (shown from) ps) end
shown_row from at end [] row = row
shown_row from at end (Literal here bytes ∷ ps) row = (ap (λ (n : ℕ). from + n) row.0, shown_row from (at + length bytes) end ps row.1)
shown_row from at end (Carried here place len ∷ ps) row = shown_row from (at + len) end ps row.1

pub seen_places : (byte : Trace → ℕ) (cells : List (Option Trace)) → map (λ (c : Traced). c.place) (map (seen byte place_of) cells) ≡ map place_in cells
seen_places byte [] = refl
seen_places byte (None ∷ cells) = ap (λ (l : List (Option Place)). None ∷ l) (seen_places byte cells)
seen_places byte (Some t ∷ cells) = ap (λ (l : List (Option Place)). place_of t ∷ l) (seen_places byte cells)

pub cuts_row : (store : Store ℕ) (ends : meant.Key → ℕ → Option ℕ) → AreEndsOf store ends → (from : ℕ) (cells : List (Option Trace)) (cuts : List Cut) → IsCutAsMeant ends from cells cuts → CutRow from 0 cuts (length cells)
cuts_row store ends right from cells cuts meant =
    let range : List Traced = map (seen (λ t. 0) place_of) cells in
    subst (λ (cs : List Cut). CutRow from 0 cs (length cells)) (sym (meant store range right (seen_places (λ t. 0) cells)))
    (shown_row from 0 (length cells) (pieces_of store range) (subst (λ (end : ℕ). InRow 0 (pieces_of store range) end) (length-map cells (seen (λ t. 0) place_of)) (pieces_row store range)))

pub cut_end : (from done end : ℕ) (cuts : List Cut) → CutRow from done cuts end → done ≤ end
cut_end from done end [] row = omega (arith, row)
cut_end from done end (Run place len ∷ cuts) row = let r = cut_end from (done + len) end cuts row in omega (arith, r)
cut_end from done end (Rest at len ∷ cuts) row = let r = cut_end from (done + len) end cuts row.1 in omega (arith, r)

-- The first cut, and those behind it.
pub row_next : (from done end : ℕ) (cut : Cut) (cuts : List Cut) → CutRow from done (cut ∷ cuts) end → CutRow from (done + cut_len cut) cuts end
row_next from done end (Run place len) cuts row = row
row_next from done end (Rest at len) cuts row = row.1

pub row_fits : (from done end : ℕ) (cut : Cut) (cuts : List Cut) → CutRow from done (cut ∷ cuts) end → done + cut_len cut ≤ end
row_fits from done end cut cuts row = cut_end from (done + cut_len cut) end cuts (row_next from done end cut cuts row)

pub row_stands : (from done end size : ℕ) (cut : Cut) (cuts : List Cut) → CutRow from done (cut ∷ cuts) end → from + end ≤ size → StandsIn size cut
row_stands from done end size (Run place len) cuts row within = tt
row_stands from done end size (Rest at len) cuts row within = let r = cut_end from (done + len) end cuts row.1 in let e = row.0 in omega (arith, r, e, within)

-- ---- how many cells stand in no carried block

pub rest_below : (from done end : ℕ) (cuts : List Cut) → CutRow from done cuts end → done + sum_by rest_len cuts ≤ end
rest_below from done end [] row = omega (arith, row)
rest_below from done end (Run place len ∷ cuts) row = let r = rest_below from (done + len) end cuts row in let s = sum_by-cons rest_len (Run place len) cuts in omega (arith, r, s)
rest_below from done end (Rest at len ∷ cuts) row = let r = rest_below from (done + len) end cuts row.1 in let s = sum_by-cons rest_len (Rest at len) cuts in omega (arith, r, s)

shown_sum : (from : ℕ) (ps : List Piece) → sum_by rest_len (map (shown from) ps) ≡ sum_by literal_len ps
shown_sum from [] = refl
shown_sum from (Literal at bytes ∷ ps) =
    sum_by-cons rest_len (Rest (from + at) (length bytes)) (map (shown from) ps) ∙ ap (λ (n : ℕ). length bytes + n) (shown_sum from ps) ∙ sym (sum_by-cons literal_len (Literal at bytes) ps)
shown_sum from (Carried at place len ∷ ps) =
    sum_by-cons rest_len (Run place len) (map (shown from) ps) ∙ ap (λ (n : ℕ). 0 + n) (shown_sum from ps) ∙ sym (sum_by-cons literal_len (Carried at place len) ps)

pub rest_is_literal : (store : Store ℕ) (ends : meant.Key → ℕ → Option ℕ) → AreEndsOf store ends → (from : ℕ) (cells : List (Option Trace)) (cuts : List Cut) → IsCutAsMeant ends from cells cuts
    → (range : List Traced) → map (λ (c : Traced). c.place) range ≡ map place_in cells → sum_by rest_len cuts ≡ sum_by literal_len (pieces_of store range)
rest_is_literal store ends right from cells cuts meant range same = ap (sum_by rest_len) (meant store range right same) ∙ shown_sum from (pieces_of store range)

-- ---- runs come from files that a path names

carried_by : (ends : meant.Key → ℕ → Option ℕ) (p place : Place) (b : Bool) (o : Option ℕ) (len : ℕ) → ends p.key p.ino ≡ o → (if b && may_serve o p len then Some p else None) ≡ Some place → IsTrue (is_some (ends place.key place.ino))
carried_by ends p place true None len there e = absurd (let q : None ≡ Some place = e in cc)
carried_by ends p place false None len there e = absurd (let q : None ≡ Some place = e in cc)
carried_by ends p place false (Some end) len there e = absurd (let q : None ≡ Some place = e in cc)
carried_by ends p place true (Some end) len there e = one (may_serve (Some end) p len) e
  where
    same : {a b : Place} → Some a ≡ Some b → a ≡ b
    same q = cc

    one : (s : Bool) → (if s then Some p else None) ≡ Some place → IsTrue (is_some (ends place.key place.ino))
    one true q = subst (λ (r : Place). IsTrue (is_some (ends r.key r.ino))) (same q) (ap is_some there)
    one false q = absurd (let r : None ≡ Some place = q in cc)

carrier_named : (ends : meant.Key → ℕ → Option ℕ) (block : List (Option Place)) (place : Place) → carrier ends block ≡ Some place → IsTrue (is_some (ends place.key place.ino))
unfolding carrier
carrier_named ends [] place e = absurd (let q : None ≡ Some place = e in cc)
carrier_named ends (None ∷ cells) place e = absurd (let q : None ≡ Some place = e in cc)
carrier_named ends (Some p ∷ cells) place e = carried_by ends p place (succeed p (Some p ∷ cells)) (ends p.key p.ino) (length (Some p ∷ cells)) refl e

join_named : (ends : meant.Key → ℕ → Option ℕ) (cut : Cut) (cuts : List Cut) → IsNamed ends cut → AllByRecursion (IsNamed ends) cuts → AllByRecursion (IsNamed ends) (join_cut cut cuts)
unfolding join_cut
join_named ends (Rest at len) [] here more = (tt, tt)
join_named ends (Rest at len) (Rest at' len' ∷ cuts) here more = (tt, more.1)
join_named ends (Rest at len) (Run place' len' ∷ cuts) here more = (tt, more)
join_named ends (Run place len) [] here more = (here, tt)
join_named ends (Run place len) (Rest at' len' ∷ cuts) here more = (here, more)
join_named ends (Run place len) (Run place' len' ∷ cuts) here more = one (same_place (place_after place len) place')
  where
    one : (b : Bool) → AllByRecursion (IsNamed ends) (if b then Run place (len + len') ∷ cuts else Run place len ∷ Run place' len' ∷ cuts)
    one true = (here, more.1)
    one false = (here, more)

from_named : (ends : meant.Key → ℕ → Option ℕ) (at : ℕ) (bs : List (List (Option Place))) → AllByRecursion (IsNamed ends) (cuts_from ends at bs)
from_named ends at [] = tt
from_named ends at (b ∷ bs) = join_named ends (cut_of ends at b) (cuts_from ends (at + length b) bs) (one (carrier ends b) refl) (from_named ends (at + length b) bs)
  where
    one : (o : Option Place) → carrier ends b ≡ o → IsNamed ends (elim o as (λ x. Cut) [ None ↦ Rest at (length b) | Some place ↦ Run place (length b) ])
    one None e = tt
    one (Some place) e = carrier_named ends b place e

pub cuts_named : (ends : meant.Key → ℕ → Option ℕ) (from : ℕ) (cells : List (Option Place)) → AllByRecursion (IsNamed ends) (cuts_of ends from cells)
unfolding cuts_of
cuts_named ends from cells = from_named ends from (blocks cells)

-- ---- the commands

pub commands_are : (base : Store ℕ) (byte : Option Trace → ℕ) (contents : List (Option Trace)) (path : List ℕ) (offset from total : ℕ) (done : ℕ) (ps : List Piece) → InRow done ps total
    → flat_map (again base path offset (map byte (cells_between from total contents))) ps ≡ all_commands base byte contents path (offset + done) (map (shown from) ps)
commands_are base byte contents path offset from total done [] row = refl
commands_are base byte contents path offset from total done (Literal at bytes ∷ ps) row =
    let all : List ℕ = map byte (cells_between from total contents) in
    let end = row_end (done + length bytes) total ps row.1 in
    let here = row.0 in
    let e : offset + done + length bytes ≡ offset + (done + length bytes) = omega arith in
    let f : offset + at ≡ offset + done = ap (λ (n : ℕ). offset + n) here in
    ap₂ (λ (a b : List Command). a ++ b)
    (ap₂ (λ (n : ℕ) (l : List ℕ). writes_from (length bytes) path n l) f (bytes_within byte from total at (length bytes) contents (omega (arith, end, here))))
    (commands_are base byte contents path offset from total (done + length bytes) ps row.1 ∙ ap (λ (n : ℕ). all_commands base byte contents path n (map (shown from) ps)) (sym e))
commands_are base byte contents path offset from total done (Carried at place len ∷ ps) row =
    let all : List ℕ = map byte (cells_between from total contents) in
    let e : offset + done + len ≡ offset + (done + len) = omega arith in
    let f : offset + at ≡ offset + done = ap (λ (n : ℕ). offset + n) row.0 in
    ap₂ (λ (n : ℕ) (cs : List Command). Clone path n place.key.uuid place.key.ctransid (path_of base place) place.offset len ∷ cs) f
    (commands_are base byte contents path offset from total (done + len) ps row.1 ∙ ap (λ (n : ℕ). all_commands base byte contents path n (map (shown from) ps)) (sym e))
