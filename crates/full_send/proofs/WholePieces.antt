-- Pieces of a stretch that are written before its end is met.
use Rattle.std.specs.Prelude.{◌≡◌, ◌≤◌, ℕ, zero, suc, ◌+◌, ◌-◌, ◌*◌, ◌/◌, ◌%◌, ◌==◌, Bool, true, false, List, [], ◌∷◌, ◌++◌, length, take, drop, Option, Some, if◌then◌else◌}
use Rattle.std.specs.List.{flat_map}
use Rattle.std.proofs.Common.{refl, sym, ap, ◌∙◌, arith, append_assoc, append-nil, eqb-true, length-append}
use Rattle.std.proofs.Math.Seq.{take-append_seam, drop-append_seam}
use Rattle.std.proofs.lemmas.List.{map-append, take-append-drop, length-take, length-drop}
use Rattle.std.proofs.lemmas.Nat.{div-add-mod'}
use Rattle.send_model.specs.Command.{Command, Write}
use Rattle.send_model.specs.Composed.{writes_from}
use Rattle.snapshot_model.specs.Listing.{held}
use Rattle.snapshot_model.specs.Sent.{Stretch, onto_stretches, stretches, stretch_commands}
use Rattle.full_send.proofs.HeldStretches.{written, itself}
use Rattle.full_send.proofs.Parts.{first_write}

abbrev Cell : Type 0
Cell = Option ℕ

-- Bytes in front of stretches: they join the first of them where that begins behind them.
abbrev joined : ℕ → List ℕ → List Stretch → List Stretch
joined at bytes [] = record { at = at; bytes = bytes } ∷ []
joined at bytes (s ∷ rest) = if s.at == at + length bytes then record { at = at; bytes = bytes ++ s.bytes } ∷ rest else record { at = at; bytes = bytes } ∷ s ∷ rest

joins : (at b : ℕ) (bytes : List ℕ) (cells : List Cell) → stretches at (held (b ∷ bytes) ++ cells) ≡ joined at (b ∷ bytes) (stretches (at + length (b ∷ bytes)) cells)
joins at b [] cells = one (stretches (at + 1) cells)
  where
    one : (ss : List Stretch) → onto_stretches at b ss ≡ joined at (b ∷ []) ss
    one [] = refl
    one (s ∷ rest) = refl
joins at b (c ∷ bytes) cells = ap (onto_stretches at b) (joins (at + 1) c bytes cells) ∙ more (stretches ((at + 1) + length (c ∷ bytes)) cells) ∙ ap (λ (n : ℕ). joined at (b ∷ c ∷ bytes) (stretches n cells)) next
  where
    next : (at + 1) + length (c ∷ bytes) ≡ at + length (b ∷ c ∷ bytes)
    next = omega arith

    same : ((at + 1) == (at + 1)) ≡ true
    same = itself (at + 1) ((at + 1) == (at + 1)) refl

    onto_next : (own : List ℕ) (rest : List Stretch) → onto_stretches at b (record { at = at + 1; bytes = own } ∷ rest) ≡ record { at = at; bytes = b ∷ own } ∷ rest
    onto_next own rest = ap (λ (t : Bool). if t then record { at = at; bytes = b ∷ own } ∷ rest else record { at = at; bytes = b ∷ [] } ∷ record { at = at + 1; bytes = own } ∷ rest) same

    two : (s : Stretch) (rest : List Stretch) (t : Bool) → onto_stretches at b (if t then record { at = at + 1; bytes = (c ∷ bytes) ++ s.bytes } ∷ rest else record { at = at + 1; bytes = c ∷ bytes } ∷ s ∷ rest)
        ≡ (if t then record { at = at; bytes = (b ∷ c ∷ bytes) ++ s.bytes } ∷ rest else record { at = at; bytes = b ∷ c ∷ bytes } ∷ s ∷ rest)
    two s rest true = onto_next ((c ∷ bytes) ++ s.bytes) rest
    two s rest false = onto_next (c ∷ bytes) (s ∷ rest)

    more : (ss : List Stretch) → onto_stretches at b (joined (at + 1) (c ∷ bytes) ss) ≡ joined at (b ∷ c ∷ bytes) ss
    more [] = onto_next (c ∷ bytes) []
    more (s ∷ rest) = two s rest (s.at == (at + 1) + length (c ∷ bytes)) ∙ ap (λ (n : ℕ). if s.at == n then record { at = at; bytes = (b ∷ c ∷ bytes) ++ s.bytes } ∷ rest else record { at = at; bytes = b ∷ c ∷ bytes } ∷ s ∷ rest) next

-- A piece, and the bytes behind it.
first_piece : (path : List ℕ) (at : ℕ) (piece more : List ℕ) → length piece ≡ 49_152
    → stretch_commands path (record { at = at; bytes = piece ++ more }) ≡ Write path at piece ∷ stretch_commands path (record { at = at + 49_152; bytes = more })
first_piece path at piece more long =
    let all : length (piece ++ more) ≡ length piece + length more = length-append piece more in
    let front : take 49_152 (piece ++ more) ≡ piece = ap (λ (n : ℕ). take n (piece ++ more)) (sym long) ∙ take-append_seam piece more in
    let back : drop 49_152 (piece ++ more) ≡ more = ap (λ (n : ℕ). drop n (piece ++ more)) (sym long) ∙ drop-append_seam piece more in
    first_write path at (piece ++ more) (omega (arith, all, long)) ∙ (λ i. Write path at (front i) ∷ writes_from (length (back i)) path (at + 49_152) (back i))

-- A piece, and the cells behind it.
piece_next : (path : List ℕ) (at : ℕ) (piece : List ℕ) (cells : List Cell) → length piece ≡ 49_152 → written path at (held piece ++ cells) ≡ Write path at piece ∷ written path (at + 49_152) cells
piece_next path at [] cells long = absurd (omega (arith, long))
piece_next path at (b ∷ piece) cells long =
    ap (flat_map (stretch_commands path)) (joins at b piece cells) ∙ one (stretches (at + length (b ∷ piece)) cells) ∙ ap (λ (n : ℕ). Write path at (b ∷ piece) ∷ written path n cells) place
  where
    place : at + length (b ∷ piece) ≡ at + 49_152
    place = omega (arith, long)

    whole : stretch_commands path (record { at = at; bytes = b ∷ piece }) ≡ Write path at (b ∷ piece) ∷ []
    whole = ap (λ (l : List ℕ). stretch_commands path (record { at = at; bytes = l })) (sym (append-nil (b ∷ piece))) ∙ first_piece path at (b ∷ piece) [] long

    two : (s : Stretch) (rest : List Stretch) (t : Bool) → (s.at == at + length (b ∷ piece)) ≡ t
        → flat_map (stretch_commands path) (if t then record { at = at; bytes = (b ∷ piece) ++ s.bytes } ∷ rest else record { at = at; bytes = b ∷ piece } ∷ s ∷ rest)
        ≡ Write path at (b ∷ piece) ∷ (stretch_commands path s ++ flat_map (stretch_commands path) rest)
    two s rest true is =
        let here : at + 49_152 ≡ s.at = sym (eqb-true s.at (at + length (b ∷ piece)) is ∙ place) in
        ap (λ (cs : List Command). cs ++ flat_map (stretch_commands path) rest)
        (first_piece path at (b ∷ piece) s.bytes long ∙ ap (λ (n : ℕ). Write path at (b ∷ piece) ∷ stretch_commands path (record { at = n; bytes = s.bytes })) here)
    two s rest false is = ap (λ (cs : List Command). cs ++ (stretch_commands path s ++ flat_map (stretch_commands path) rest)) whole

    one : (ss : List Stretch) → flat_map (stretch_commands path) (joined at (b ∷ piece) ss) ≡ Write path at (b ∷ piece) ∷ flat_map (stretch_commands path) ss
    one [] = append-nil (stretch_commands path (record { at = at; bytes = b ∷ piece })) ∙ whole
    one (s ∷ rest) = two s rest (s.at == at + length (b ∷ piece)) refl

-- So many pieces, and the cells behind them.
pub pieces_next : (path : List ℕ) (n at : ℕ) (front : List ℕ) (cells : List (Option ℕ)) → length front ≡ n * 49_152
    → written path at (held front ++ cells) ≡ stretch_commands path (record { at = at; bytes = front }) ++ written path (at + length front) cells
pieces_next path zero at [] cells long = let here : at ≡ at + 0 = omega arith in ap (λ (n : ℕ). written path n cells) here
pieces_next path zero at (b ∷ front) cells long = absurd (omega (arith, long))
pieces_next path (suc n) at front cells long =
    let piece : List ℕ = take 49_152 front in
    let rest : List ℕ = drop 49_152 front in
    let parts : piece ++ rest ≡ front = take-append-drop 49_152 front in
    let own : length piece ≡ 49_152 = omega (arith, length-take 49_152 front, long) in
    let left : length rest ≡ n * 49_152 = omega (arith, length-drop 49_152 front, long) in
    let place : (at + 49_152) + length rest ≡ at + length front = omega (arith, left, long) in
    ap (written path at) (ap (λ (l : List Cell). l ++ cells) (ap held (sym parts) ∙ map-append (λ b. Some b) piece rest) ∙ append_assoc (held piece) (held rest) cells)
    ∙ piece_next path at piece (held rest ++ cells) own
    ∙ ap (λ (cs : List Command). Write path at piece ∷ cs) (pieces_next path n (at + 49_152) rest cells left)
    ∙ (λ i. sym (first_piece path at piece rest own) i ++ written path (place i) cells)
    ∙ ap (λ (l : List ℕ). stretch_commands path (record { at = at; bytes = l }) ++ written path (at + length front) cells) parts

-- Where the last whole piece of a stretch ends that has come up to a place.
pub record PiecesEnd (start at to : ℕ) : Type 0 where
  pub count : ℕ
  pub is : to ≡ start + count * 49_152
  pub low : start ≤ to
  pub high : to ≤ at

pub pieces_end : (start at to : ℕ) → start ≤ at → to ≡ at - (at - start) % 49_152 → PiecesEnd start at to
pieces_end start at to order cut =
    let parts = div-add-mod' (at - start) 49_152 in
    record { count = (at - start) / 49_152; is = omega (arith, order, cut, parts); low = omega (arith, order, cut, parts); high = omega (arith, cut) }
