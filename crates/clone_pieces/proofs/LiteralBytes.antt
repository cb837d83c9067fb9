-- The bytes of the literal pieces of a range are those that stand at their places in it, so a piece
-- needs no bytes of its own: they can be read again. (Of the definitions alone.)
use Rattle.std.specs.Prelude.{◌≡◌, ◌≤◌, ℕ, zero, suc, ◌+◌, Bool, true, false, List, [], ◌∷◌, ◌++◌, map, length, take, drop, Option, None, Some, if◌then◌else◌}
use Rattle.std.specs.List.{AllByRecursion, flat_map}
use Rattle.std.proofs.Common.{refl, sym, ap, ap₂, subst, ◌∙◌, arith}
use Rattle.std.proofs.Math.Seq.{take-add}
use Rattle.std.proofs.lemmas.List.{map-append, length-append, length-map, length-drop}
use Rattle.send_model.specs.Command.{Command}
use Rattle.send_model.specs.Clone.{block_len}
use Rattle.send_model.specs.Composed.{writes_from, piece_commands}
use Rattle.send_model.specs.Store.{Store}
use Rattle.send_model.specs.Provenance.{Traced, Place, Piece, Carried, Literal, same_place, place_after, blocks_from, blocks, carried_from, join_piece, pieces_from, pieces_of}
use Rattle.send_model.proofs.Tracing.{byte_of}
use Rattle.send_model.proofs.Overwriting.{drop_twice}

-- A literal piece has the bytes that stand at its place.
abbrev pub IsThere : List ℕ → Piece → Type 0
IsThere all (Literal at bytes) = bytes ≡ take (length bytes) (drop at all)
IsThere all (Carried at place len) = Unit {0}

abbrev pub place_in : Piece → ℕ
place_in (Literal at bytes) = at
place_in (Carried at place len) = at

abbrev pub len_of : Piece → ℕ
len_of (Literal at bytes) = length bytes
len_of (Carried at place len) = len

-- Pieces begin at a place, if there are any.
abbrev Begin : ℕ → List Piece → Type 0
Begin at [] = Unit {0}
Begin at (p ∷ ps) = place_in p ≡ at

abbrev AreThere : List ℕ → ℕ → List Piece → Type 0
AreThere all at ps = AllByRecursion (IsThere all) ps × Begin at ps

two_there : (all : List ℕ) (at at' : ℕ) (bytes bytes' : List ℕ) → at' ≡ at + length bytes → bytes ≡ take (length bytes) (drop at all) → bytes' ≡ take (length bytes') (drop at' all)
    → bytes ++ bytes' ≡ take (length (bytes ++ bytes')) (drop at all)
two_there all at at' bytes bytes' next a b =
    ap₂ (λ (x y : List ℕ). x ++ y) a (b ∙ ap (λ (n : ℕ). take (length bytes') (drop n all)) next ∙ ap (take (length bytes')) (sym (drop_twice at (length bytes) all)))
    ∙ sym (take-add (length bytes) (length bytes') (drop at all))
    ∙ ap (λ (n : ℕ). take n (drop at all)) (sym (length-append bytes bytes'))

-- A piece before others.
join_there : (all : List ℕ) (at : ℕ) (p : Piece) (ps : List Piece) → place_in p ≡ at → IsThere all p → AreThere all (at + len_of p) ps → AreThere all at (join_piece p ps)
join_there all at (Literal at₁ bytes) [] here is others = ((is, tt), here)
join_there all at (Literal at₁ bytes) (Literal at' bytes' ∷ rest) here is others =
    let next : at' ≡ at₁ + length bytes = others.1 ∙ ap (λ (n : ℕ). n + length bytes) (sym here) in
    ((two_there all at₁ at' bytes bytes' next is others.0.0, others.0.1), here)
join_there all at (Literal at₁ bytes) (Carried at' place' len' ∷ rest) here is others = ((is, others.0), here)
join_there all at (Carried at₁ place len) [] here is others = ((tt, tt), here)
join_there all at (Carried at₁ place len) (Literal at' bytes' ∷ rest) here is others = ((tt, others.0), here)
join_there all at (Carried at₁ place len) (Carried at' place' len' ∷ rest) here is others = one (same_place (place_after place len) place')
  where
    one : (b : Bool) → AreThere all at (if b then Carried at₁ place (len + len') ∷ rest else Carried at₁ place len ∷ Carried at' place' len' ∷ rest)
    one true = ((tt, others.0.1), here)
    one false = ((tt, others.0), here)

abbrev pub joined : List (List Traced) → List Traced
joined [] = []
joined (b ∷ bs) = b ++ joined bs

-- ---- the pieces of blocks

take_front : (xs ys : List ℕ) → xs ≡ take (length xs) (xs ++ ys)
take_front [] ys = refl
take_front (x ∷ xs) ys = ap (λ (r : List ℕ). x ∷ r) (take_front xs ys)

drop_front : (xs ys : List ℕ) → drop (length xs) (xs ++ ys) ≡ ys
drop_front [] ys = refl
drop_front (x ∷ xs) ys = drop_front xs ys

blocks_there : (store : Store ℕ) (all : List ℕ) (bs : List (List Traced)) (at : ℕ) → drop at all ≡ map byte_of (joined bs) → AreThere all at (pieces_from store at bs)
blocks_there store all [] at e = (tt, tt)
blocks_there store all (b ∷ bs) at e =
    let bytes : List ℕ = map byte_of b in
    let split : drop at all ≡ bytes ++ map byte_of (joined bs) = e ∙ map-append byte_of b (joined bs) in
    let long : length bytes ≡ length b = length-map b byte_of in
    let rest : drop (at + length b) all ≡ map byte_of (joined bs) =
    ap (λ (n : ℕ). drop (at + n) all) (sym long) ∙ sym (drop_twice at (length bytes) all) ∙ ap (drop (length bytes)) split ∙ drop_front bytes (map byte_of (joined bs)) in
    let here : bytes ≡ take (length bytes) (drop at all) = take_front bytes (map byte_of (joined bs)) ∙ ap (take (length bytes)) (sym split) in
    one (carried_from store b) bytes long here (blocks_there store all bs (at + length b) rest)
  where
    one : (o : Option Place) (bytes : List ℕ) → length bytes ≡ length b → bytes ≡ take (length bytes) (drop at all) → AreThere all (at + length b) (pieces_from store (at + length b) bs)
        → AreThere all at (join_piece (elim o as (λ x. Piece) [ None ↦ Literal at bytes | Some place ↦ Carried at place (length b) ]) (pieces_from store (at + length b) bs))
    one None bytes long here more =
        join_there all at (Literal at bytes) (pieces_from store (at + length b) bs) refl here (subst (λ (n : ℕ). AreThere all (at + n) (pieces_from store (at + length b) bs)) (sym long) more)
    one (Some place) bytes long here more = join_there all at (Carried at place (length b)) (pieces_from store (at + length b) bs) refl tt more

-- ---- the blocks of a range

split_again : (n : ℕ) (cells : List Traced) → take n cells ++ drop n cells ≡ cells
split_again zero cells = refl
split_again (suc n) [] = refl
split_again (suc n) (c ∷ cells) = ap (λ (r : List Traced). c ∷ r) (split_again n cells)

-- Blocks of a length, one more than the given number.
abbrev pub blocks_of : ℕ → ℕ → List Traced → List (List Traced)
blocks_of m zero cells = []
blocks_of m (suc n) [] = []
blocks_of m (suc n) (c ∷ cells) = take m (c ∷ cells) ∷ blocks_of m n (drop m (c ∷ cells))

pub of_blocks : (n : ℕ) (cells : List Traced) → blocks_from n cells ≡ blocks_of block_len n cells
of_blocks zero cells = refl
of_blocks (suc n) [] = refl
of_blocks (suc n) (c ∷ cells) = ap (λ (r : List (List Traced)). take block_len (c ∷ cells) ∷ r) (of_blocks n (drop block_len (c ∷ cells)))

pub blocks_joined : (k n : ℕ) (cells : List Traced) → length cells ≤ n → joined (blocks_of (suc k) n cells) ≡ cells
blocks_joined k zero [] l = refl
blocks_joined k zero (c ∷ cells) l = absurd (omega (arith, l))
blocks_joined k (suc n) [] l = refl
blocks_joined k (suc n) (c ∷ cells) l =
    let less = length-drop k cells in
    ap (λ (r : List Traced). take (suc k) (c ∷ cells) ++ r) (blocks_joined k n (drop k cells) (omega (arith, l, less))) ∙ split_again (suc k) (c ∷ cells)

pub one_more : block_len ≡ suc 4095
one_more = refl

-- The bytes of each literal piece of a range stand at its place there.
pub literals_there : (store : Store ℕ) (range : List Traced) → AllByRecursion (IsThere (map byte_of range)) (pieces_of store range)
unfolding pieces_of blocks
literals_there store range = (blocks_there store (map byte_of range) (blocks range) 0 (ap (map byte_of) (sym (ap joined (of_blocks (length range) range ∙ ap (λ (m : ℕ). blocks_of m (length range) range) one_more) ∙ blocks_joined 4095 (length range) range (omega arith))))).0

-- A piece's commands, with the bytes of the range in place of its own.
abbrev pub again : Store ℕ → List ℕ → ℕ → List ℕ → Piece → List Command
again store path offset all (Literal at bytes) = writes_from (length bytes) path (offset + at) (take (length bytes) (drop at all))
again store path offset all (Carried at place len) = piece_commands store path offset (Carried at place len)

again_same : (store : Store ℕ) (path : List ℕ) (offset : ℕ) (all : List ℕ) (ps : List Piece) → AllByRecursion (IsThere all) ps → flat_map (piece_commands store path offset) ps ≡ flat_map (again store path offset all) ps
again_same store path offset all [] h = refl
again_same store path offset all (Literal at bytes ∷ ps) h = ap₂ (λ (a b : List Command). a ++ b) (ap (writes_from (length bytes) path (offset + at)) h.0) (again_same store path offset all ps h.1)
again_same store path offset all (Carried at place len ∷ ps) h = ap (λ (b : List Command). piece_commands store path offset (Carried at place len) ++ b) (again_same store path offset all ps h.1)

-- What stands for a redirected clone, with bytes that are read again.
pub pieces_again : (store : Store ℕ) (path : List ℕ) (offset : ℕ) (range : List Traced)
    → flat_map (piece_commands store path offset) (pieces_of store range) ≡ flat_map (again store path offset (map byte_of range)) (pieces_of store range)
pieces_again store path offset range = again_same store path offset (map byte_of range) (pieces_of store range) (literals_there store range)
