-- Bytes as pieces of one size, and as words of eight.
use Rattle.std.proofs.Common.{◌≡◌, ℕ, zero, suc, ◌+◌, ◌*◌, ◌<◌, ◌≤◌, List, [], ◌++◌, length, take, drop, get_or, inl, inr, sym, ap, lit<, ◌∙◌, arith, length-drop, drop-cons, append_assoc, add-one}
use Rattle.std.proofs.Math.Seq.{take-add}
use Rattle.std.proofs.lemmas.Bool.{cases_lt}
use Rattle.std.proofs.lemmas.List.{drop-drop, drop_all, take-take, take-append-drop, length-take-le, get_or-take, get_or-drop, get_or_past}
use Rattle.std.specs.List.{concat}
use Rattle.std.specs.Simd.{first_chunks}

-- Pieces that are cut from the front of a list.
chunk_at : (size count : ℕ) (xs : List ℕ) (k : ℕ) → k < count → get_or (first_chunks size count xs) k [] ≡ take size (drop (size * k) xs)
chunk_at size zero xs k within = absurd (omega arith)
chunk_at size (suc count) xs zero within = let none : 0 ≡ size * 0 = omega arith in ap (λ (n : ℕ). take size (drop n xs)) none
chunk_at size (suc count) xs (suc k) within =
    let place : size + size * k ≡ size * suc k = omega arith in
    chunk_at size count (drop size xs) k (omega arith)
    ∙ ap (take size) (drop-drop (size * k) size xs ∙ ap (λ (n : ℕ). drop n xs) place)

-- The word that stands at a place.
pub eight_at : (eights : List (List ℕ)) (count k : ℕ) (bytes : List ℕ) → eights ≡ first_chunks 8 count bytes → k < count →
    get_or eights k [] ≡ take 8 (drop (8 * k) bytes)
eight_at eights count k bytes cut within =
    ap (λ (chunks : List (List ℕ)). get_or chunks k []) cut ∙ chunk_at 8 count bytes k within

pub eight_long : (bytes : List ℕ) (k : ℕ) → 8 * (k + 1) ≤ length bytes → length (take 8 (drop (8 * k) bytes)) ≡ 8
eight_long bytes k within = length-take-le 8 (drop (8 * k) bytes) (omega (arith, length-drop (8 * k) bytes))

pub eight_bytes : (bytes : List ℕ) (k : ℕ) → 8 * (k + 1) ≤ length bytes → ((i : ℕ) → get_or bytes i 0 < 256) →
    (i : ℕ) → get_or (take 8 (drop (8 * k) bytes)) i 0 < 256
eight_bytes bytes k within are_bytes i =
    elim (cases_lt i 8) [
      | inl inside ↦ rw (get_or-take 8 (drop (8 * k) bytes) i 0 inside, get_or-drop (8 * k) bytes i 0) (are_bytes (8 * k + i))
      | inr outside ↦ rw (get_or_past (take 8 (drop (8 * k) bytes)) i 0 (omega (arith, eight_long bytes k within))) (lit< tt)
    ]

-- From a place on: eight bytes, and what stands behind them.
pub eight_first : (bytes eight : List ℕ) (k : ℕ) → eight ≡ take 8 (drop (8 * k) bytes) → drop (8 * k) bytes ≡ eight ++ drop (8 * (k + 1)) bytes
eight_first bytes eight k cut =
    let place : 8 * k + 8 ≡ 8 * (k + 1) = omega arith in
    sym (take-append-drop 8 (drop (8 * k) bytes))
    ∙ ap (λ (first : List ℕ). first ++ drop 8 (drop (8 * k) bytes)) (sym cut)
    ∙ ap (λ (rest : List ℕ). eight ++ rest) (drop-drop 8 (8 * k) bytes ∙ ap (λ (n : ℕ). drop n bytes) place)

-- The pieces one after the other are the list again.
pub concat-chunks : (size count : ℕ) (xs : List ℕ) → concat (first_chunks size count xs) ≡ take (size * count) xs
concat-chunks size zero xs = let none : 0 ≡ size * 0 = omega arith in ap (λ (n : ℕ). take n xs) none
concat-chunks size (suc count) xs =
    let place : size + size * count ≡ size * suc count = omega arith in
    ap (λ (rest : List ℕ). take size xs ++ rest) (concat-chunks size count (drop size xs))
    ∙ sym (take-add size (size * count) xs) ∙ ap (λ (n : ℕ). take n xs) place

-- The whole list, if they are cut from a front part of it.
pub blocks_and_rest : (blocks : List (List ℕ)) (bytes : List ℕ) (count front : ℕ) →
    blocks ≡ first_chunks 512 count (take front bytes) → length blocks ≡ count → 512 * count ≤ front →
    concat blocks ++ drop (512 * length blocks) bytes ≡ bytes
blocks_and_rest blocks bytes count front cut long within =
    ap (λ (list : List (List ℕ)). concat list ++ drop (512 * length blocks) bytes) cut
    ∙ ap (λ (n : ℕ). concat (first_chunks 512 count (take front bytes)) ++ drop (512 * n) bytes) long
    ∙ ap (λ (list : List ℕ). list ++ drop (512 * count) bytes)
    (concat-chunks 512 count (take front bytes) ∙ take-take (512 * count) front bytes within)
    ∙ take-append-drop (512 * count) bytes

-- A piece more, with what stands behind all.
pub piece_first : (pieces : List (List ℕ)) (k : ℕ) (last : List ℕ) → k < length pieces →
    concat (drop k pieces) ++ last ≡ get_or pieces k [] ++ (concat (drop (k + 1) pieces) ++ last)
piece_first pieces k last within =
    ap (λ (list : List (List ℕ)). concat list ++ last) (drop-cons pieces k [] within)
    ∙ append_assoc (get_or pieces k []) (concat (drop (suc k) pieces)) last
    ∙ ap (λ (n : ℕ). get_or pieces k [] ++ (concat (drop n pieces) ++ last)) (sym (add-one k))

pub no_piece : (pieces : List (List ℕ)) (k : ℕ) (last : List ℕ) → length pieces ≤ k → concat (drop k pieces) ++ last ≡ last
no_piece pieces k last past = ap (λ (list : List (List ℕ)). concat list ++ last) (drop_all k pieces past)
