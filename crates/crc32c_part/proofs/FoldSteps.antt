-- What the loops of folding do to their lists: words in a place that is filled from the front, and
-- bytes in pieces.
use Rattle.std.proofs.Common.{◌≡◌, ℕ, zero, suc, ◌+◌, ◌-◌, ◌*◌, ◌^◌, ◌<◌, ◌≤◌, List, [], ◌∷◌, ◌++◌, length, take, drop, set, get_or, replicate, bit_xor, refl, sym, ap, subst, ◌∙◌, arith, length-append, length-drop, append_assoc, append-nil}
use Rattle.std.proofs.Math.Seq.{paste, take-set-lt}
use Rattle.std.proofs.lemmas.List.{drop-take, length-take-le, get_or-take, replicate_more, take_all, take_more, take_more_set}
use Rattle.std.proofs.lemmas.Nat.{xor_lt}
use Rattle.std.proofs.lemmas.List.Edits.{take-paste}
use Rattle.std.specs.Int.{w64, from_le_bytes, to_le_bytes}
use Rattle.std.specs.Int.Bits.{xor_assoc, xor_zero_r}
use Rattle.std.specs.List.{copy_within, flat_map}
use Rattle.send_model.specs.Checksum.{crc_of}
use Rattle.std.proofs.lemmas.Grind.{flat_map-append}
use Rattle.send_model.proofs.ChecksumLaws.{crc_of-append}
use Rattle.crc32c_part.specs.FoldedSums.{distances, arriving, folded_sum}
use Rattle.crc32c_part.proofs.Pieces.{eight_long, eight_bytes, eight_first}
use Rattle.crc32c_part.proofs.MovedWords.{IsWord, folded_sum-moved, folded_sum-summed}
use Rattle.crc32c_part.proofs.FoldEnds.{folded_sum-start, folded_sum-drop, folded_sum-end}

from_the_left : (a b c d e : ℕ) →
    bit_xor (bit_xor (bit_xor (bit_xor a b) c) d) e ≡ bit_xor a (bit_xor b (bit_xor c (bit_xor d (bit_xor e 0))))
from_the_left a b c d e = simp (xor_assoc, xor_zero_r)

-- The word that stands some places before one.
abbrev pub before : List ℕ → ℕ → ℕ → ℕ
before words place distance = get_or words (place - distance) 0

read_before : (words : List ℕ) (place distance : ℕ) → place ≤ length words → 1 ≤ distance → distance ≤ place →
    get_or (take place words) (length (take place words) - distance) 0 ≡ before words place distance
read_before words place distance within some far =
    ap (λ (n : ℕ). get_or (take place words) (n - distance) 0) (length-take-le place words within)
    ∙ get_or-take place words (place - distance) 0 (omega arith)

-- What comes to a place, read one by one.
pub arriving_is : (words : List ℕ) (place : ℕ) → 209 ≤ place → place ≤ length words →
    bit_xor (bit_xor (bit_xor (bit_xor (before words place 65) (before words place 155)) (before words place 170)) (before words place 195)) (before words place 209)
    ≡ arriving distances (take place words)
unfolding arriving
arriving_is words place enough within =
    rw (
      read_before words place 65 within (omega arith) (omega arith),
      read_before words place 155 within (omega arith) (omega arith),
      read_before words place 170 within (omega arith) (omega arith),
      read_before words place 195 within (omega arith) (omega arith),
      read_before words place 209 within (omega arith) (omega arith),
    )
    (from_the_left (before words place 65) (before words place 155) (before words place 170) (before words place 195) (before words place 209))

-- The last words, which moved to the front, stand for all.
pub to_front : (words new : List ℕ) (end : ℕ) (bytes : List ℕ) → 209 ≤ end → end ≤ length words → new ≡ copy_within words (end - 209) end 0 →
    folded_sum 0 (take 209 new) bytes ≡ folded_sum 0 (take end words) bytes
to_front words new end bytes enough within is =
    let first : ℕ = end - 209 in
    let size : end - first ≡ 209 = omega arith in
    let place : 209 ≡ 0 + (end - first) = omega arith in
    let whole : first + 209 ≡ end = omega arith in
    let kept : take 209 new ≡ drop first (take end words) =
    ap (take 209) is
    ∙ ap (λ (n : ℕ). take n (paste words 0 (drop first words) (end - first))) place
    ∙ take-paste words 0 (drop first words) (end - first) (omega arith) (omega (arith, length-drop first words))
    ∙ ap (λ (n : ℕ). take n (drop first words)) size
    ∙ sym (drop-take first 209 words) ∙ ap (λ (n : ℕ). drop first (take n words)) whole in
    ap (λ (moved : List ℕ). folded_sum 0 moved bytes) kept
    ∙ folded_sum-drop 0 first (take end words) bytes (omega (arith, length-take-le end words within))

-- A word of some bytes, with what comes to it, where the loops stand.
pub record IsNext (words bytes eight : List ℕ) (start k number arrives : ℕ) : Type 0 where
  pub enough : 209 ≤ start
  pub within : start + k < length words
  pub cut : eight ≡ take 8 (drop (8 * k) bytes)
  pub in_bytes : 8 * (k + 1) ≤ length bytes
  pub are_bytes : (i : ℕ) → get_or bytes i 0 < 256
  pub read : number ≡ from_le_bytes w64 eight
  pub comes : arrives ≡ arriving distances (take (start + k) words)
  pub small : (number < 2 ^ 64) × (arrives < 2 ^ 64)

word_is : (words bytes eight : List ℕ) (start k number arrives : ℕ) → IsNext words bytes eight start k number arrives →
    IsWord (take (start + k) words) eight (bit_xor number arrives)
word_is words bytes eight start k number arrives next = record {
  enough = omega (arith, next.enough, length-take-le (start + k) words (omega (arith, next.within)));
  is_eight = ap length next.cut ∙ eight_long bytes k next.in_bytes;
  are_bytes = subst (λ (x : List ℕ). (i : ℕ) → get_or x i 0 < 256) (sym next.cut) (eight_bytes bytes k next.in_bytes next.are_bytes);
  is = ap (λ (x : ℕ). bit_xor x arrives) next.read ∙ ap (bit_xor (from_le_bytes w64 eight)) next.comes;
  fits = xor_lt 64 number arrives next.small.0 next.small.1;
}

one_more : (start k : ℕ) → start + (k + 1) ≡ start + k + 1
one_more start k = omega arith

-- A word more is moved.
pub moved_more : (words bytes eight : List ℕ) (start k number arrives : ℕ) → IsNext words bytes eight start k number arrives →
    (rest : List ℕ) → 1672 ≤ length rest →
    folded_sum 0 (take (start + (k + 1)) (set words (start + k) (bit_xor number arrives))) (drop (8 * (k + 1)) bytes ++ rest)
    ≡ folded_sum 0 (take (start + k) words) (drop (8 * k) bytes ++ rest)
moved_more words bytes eight start k number arrives next rest long =
    let word : ℕ = bit_xor number arrives in
    let moved : List ℕ = take (start + k) words in
    let later : List ℕ = drop (8 * (k + 1)) bytes ++ rest in
    let w : IsWord moved eight word = word_is words bytes eight start k number arrives next in
    sym (ap (λ (x : List ℕ). folded_sum 0 moved (x ++ rest)) (eight_first bytes eight k next.cut)
    ∙ ap (folded_sum 0 moved) (append_assoc eight (drop (8 * (k + 1)) bytes) rest)
    ∙ folded_sum-moved moved eight later word w (omega (arith, length-append (drop (8 * (k + 1)) bytes) rest))
    ∙ ap (λ (x : List ℕ). folded_sum 0 x later)
    (sym (ap (λ (n : ℕ). take n (set words (start + k) word)) (one_more start k) ∙ take_more_set words (start + k) word next.within)))

-- A word more is spelled.
spelled_more : (spelled : List (List ℕ)) (k : ℕ) (eight : List ℕ) → k < length spelled →
    crc_of (crc_of 0 (flat_map (λ x. x) (take k spelled))) eight ≡ crc_of 0 (flat_map (λ x. x) (take (k + 1) (set spelled k eight)))
spelled_more spelled k eight within =
    let front : List (List ℕ) = take k spelled in
    sym (crc_of-append 0 (flat_map (λ x. x) front) eight)
    ∙ ap (λ (list : List ℕ). crc_of 0 (flat_map (λ x. x) front ++ list)) (sym (append-nil eight))
    ∙ ap (crc_of 0) (sym (flat_map-append (λ (x : List ℕ). x) front (eight ∷ [])))
    ∙ ap (λ (list : List (List ℕ)). crc_of 0 (flat_map (λ x. x) list)) (sym (take_more_set spelled k eight within))

-- A word more is summed.
pub summed_more : (words bytes eight : List ℕ) (start k number arrives : ℕ) → IsNext words bytes eight start k number arrives →
    get_or words (start + k) 0 ≡ 0 → (spelled : List (List ℕ)) (spelling : List ℕ) → k < length spelled →
    spelling ≡ to_le_bytes w64 (bit_xor number arrives) →
    folded_sum (crc_of 0 (flat_map (λ x. x) (take (k + 1) (set spelled k spelling)))) (take (start + (k + 1)) words) (drop (8 * (k + 1)) bytes)
    ≡ folded_sum (crc_of 0 (flat_map (λ x. x) (take k spelled))) (take (start + k) words) (drop (8 * k) bytes)
summed_more words bytes eight start k number arrives next none spelled spelling within spells =
    let word : ℕ = bit_xor number arrives in
    let sum : ℕ = crc_of 0 (flat_map (λ x. x) (take k spelled)) in
    let moved : List ℕ = take (start + k) words in
    let later : List ℕ = drop (8 * (k + 1)) bytes in
    let w : IsWord moved eight word = word_is words bytes eight start k number arrives next in
    sym (ap (folded_sum sum moved) (eight_first bytes eight k next.cut)
    ∙ folded_sum-summed sum moved eight later word w
    ∙ ap (λ (x : List ℕ). folded_sum (crc_of sum x) (moved ++ 0 ∷ []) later) (sym spells)
    ∙ ap (λ (x : ℕ). folded_sum x (moved ++ 0 ∷ []) later) (spelled_more spelled k spelling within)
    ∙ ap (λ (x : List ℕ). folded_sum (crc_of 0 (flat_map (λ y. y) (take (k + 1) (set spelled k spelling)))) x later)
    (ap (λ (x : ℕ). moved ++ x ∷ []) (sym none) ∙ sym (ap (λ (n : ℕ). take n words) (one_more start k) ∙ take_more words (start + k) 0 next.within)))

-- Words that are zero from a place on.
zeros_from : (words : List ℕ) (start count : ℕ) → start + count ≤ length words → ((k : ℕ) → k < count → get_or words (start + k) 0 ≡ 0) →
    take (start + count) words ≡ take start words ++ replicate count 0
zeros_from words start zero within are_zeros =
    let place : start + 0 ≡ start = omega arith in
    ap (λ (n : ℕ). take n words) place ∙ sym (append-nil (take start words))
zeros_from words start (suc count) within are_zeros =
    let place : start + suc count ≡ start + count + 1 = omega arith in
    let more : count + 1 ≡ suc count = omega arith in
    ap (λ (n : ℕ). take n words) place ∙ take_more words (start + count) 0 (omega arith)
    ∙ ap (λ (x : ℕ). take (start + count) words ++ x ∷ []) (are_zeros count (omega arith))
    ∙ ap (λ (list : List ℕ). list ++ 0 ∷ []) (zeros_from words start count (omega arith) (λ k below. are_zeros k (omega arith)))
    ∙ append_assoc (take start words) (replicate count 0) (0 ∷ [])
    ∙ ap (λ (list : List ℕ). take start words ++ list) (replicate_more count 0 ∙ ap (λ (n : ℕ). replicate n 0) more)

-- All words are summed: nothing is owed any more.
pub summed_all : (words bytes : List ℕ) (spelled : List (List ℕ)) (start count : ℕ) → count ≡ 209 → length spelled ≡ count →
    start + count ≤ length words → ((k : ℕ) → k < count → get_or words (start + k) 0 ≡ 0) →
    folded_sum (crc_of 0 (flat_map (λ x. x) (take count spelled))) (take (start + count) words) (drop (8 * count) bytes)
    ≡ crc_of (crc_of 0 (flat_map (λ x. x) spelled)) (drop (8 * count) bytes)
summed_all words bytes spelled start count is long within are_zeros =
    let sum : ℕ = crc_of 0 (flat_map (λ x. x) (take count spelled)) in
    let later : List ℕ = drop (8 * count) bytes in
    ap (λ (moved : List ℕ). folded_sum sum moved later) (zeros_from words start count within are_zeros)
    ∙ folded_sum-end sum (take start words) later count is
    ∙ ap (λ (list : List (List ℕ)). crc_of (crc_of 0 (flat_map (λ x. x) list)) later) (take_all count spelled (omega arith))

-- The checksum so far begins, over zeros.
pub begins : (words : List ℕ) (first crc : ℕ) (bytes : List ℕ) → 209 ≤ length words → ((k : ℕ) → k < 209 → get_or words (0 + k) 0 ≡ 0) → first ≡ crc →
    folded_sum 0 (take 209 (set words 0 first)) bytes ≡ crc_of crc bytes
begins words first crc bytes within are_zeros is =
    let zeros : take 209 words ≡ replicate 209 0 = zeros_from words 0 209 within are_zeros in
    ap (λ (list : List ℕ). folded_sum 0 list bytes) (take-set-lt 209 words 0 first (omega arith) ∙ ap (λ (list : List ℕ). set list 0 first) zeros)
    ∙ folded_sum-start first 208 bytes refl
    ∙ ap (λ (n : ℕ). crc_of n bytes) is
