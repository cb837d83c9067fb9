-- What moved words owe, as one word more is moved behind them.
use Rattle.std.proofs.Common.{◌≡◌, ℕ, suc, ◌-◌, ◌*◌, ◌≤◌, List, [], ◌∷◌, ◌++◌, length, drop, get_or, bit_xor, sym, ap, ◌∙◌, arith, length-append, length-drop, drop-cons}
use Rattle.std.proofs.lemmas.List.{drop-append-le}
use Rattle.std.proofs.lemmas.Nat.{xor_comm}
use Rattle.std.specs.Int.Bits.{xor_assoc}
use Rattle.send_model.specs.Checksum.{shifts}
use Rattle.send_model.proofs.ChecksumLaws.{shifts-xor}
use Rattle.crc32c_part.specs.FoldedSums.{arriving, part_of, owed}
use Rattle.crc32c_part.proofs.TapRule.{xor_sums, shifts-zero}
use Rattle.crc32c_part.proofs.TakingIn.{taken_in, AreWithin}

part_of-last : (left : ℕ) (words : List ℕ) (word : ℕ) →
    part_of left (words ++ word ∷ []) ≡ bit_xor (part_of left words) (shifts (8 * (left - 8 * length words)) word)
unfolding part_of
part_of-last left [] word =
    let place : left ≡ left - 8 * 0 = omega arith in
    xor_comm (shifts (8 * left) word) 0 ∙ ap (λ (n : ℕ). bit_xor 0 (shifts (8 * n) word)) place
part_of-last left (first ∷ words) word =
    let place : left - 8 - 8 * length words ≡ left - 8 * suc (length words) = omega arith in
    ap (bit_xor (shifts (8 * left) first)) (part_of-last (left - 8) words word)
    ∙ sym (xor_assoc (shifts (8 * left) first) (part_of (left - 8) words) (shifts (8 * (left - 8 - 8 * length words)) word))
    ∙ ap (λ (n : ℕ). bit_xor (bit_xor (shifts (8 * left) first) (part_of (left - 8) words)) (shifts (8 * n) word)) place

-- At one distance: the word at its end comes out in front, and the new one stands behind.
one_distance : (distance left : ℕ) (moved : List ℕ) (word : ℕ) → 1 ≤ distance → distance ≤ length moved →
    bit_xor (part_of left (drop (length moved - distance) moved)) (shifts (8 * (left - 8 * distance)) word)
    ≡ bit_xor (shifts (8 * left) (get_or moved (length moved - distance) 0))
    (part_of (left - 8) (drop (length (moved ++ word ∷ []) - distance) (moved ++ word ∷ [])))
unfolding part_of
one_distance distance left moved word some within =
    let first : ℕ = length moved - distance in
    let later : List ℕ = drop (suc first) moved in
    let front : ℕ = shifts (8 * left) (get_or moved first 0) in
    let long : length later ≡ distance - 1 = length-drop (suc first) moved ∙ omega arith in
    let place : left - 8 - 8 * (distance - 1) ≡ left - 8 * distance = omega arith in
    let start : length (moved ++ word ∷ []) - distance ≡ suc first = omega (arith, length-append moved (word ∷ [])) in
    ap (λ (words : List ℕ). bit_xor (part_of left words) (shifts (8 * (left - 8 * distance)) word)) (drop-cons moved first 0 (omega arith))
    ∙ xor_assoc front (part_of (left - 8) later) (shifts (8 * (left - 8 * distance)) word)
    ∙ ap (λ (n : ℕ). bit_xor front (bit_xor (part_of (left - 8) later) (shifts (8 * n) word)))
    (sym (ap (λ (n : ℕ). left - 8 - 8 * n) long ∙ place))
    ∙ ap (bit_xor front) (sym (part_of-last (left - 8) later word))
    ∙ ap (λ (words : List ℕ). bit_xor front (part_of (left - 8) words))
    (sym (ap (λ (n : ℕ). drop n (moved ++ word ∷ [])) start ∙ drop-append-le (suc first) moved (word ∷ []) (omega arith)))

-- At all distances.
pub owed-last : (taken : List ℕ) (left : ℕ) (moved : List ℕ) (word : ℕ) → AreWithin (length moved) taken →
    bit_xor (owed taken moved left) (taken_in taken left word)
    ≡ bit_xor (shifts (8 * left) (arriving taken moved)) (owed taken (moved ++ word ∷ []) (left - 8))
unfolding owed arriving taken_in
owed-last [] left moved word within =
    ap (λ (x : ℕ). bit_xor x 0) (sym (shifts-zero (8 * left)))
owed-last (distance ∷ more) left moved word within =
    let steps : ℕ = 8 * left in
    let behind : List ℕ = moved ++ word ∷ [] in
    let part : ℕ = part_of left (drop (length moved - distance) moved) in
    let end : ℕ = shifts (8 * (left - 8 * distance)) word in
    let front : ℕ = get_or moved (length moved - distance) 0 in
    let later : ℕ = part_of (left - 8) (drop (length behind - distance) behind) in
    xor_sums part (owed more moved left) end (taken_in more left word)
    ∙ ap (λ (x : ℕ). bit_xor x (bit_xor (owed more moved left) (taken_in more left word)))
    (one_distance distance left moved word within.0 within.1)
    ∙ ap (bit_xor (bit_xor (shifts steps front) later)) (owed-last more left moved word within.2)
    ∙ xor_sums (shifts steps front) later (shifts steps (arriving more moved)) (owed more behind (left - 8))
    ∙ ap (λ (x : ℕ). bit_xor x (bit_xor later (owed more behind (left - 8)))) (sym (shifts-xor steps front (arriving more moved)))
