-- The checksum of moved words and the bytes behind them: how it begins, what of the words is left
-- out, and how it ends.
use Rattle.std.proofs.Common.{◌≡◌, ℕ, zero, suc, ◌+◌, ◌-◌, ◌*◌, ◌≤◌, List, [], ◌∷◌, ◌++◌, length, drop, replicate, bit_xor, refl, sym, ap, ◌∙◌, arith, length-append, length-drop}
use Rattle.std.proofs.Math.Seq.{drop-append-add}
use Rattle.std.proofs.lemmas.List.{drop-drop, drop-replicate, length-replicate}
use Rattle.std.specs.Int.Bits.{xor_self, xor_zero_l, xor_zero_r}
use Rattle.send_model.specs.Checksum.{shifts, crc_of}
use Rattle.send_model.proofs.ChecksumLaws.{crc_of-split}
use Rattle.crc32c_part.specs.FoldedSums.{distances, part_of, owed, folded_sum}
use Rattle.crc32c_part.proofs.TapRule.{shifts-zero}
use Rattle.crc32c_part.proofs.TakingIn.{AreWithin, all_within}

part_of-zeros : (left n : ℕ) → part_of left (replicate n 0) ≡ 0
unfolding part_of
part_of-zeros left zero = refl
part_of-zeros left (suc n) =
    ap (λ (x : ℕ). bit_xor x (part_of (left - 8) (replicate n 0))) (shifts-zero (8 * left))
    ∙ ap (bit_xor 0) (part_of-zeros (left - 8) n) ∙ xor_self 0

last_start : (before : List ℕ) (count distance : ℕ) → distance ≤ count →
    length (before ++ replicate count 0) - distance ≡ length before + (count - distance)
last_start before count distance within = omega (arith, length-append before (replicate count 0), length-replicate {A = ℕ} count 0)

-- The last words of a list that ends in zeros.
last_zeros : (before : List ℕ) (count distance : ℕ) → distance ≤ count →
    drop (length (before ++ replicate count 0) - distance) (before ++ replicate count 0) ≡ replicate distance 0
last_zeros before count distance within =
    let size : count - (count - distance) ≡ distance = omega arith in
    ap (λ (n : ℕ). drop n (before ++ replicate count 0)) (last_start before count distance within)
    ∙ drop-append-add before (replicate count 0) (count - distance)
    ∙ drop-replicate (count - distance) count 0 ∙ ap (λ (n : ℕ). replicate n 0) size

-- Behind 209 words of zeros nothing is owed.
nothing_owed : (taken before : List ℕ) (count left : ℕ) → AreWithin count taken → owed taken (before ++ replicate count 0) left ≡ 0
unfolding owed
nothing_owed [] before count left within = refl
nothing_owed (distance ∷ more) before count left within =
    let moved : List ℕ = before ++ replicate count 0 in
    ap (λ (x : ℕ). bit_xor x (owed more moved left)) (ap (part_of left) (last_zeros before count distance within.1) ∙ part_of-zeros left distance)
    ∙ ap (bit_xor 0) (nothing_owed more before count left within.2) ∙ xor_self 0

pub folded_sum-end : (sum : ℕ) (before bytes : List ℕ) (count : ℕ) → count ≡ 209 →
    folded_sum sum (before ++ replicate count 0) bytes ≡ crc_of sum bytes
unfolding folded_sum
folded_sum-end sum before bytes count is =
    ap (λ (x : ℕ). bit_xor x (crc_of sum bytes))
    (nothing_owed distances before count (length bytes) (all_within count (omega arith))) ∙ xor_zero_l (crc_of sum bytes)

-- Only the last 209 words owe.
owed-drop : (taken : List ℕ) (k : ℕ) (moved : List ℕ) (left : ℕ) → AreWithin 209 taken → k + 209 ≤ length moved →
    owed taken (drop k moved) left ≡ owed taken moved left
unfolding owed
owed-drop [] k moved left within enough = refl
owed-drop (distance ∷ more) k moved left within enough =
    let start : k + (length (drop k moved) - distance) ≡ length moved - distance = omega (arith, length-drop k moved) in
    ap (λ (words : List ℕ). bit_xor (part_of left words) (owed more (drop k moved) left))
    (drop-drop (length (drop k moved) - distance) k moved ∙ ap (λ (n : ℕ). drop n moved) start)
    ∙ ap (bit_xor (part_of left (drop (length moved - distance) moved))) (owed-drop more k moved left within.2 enough)

pub folded_sum-drop : (sum k : ℕ) (moved bytes : List ℕ) → k + 209 ≤ length moved → folded_sum sum (drop k moved) bytes ≡ folded_sum sum moved bytes
unfolding folded_sum
folded_sum-drop sum k moved bytes enough =
    ap (λ (x : ℕ). bit_xor x (crc_of sum bytes)) (owed-drop distances k moved (length bytes) (all_within 209 (omega arith)) enough)

-- The checksum so far as a word, which stands 209 places before the first one, with zeros behind
-- it. It comes to that one alone.
abbrev pub first_words : ℕ → ℕ → List ℕ
first_words crc count = crc ∷ replicate count 0

no_start : (crc count total left distance : ℕ) → total ≡ suc count → distance ≤ count →
    part_of left (drop (total - distance) (first_words crc count)) ≡ 0
no_start crc count total left distance is short =
    let start : total - distance ≡ suc (count - distance) = omega arith in
    ap (λ (n : ℕ). part_of left (drop n (first_words crc count))) start
    ∙ ap (part_of left) (drop-replicate (count - distance) count 0)
    ∙ part_of-zeros left (count - (count - distance))

whole_start : (crc count total left distance : ℕ) → total ≡ distance →
    part_of left (drop (total - distance) (first_words crc count)) ≡ shifts (8 * left) crc
unfolding part_of
whole_start crc count total left distance is =
    let start : total - distance ≡ 0 = omega arith in
    ap (λ (n : ℕ). part_of left (drop n (first_words crc count))) start
    ∙ ap (bit_xor (shifts (8 * left) crc)) (part_of-zeros (left - 8) count) ∙ xor_zero_r (shifts (8 * left) crc)

only_last : (a b c d e part : ℕ) → a ≡ 0 → b ≡ 0 → c ≡ 0 → d ≡ 0 → e ≡ part →
    bit_xor a (bit_xor b (bit_xor c (bit_xor d (bit_xor e 0)))) ≡ part
only_last a b c d e part p q r s t =
    rw (p, q, r, s, t, xor_zero_r) (xor_zero_l (bit_xor 0 (bit_xor 0 (bit_xor 0 part))) ∙ xor_zero_l (bit_xor 0 (bit_xor 0 part)) ∙ xor_zero_l (bit_xor 0 part) ∙ xor_zero_l part)

owed-start : (crc count left : ℕ) → count ≡ 208 → owed distances (first_words crc count) left ≡ shifts (8 * left) crc
unfolding owed
owed-start crc count left is =
    let total : ℕ = length (first_words crc count) in
    let total_is : total ≡ suc count = omega (arith, length-replicate {A = ℕ} count 0) in
    only_last
    (part_of left (drop (total - 65) (first_words crc count)))
    (part_of left (drop (total - 155) (first_words crc count)))
    (part_of left (drop (total - 170) (first_words crc count)))
    (part_of left (drop (total - 195) (first_words crc count)))
    (part_of left (drop (total - 209) (first_words crc count)))
    (shifts (8 * left) crc)
    (no_start crc count total left 65 total_is (omega arith))
    (no_start crc count total left 155 total_is (omega arith))
    (no_start crc count total left 170 total_is (omega arith))
    (no_start crc count total left 195 total_is (omega arith))
    (whole_start crc count total left 209 (omega arith))

pub folded_sum-start : (crc count : ℕ) (bytes : List ℕ) → count ≡ 208 → folded_sum 0 (first_words crc count) bytes ≡ crc_of crc bytes
unfolding folded_sum
folded_sum-start crc count bytes is =
    ap (λ (x : ℕ). bit_xor x (crc_of 0 bytes)) (owed-start crc count (length bytes) is) ∙ sym (crc_of-split crc bytes)
