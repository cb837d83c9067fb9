-- What becomes of a word that is taken in at some distances behind it.
use Rattle.std.proofs.Common.{◌≡◌, ℕ, ◌+◌, ◌-◌, ◌*◌, ◌^◌, ◌<◌, ◌≤◌, List, [], ◌∷◌, bit_xor, refl, sym, ap, ◌∙◌, arith, rules}
use Rattle.std.specs.Int.Bits.{xor_self}
use Rattle.send_model.specs.Checksum.{shifts}
use Rattle.send_model.proofs.ChecksumLaws.{shifts-xor, shifts-add}
use Rattle.crc32c_part.specs.FoldedSums.{distances}
use Rattle.crc32c_part.proofs.WordSums.{shifts_64-below}
use Rattle.crc32c_part.proofs.TapRule.{shifts_by, steps_left, shifts-zero, low_bits}

-- What becomes of a word that is taken in at some distances behind it, by a checksum that ends
-- `left` bytes behind its beginning.
unfoldable pub taken_in : List ℕ → ℕ → ℕ → ℕ
taken_in [] left word = 0
taken_in (distance ∷ more) left word = bit_xor (shifts (8 * (left - 8 * distance)) word) (taken_in more left word)

-- Distances of at least one word, for which a list of so many words is long enough.
abbrev pub AreWithin : ℕ → List ℕ → Type 0
AreWithin most [] = Unit {0}
AreWithin most (distance ∷ more) = (1 ≤ distance) × (distance ≤ most) × AreWithin most more

-- The five are, for 209 words.
pub all_within : (most : ℕ) → 209 ≤ most → AreWithin most distances
all_within most enough = search rules

pub taken_in-zero : (taken : List ℕ) (left : ℕ) → taken_in taken left 0 ≡ 0
unfolding taken_in
taken_in-zero [] left = refl
taken_in-zero (distance ∷ more) left =
    ap (λ (x : ℕ). bit_xor x (taken_in more left 0)) (shifts-zero (8 * (left - 8 * distance)))
    ∙ ap (bit_xor 0) (taken_in-zero more left) ∙ xor_self 0

-- One place of them, with what all have in common last.
taken_steps : (distance past word : ℕ) → distance ≤ 209 →
    shifts (8 * (1680 + past - 8 * distance)) word ≡ shifts (8 * past) (shifts (64 * (209 - distance)) (shifts 64 word))
taken_steps distance past word within =
    let steps : 8 * (1680 + past - 8 * distance) ≡ (64 + 64 * (209 - distance)) + 8 * past = omega arith in
    ap (λ (k : ℕ). shifts k word) steps
    ∙ shifts-add (64 + 64 * (209 - distance)) (8 * past) word
    ∙ ap (shifts (8 * past)) (shifts-add 64 (64 * (209 - distance)) word)

taken_by : (taken : List ℕ) (past word : ℕ) → AreWithin 209 taken →
    taken_in taken (1680 + past) word ≡ shifts (8 * past) (shifts_by (steps_left taken) (shifts 64 word))
unfolding taken_in shifts_by steps_left
taken_by [] past word within = sym (shifts-zero (8 * past))
taken_by (distance ∷ more) past word within =
    ap (λ (x : ℕ). bit_xor x (taken_in more (1680 + past) word)) (taken_steps distance past word within.1)
    ∙ ap (bit_xor (shifts (8 * past) (shifts (64 * (209 - distance)) (shifts 64 word)))) (taken_by more past word within.2)
    ∙ sym (shifts-xor (8 * past) (shifts (64 * (209 - distance)) (shifts 64 word)) (shifts_by (steps_left more) (shifts 64 word)))

-- A word may go: at all five distances together it becomes what it would have become, if there are
-- as many words behind it.
pub taken_is : (left word : ℕ) → 1680 ≤ left → word < 2 ^ 64 → taken_in distances left word ≡ shifts (8 * left) word
taken_is left word long fits =
    let past : ℕ = left - 1680 in
    let is : 1680 + past ≡ left = omega arith in
    let steps : 64 + 13376 + 8 * past ≡ 8 * left = omega arith in
    ap (λ (n : ℕ). taken_in distances n word) (sym is)
    ∙ taken_by distances past word (all_within 209 (omega arith))
    ∙ ap (shifts (8 * past)) (low_bits 32 (shifts 64 word) (omega arith) (shifts_64-below word fits))
    ∙ ap (shifts (8 * past)) (sym (shifts-add 64 13376 word))
    ∙ sym (shifts-add (64 + 13376) (8 * past) word)
    ∙ ap (λ (k : ℕ). shifts k word) steps
