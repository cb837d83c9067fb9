-- The checksum of moved words and the bytes behind them, as it goes on by a word.
use Rattle.std.proofs.Common.{◌≡◌, ℕ, ◌+◌, ◌-◌, ◌*◌, ◌^◌, ◌<◌, ◌≤◌, List, [], ◌∷◌, ◌++◌, length, get_or, bit_xor, sym, ap, ◌∙◌, arith, length-append}
use Rattle.std.proofs.lemmas.Nat.{xor_comm}
use Rattle.std.specs.Int.{w64, from_le_bytes, to_le_bytes}
use Rattle.std.specs.Int.Bits.{xor_assoc, xor_self, xor_zero_l, xor_zero_r}
use Rattle.send_model.specs.Checksum.{shifts, crc_of}
use Rattle.send_model.proofs.ChecksumLaws.{shifts-xor}
use Rattle.crc32c_part.specs.FoldedSums.{distances, arriving, owed, folded_sum}
use Rattle.crc32c_part.proofs.WordSums.{word_first, spelled_first}
use Rattle.crc32c_part.proofs.TakingIn.{taken_in, taken_in-zero, taken_is, all_within}
use Rattle.crc32c_part.proofs.OwedWords.{owed-last}

-- What stands on both sides falls out.
fall_out : (o w x later : ℕ) → bit_xor o (bit_xor w x) ≡ bit_xor x later → bit_xor o w ≡ later
fall_out o w x later same =
    sym (xor_zero_r (bit_xor o w)) ∙ ap (bit_xor (bit_xor o w)) (sym (xor_self x)) ∙ sym (xor_assoc (bit_xor o w) x x)
    ∙ ap (λ (n : ℕ). bit_xor n x) (xor_assoc o w x ∙ same ∙ xor_comm x later)
    ∙ xor_assoc later x x ∙ ap (bit_xor later) (xor_self x) ∙ xor_zero_r later

-- A word that eight bytes are, with what comes to it from words that were moved before.
pub record IsWord (moved eight : List ℕ) (word : ℕ) : Type 0 where
  pub enough : 209 ≤ length moved
  pub is_eight : length eight ≡ 8
  pub are_bytes : (i : ℕ) → get_or eight i 0 < 256
  pub is : word ≡ bit_xor (from_le_bytes w64 eight) (arriving distances moved)
  pub fits : word < 2 ^ 64

-- A word is moved, and stands behind those that were moved before.
pub folded_sum-moved : (moved eight rest : List ℕ) (word : ℕ) → IsWord moved eight word → 1672 ≤ length rest →
    folded_sum 0 moved (eight ++ rest) ≡ folded_sum 0 (moved ++ word ∷ []) rest
unfolding folded_sum
folded_sum-moved moved eight rest word w long =
    let left : ℕ = 8 + length rest in
    let steps : ℕ = 8 * left in
    let own : ℕ = shifts steps (from_le_bytes w64 eight) in
    let behind : ℕ = owed distances (moved ++ word ∷ []) (length rest) in
    let length_is : length (eight ++ rest) ≡ left = omega (arith, length-append eight rest) in
    let left_is : left - 8 ≡ length rest = omega arith in
    let goes : taken_in distances left word ≡ bit_xor own (shifts steps (arriving distances moved)) =
    taken_is left word (omega arith) w.fits ∙ ap (shifts steps) w.is ∙ shifts-xor steps (from_le_bytes w64 eight) (arriving distances moved) in
    ap (λ (n : ℕ). bit_xor (owed distances moved n) (crc_of 0 (eight ++ rest))) length_is
    ∙ ap (bit_xor (owed distances moved left)) (word_first 0 eight rest w.is_eight w.are_bytes)
    ∙ ap (λ (n : ℕ). bit_xor (owed distances moved left) (bit_xor (shifts steps n) (crc_of 0 rest))) (xor_zero_l (from_le_bytes w64 eight))
    ∙ sym (xor_assoc (owed distances moved left) own (crc_of 0 rest))
    ∙ ap (λ (n : ℕ). bit_xor n (crc_of 0 rest))
    (fall_out (owed distances moved left) own (shifts steps (arriving distances moved)) behind
    (ap (bit_xor (owed distances moved left)) (sym goes) ∙ owed-last distances left moved word (all_within (length moved) w.enough)
    ∙ ap (λ (n : ℕ). bit_xor (shifts steps (arriving distances moved)) (owed distances (moved ++ word ∷ []) n)) left_is))

-- A word is not moved: it is summed, and stands as zero behind the others.
pub folded_sum-summed : (sum : ℕ) (moved eight rest : List ℕ) (word : ℕ) → IsWord moved eight word →
    folded_sum sum moved (eight ++ rest) ≡ folded_sum (crc_of sum (to_le_bytes w64 word)) (moved ++ 0 ∷ []) rest
unfolding folded_sum
folded_sum-summed sum moved eight rest word w =
    let left : ℕ = 8 + length rest in
    let steps : ℕ = 8 * left in
    let number : ℕ = from_le_bytes w64 eight in
    let arrives : ℕ = shifts steps (arriving distances moved) in
    let behind : ℕ = owed distances (moved ++ 0 ∷ []) (length rest) in
    let length_is : length (eight ++ rest) ≡ left = omega (arith, length-append eight rest) in
    let left_is : left - 8 ≡ length rest = omega arith in
    let owes : owed distances moved left ≡ bit_xor behind arrives =
    sym (xor_zero_r (owed distances moved left))
    ∙ ap (bit_xor (owed distances moved left)) (sym (taken_in-zero distances left))
    ∙ owed-last distances left moved 0 (all_within (length moved) w.enough)
    ∙ ap (λ (n : ℕ). bit_xor arrives (owed distances (moved ++ 0 ∷ []) n)) left_is
    ∙ xor_comm arrives behind in
    let goes : bit_xor arrives (shifts steps (bit_xor sum number)) ≡ shifts steps (bit_xor sum word) =
    sym (shifts-xor steps (arriving distances moved) (bit_xor sum number))
    ∙ ap (shifts steps) (xor_comm (arriving distances moved) (bit_xor sum number) ∙ xor_assoc sum number (arriving distances moved) ∙ ap (bit_xor sum) (sym w.is)) in
    ap (λ (n : ℕ). bit_xor (owed distances moved n) (crc_of sum (eight ++ rest))) length_is
    ∙ ap (bit_xor (owed distances moved left)) (word_first sum eight rest w.is_eight w.are_bytes)
    ∙ ap (λ (n : ℕ). bit_xor n (bit_xor (shifts steps (bit_xor sum number)) (crc_of 0 rest))) owes
    ∙ xor_assoc behind arrives (bit_xor (shifts steps (bit_xor sum number)) (crc_of 0 rest))
    ∙ ap (bit_xor behind) (sym (xor_assoc arrives (shifts steps (bit_xor sum number)) (crc_of 0 rest)) ∙ ap (λ (n : ℕ). bit_xor n (crc_of 0 rest)) goes)
    ∙ ap (bit_xor behind) (sym (spelled_first sum word rest w.fits))
