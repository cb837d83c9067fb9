-- Eight bytes as one word: their checksum, and the word's part in that of all that follows.
use Rattle.std.proofs.Common.{◌≡◌, ℕ, zero, suc, ◌+◌, ◌*◌, ◌/◌, ◌%◌, ◌^◌, ◌<◌, List, [], ◌∷◌, ◌++◌, length, take, get_or, bit_xor, refl, sym, ap, ◌∙◌, arith, pow-suc}
use Rattle.std.proofs.Math.Seq.{take-suc}
use Rattle.std.proofs.lemmas.List.{take_all, length-take-le}
use Rattle.std.proofs.lemmas.Nat.{xor_comm, xor_lt, from_le_bytes-to_le_bytes_8}
use Rattle.std.specs.Int.{w64, from_le_bytes, to_le_bytes, sum_through, byte_worth}
use Rattle.std.specs.Int.Bits.{xor_shifted}
use Rattle.send_model.specs.Checksum.{shifts, crc_of}
use Rattle.send_model.proofs.Canonical.{bytes_at, le8_bytes}
use Rattle.send_model.proofs.ChecksumLaws.{shifts-xor, shifts-add, shifts_high, shifts-parts, shifts-below, crc_of-append, crc_of-split, crc_of_zero-cons}

-- The number whose bytes these are, the lowest first.
abbrev number_of : List ℕ → ℕ
number_of [] = 0
number_of (byte ∷ bytes) = byte + 256 * number_of bytes

low_byte : (byte rest : ℕ) → byte < 256 → shifts 8 (byte + 256 * rest) ≡ bit_xor rest (shifts 8 byte)
low_byte byte rest is_byte =
    let apart : byte + 256 * rest ≡ rest * 2 ^ 8 + byte = omega arith in
    ap (shifts 8) (apart ∙ sym (xor_shifted rest 8 byte is_byte))
    ∙ shifts-xor 8 (rest * 2 ^ 8) byte ∙ ap (λ (n : ℕ). bit_xor n (shifts 8 byte)) (shifts_high 8 rest)

-- Eight steps first, and then those of `count` bytes.
eight_first : (count n : ℕ) → shifts (8 * suc count) n ≡ shifts (8 * count) (shifts 8 n)
eight_first count n =
    let steps : 8 * suc count ≡ 8 + 8 * count = omega arith in
    ap (λ (k : ℕ). shifts k n) steps ∙ shifts-add 8 (8 * count) n

number_sum : (bytes : List ℕ) → ((i : ℕ) → get_or bytes i 0 < 256) → shifts (8 * length bytes) (number_of bytes) ≡ crc_of 0 bytes
unfolding shifts crc_of
number_sum [] are_bytes = refl
number_sum (byte ∷ bytes) are_bytes =
    let n : ℕ = length bytes in
    eight_first n (byte + 256 * number_of bytes)
    ∙ ap (shifts (8 * n)) (low_byte byte (number_of bytes) (are_bytes 0))
    ∙ shifts-xor (8 * n) (number_of bytes) (shifts 8 byte)
    ∙ ap (λ (sum : ℕ). bit_xor sum (shifts (8 * n) (shifts 8 byte))) (number_sum bytes (λ i. are_bytes (suc i)))
    ∙ xor_comm (crc_of 0 bytes) (shifts (8 * n) (shifts 8 byte))
    ∙ ap (λ (part : ℕ). bit_xor part (crc_of 0 bytes)) (sym (eight_first n byte))
    ∙ sym (crc_of_zero-cons byte bytes)

number_of-last : (bytes : List ℕ) (byte : ℕ) → number_of (bytes ++ byte ∷ []) ≡ number_of bytes + byte * 256 ^ length bytes
number_of-last [] byte = omega arith
number_of-last (first ∷ bytes) byte = rw (number_of-last bytes byte, pow-suc) (omega arith)

through_is : (bytes : List ℕ) (n : ℕ) → n < length bytes →
    sum_through (λ i. byte_worth i (get_or bytes i 0)) n ≡ number_of (take (suc n) bytes)
through_is [] zero within = absurd (omega arith)
through_is (byte ∷ bytes) zero within = omega arith
through_is bytes (suc n) within =
    let before : sum_through (λ i. byte_worth i (get_or bytes i 0)) n ≡ number_of (take (suc n) bytes) = through_is bytes n (omega arith) in
    let long : length (take (suc n) bytes) ≡ suc n = length-take-le (suc n) bytes (omega arith) in
    ap (λ (x : ℕ). x + get_or bytes (suc n) 0 * 256 ^ suc n) before
    ∙ ap (λ (k : ℕ). number_of (take (suc n) bytes) + get_or bytes (suc n) 0 * 256 ^ k) (sym long)
    ∙ sym (number_of-last (take (suc n) bytes) (get_or bytes (suc n) 0))
    ∙ ap number_of (sym (take-suc bytes (suc n) 0 within))

-- The checksum of eight bytes by the word that they are.
pub word_sum : (bytes : List ℕ) → length bytes ≡ 8 → ((i : ℕ) → get_or bytes i 0 < 256) → shifts 64 (from_le_bytes w64 bytes) ≡ crc_of 0 bytes
word_sum bytes long are_bytes =
    ap (shifts 64) (through_is bytes 7 (omega arith) ∙ ap number_of (take_all 8 bytes (omega arith)))
    ∙ ap (λ (k : ℕ). shifts k (number_of bytes)) (sym (ap (λ (n : ℕ). 8 * n) long))
    ∙ number_sum bytes are_bytes

-- The same from any checksum.
pub word_more : (crc : ℕ) (bytes : List ℕ) → length bytes ≡ 8 → ((i : ℕ) → get_or bytes i 0 < 256) →
    crc_of crc bytes ≡ shifts 64 (bit_xor crc (from_le_bytes w64 bytes))
word_more crc bytes long are_bytes =
    crc_of-split crc bytes
    ∙ ap (λ (n : ℕ). bit_xor (shifts (8 * n) crc) (crc_of 0 bytes)) long
    ∙ ap (bit_xor (shifts 64 crc)) (sym (word_sum bytes long are_bytes))
    ∙ sym (shifts-xor 64 crc (from_le_bytes w64 bytes))

-- A word in front of bytes, taken together with the checksum so far, is shifted past itself and
-- them.
pub word_first : (crc : ℕ) (word rest : List ℕ) → length word ≡ 8 → ((i : ℕ) → get_or word i 0 < 256) →
    crc_of crc (word ++ rest) ≡ bit_xor (shifts (8 * (8 + length rest)) (bit_xor crc (from_le_bytes w64 word))) (crc_of 0 rest)
word_first crc word rest long are_bytes =
    let number : ℕ = bit_xor crc (from_le_bytes w64 word) in
    let steps : 64 + 8 * length rest ≡ 8 * (8 + length rest) = omega arith in
    crc_of-append crc word rest
    ∙ ap (λ (sum : ℕ). crc_of sum rest) (word_more crc word long are_bytes)
    ∙ crc_of-split (shifts 64 number) rest
    ∙ ap (λ (part : ℕ). bit_xor part (crc_of 0 rest)) (sym (shifts-add 64 (8 * length rest) number) ∙ ap (λ (k : ℕ). shifts k number) steps)

-- The same of the bytes that a word is spelled with.
pub spelled_first : (crc number : ℕ) (rest : List ℕ) → number < 2 ^ 64 →
    crc_of (crc_of crc (to_le_bytes w64 number)) rest ≡ bit_xor (shifts (8 * (8 + length rest)) (bit_xor crc number)) (crc_of 0 rest)
spelled_first crc number rest fits =
    sym (crc_of-append crc (to_le_bytes w64 number) rest)
    ∙ word_first crc (to_le_bytes w64 number) rest refl (bytes_at (to_le_bytes w64 number) (le8_bytes number))
    ∙ ap (λ (n : ℕ). bit_xor (shifts (8 * (8 + length rest)) (bit_xor crc n)) (crc_of 0 rest)) (from_le_bytes-to_le_bytes_8 number fits)

-- Eight bytes of zeros bring any word down to 32 bits.
pub shifts_64-below : (n : ℕ) → n < 2 ^ 64 → shifts 64 n < 2 ^ 32
shifts_64-below n fits =
    rw (shifts-add 32 32 n, shifts-parts 32 n)
    (shifts-below 32 (bit_xor (n / 2 ^ 32) (shifts 32 (n % 2 ^ 32)))
    (xor_lt 32 (n / 2 ^ 32) (shifts 32 (n % 2 ^ 32)) (omega arith) (shifts-below 32 (n % 2 ^ 32) (omega arith))))
