-- A block of sixteen bytes, and one of four, as the parts of its bytes, and a list as its blocks.
use Rattle.std.proofs.Common.{◌≡◌, ℕ, zero, suc, ◌+◌, ◌*◌, ◌/◌, ◌%◌, ◌^◌, ◌<◌, List, length, take, drop, get_or, bit_xor, bit_and, refl, sym, ap, ◌∙◌, arith, drop-cons, length-drop, zero-mul}
use Rattle.std.proofs.lemmas.List.{take-append-drop, drop-drop}
use Rattle.std.proofs.lemmas.Nat.{xor_comm, and_mask, shr-shr}
use Rattle.std.proofs.Math.Seq.{drop-length}
use Rattle.std.specs.Int.Bits.{xor_assoc, xor_zero_r}
use Rattle.std.specs.List.{fold}
use Rattle.std.specs.Simd.{first_chunks}
use Rattle.send_model.specs.Checksum.{shifts, crc_byte, crc_of}
use Rattle.send_model.proofs.ChecksumLaws.{crc_byte-parts, crc_of-append, crc_of-cons, crc_of_zero-cons}

long_after : (bytes : List ℕ) (i k : ℕ) → length bytes ≡ i + suc k → length (drop (suc i) bytes) ≡ k
long_after bytes i k long = length-drop (suc i) bytes ∙ omega arith

-- The checksum from place i on, by the byte there.
at_place : (crc : ℕ) (bytes : List ℕ) (i k : ℕ) → length bytes ≡ i + suc k → get_or bytes i 0 < 256 →
    crc_of crc (drop i bytes) ≡ bit_xor (shifts (8 * suc k) (bit_xor crc (get_or bytes i 0) % 256)) (crc_of (crc / 256) (drop (suc i) bytes))
at_place crc bytes i k long is_byte =
    ap (crc_of crc) (drop-cons bytes i 0 (omega arith))
    ∙ crc_of-cons crc (get_or bytes i 0) (drop (suc i) bytes) is_byte
    ∙ ap (λ (n : ℕ). bit_xor (shifts (8 * suc n) (bit_xor crc (get_or bytes i 0) % 256)) (crc_of (crc / 256) (drop (suc i) bytes)))
    (long_after bytes i k long)

-- The same from zero.
zero_at_place : (bytes : List ℕ) (i k : ℕ) → length bytes ≡ i + suc k →
    crc_of 0 (drop i bytes) ≡ bit_xor (shifts (8 * suc k) (get_or bytes i 0)) (crc_of 0 (drop (suc i) bytes))
zero_at_place bytes i k long =
    ap (crc_of 0) (drop-cons bytes i 0 (omega arith))
    ∙ crc_of_zero-cons (get_or bytes i 0) (drop (suc i) bytes)
    ∙ ap (λ (n : ℕ). bit_xor (shifts (8 * suc n) (get_or bytes i 0)) (crc_of 0 (drop (suc i) bytes))) (long_after bytes i k long)

-- A sum of parts takes in the byte at place i.
take_in : (sum : ℕ) (bytes : List ℕ) (i k : ℕ) → length bytes ≡ i + suc k →
    bit_xor sum (crc_of 0 (drop i bytes)) ≡ bit_xor (bit_xor sum (shifts (8 * suc k) (get_or bytes i 0))) (crc_of 0 (drop (suc i) bytes))
take_in sum bytes i k long =
    ap (bit_xor sum) (zero_at_place bytes i k long)
    ∙ sym (xor_assoc sum (shifts (8 * suc k) (get_or bytes i 0)) (crc_of 0 (drop (suc i) bytes)))

nothing_left : (size sum : ℕ) (bytes : List ℕ) → length bytes ≡ size → bit_xor sum (crc_of 0 (drop size bytes)) ≡ sum
unfolding crc_of
nothing_left size sum bytes long =
    ap (λ (n : ℕ). bit_xor sum (crc_of 0 (drop n bytes))) (sym long)
    ∙ ap (λ (rest : List ℕ). bit_xor sum (crc_of 0 rest)) (drop-length bytes) ∙ xor_zero_r sum

-- The last twelve bytes of a block.
pub last_twelve_parts : (b : List ℕ) → length b ≡ 16 →
    bit_xor (bit_xor (bit_xor (bit_xor (bit_xor (bit_xor (bit_xor (bit_xor (bit_xor (bit_xor (bit_xor (shifts 96 (get_or b 4 0)) (shifts 88 (get_or b 5 0))) (shifts 80 (get_or b 6 0))) (shifts 72 (get_or b 7 0))) (shifts 64 (get_or b 8 0))) (shifts 56 (get_or b 9 0))) (shifts 48 (get_or b 10 0))) (shifts 40 (get_or b 11 0))) (shifts 32 (get_or b 12 0))) (shifts 24 (get_or b 13 0))) (shifts 16 (get_or b 14 0))) (shifts 8 (get_or b 15 0)) ≡ crc_of 0 (drop 4 b)
last_twelve_parts b long =
    let to_4 : ℕ = shifts 96 (get_or b 4 0) in
    let to_5 : ℕ = bit_xor to_4 (shifts 88 (get_or b 5 0)) in
    let to_6 : ℕ = bit_xor to_5 (shifts 80 (get_or b 6 0)) in
    let to_7 : ℕ = bit_xor to_6 (shifts 72 (get_or b 7 0)) in
    let to_8 : ℕ = bit_xor to_7 (shifts 64 (get_or b 8 0)) in
    let to_9 : ℕ = bit_xor to_8 (shifts 56 (get_or b 9 0)) in
    let to_10 : ℕ = bit_xor to_9 (shifts 48 (get_or b 10 0)) in
    let to_11 : ℕ = bit_xor to_10 (shifts 40 (get_or b 11 0)) in
    let to_12 : ℕ = bit_xor to_11 (shifts 32 (get_or b 12 0)) in
    let to_13 : ℕ = bit_xor to_12 (shifts 24 (get_or b 13 0)) in
    let to_14 : ℕ = bit_xor to_13 (shifts 16 (get_or b 14 0)) in
    let to_15 : ℕ = bit_xor to_14 (shifts 8 (get_or b 15 0)) in
    sym (zero_at_place b 4 11 (omega arith)
    ∙ take_in to_4 b 5 10 (omega arith)
    ∙ take_in to_5 b 6 9 (omega arith)
    ∙ take_in to_6 b 7 8 (omega arith)
    ∙ take_in to_7 b 8 7 (omega arith)
    ∙ take_in to_8 b 9 6 (omega arith)
    ∙ take_in to_9 b 10 5 (omega arith)
    ∙ take_in to_10 b 11 4 (omega arith)
    ∙ take_in to_11 b 12 3 (omega arith)
    ∙ take_in to_12 b 13 2 (omega arith)
    ∙ take_in to_13 b 14 1 (omega arith)
    ∙ take_in to_14 b 15 0 (omega arith)
    ∙ nothing_left 16 to_15 b long)

-- The byte at place i, as the code masks it.
masked_at_place : (crc next : ℕ) (b : List ℕ) (i k : ℕ) → length b ≡ i + suc k → get_or b i 0 < 256 → crc / 256 ≡ next →
    bit_xor (shifts (8 * suc k) (bit_and (bit_xor crc (get_or b i 0)) 255)) (crc_of next (drop (suc i) b)) ≡ crc_of crc (drop i b)
masked_at_place crc next b i k long is_byte moved =
    ap (λ (n : ℕ). bit_xor (shifts (8 * suc k) n) (crc_of next (drop (suc i) b))) (and_mask (bit_xor crc (get_or b i 0)) 8)
    ∙ ap (λ (n : ℕ). bit_xor (shifts (8 * suc k) (bit_xor crc (get_or b i 0) % 256)) (crc_of n (drop (suc i) b))) (sym moved)
    ∙ sym (at_place crc b i k long is_byte)

from_the_right : (w x y z rest : ℕ) →
    bit_xor (bit_xor (bit_xor (bit_xor w x) y) z) rest ≡ bit_xor w (bit_xor x (bit_xor y (bit_xor z rest)))
from_the_right w x y z rest = simp xor_assoc

-- The first four bytes of a block, into which the 32 bits of the checksum go.
pub first_four_parts : (crc : ℕ) (b : List ℕ) → crc < 2 ^ 32 → length b ≡ 16 → ((i : ℕ) → get_or b i 0 < 256) →
    bit_xor (crc_of 0 (drop 4 b))
    (bit_xor
    (bit_xor
    (bit_xor (shifts 128 (bit_and (bit_xor crc (get_or b 0 0)) 255))
    (shifts 120 (bit_and (bit_xor (crc / 2 ^ 8) (get_or b 1 0)) 255)))
    (shifts 112 (bit_and (bit_xor (crc / 2 ^ 16) (get_or b 2 0)) 255)))
    (shifts 104 (bit_and (bit_xor (crc / 2 ^ 24) (get_or b 3 0)) 255)))
    ≡ crc_of crc b
first_four_parts crc b is_word long are_bytes =
    let w : ℕ = shifts 128 (bit_and (bit_xor crc (get_or b 0 0)) 255) in
    let x : ℕ = shifts 120 (bit_and (bit_xor (crc / 2 ^ 8) (get_or b 1 0)) 255) in
    let y : ℕ = shifts 112 (bit_and (bit_xor (crc / 2 ^ 16) (get_or b 2 0)) 255) in
    let z : ℕ = shifts 104 (bit_and (bit_xor (crc / 2 ^ 24) (get_or b 3 0)) 255) in
    xor_comm (crc_of 0 (drop 4 b)) (bit_xor (bit_xor (bit_xor w x) y) z)
    ∙ from_the_right w x y z (crc_of 0 (drop 4 b))
    ∙ ap (λ (n : ℕ). bit_xor w (bit_xor x (bit_xor y n)))
    (masked_at_place (crc / 2 ^ 24) 0 b 3 12 (omega arith) (are_bytes 3) (omega arith))
    ∙ ap (λ (n : ℕ). bit_xor w (bit_xor x n))
    (masked_at_place (crc / 2 ^ 16) (crc / 2 ^ 24) b 2 13 (omega arith) (are_bytes 2) (shr-shr crc 16 8))
    ∙ ap (λ (n : ℕ). bit_xor w n)
    (masked_at_place (crc / 2 ^ 8) (crc / 2 ^ 16) b 1 14 (omega arith) (are_bytes 1) (shr-shr crc 8 8))
    ∙ masked_at_place crc (crc / 2 ^ 8) b 0 15 (omega arith) (are_bytes 0) refl

-- Four bytes, into which the 32 bits of the checksum go.
pub four_parts : (crc : ℕ) (b : List ℕ) → crc < 2 ^ 32 → length b ≡ 4 → ((i : ℕ) → get_or b i 0 < 256) →
    bit_xor
    (bit_xor
    (bit_xor (shifts 32 (bit_and (bit_xor crc (get_or b 0 0)) 255))
    (shifts 24 (bit_and (bit_xor (crc / 2 ^ 8) (get_or b 1 0)) 255)))
    (shifts 16 (bit_and (bit_xor (crc / 2 ^ 16) (get_or b 2 0)) 255)))
    (shifts 8 (bit_and (bit_xor (crc / 2 ^ 24) (get_or b 3 0)) 255))
    ≡ crc_of crc b
four_parts crc b is_word long are_bytes =
    let w : ℕ = shifts 32 (bit_and (bit_xor crc (get_or b 0 0)) 255) in
    let x : ℕ = shifts 24 (bit_and (bit_xor (crc / 2 ^ 8) (get_or b 1 0)) 255) in
    let y : ℕ = shifts 16 (bit_and (bit_xor (crc / 2 ^ 16) (get_or b 2 0)) 255) in
    let z : ℕ = shifts 8 (bit_and (bit_xor (crc / 2 ^ 24) (get_or b 3 0)) 255) in
    sym (nothing_left 4 (bit_xor (bit_xor (bit_xor w x) y) z) b long)
    ∙ from_the_right w x y z (crc_of 0 (drop 4 b))
    ∙ ap (λ (n : ℕ). bit_xor w (bit_xor x (bit_xor y n)))
    (masked_at_place (crc / 2 ^ 24) 0 b 3 0 (omega arith) (are_bytes 3) (omega arith))
    ∙ ap (λ (n : ℕ). bit_xor w (bit_xor x n))
    (masked_at_place (crc / 2 ^ 16) (crc / 2 ^ 24) b 2 1 (omega arith) (are_bytes 2) (shr-shr crc 16 8))
    ∙ ap (λ (n : ℕ). bit_xor w n)
    (masked_at_place (crc / 2 ^ 8) (crc / 2 ^ 16) b 1 2 (omega arith) (are_bytes 1) (shr-shr crc 8 8))
    ∙ masked_at_place crc (crc / 2 ^ 8) b 0 3 (omega arith) (are_bytes 0) refl

-- One byte, as the code masks it.
pub one_byte_parts : (crc byte : ℕ) → byte < 256 →
    bit_xor (crc / 2 ^ 8) (shifts 8 (bit_and (bit_xor crc byte) 255)) ≡ crc_byte crc byte
one_byte_parts crc byte is_byte =
    ap (λ (n : ℕ). bit_xor (crc / 256) (shifts 8 n)) (and_mask (bit_xor crc byte) 8) ∙ sym (crc_byte-parts crc byte is_byte)

-- A list is its first blocks of `size` bytes and what is left.
pub by_blocks : (size count crc : ℕ) (bytes : List ℕ) →
    crc_of (fold crc_of crc (first_chunks size count bytes)) (drop (count * size) bytes) ≡ crc_of crc bytes
by_blocks size zero crc bytes = rw zero-mul refl
by_blocks size (suc count) crc bytes =
    ap (crc_of (fold crc_of (crc_of crc (take size bytes)) (first_chunks size count (drop size bytes))))
    (sym (drop-drop (count * size) size bytes ∙ ap (λ (n : ℕ). drop n bytes) (omega arith)))
    ∙ by_blocks size count (crc_of crc (take size bytes)) (drop size bytes)
    ∙ sym (crc_of-append crc (take size bytes) (drop size bytes))
    ∙ ap (crc_of crc) (take-append-drop size bytes)
