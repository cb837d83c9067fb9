-- Laws of the checksum: it is linear in exclusive-or, goes on over joined lists, and keeps to 32
-- bits.
use Rattle.std.proofs.Common.{◌≡◌, ℕ, zero, suc, ◌+◌, ◌*◌, ◌/◌, ◌%◌, ◌^◌, ◌<◌, ◌⊎◌, inl, inr, List, [], ◌∷◌, ◌++◌, length, bit_xor, refl, sym, ap, ◌∙◌, arith, zero-add, add-one, pow-suc, get_or, drop, drop-cons, ◌≤◌, lit<}
use Rattle.std.proofs.Math.ListN.{drop_of_length-le}
use Rattle.std.proofs.Math.Nat.{suc-add}
use Rattle.std.proofs.lemmas.Nat.{xor_shr, xor_mod, xor_comm, xor_lt, mod_below, pow_pos, shr_split}
use Rattle.std.proofs.lemmas.Bool.{cases_eq}
use Rattle.std.specs.Int.Bits.{xor_assoc, xor_self, xor_zero_r, xor_zero_l, xor_shifted}
use Rattle.send_model.specs.Checksum.{shift, shifts, crc_byte, crc_of}

last_bit : (n : ℕ) → (n % 2 ≡ 0) ⊎ (n % 2 ≡ 1)
last_bit n = elim (cases_eq (n % 2) 0) [ inl even ↦ inl even | inr not_even ↦ inr (omega arith) ]

shift-even : (n : ℕ) → n % 2 ≡ 0 → shift n ≡ n / 2
unfolding shift
shift-even n even = rw even refl

shift-odd : (n : ℕ) → n % 2 ≡ 1 → shift n ≡ bit_xor (n / 2) 0x82F63B78
unfolding shift
shift-odd n odd = rw odd refl

-- The second and the third of three change places.
xor_swap : (a b c : ℕ) → bit_xor (bit_xor a b) c ≡ bit_xor (bit_xor a c) b
xor_swap a b c = xor_assoc a b c ∙ ap (bit_xor a) (xor_comm b c) ∙ sym (xor_assoc a c b)

-- What is taken twice falls out.
xor_twice : (a b p : ℕ) → bit_xor (bit_xor a p) (bit_xor b p) ≡ bit_xor a b
xor_twice a b p =
    sym (xor_assoc (bit_xor a p) b p) ∙ ap (λ (x : ℕ). bit_xor x p) (xor_swap a p b)
    ∙ xor_assoc (bit_xor a b) p p ∙ ap (bit_xor (bit_xor a b)) (xor_self p) ∙ xor_zero_r (bit_xor a b)

xor_last : (a b p q : ℕ) → a % 2 ≡ p → b % 2 ≡ q → bit_xor a b % 2 ≡ bit_xor p q
xor_last a b p q first second = xor_mod a b 1 ∙ ap (λ (x : ℕ). bit_xor x (b % 2)) first ∙ ap (bit_xor p) second

pub shift-xor : (a b : ℕ) → shift (bit_xor a b) ≡ bit_xor (shift a) (shift b)
shift-xor a b =
    elim (last_bit a) [
      | inl p ↦ elim (last_bit b) [
        | inl q ↦ shift-even (bit_xor a b) (xor_last a b 0 0 p q) ∙ xor_shr a b 1
            ∙ sym (ap (λ (x : ℕ). bit_xor x (shift b)) (shift-even a p) ∙ ap (bit_xor (a / 2)) (shift-even b q))
        | inr q ↦ shift-odd (bit_xor a b) (xor_last a b 0 1 p q) ∙ ap (λ (x : ℕ). bit_xor x 0x82F63B78) (xor_shr a b 1)
            ∙ xor_assoc (a / 2) (b / 2) 0x82F63B78
            ∙ sym (ap (λ (x : ℕ). bit_xor x (shift b)) (shift-even a p) ∙ ap (bit_xor (a / 2)) (shift-odd b q))
      ]
      | inr p ↦ elim (last_bit b) [
        | inl q ↦ shift-odd (bit_xor a b) (xor_last a b 1 0 p q) ∙ ap (λ (x : ℕ). bit_xor x 0x82F63B78) (xor_shr a b 1)
            ∙ xor_swap (a / 2) (b / 2) 0x82F63B78
            ∙ sym (ap (λ (x : ℕ). bit_xor x (shift b)) (shift-odd a p) ∙ ap (bit_xor (bit_xor (a / 2) 0x82F63B78)) (shift-even b q))
        | inr q ↦ shift-even (bit_xor a b) (xor_last a b 1 1 p q) ∙ xor_shr a b 1
            ∙ sym (xor_twice (a / 2) (b / 2) 0x82F63B78)
            ∙ sym (ap (λ (x : ℕ). bit_xor x (shift b)) (shift-odd a p) ∙ ap (bit_xor (bit_xor (a / 2) 0x82F63B78)) (shift-odd b q))
      ]
    ]

pub shifts-xor : (k a b : ℕ) → shifts k (bit_xor a b) ≡ bit_xor (shifts k a) (shifts k b)
unfolding shifts
shifts-xor zero a b = refl
shifts-xor (suc k) a b = ap (shifts k) (shift-xor a b) ∙ shifts-xor k (shift a) (shift b)

pub shifts-add : (j k n : ℕ) → shifts (j + k) n ≡ shifts k (shifts j n)
unfolding shifts
shifts-add zero k n = rw zero-add refl
shifts-add (suc j) k n = rw suc-add (shifts-add j k (shift n))

-- Bits above the shifted ones only move down.
pub shifts_high : (k n : ℕ) → shifts k (n * 2 ^ k) ≡ n
unfolding shifts
shifts_high zero n = omega arith
shifts_high (suc k) n =
    ap (shifts k) (shift-even (n * 2 ^ suc k) (rw pow-suc (omega arith)) ∙ rw pow-suc (omega arith)) ∙ shifts_high k n

eight_more : (n : ℕ) → 8 + 8 * n ≡ 8 * suc n
eight_more n = omega arith

-- The checksum of two lists that follow one another.
pub crc_of-append : (crc : ℕ) (first second : List ℕ) → crc_of crc (first ++ second) ≡ crc_of (crc_of crc first) second
unfolding crc_of
crc_of-append crc [] second = refl
crc_of-append crc (byte ∷ first) second = crc_of-append (crc_byte crc byte) first second

-- A byte's own part of its step is what it gives from zero.
pub crc_byte-split : (crc byte : ℕ) → crc_byte crc byte ≡ bit_xor (shifts 8 crc) (shifts 8 byte)
unfolding crc_byte
crc_byte-split crc byte = shifts-xor 8 crc byte

pub crc_byte_zero : (byte : ℕ) → crc_byte 0 byte ≡ shifts 8 byte
unfolding crc_byte
crc_byte_zero byte = ap (shifts 8) (xor_zero_l byte)

-- What stood before the bytes is shifted past them all.
pub crc_of-split : (crc : ℕ) (bytes : List ℕ) → crc_of crc bytes ≡ bit_xor (shifts (8 * length bytes) crc) (crc_of 0 bytes)
unfolding crc_of shifts
crc_of-split crc [] = sym (xor_zero_r crc)
crc_of-split crc (byte ∷ rest) =
    crc_of-split (crc_byte crc byte) rest
    ∙ ap (λ (x : ℕ). bit_xor (shifts (8 * length rest) x) (crc_of 0 rest)) (crc_byte-split crc byte)
    ∙ ap (λ (x : ℕ). bit_xor x (crc_of 0 rest)) (shifts-xor (8 * length rest) (shifts 8 crc) (shifts 8 byte))
    ∙ xor_assoc (shifts (8 * length rest) (shifts 8 crc)) (shifts (8 * length rest) (shifts 8 byte)) (crc_of 0 rest)
    ∙ ap (λ (x : ℕ). bit_xor (shifts (8 * length rest) (shifts 8 crc)) (bit_xor (shifts (8 * length rest) x) (crc_of 0 rest)))
    (sym (crc_byte_zero byte))
    ∙ ap (bit_xor (shifts (8 * length rest) (shifts 8 crc))) (sym (crc_of-split (crc_byte 0 byte) rest))
    ∙ ap (λ (x : ℕ). bit_xor x (crc_of (crc_byte 0 byte) rest))
    (sym (shifts-add 8 (8 * length rest) crc) ∙ ap (λ (k : ℕ). shifts k crc) (eight_more (length rest)))

-- A list from zero is its first byte, shifted past the whole list, and the rest from zero.
pub crc_of_zero-cons : (byte : ℕ) (rest : List ℕ) →
    crc_of 0 (byte ∷ rest) ≡ bit_xor (shifts (8 * suc (length rest)) byte) (crc_of 0 rest)
unfolding crc_of
crc_of_zero-cons byte rest =
    ap (λ (x : ℕ). crc_of x rest) (crc_byte_zero byte) ∙ crc_of-split (shifts 8 byte) rest
    ∙ ap (λ (x : ℕ). bit_xor x (crc_of 0 rest))
    (sym (shifts-add 8 (8 * length rest) byte) ∙ ap (λ (k : ℕ). shifts k byte) (eight_more (length rest)))

-- From place i on: the byte there, and then from the next place on.
pub crc_of-next : (crc : ℕ) (bytes : List ℕ) (i : ℕ) → i < length bytes →
    crc_of crc (drop i bytes) ≡ crc_of (crc_byte crc (get_or bytes i 0)) (drop (i + 1) bytes)
unfolding crc_of
crc_of-next crc bytes i within =
    ap (crc_of crc) (drop-cons bytes i 0 within)
    ∙ ap (λ (n : ℕ). crc_of (crc_byte crc (get_or bytes i 0)) (drop n bytes)) (sym (add-one i))

-- From a place past the end there is nothing to sum.
pub crc_of-end : (crc : ℕ) (bytes : List ℕ) (i : ℕ) → length bytes ≤ i → crc_of crc (drop i bytes) ≡ crc
unfolding crc_of
crc_of-end crc bytes i past = ap (crc_of crc) (drop_of_length-le bytes past)

-- Of any number the bits that are shifted out go through the steps, and the others only move down.
pub shifts-parts : (k n : ℕ) → shifts k n ≡ bit_xor (n / 2 ^ k) (shifts k (n % 2 ^ k))
shifts-parts k n =
    ap (shifts k) (sym (xor_shifted (n / 2 ^ k) k (n % 2 ^ k) (mod_below n (2 ^ k) (pow_pos k)) ∙ shr_split n k))
    ∙ shifts-xor k (n / 2 ^ k * 2 ^ k) (n % 2 ^ k)
    ∙ ap (λ (x : ℕ). bit_xor x (shifts k (n % 2 ^ k))) (shifts_high k (n / 2 ^ k))

-- One byte by its step: the low eight bits go through the steps, and the others only move down.
pub crc_byte-parts : (crc byte : ℕ) → byte < 256 → crc_byte crc byte ≡ bit_xor (crc / 256) (shifts 8 (bit_xor crc byte % 256))
unfolding crc_byte
crc_byte-parts crc byte is_byte =
    let nothing : byte / 256 ≡ 0 = omega arith in
    shifts-parts 8 (bit_xor crc byte)
    ∙ ap (λ (x : ℕ). bit_xor x (shifts 8 (bit_xor crc byte % 256)))
    (xor_shr crc byte 8 ∙ ap (bit_xor (crc / 256)) nothing ∙ xor_zero_r (crc / 256))

-- A checksum of two numbers together is one of the first, with the second shifted past the bytes.
pub crc_of-xor : (first second : ℕ) (bytes : List ℕ) →
    crc_of (bit_xor first second) bytes ≡ bit_xor (shifts (8 * length bytes) second) (crc_of first bytes)
crc_of-xor first second bytes =
    crc_of-split (bit_xor first second) bytes
    ∙ ap (λ (x : ℕ). bit_xor x (crc_of 0 bytes)) (shifts-xor (8 * length bytes) first second ∙ xor_comm (shifts (8 * length bytes) first) (shifts (8 * length bytes) second))
    ∙ xor_assoc (shifts (8 * length bytes) second) (shifts (8 * length bytes) first) (crc_of 0 bytes)
    ∙ ap (bit_xor (shifts (8 * length bytes) second)) (sym (crc_of-split first bytes))

-- A list's checksum by its first byte: what the low eight bits become past the whole list, and the
-- others over the rest.
pub crc_of-cons : (crc byte : ℕ) (rest : List ℕ) → byte < 256 →
    crc_of crc (byte ∷ rest) ≡ bit_xor (shifts (8 * suc (length rest)) (bit_xor crc byte % 256)) (crc_of (crc / 256) rest)
unfolding crc_of
crc_of-cons crc byte rest is_byte =
    ap (λ (x : ℕ). crc_of x rest) (crc_byte-parts crc byte is_byte)
    ∙ crc_of-xor (crc / 256) (shifts 8 (bit_xor crc byte % 256)) rest
    ∙ ap (λ (x : ℕ). bit_xor x (crc_of (crc / 256) rest))
    (sym (shifts-add 8 (8 * length rest) (bit_xor crc byte % 256))
    ∙ ap (λ (k : ℕ). shifts k (bit_xor crc byte % 256)) (eight_more (length rest)))

-- The checksum keeps to 32 bits.
pub shift-below : (n : ℕ) → n < 2 ^ 32 → shift n < 2 ^ 32
shift-below n below =
    elim (last_bit n) [
      | inl even ↦ rw (shift-even n even) (omega arith)
      | inr odd ↦ rw (shift-odd n odd) (xor_lt 32 (n / 2) 0x82F63B78 (omega arith) (lit< tt))
    ]

pub shifts-below : (k n : ℕ) → n < 2 ^ 32 → shifts k n < 2 ^ 32
unfolding shifts
shifts-below zero n below = below
shifts-below (suc k) n below = shifts-below k (shift n) (shift-below n below)

pub crc_byte-below : (crc byte : ℕ) → crc < 2 ^ 32 → byte < 256 → crc_byte crc byte < 2 ^ 32
unfolding crc_byte
crc_byte-below crc byte below is_byte =
    shifts-below 8 (bit_xor crc byte) (xor_lt 32 crc byte below (omega arith))

pub crc_of-below : (crc : ℕ) (bytes : List ℕ) → crc < 2 ^ 32 → ((i : ℕ) → get_or bytes i 0 < 256) → crc_of crc bytes < 2 ^ 32
unfolding crc_of
crc_of-below crc [] below are_bytes = below
crc_of-below crc (byte ∷ rest) below are_bytes =
    crc_of-below (crc_byte crc byte) rest (crc_byte-below crc byte below (are_bytes 0)) (λ i. are_bytes (suc i))
