-- Where a word may go: the steps of 209 words of zero bytes make of a number what those of 144, 54,
-- 39, 14 and 0 words make of it together. The checker computes it of one bit, and every number of
-- 32 bits follows, as the steps commute and are linear.
use Rattle.std.proofs.Common.{◌≡◌, ℕ, zero, suc, ◌+◌, ◌-◌, ◌*◌, ◌/◌, ◌%◌, ◌^◌, ◌<◌, ◌≤◌, List, [], ◌∷◌, map, bit_xor, refl, sym, ap, subst, ◌∙◌, arith}
use Rattle.std.proofs.lemmas.Nat.{xor_comm, mod_below, pow_pos, pow-add, shr_split, shr_below}
use Rattle.std.specs.Int.Bits.{xor_assoc, xor_self, xor_shifted}
use Rattle.send_model.specs.Checksum.{shift, shifts}
use Rattle.send_model.proofs.ChecksumLaws.{shifts-xor, shifts-add, shifts_high}
use Rattle.crc32c_part.specs.FoldedSums.{distances}

-- What a number becomes after so many steps each, all together.
unfoldable pub shifts_by : List ℕ → ℕ → ℕ
shifts_by [] n = 0
shifts_by (steps ∷ more) n = bit_xor (shifts steps n) (shifts_by more n)

-- The steps that are left of those of 209 words from each distance on.
unfoldable pub steps_left : List ℕ → List ℕ
steps_left taken = map (λ distance. 64 * (209 - distance)) taken

-- A number for which these make what the 64 * 209 steps of 209 words make.
abbrev pub Agrees : ℕ → Type 0
Agrees n = shifts_by (steps_left distances) n ≡ shifts 13376 n

-- The highest bit, for which the checker goes through all steps.
one_bit : Agrees 0x80000000
unfolding shift shifts shifts_by steps_left
one_bit = refl

-- The exclusive-or of two sums.
pub xor_sums : (a b c d : ℕ) → bit_xor (bit_xor a b) (bit_xor c d) ≡ bit_xor (bit_xor a c) (bit_xor b d)
xor_sums a b c d =
    xor_assoc a b (bit_xor c d)
    ∙ ap (bit_xor a) (sym (xor_assoc b c d) ∙ ap (λ (x : ℕ). bit_xor x d) (xor_comm b c) ∙ xor_assoc c b d)
    ∙ sym (xor_assoc a c (bit_xor b d))

pub shifts-zero : (k : ℕ) → shifts k 0 ≡ 0
shifts-zero k = ap (shifts k) (sym (xor_self 0)) ∙ shifts-xor k 0 0 ∙ xor_self (shifts k 0)

shifts-swap : (j k n : ℕ) → shifts j (shifts k n) ≡ shifts k (shifts j n)
shifts-swap j k n =
    let same : k + j ≡ j + k = omega arith in
    sym (shifts-add k j n) ∙ ap (λ (steps : ℕ). shifts steps n) same ∙ shifts-add j k n

shifts_by-xor : (list : List ℕ) (a b : ℕ) → shifts_by list (bit_xor a b) ≡ bit_xor (shifts_by list a) (shifts_by list b)
unfolding shifts_by
shifts_by-xor [] a b = sym (xor_self 0)
shifts_by-xor (steps ∷ more) a b =
    ap (λ (x : ℕ). bit_xor x (shifts_by more (bit_xor a b))) (shifts-xor steps a b)
    ∙ ap (bit_xor (bit_xor (shifts steps a) (shifts steps b))) (shifts_by-xor more a b)
    ∙ xor_sums (shifts steps a) (shifts steps b) (shifts_by more a) (shifts_by more b)

shifts_by-shifts : (list : List ℕ) (k n : ℕ) → shifts_by list (shifts k n) ≡ shifts k (shifts_by list n)
unfolding shifts_by
shifts_by-shifts [] k n = sym (shifts-zero k)
shifts_by-shifts (steps ∷ more) k n =
    ap (λ (x : ℕ). bit_xor x (shifts_by more (shifts k n))) (shifts-swap steps k n)
    ∙ ap (bit_xor (shifts k (shifts steps n))) (shifts_by-shifts more k n)
    ∙ sym (shifts-xor k (shifts steps n) (shifts_by more n))

-- A lower bit is the highest one, some steps later.
lower_bit : (k j : ℕ) → k + j ≡ 31 → 2 ^ k ≡ shifts j 0x80000000
lower_bit k j together = sym (ap (shifts j) (ap (λ (n : ℕ). 2 ^ n) (sym together) ∙ pow-add 2 k j) ∙ shifts_high j (2 ^ k))

each_bit : (k : ℕ) → k < 32 → Agrees (2 ^ k)
each_bit k low =
    let j : ℕ = 31 - k in
    let is : 2 ^ k ≡ shifts j 0x80000000 = lower_bit k j (omega arith) in
    ap (shifts_by (steps_left distances)) is
    ∙ shifts_by-shifts (steps_left distances) j 0x80000000
    ∙ ap (shifts j) one_bit
    ∙ shifts-swap j 13376 0x80000000
    ∙ ap (shifts 13376) (sym is)

both : (a b : ℕ) → Agrees a → Agrees b → Agrees (bit_xor a b)
both a b first second =
    shifts_by-xor (steps_left distances) a b
    ∙ ap (λ (x : ℕ). bit_xor x (shifts_by (steps_left distances) b)) first
    ∙ ap (bit_xor (shifts 13376 a)) second
    ∙ sym (shifts-xor 13376 a b)

none : Agrees 0
none = subst Agrees (xor_self 0x80000000) (both 0x80000000 0x80000000 one_bit one_bit)

-- One bit or none, at a place.
bit_at : (k bit : ℕ) → k < 32 → bit < 2 → Agrees (bit * 2 ^ k)
bit_at k zero low is_bit = let is : 0 ≡ 0 * 2 ^ k = omega arith in subst Agrees is none
bit_at k (suc zero) low is_bit = let is : 2 ^ k ≡ 1 * 2 ^ k = omega arith in subst Agrees is (each_bit k low)
bit_at k (suc (suc more)) low is_bit = absurd (omega arith)

-- The highest of some bits, and those below it.
top_split : (k n : ℕ) → bit_xor (n / 2 ^ k * 2 ^ k) (n % 2 ^ k) ≡ n
top_split k n = xor_shifted (n / 2 ^ k) k (n % 2 ^ k) (mod_below n (2 ^ k) (pow_pos k)) ∙ shr_split n k

pub low_bits : (k n : ℕ) → k ≤ 32 → n < 2 ^ k → Agrees n
low_bits zero n low below = let is : 0 ≡ n = omega arith in subst Agrees is none
low_bits (suc k) n low below =
    let width : suc k ≡ 1 + k = omega arith in
    let fits : n < 2 ^ (1 + k) = subst (λ (j : ℕ). n < 2 ^ j) width below in
    subst Agrees (top_split k n)
    (both (n / 2 ^ k * 2 ^ k) (n % 2 ^ k)
    (bit_at k (n / 2 ^ k) (omega arith) (shr_below n 1 k fits))
    (low_bits k (n % 2 ^ k) (omega arith) (mod_below n (2 ^ k) (pow_pos k))))
