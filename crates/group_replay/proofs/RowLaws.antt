-- Checksums that move past bytes, by the bits of the checksum and of the number of bytes.
use Rattle.std.proofs.Common.{◌≡◌, ℕ, suc, ◌+◌, ◌-◌, ◌*◌, ◌/◌, ◌%◌, ◌^◌, ◌<◌, ◌≤◌, List, ◌∷◌, length, drop, get_or, bit_xor, bit_and, sym, ap, ◌∙◌, arith, add-one, drop-cons, pow-suc, subst}
use Rattle.std.proofs.Math.Nat.{mul-zero}
use Rattle.std.proofs.Math.ListN.{drop_of_length-le}
use Rattle.std.proofs.lemmas.Nat.{and_mask}
use Rattle.std.specs.Int.Bits.{xor_assoc, xor_zero_r}
use Rattle.send_model.specs.Checksum.{shifts}
use Rattle.send_model.proofs.ChecksumLaws.{shifts-add}
use Rattle.group_replay.specs.Sums.{by_bits}

-- ---- the bits of a number, one after the other

last_is : (n : ℕ) → bit_and n 1 ≡ n % 2
last_is n = and_mask n 1

one_taken : (row : List ℕ) (n x : ℕ) → by_bits (x ∷ row) n ≡ bit_xor (x * bit_and n 1) (by_bits row (n / 2))
unfolding by_bits
one_taken row n x = ap (λ (b : ℕ). bit_xor (x * b) (by_bits row (n / 2))) (sym (last_is n))

pub next_taken : (row : List ℕ) (out n i : ℕ) → i < length row
    → bit_xor (bit_xor out (get_or row i 0 * bit_and n 1)) (by_bits (drop (i + 1) row) (n / 2)) ≡ bit_xor out (by_bits (drop i row) n)
next_taken row out n i within =
    xor_assoc out (get_or row i 0 * bit_and n 1) (by_bits (drop (i + 1) row) (n / 2))
    ∙ ap (bit_xor out) (sym (
    ap (λ (l : List ℕ). by_bits l n) (drop-cons row i 0 within ∙ ap (λ (k : ℕ). get_or row i 0 ∷ drop k row) (sym (add-one i)))
    ∙ one_taken (drop (i + 1) row) n (get_or row i 0)))

pub none_left : (row : List ℕ) (out n i : ℕ) → length row ≤ i → bit_xor out (by_bits (drop i row) n) ≡ out
unfolding by_bits
none_left row out n i past = ap (λ (l : List ℕ). bit_xor out (by_bits l n)) (drop_of_length-le row past) ∙ xor_zero_r out

-- ---- the bits of a number of bytes

halves : (n : ℕ) → n % 2 + 2 * (n / 2) ≡ n
halves n = omega arith

-- past one bit of the number of bytes that are left
pub past_set : (power next out left : ℕ) → next ≡ power * 2 → bit_and left 1 ≡ 1 → shifts (8 * next * (left / 2)) (shifts (8 * power) out) ≡ shifts (8 * power * left) out
past_set power next out left twice set =
    let odd : left % 2 ≡ 1 = sym (last_is left) ∙ set in
    let join : (h : ℕ) → 8 * power + 8 * (power * 2) * h ≡ 8 * power * (1 + 2 * h) = λ h. omega arith in
    sym (shifts-add (8 * power) (8 * next * (left / 2)) out)
    ∙ ap (λ (n : ℕ). shifts (8 * power + 8 * n * (left / 2)) out) twice
    ∙ ap (λ (n : ℕ). shifts n out) (join (left / 2) ∙ ap (λ (n : ℕ). 8 * power * n) (omega (arith, odd)))

pub past_clear : (power next out left : ℕ) → next ≡ power * 2 → (bit_and left 1 ≡ 1 → ⊥) → shifts (8 * next * (left / 2)) out ≡ shifts (8 * power * left) out
past_clear power next out left twice clear =
    let odd : left % 2 ≡ 1 → ⊥ = λ odd. clear (last_is left ∙ odd) in
    let join : (h : ℕ) → 8 * (power * 2) * h ≡ 8 * power * (2 * h) = λ h. omega arith in
    ap (λ (n : ℕ). shifts (8 * n * (left / 2)) out) twice
    ∙ ap (λ (n : ℕ). shifts n out) (join (left / 2) ∙ ap (λ (n : ℕ). 8 * power * n) (omega (arith, odd)))

pub few_left : (i left : ℕ) → i < 19 → left < 2 ^ (19 - i) → left / 2 < 2 ^ (19 - (i + 1))
few_left i left within few =
    let twice : 2 ^ suc (19 - (i + 1)) ≡ 2 ^ (19 - (i + 1)) * 2 = rw pow-suc (omega arith) in
    let next : 19 - i ≡ suc (19 - (i + 1)) = omega arith in
    let less : left < 2 ^ (19 - (i + 1)) * 2 = subst (λ (n : ℕ). left < n) (ap (λ (n : ℕ). 2 ^ n) next ∙ twice) few in
    omega (arith, less)

pub none_few : (i left out : ℕ) → 19 ≤ i → i ≤ 19 → left < 2 ^ (19 - i) → out ≡ shifts (8 * 2 ^ i * left) out
unfolding shifts
none_few i left out past end few =
    let less : left < 2 ^ 0 = subst (λ (n : ℕ). left < 2 ^ n) (let e : 19 - i ≡ 0 = omega arith in e) few in
    let none : left ≡ 0 = omega (arith, less) in
    ap (λ (n : ℕ). shifts n out) (sym (ap (λ (n : ℕ). 8 * 2 ^ i * n) none ∙ mul-zero (8 * 2 ^ i)))
