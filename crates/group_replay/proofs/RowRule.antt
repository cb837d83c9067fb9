-- What stands in the rows, which the checker computes.
use Rattle.std.proofs.Common.{◌≡◌, ℕ, zero, suc, ◌+◌, ◌*◌, ◌/◌, ◌%◌, ◌^◌, ◌<◌, ◌≤◌, ◌⊎◌, inl, inr, List, [], ◌∷◌, map, get_or, bit_xor, refl, sym, ap, ◌∙◌, arith, pow-suc, zero-mul}
use Rattle.std.proofs.lemmas.Nat.{xor_comm, pow_pos, pow_below}
use Rattle.std.proofs.Math.Nat.{mul-zero, mul-one}
use Rattle.std.proofs.lemmas.Bool.{cases_eq}
use Rattle.std.specs.Int.Bits.{xor_self, xor_shifted}
use Rattle.send_model.specs.Checksum.{shift, shifts}
use Rattle.send_model.proofs.ChecksumLaws.{shifts-xor, shifts-add, shifts-below}
use Rattle.group_replay.specs.Sums.{by_bits}
use Rattle.group_replay.specs.declared.rows.TheConstants.{ROWS}

-- Powers of two from 2^k on, each after so many steps.
stepped_from : (steps k count : ℕ) → List ℕ
stepped_from steps k zero = []
stepped_from steps k (suc count) = shifts steps (2 ^ k) ∷ stepped_from steps (suc k) count

-- `count` rows, each what the one before it makes of its own numbers.
rows : ℕ → List ℕ → List (List ℕ)
rows zero row = []
rows (suc count) row = row ∷ rows count (map (by_bits row) row)

last_bit : (n : ℕ) → (n % 2 ≡ 0) ⊎ (n % 2 ≡ 1)
last_bit n = elim (cases_eq (n % 2) 0) [ inl even ↦ inl even | inr not_even ↦ inr (omega arith) ]

rows_are : ROWS ≡ rows 19 (stepped_from 8 0 32)
unfolding shift shifts rows stepped_from by_bits
rows_are = refl

nothing_moved : (steps : ℕ) → shifts steps 0 ≡ 0
nothing_moved steps = shifts-xor steps 0 0 ∙ xor_self (shifts steps 0)

last_apart : (n k : ℕ) → bit_xor (n / 2 * 2 ^ suc k) (n % 2 * 2 ^ k) ≡ n * 2 ^ k
last_apart n k =
    let some : 0 < 2 ^ k = pow_pos k in
    let twice : 2 ^ suc k ≡ 2 ^ k * 2 = rw pow-suc (omega arith) in
    let last : n % 2 * 2 ^ k < 2 ^ suc k =
    elim (last_bit n) [ inl even ↦ rw even (omega (arith, some, twice)) | inr odd ↦ rw odd (omega (arith, some, twice)) ] in
    let join : (r h p : ℕ) → h * (p * 2) + r * p ≡ (r + 2 * h) * p = λ r h p. omega arith in
    xor_shifted (n / 2) (suc k) (n % 2 * 2 ^ k) last
    ∙ ap (λ (m : ℕ). n / 2 * m + n % 2 * 2 ^ k) twice
    ∙ join (n % 2) (n / 2) (2 ^ k)
    ∙ ap (λ (m : ℕ). m * 2 ^ k) (omega arith)

-- A number by its bits, whose powers stand after so many steps.
by_powers : (steps count k n : ℕ) → n < 2 ^ count → by_bits (stepped_from steps k count) n ≡ shifts steps (n * 2 ^ k)
unfolding by_bits stepped_from
by_powers steps zero k n below = let none : n * 2 ^ k ≡ 0 = ap (λ (m : ℕ). m * 2 ^ k) (let e : n ≡ 0 = omega (arith, below) in e) ∙ zero-mul (2 ^ k) in sym (ap (shifts steps) none ∙ nothing_moved steps)
by_powers steps (suc count) k n below =
    let twice : 2 ^ suc count ≡ 2 ^ count * 2 = rw pow-suc (omega arith) in
    let rest : by_bits (stepped_from steps (suc k) count) (n / 2) ≡ shifts steps (n / 2 * 2 ^ suc k) = by_powers steps count (suc k) (n / 2) (omega (arith, below, twice)) in
    let own : shifts steps (2 ^ k) * (n % 2) ≡ shifts steps (n % 2 * 2 ^ k) =
    elim (last_bit n) [
      | inl even ↦ rw even (mul-zero (shifts steps (2 ^ k)) ∙ sym (ap (shifts steps) (zero-mul (2 ^ k)) ∙ nothing_moved steps))
      | inr odd ↦ rw odd (mul-one (shifts steps (2 ^ k)) ∙ ap (shifts steps) (omega arith))
    ] in
    (λ i. bit_xor (own i) (rest i))
    ∙ sym (shifts-xor steps (n % 2 * 2 ^ k) (n / 2 * 2 ^ suc k))
    ∙ ap (shifts steps) (xor_comm (n % 2 * 2 ^ k) (n / 2 * 2 ^ suc k) ∙ last_apart n k)

-- What a row makes of its own numbers is the row after twice as many steps.
row_twice : (steps count k : ℕ) → k + count ≤ 32 → map (by_bits (stepped_from steps 0 32)) (stepped_from steps k count) ≡ stepped_from (steps + steps) k count
unfolding stepped_from
row_twice steps zero k within = refl
row_twice steps (suc count) k within =
    let below : shifts steps (2 ^ k) < 2 ^ 32 = shifts-below steps (2 ^ k) (pow_below k 32 (omega arith)) in
    let own : by_bits (stepped_from steps 0 32) (shifts steps (2 ^ k)) ≡ shifts (steps + steps) (2 ^ k) =
    by_powers steps 32 0 (shifts steps (2 ^ k)) below ∙ ap (shifts steps) (omega arith) ∙ sym (shifts-add steps steps (2 ^ k)) in
    let rest : map (by_bits (stepped_from steps 0 32)) (stepped_from steps (suc k) count) ≡ stepped_from (steps + steps) (suc k) count = row_twice steps count (suc k) (omega arith) in
    λ i. own i ∷ rest i

rows_at : (count steps k : ℕ) → k < count → get_or (rows count (stepped_from steps 0 32)) k [] ≡ stepped_from (steps * 2 ^ k) 0 32
unfolding rows
rows_at zero steps k below = absurd (omega arith)
rows_at (suc count) steps zero below = ap (λ (n : ℕ). stepped_from n 0 32) (omega arith)
rows_at (suc count) steps (suc k) below =
    ap (λ (row : List ℕ). get_or (rows count row) k []) (row_twice steps 32 0 (omega arith))
    ∙ rows_at count (steps + steps) k (omega arith)
    ∙ ap (λ (n : ℕ). stepped_from n 0 32) (rw pow-suc (omega arith))

-- The rule of the rows.
pub row_rule : (k n : ℕ) → k < 19 → n < 2 ^ 32 → by_bits (get_or ROWS k []) n ≡ shifts (8 * 2 ^ k) n
row_rule k n in_rows below =
    ap (λ (all : List (List ℕ)). by_bits (get_or all k []) n) rows_are
    ∙ ap (λ (row : List ℕ). by_bits row n) (rows_at 19 8 k in_rows)
    ∙ by_powers (8 * 2 ^ k) 32 0 n below
    ∙ ap (shifts (8 * 2 ^ k)) (omega arith)
