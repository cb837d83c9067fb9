-- The eight digits of a checksum, one by one.
use Rattle.std.proofs.Common.{◌≡◌, ⊎_elim, refl, sym, ap, ◌∙◌, ℕ, zero, suc, ◌+◌, ◌-◌, ◌/◌, ◌%◌, ◌^◌, ◌<◌, ◌≤◌, Bool, true, false, cond, List, [], ◌∷◌, ◌++◌, length, arith}
use Rattle.std.proofs.Math.ListN.{replicate}
use Rattle.std.proofs.Math.Dec.{eqb}
use Rattle.std.proofs.lemmas.Bool.{eq-eqb}
use Rattle.std.proofs.lemmas.Bool.Decides.{eqb_tells}
use Rattle.std.proofs.Math.Nat.{pow-suc}
use Rattle.std.specs.Fmt.{digits, digits_onto, digit_glyph}
use Rattle.send_model.specs.Answer.{eight_digits}

module _ (n : ℕ) (others : List ℕ) where
  spelled : (k : ℕ) (t : Bool) → eqb (n / 16) 0 ≡ t → digits_onto (suc k) 16 false n others ≡ cond t (digit_glyph false (n % 16) ∷ others) (digits_onto k 16 false (n / 16) (digit_glyph false (n % 16) ∷ others))
  spelled k t e = ap (λ (b : Bool). cond b (digit_glyph false (n % 16) ∷ others) (digits_onto k 16 false (n / 16) (digit_glyph false (n % 16) ∷ others))) e

-- The last k digits of n, before others.
abbrev pub last_digits : ℕ → ℕ → List ℕ → List ℕ
last_digits zero n others = others
last_digits (suc k) n others = last_digits k (n / 16) (digit_glyph false (n % 16) ∷ others)

zeros_move : (k : ℕ) (others : List ℕ) → replicate k 48 ++ 48 ∷ others ≡ replicate (suc k) 48 ++ others
zeros_move zero others = refl
zeros_move (suc k) others = ap (λ (l : List ℕ). 48 ∷ l) (zeros_move k others)

digits_of_zero : (k : ℕ) (others : List ℕ) → replicate k 48 ++ others ≡ last_digits k 0 others
digits_of_zero zero others = refl
digits_of_zero (suc k) others = sym (zeros_move k others) ∙ digits_of_zero k (48 ∷ others)

-- Zeros before some digits of which there are at most `size`.
abbrev padded : ℕ → List ℕ → List ℕ
padded size row = replicate (size - length row) 48 ++ row

padded_digits : (k fuel n : ℕ) (others : List ℕ) → n < 16 ^ suc k → k ≤ fuel → padded (suc k + length others) (digits_onto (suc fuel) 16 false n others) ≡ last_digits (suc k) n others
padded_digits zero fuel n others small enough =
    let none : n / 16 ≡ 0 = omega arith in
    ap (padded (1 + length others)) (spelled n others fuel true (eq-eqb (n / 16) 0 none))
    ∙ ap (λ (zeros : ℕ). replicate zeros 48 ++ digit_glyph false (n % 16) ∷ others) {x = 1 + length others - suc (length others)} {y = 0} (omega arith)
padded_digits (suc k) zero n others small enough = absurd (omega arith)
padded_digits (suc k) (suc fuel) n others small enough =
    let glyph : ℕ = digit_glyph false (n % 16) in
    let below : n / 16 < 16 ^ suc k = let e = pow-suc 16 (suc k) in omega arith in
    ⊎_elim
    (λ one.
    ap (padded (suc (suc k) + length others)) (spelled n others (suc fuel) true one.0)
    ∙ ap (λ (zeros : ℕ). replicate zeros 48 ++ glyph ∷ others) {x = suc (suc k) + length others - suc (length others)} {y = suc k} (omega arith)
    ∙ digits_of_zero (suc k) (glyph ∷ others)
    ∙ ap (λ (rest : ℕ). last_digits (suc k) rest (glyph ∷ others)) (sym one.1))
    (λ more.
    ap (padded (suc (suc k) + length others)) (spelled n others (suc fuel) false more.0)
    ∙ ap (λ (size : ℕ). padded size (digits_onto (suc fuel) 16 false (n / 16) (glyph ∷ others))) {x = suc (suc k) + length others} {y = suc k + length (glyph ∷ others)} (omega arith)
    ∙ padded_digits k fuel (n / 16) (glyph ∷ others) below (omega arith))
    (eqb_tells (n / 16) 0)

pub eight_last_digits : (n : ℕ) → n < 2 ^ 32 → eight_digits n ≡ last_digits 8 n []
unfolding eight_digits digits
eight_last_digits n small = padded_digits 7 63 n [] (omega arith) (omega arith)
