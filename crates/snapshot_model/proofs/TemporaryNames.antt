-- The name that an inode has in the root until it is renamed is one name, which can be said.
use Rattle.std.specs.Prelude.{◌≡◌, ℕ, ◌+◌, ◌<◌, ◌≤◌, ◌^◌, ◌%◌, ◌==◌, nat_le, Bool, true, false, List, [], ◌∷◌, ◌++◌, length, Some, codes}
use Rattle.std.specs.Fmt.{decimal}
use Rattle.std.specs.List.{AllByRecursion, list_any, list_all}
use Rattle.std.proofs.Common.{refl, ap, ◌∙◌, arith, le-leb, eqb-true, length-append}
use Rattle.std.proofs.lemmas.Fmt.{decimal_by_steps, length-decimal-le}
use Rattle.send_model.specs.Path.{slash, is_name, path_names}
use Rattle.send_model.specs.Attribute.{IsBytes}
use Rattle.send_model.proofs.ElementLaws.{all_both}
use Rattle.send_model.proofs.LeastPaths.{no_slash_alone}
use Rattle.send_model.proofs.PathLaws.{path_by_pieces}
use Rattle.snapshot_model.specs.Restored.{temporary}

-- Bytes of digits and of what stands around them.
abbrev ArePlain : List ℕ → Type 0
ArePlain bytes = AllByRecursion (λ b. (45 ≤ b) × (b ≤ 111) × ((b == slash) ≡ false)) bytes

digits_plain : (n : ℕ) → n < 2 ^ 64 → ArePlain (decimal n)
digits_plain n low =
    decimal_by_steps (λ m ds. ArePlain ds) (λ m h. (one m h, tt))
    (λ m ds h more. all_both (λ b. (45 ≤ b) × (b ≤ 111) × ((b == slash) ≡ false)) ds ((48 + m % 10) ∷ []) more (one (m % 10) (omega arith), tt)) n (omega (arith, low))
  where
    either : (b : Bool) → (b ≡ true → ⊥) → b ≡ false
    either true n = absurd (n refl)
    either false n = refl

    one : (d : ℕ) → d < 10 → (45 ≤ 48 + d) × (48 + d ≤ 111) × ((48 + d == slash) ≡ false)
    one d h = (omega arith, omega (arith, h), either (48 + d == slash) (λ e. let same = eqb-true (48 + d) slash e in absurd (omega (arith, same))))

plain : (n : ℕ) → n < 2 ^ 64 → ArePlain (temporary n)
plain n low =
    all_both (λ b. (45 ≤ b) × (b ≤ 111) × ((b == slash) ≡ false)) (codes "o") (decimal n ++ codes "-0-0") ((omega arith, omega arith, refl), tt)
    (all_both (λ b. (45 ≤ b) × (b ≤ 111) × ((b == slash) ≡ false)) (decimal n) (codes "-0-0") (digits_plain n low)
    ((omega arith, omega arith, refl), ((omega arith, omega arith, refl), ((omega arith, omega arith, refl), ((omega arith, omega arith, refl), tt)))))

no_slash : (bytes : List ℕ) → ArePlain bytes → list_any (λ b. b == slash) bytes ≡ false
no_slash [] all = refl
no_slash (b ∷ bytes) all = rw all.0.2 (no_slash bytes all.1)

no_zero : (bytes : List ℕ) → ArePlain bytes → list_any (λ b. b == 0) bytes ≡ false
no_zero [] all = refl
no_zero (b ∷ bytes) all = rw (apart b all.0.0) (no_zero bytes all.1)
  where
    apart : (b : ℕ) → 45 ≤ b → (b == 0) ≡ false
    apart b high = one (b == 0) (λ e. let same = eqb-true b 0 e in absurd (omega (arith, high, same)))
      where
        one : (c : Bool) → (c ≡ true → ⊥) → c ≡ false
        one true n = absurd (n refl)
        one false n = refl

short : (n : ℕ) → n < 2 ^ 64 → length (temporary n) ≤ 25
short n low =
    let len : length (decimal n) ≤ 20 = length-decimal-le 20 n (omega arith) (omega (arith, low)) (omega (arith, low)) in
    let all : length (decimal n ++ codes "-0-0") ≡ length (decimal n) + 4 = length-append (decimal n) (codes "-0-0") in
    omega (arith, len, all)

is_one : (n : ℕ) → n < 2 ^ 64 → is_name (temporary n) ≡ true
unfolding is_name
is_one n low =
    let len = short n low in
    let all = plain n low in
    let a : nat_le 1 (length (temporary n)) ≡ true = le-leb 1 (length (temporary n)) (omega arith) in
    let b : nat_le (length (temporary n)) 255 ≡ true = le-leb (length (temporary n)) 255 (omega (arith, len)) in
    rw (a, b, no_slash (temporary n) all, no_zero (temporary n) all) refl

pub temporary_split : (n : ℕ) → n < 2 ^ 64 → path_names (temporary n) ≡ Some (temporary n ∷ [])
temporary_split n low =
    let len = short n low in
    let alone = no_slash_alone (temporary n) (no_slash (temporary n) (plain n low)) in
    path_by_pieces (temporary n) true (omega arith) (omega (arith, len)) (ap (list_all is_name) alone ∙ rw (is_one n low) refl) ∙ ap (λ (ns : List (List ℕ)). Some ns) alone

-- It can be said as a path.
pub temporary_fits : (n : ℕ) → n < 2 ^ 64 → (length (temporary n) ≤ 4_095) × IsBytes (temporary n)
temporary_fits n low = let len = short n low in (omega (arith, len), bytes (temporary n) (plain n low))
  where
    bytes : (bs : List ℕ) → ArePlain bs → IsBytes bs
    bytes [] all = tt
    bytes (b ∷ bs) all = let top = all.0.1 in (omega (arith, top), bytes bs all.1)
