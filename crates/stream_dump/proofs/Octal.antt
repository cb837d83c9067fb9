-- Octal digits, from the last to the first.
use Rattle.std.proofs.Common.{◌≡◌, ℕ, zero, suc, ◌+◌, ◌-◌, ◌*◌, ◌/◌, ◌%◌, ◌^◌, ◌<◌, ◌≤◌, Bool, true, false, nat_lt, ◌==◌, if◌then◌else◌, List, ◌∷◌, length, take, drop, slice_set, sym, ap, subst, ◌∙◌, arith, add-one}
use Rattle.std.proofs.lemmas.List.{drop-set, drop_all, take_all, length-set, length-drop}
use Rattle.std.proofs.Math.Nat.{pow-succ'}
use Rattle.std.specs.Fmt.{digit_glyph, digits_onto, digits}
use Rattle.send_model.specs.Printed.{octal}

-- The digits behind a place are written; those of what is left go in front of them.
pub record IsOctalTo (n : ℕ) (buffer : List ℕ) (at left : ℕ) : Type 0 where
  pub digits_are : octal n ≡ digits_onto (43 + at) 8 false left (drop (at + 1) buffer)
  pub fits : left < 8 ^ (at + 1)
  pub within : at < 22
  pub long : length buffer ≡ 22

glyph : (d : ℕ) → d < 8 → digit_glyph false d ≡ 48 + d
glyph d small = let low : nat_lt d 10 ≡ true = grind arith in ap (λ (b : Bool). if b then 48 + d else 87 + d) low

step : (k left : ℕ) (acc : List ℕ) → 8 ≤ left → digits_onto (suc k) 8 false left acc ≡ digits_onto k 8 false (left / 8) ((48 + left % 8) ∷ acc)
step k left acc great =
    let more : (left / 8 == 0) ≡ false = grind arith in
    ap (λ (b : Bool). if b then digit_glyph false (left % 8) ∷ acc else digits_onto k 8 false (left / 8) (digit_glyph false (left % 8) ∷ acc)) more
    ∙ ap (λ (d : ℕ). digits_onto k 8 false (left / 8) (d ∷ acc)) (glyph (left % 8) (omega arith))

last : (k left : ℕ) (acc : List ℕ) → left < 8 → digits_onto (suc k) 8 false left acc ≡ (48 + left) ∷ acc
last k left acc small =
    let none : (left / 8 == 0) ≡ true = grind arith in
    let same : left % 8 ≡ left = omega arith in
    ap (λ (b : Bool). if b then digit_glyph false (left % 8) ∷ acc else digits_onto k 8 false (left / 8) (digit_glyph false (left % 8) ∷ acc)) none
    ∙ ap (λ (d : ℕ). digit_glyph false d ∷ acc) same ∙ ap (λ (d : ℕ). d ∷ acc) (glyph left small)

-- Room for the digits.
pub room : (at left : ℕ) → left < 8 ^ (at + 1) → 8 ≤ left → 1 ≤ at
room zero left fits great = absurd (omega arith)
room (suc at) left fits great = omega arith

eighth : (left all : ℕ) → left < 8 * all → left / 8 < all
eighth left all less = omega (arith, less)

power : (at left : ℕ) → left < 8 ^ (at + 1) → 1 ≤ at → left / 8 < 8 ^ ((at - 1) + 1)
power zero left fits some = absurd (omega arith)
power (suc at) left fits some =
    let same : suc at - 1 + 1 ≡ suc at = omega arith in
    let more : 8 ^ (suc at + 1) ≡ 8 * 8 ^ suc at = ap (λ (k : ℕ). 8 ^ k) (add-one (suc at)) ∙ pow-succ' 8 (suc at) in
    let less : left < 8 * 8 ^ suc at = subst (λ (n : ℕ). left < n) more fits in
    subst (λ (k : ℕ). left / 8 < 8 ^ k) (sym same) (eighth left (8 ^ suc at) less)

pub octal_next : (n : ℕ) (buffer : List ℕ) (at left : ℕ) → IsOctalTo n buffer at left → 8 ≤ left → IsOctalTo n (slice_set buffer at (48 + left % 8)) (at - 1) (left / 8)
octal_next n buffer at left o great =
    let some : 1 ≤ at = room at left o.fits great in
    let less : at < length buffer = let l = o.long in let w = o.within in omega (arith, l, w) in
    let same : at - 1 + 1 ≡ at = omega (arith, some) in
    let fuel : 43 + at ≡ suc (43 + (at - 1)) = omega (arith, some) in
    let glyph_at : ℕ = 48 + left % 8 in
    let shown : drop (at - 1 + 1) (slice_set buffer at glyph_at) ≡ glyph_at ∷ drop (at + 1) buffer =
    ap (λ (k : ℕ). drop k (slice_set buffer at glyph_at)) same ∙ drop-set buffer at glyph_at less in
    record {
      digits_are = o.digits_are ∙ ap (λ (k : ℕ). digits_onto k 8 false left (drop (at + 1) buffer)) fuel
          ∙ step (43 + (at - 1)) left (drop (at + 1) buffer) great
          ∙ ap (λ (l : List ℕ). digits_onto (43 + (at - 1)) 8 false (left / 8) l) (sym shown);
      fits = power at left o.fits some;
      within = let w = o.within in omega (arith, w);
      long = length-set buffer at glyph_at ∙ o.long;
    }

pub octal_end : (n : ℕ) (buffer : List ℕ) (at left : ℕ) → IsOctalTo n buffer at left → left < 8 → take (22 - at) (drop at (slice_set buffer at (48 + left))) ≡ octal n
octal_end n buffer at left o small =
    let less : at < length buffer = let l = o.long in let w = o.within in omega (arith, l, w) in
    let fuel : 43 + at ≡ suc (42 + at) = omega arith in
    let long : length (slice_set buffer at (48 + left)) ≡ 22 = length-set buffer at (48 + left) ∙ o.long in
    let few : length (drop at (slice_set buffer at (48 + left))) ≤ 22 - at =
    let count : length (drop at (slice_set buffer at (48 + left))) ≡ length (slice_set buffer at (48 + left)) - at = length-drop at (slice_set buffer at (48 + left)) in omega (arith, count, long) in
    take_all (22 - at) (drop at (slice_set buffer at (48 + left))) few
    ∙ drop-set buffer at (48 + left) less
    ∙ sym (o.digits_are ∙ ap (λ (k : ℕ). digits_onto k 8 false left (drop (at + 1) buffer)) fuel ∙ last (42 + at) left (drop (at + 1) buffer) small)

pub octal_first : (n : ℕ) (buffer : List ℕ) → length buffer ≡ 22 → n < 2 ^ 64 → IsOctalTo n buffer 21 n
unfolding digits
octal_first n buffer long small = record {
  digits_are = ap (λ (l : List ℕ). digits_onto 64 8 false n l) (sym (drop_all 22 buffer (omega (arith, long))));
  fits = omega (arith, small);
  within = omega arith;
  long = long;
}
