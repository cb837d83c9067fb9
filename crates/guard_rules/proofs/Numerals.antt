-- Reading a number digit by digit.
use Rattle.std.proofs.Common.{◌≡◌, ℕ, ◌+◌, ◌-◌, ◌*◌, ◌^◌, ◌<◌, ◌≤◌, List, [], ◌∷◌, length, drop, slice_index_or, nat_lt, nat_le, if◌then◌else◌, Bool, true, false, Option, None, Some, ◌&&◌, refl, ap, sym, ◌∙◌, arith, add-one, drop-cons}
use Rattle.std.proofs.lemmas.List.{drop_all}
use Rattle.send_model.specs.Guards.{number_word}
use Rattle.std.specs.Str.{all_ascii_digits}
use Rattle.std.specs.Str.Parse.{digits_value, digits_value_after}
use Rattle.std.specs.Char.{is_ascii_digit, digit_value}

-- The digits from a place on continue those in front of it.
pub record IsReadTo (digits : List ℕ) (place number : ℕ) : Type 0 where
  pub value : digits_value 10 digits ≡ digits_value_after 10 number (drop place digits)
  pub all : all_ascii_digits digits ≡ all_ascii_digits (drop place digits)
  pub fits : number < 2 ^ 64

-- more digits never make a number smaller
at_least : (number : ℕ) (digits : List ℕ) → number ≤ digits_value_after 10 number digits
at_least number [] = omega arith
at_least number (c ∷ digits) = let more = at_least (number * 10 + digit_value c) digits in omega (arith, more)

and_false : (a b c : Bool) → (a && b && c && false) ≡ false
and_false true true true = refl
and_false true true false = refl
and_false true false c = refl
and_false false b c = refl

abbrev number_where : List ℕ → Bool → Option ℕ
number_where digits fits =
    if nat_le 1 (length digits) && nat_le (length digits) 20 && all_ascii_digits digits && fits then Some (digits_value 10 digits) else None

none_above : (digits : List ℕ) → 2 ^ 64 ≤ digits_value 10 digits → None ≡ number_word digits
none_above digits high =
    let great : nat_lt (digits_value 10 digits) (2 ^ 64) ≡ false = grind arith in
    sym (ap (λ (fits : Bool). number_where digits fits) great
    ∙ ap (λ (b : Bool). if b then Some (digits_value 10 digits) else None) (and_false (nat_le 1 (length digits)) (nat_le (length digits) 20) (all_ascii_digits digits)))

all_tests : (a b c d : Bool) → a ≡ true → b ≡ true → c ≡ true → d ≡ true → (a && b && c && d) ≡ true
all_tests a b c d p q r s = grind arith

-- The number of all digits.
pub all_read : (digits : List ℕ) (place number : ℕ) → IsReadTo digits place number → length digits ≤ place → 1 ≤ length digits
    → length digits ≤ 20 → Some number ≡ number_word digits
all_read digits place number read past some short =
    let none : drop place digits ≡ [] = drop_all place digits past in
    let value : digits_value 10 digits ≡ number = read.value ∙ ap (λ (l : List ℕ). digits_value_after 10 number l) none in
    let all : all_ascii_digits digits ≡ true = read.all ∙ ap all_ascii_digits none in
    let small : digits_value 10 digits < 2 ^ 64 = omega (arith, value, read.fits) in
    let tests : (nat_le 1 (length digits) && nat_le (length digits) 20 && all_ascii_digits digits && nat_lt (digits_value 10 digits) (2 ^ 64)) ≡ true =
    all_tests (nat_le 1 (length digits)) (nat_le (length digits) 20) (all_ascii_digits digits) (nat_lt (digits_value 10 digits) (2 ^ 64)) (grind arith) (grind arith) all (grind arith) in
    ap (λ (n : ℕ). Some n) (sym value) ∙ sym (ap (λ (b : Bool). if b then Some (digits_value 10 digits) else None) tests)

-- A number that has outgrown 64 bits.
pub too_great : (digits : List ℕ) (place number : ℕ) → IsReadTo digits place number → place < length digits
    → 2 ^ 64 ≤ number * 10 + digit_value (slice_index_or digits place 0) → None ≡ number_word digits
too_great digits place number read less high =
    let c : ℕ = slice_index_or digits place 0 in
    let cut : drop place digits ≡ c ∷ drop (place + 1) digits = rw (add-one, drop-cons digits place 0) in
    let more = at_least (number * 10 + digit_value c) (drop (place + 1) digits) in
    let value : digits_value 10 digits ≡ digits_value_after 10 (number * 10 + digit_value c) (drop (place + 1) digits) =
    read.value ∙ ap (λ (l : List ℕ). digits_value_after 10 number l) cut in
    none_above digits (omega (arith, more, value))

digit : (c : ℕ) → is_ascii_digit c ≡ true → digit_value c ≡ c - 48
digit c is = grind arith

-- The same by a byte that is a digit.
pub sum_too_great : (digits : List ℕ) (place number : ℕ) → IsReadTo digits place number → place < length digits
    → is_ascii_digit (slice_index_or digits place 0) ≡ true → (tens : ℕ) → tens ≡ number * 10
    → ¬ (tens + (slice_index_or digits place 0 - 48) < 2 ^ 64) → None ≡ number_word digits
sum_too_great digits place number read less is tens same high =
    too_great digits place number read less (omega (arith, digit (slice_index_or digits place 0) is, same, high))
