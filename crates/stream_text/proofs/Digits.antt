-- What digits say.
use Rattle.std.specs.Prelude.{◌≡◌, ℕ, zero, suc, ◌+◌, ◌-◌, ◌*◌, ◌/◌, ◌%◌, ◌^◌, ◌<◌, ◌≤◌, ◌==◌, ◌&&◌, ◌||◌, Bool, true, false, nat_lt, nat_le, List, [], ◌∷◌, ◌++◌, length, take, drop, max, if◌then◌else◌}
use Rattle.std.specs.Fmt.{digits}
use Rattle.std.specs.Char.{digit_value}
use Rattle.std.specs.Str.Parse.{AllDigits, digits_value, digits_value_after}
use Rattle.std.proofs.Common.{refl, sym, ap, ap₂, subst, ◌∙◌, arith, add-one, get_or, set, drop-cons, append_assoc}
use Rattle.std.proofs.Math.Seq.{take-suc}
use Rattle.std.proofs.lemmas.Bool.{ltb-true, ltb-false, leb-true, le-leb, eqb-true, and_parts}
use Rattle.std.proofs.lemmas.Fmt.{digits_is_IsNumeral}
use Rattle.std.proofs.lemmas.Grind.{flat_map-append}
use Rattle.std.proofs.lemmas.List.{take_more_set, drop_all, take_all}
use Rattle.std.proofs.lemmas.Str.Parse.{digit_from_value}
use Rattle.send_model.specs.Attribute.{IsBytes, is_one_of}
use Rattle.send_model.specs.Printed.{hex_digit, hex_byte, hex_bytes}
use Rattle.send_model.proofs.ElementLaws.{all_both}
use Rattle.text_model.proofs.Glyphs.{decimal_small, octal_small}
use Rattle.stream_text.specs.ValueReading.{digit_in, pair_in, FillsHex, IsNumeralOf}

-- ---- one digit

in_first : (g : ℕ) → 0x30 ≤ g → g ≤ 0x39 → digit_in g ≡ g - 0x30
unfolding digit_in
in_first g low high =
    let both : (nat_le 0x30 g && nat_le g 0x39) ≡ true = ap₂ (λ (a b : Bool). a && b) (le-leb 0x30 g low) (le-leb g 0x39 high) in
    ap (λ (b : Bool). if b then g - 0x30 else (if nat_le 0x61 g && nat_le g 0x66 then g - 0x57 else 16)) both

not_first : (g : ℕ) → 0x39 < g → (nat_le 0x30 g && nat_le g 0x39) ≡ false
not_first g above = one (nat_le 0x30 g) (nat_le g 0x39) refl
  where
    one : (a b : Bool) → nat_le g 0x39 ≡ b → (a && b) ≡ false
    one a true e = absurd (omega (arith, above, leb-true g 0x39 e))
    one true false e = refl
    one false false e = refl

in_second : (g : ℕ) → 0x61 ≤ g → g ≤ 0x66 → digit_in g ≡ g - 0x57
unfolding digit_in
in_second g low high =
    let both : (nat_le 0x61 g && nat_le g 0x66) ≡ true = ap₂ (λ (a b : Bool). a && b) (le-leb 0x61 g low) (le-leb g 0x66 high) in
    ap (λ (b : Bool). if b then g - 0x30 else (if nat_le 0x61 g && nat_le g 0x66 then g - 0x57 else 16)) (not_first g (omega (arith, low)))
    ∙ ap (λ (b : Bool). if b then g - 0x57 else 16) both

-- A digit is read back, and only it is read so.
pub digit_back : (n : ℕ) → n < 16 → digit_in (hex_digit n) ≡ n
unfolding hex_digit
digit_back n small = one (nat_lt n 10) refl
  where
    one : (b : Bool) → nat_lt n 10 ≡ b → digit_in (if b then 0x30 + n else 0x57 + n) ≡ n
    one true e = in_first (0x30 + n) (omega arith) (omega (arith, ltb-true n 10 e)) ∙ omega arith
    one false e = in_second (0x57 + n) (omega (arith, ltb-false n 10 e)) (omega (arith, small)) ∙ omega arith

low_digit : (n : ℕ) → n < 10 → hex_digit n ≡ 0x30 + n
unfolding hex_digit
low_digit n small = one (nat_lt n 10) refl
  where
    one : (b : Bool) → nat_lt n 10 ≡ b → (if b then 0x30 + n else 0x57 + n) ≡ 0x30 + n
    one true e = refl
    one false e = absurd (omega (arith, small, ltb-false n 10 e))

high_digit : (n : ℕ) → 10 ≤ n → hex_digit n ≡ 0x57 + n
unfolding hex_digit
high_digit n great = one (nat_lt n 10) refl
  where
    one : (b : Bool) → nat_lt n 10 ≡ b → (if b then 0x30 + n else 0x57 + n) ≡ 0x57 + n
    one true e = absurd (omega (arith, great, ltb-true n 10 e))
    one false e = refl

pub digit_says : (g : ℕ) → digit_in g < 16 → hex_digit (digit_in g) ≡ g
unfolding digit_in
digit_says g small = one (nat_le 0x30 g && nat_le g 0x39) (nat_le 0x61 g && nat_le g 0x66) refl refl small
  where
    one : (a b : Bool) → (nat_le 0x30 g && nat_le g 0x39) ≡ a → (nat_le 0x61 g && nat_le g 0x66) ≡ b → (if a then g - 0x30 else (if b then g - 0x57 else 16)) < 16
        → hex_digit (if a then g - 0x30 else (if b then g - 0x57 else 16)) ≡ g
    one true b e f s =
        let p = and_parts (nat_le 0x30 g) (nat_le g 0x39) e in
        let low = leb-true 0x30 g p.0 in
        let high = leb-true g 0x39 p.1 in
        low_digit (g - 0x30) (omega (arith, low, high)) ∙ omega (arith, low)
    one false true e f s =
        let p = and_parts (nat_le 0x61 g) (nat_le g 0x66) f in
        let low = leb-true 0x61 g p.0 in
        high_digit (g - 0x57) (omega (arith, low)) ∙ omega (arith, low)
    one false false e f s = absurd (omega (arith, s))

pub digit_is_value : (c : ℕ) → digit_value c < 10 → digit_in c ≡ digit_value c
digit_is_value c small =
    let r = digit_from_value c small in
    let low : 48 ≤ c = omega (arith, r) in
    let high : c ≤ 57 = omega (arith, r) in
    in_first c low high ∙ sym (value_is (nat_lt c 48) (nat_lt c 58) refl refl)
  where
    value_is : (a b : Bool) → nat_lt c 48 ≡ a → nat_lt c 58 ≡ b → digit_value c ≡ c - 48
    value_is true b e f = let r = digit_from_value c small in absurd (omega (arith, r, ltb-true c 48 e))
    value_is false true e f =
        ap (λ (t : Bool). if t then 36 else (if nat_lt c 58 then c - 48 else (if nat_lt c 65 then 36 else (if nat_lt c 91 then c - 55 else (if nat_lt c 97 then 36 else (if nat_lt c 123 then c - 87 else 36)))))) e
        ∙ ap (λ (t : Bool). if t then c - 48 else (if nat_lt c 65 then 36 else (if nat_lt c 91 then c - 55 else (if nat_lt c 97 then 36 else (if nat_lt c 123 then c - 87 else 36))))) f
    value_is false false e f = let r = digit_from_value c small in absurd (omega (arith, r, ltb-false c 58 f))

-- ---- numbers

pub record IsBase (base : ℕ) : Type 0 where
  pub low : 2 ≤ base
  pub high : base ≤ 10
  pub wide : (m : ℕ) → m < 2 ^ 64 → m < base ^ 64

pub base_is : (base : ℕ) → is_one_of base (8 ∷ 10 ∷ []) ≡ true → IsBase base
base_is base is = one (8 == base) (10 == base) refl refl is
  where
    eight : 8 ≡ base → IsBase base
    eight e = subst (λ (b : ℕ). IsBase b) e (record { low = omega arith; high = omega arith; wide = octal_small })

    ten : 10 ≡ base → IsBase base
    ten e = subst (λ (b : ℕ). IsBase b) e (record { low = omega arith; high = omega arith; wide = decimal_small })

    one : (a b : Bool) → (8 == base) ≡ a → (10 == base) ≡ b → (a || (b || false)) ≡ true → IsBase base
    one true b e f t = eight (eqb-true 8 base e)
    one false true e f t = ten (eqb-true 10 base f)
    one false false e f t = absurd cc

pub numeral_of : (base m : ℕ) (text : List ℕ) → is_one_of base (8 ∷ 10 ∷ []) ≡ true → m < 2 ^ 64 → digits base false m ≡ text → IsNumeralOf base m text
numeral_of base m text is small e =
    let b = base_is base is in
    let n = digits_is_IsNumeral base false b.low (omega (arith, b.high)) m (b.wide m small) in
    subst (λ (l : List ℕ). IsNumeralOf base m l) e (record { some = n.0.0; all = n.0.1; value = n.1 })

all_at : (base : ℕ) (text : List ℕ) (k : ℕ) → AllDigits base text → k < length text → digit_value (get_or text k 0) < base
all_at base [] k all less = absurd (omega (arith, less))
all_at base (c ∷ cs) zero all less = all.0
all_at base (c ∷ cs) (suc k) all less = all_at base cs k all.1 (omega (arith, less))

-- The digit at a place of a numeral.
pub digit_there : (base : ℕ) (text : List ℕ) (k : ℕ) → is_one_of base (8 ∷ 10 ∷ []) ≡ true → AllDigits base text → k < length text
    → (digit_in (get_or text k 0) ≡ digit_value (get_or text k 0)) × (digit_in (get_or text k 0) < base)
digit_there base text k is all less =
    let b = base_is base is in
    let small = all_at base text k all less in
    let same = digit_is_value (get_or text k 0) (omega (arith, small, b.high)) in
    (same, (omega (arith, same, small)))

pub grows : (base n : ℕ) (ds : List ℕ) → 1 ≤ base → n ≤ digits_value_after base n ds
grows base n [] some = omega arith
grows base n (c ∷ cs) some =
    let more = grows base (n * base + digit_value c) cs some in
    let least : n ≤ n * base = times n base some in
    omega (arith, more, least)
  where
    times : (n b : ℕ) → 1 ≤ b → n ≤ n * b
    times zero b some = omega arith
    times (suc n) b some = omega (arith, times n b some)

-- One digit more.
pub value_next : (base number digit place : ℕ) (text : List ℕ) → is_one_of base (8 ∷ 10 ∷ []) ≡ true → place < length text → digit ≡ digit_in (get_or text place 0)
    → (AllDigits base text → digits_value_after base number (drop place text) ≡ digits_value base text)
    → AllDigits base text → digits_value_after base (number * base + digit) (drop (place + 1) text) ≡ digits_value base text
value_next base number digit place text is less d before all =
    let first : drop place text ≡ get_or text place 0 ∷ drop (place + 1) text = rw (add-one, drop-cons text place 0) in
    ap (λ (k : ℕ). digits_value_after base (number * base + k) (drop (place + 1) text)) (d ∙ (digit_there base text place is all less).0)
    ∙ sym (ap (digits_value_after base number) first) ∙ before all

-- So no sum on the way is greater than the number.
pub sum_within : (base number digit place m : ℕ) (text : List ℕ) → is_one_of base (8 ∷ 10 ∷ []) ≡ true → place < length text → digit ≡ digit_in (get_or text place 0)
    → (AllDigits base text → digits_value_after base number (drop place text) ≡ digits_value base text)
    → IsNumeralOf base m text → number * base + digit ≤ m
sum_within base number digit place m text is less d before n =
    let b = base_is base is in
    let last = value_next base number digit place text is less d before n.all in
    let most = grows base (number * base + digit) (drop (place + 1) text) (omega (arith, b.low)) in
    omega (arith, most, last, n.value)

pub value_end : (base number place m : ℕ) (text : List ℕ) → length text ≤ place
    → (AllDigits base text → digits_value_after base number (drop place text) ≡ digits_value base text)
    → IsNumeralOf base m text → number ≡ m
value_end base number place m text past before n =
    sym (ap (digits_value_after base number) (drop_all place text past)) ∙ before n.all ∙ n.value

-- ---- pairs of digits

pub pair_back : (b : ℕ) → b < 256 → pair_in (hex_digit (b / 16)) (hex_digit (b % 16)) ≡ b
pair_back b small =
    let h = digit_back (b / 16) (omega (arith, small)) in
    let l = digit_back (b % 16) (omega arith) in
    ap₂ (λ (x y : ℕ). (x % 16) * 16 + y % 16) h l ∙ omega (arith, small)

pub fill_next : (p h l : ℕ) (text bytes : List ℕ) → p < length bytes → 2 * p + 1 < length text → h ≡ digit_in (get_or text (2 * p) 0) → l ≡ digit_in (get_or text (2 * p + 1) 0)
    → h < 16 → l < 16 → hex_bytes (take p bytes) ≡ take (2 * p) text → hex_bytes (take (p + 1) (set bytes p (h % 16 * 16 + l % 16))) ≡ take (2 * (p + 1)) text
fill_next p h l text bytes room within hd ld hs ls before =
    let v : ℕ = h % 16 * 16 + l % 16 in
    let high : hex_digit (v / 16) ≡ get_or text (2 * p) 0 = ap hex_digit (high_is h l hs ls ∙ hd) ∙ digit_says (get_or text (2 * p) 0) (subst (λ (n : ℕ). n < 16) hd hs) in
    let low : hex_digit (v % 16) ≡ get_or text (2 * p + 1) 0 = ap hex_digit (low_is h l hs ls ∙ ld) ∙ digit_says (get_or text (2 * p + 1) 0) (subst (λ (n : ℕ). n < 16) ld ls) in
    let near : suc (2 * p) ≡ 2 * p + 1 = omega arith in
    let far : suc (2 * p + 1) ≡ 2 * (p + 1) = omega arith in
    let one : take (suc (2 * p)) text ≡ take (2 * p) text ++ get_or text (2 * p) 0 ∷ [] = take-suc text (2 * p) 0 (omega (arith, within)) in
    let two : take (suc (2 * p + 1)) text ≡ take (2 * p + 1) text ++ get_or text (2 * p + 1) 0 ∷ [] = take-suc text (2 * p + 1) 0 within in
    ap hex_bytes (take_more_set bytes p v room) ∙ flat_map-append hex_byte (take p bytes) (v ∷ [])
    ∙ ap₂ (λ (a b : List ℕ). a ++ b) before (λ i. high i ∷ low i ∷ [])
    ∙ sym (append_assoc (take (2 * p) text) (get_or text (2 * p) 0 ∷ []) (get_or text (2 * p + 1) 0 ∷ []))
    ∙ ap (λ (a : List ℕ). a ++ get_or text (2 * p + 1) 0 ∷ []) (sym one ∙ ap (λ (n : ℕ). take n text) near)
    ∙ sym two ∙ ap (λ (n : ℕ). take n text) far
  where
    high_is : (h l : ℕ) → h < 16 → l < 16 → (h % 16 * 16 + l % 16) / 16 ≡ h
    high_is h l hs ls = omega (arith, hs, ls)

    low_is : (h l : ℕ) → h < 16 → l < 16 → (h % 16 * 16 + l % 16) % 16 ≡ l
    low_is h l hs ls = omega (arith, hs, ls)

pub bytes_next : (p v : ℕ) (bytes : List ℕ) → p < length bytes → v < 256 → IsBytes (take p bytes) → IsBytes (take (p + 1) (set bytes p v))
bytes_next p v bytes room small before = subst (λ (l : List ℕ). IsBytes l) (sym (take_more_set bytes p v room)) (all_both (λ b. b < 256) (take p bytes) (v ∷ []) before (small, tt))

-- Each byte of pairs of digits is one.
pub hex_reads : (bytes : List ℕ) (k : ℕ) → IsBytes bytes → k < length (hex_bytes bytes) → digit_in (get_or (hex_bytes bytes) k 0) < 16
hex_reads [] k are less = absurd (omega (arith, less))
hex_reads (b ∷ bytes) zero are less = let d = digit_back (b / 16) (omega (arith, are.0)) in omega (arith, d, are.0)
hex_reads (b ∷ bytes) (suc zero) are less = let d = digit_back (b % 16) (omega arith) in omega (arith, d)
hex_reads (b ∷ bytes) (suc (suc k)) are less = hex_reads bytes k are.1 (omega (arith, less))

-- A byte among so many that is no digit.
abbrev pub HasNoDigit : ℕ → List ℕ → Type 0
HasNoDigit count text = (k : ℕ) × (k < count) × (digit_in (get_or text k 0) ≡ 16)

pub wrong_next : (p w h l m : ℕ) (text : List ℕ) → h ≤ 16 → l ≤ 16 → m ≡ max (max w h) l → h ≡ digit_in (get_or text (2 * p) 0) → l ≡ digit_in (get_or text (2 * p + 1) 0)
    → (16 ≤ w → HasNoDigit (2 * p) text) → 16 ≤ m → HasNoDigit (2 * (p + 1)) text
wrong_next p w h l m text fh fl most hd ld before great = one (nat_lt w 16) (nat_lt h 16) refl refl
  where
    one : (a b : Bool) → nat_lt w 16 ≡ a → nat_lt h 16 ≡ b → HasNoDigit (2 * (p + 1)) text
    one false b e f = let k = before (ltb-false w 16 e) in (k.0, (omega (arith, k.1)), k.2)
    one true false e f = (2 * p, (omega arith), (omega (arith, fh, hd, ltb-false h 16 f)))
    one true true e f = (2 * p + 1, (omega arith), (omega (arith, fl, ld, most, great, ltb-true w 16 e, ltb-true h 16 f)))

pub filled : (text bytes : List ℕ) (p w : ℕ) → p ≡ length text / 2 → length text % 2 ≡ 0 → IsBytes (take p bytes) → (w < 16 → hex_bytes (take p bytes) ≡ take (2 * p) text)
    → (16 ≤ w → HasNoDigit (2 * p) text) → FillsHex text (take (length text / 2) bytes) (nat_lt w 16)
filled text bytes p w half even are right wrong = one (nat_lt w 16) refl
  where
    whole : 2 * p ≡ length text
    whole = omega (arith, half, even)

    one : (b : Bool) → nat_lt w 16 ≡ b → FillsHex text (take (length text / 2) bytes) b
    one true e = (
      subst (λ (n : ℕ). IsBytes (take n bytes)) half are,
      ap (λ (n : ℕ). hex_bytes (take n bytes)) (sym half) ∙ right (ltb-true w 16 e) ∙ ap (λ (n : ℕ). take n text) whole ∙ take_all (length text) text (omega arith),
    )
    one false e = λ other good says.
        let k = wrong (ltb-false w 16 e) in
        let len : length (hex_bytes other) ≡ length text = ap length says in
        let small = hex_reads other k.0 good (omega (arith, len, k.1, whole)) in
        let same : digit_in (get_or (hex_bytes other) k.0 0) ≡ digit_in (get_or text k.0 0) = ap (λ (l : List ℕ). digit_in (get_or l k.0 0)) says in
        absurd (omega (arith, small, same, k.2))
