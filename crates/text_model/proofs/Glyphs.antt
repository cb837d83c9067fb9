-- Texts of values have no space and no newline in them, and each is that of one value.
use Rattle.std.specs.Prelude.{◌≡◌, ℕ, zero, suc, ◌+◌, ◌-◌, ◌*◌, ◌/◌, ◌%◌, ◌^◌, ◌<◌, ◌≤◌, Bool, true, false, ◌&&◌, not, ◌==◌, nat_lt, nat_le, min, List, [], ◌∷◌, ◌++◌, length, take, drop, replicate, if◌then◌else◌}
use Rattle.std.specs.List.{AllByRecursion}
use Rattle.std.specs.Fmt.{decimal, digits}
use Rattle.std.specs.Char.{digit_value}
use Rattle.std.specs.Str.Parse.{AllDigits, digits_value}
use Rattle.std.proofs.Common.{refl, sym, ap, ap₂, subst, ◌∙◌, arith, append_assoc, drop-drop}
use Rattle.std.proofs.lemmas.Bool.{ltb-true, ltb-false, leb-true, and_parts}
use Rattle.std.proofs.lemmas.Fmt.{digits_is_IsNumeral}
use Rattle.std.proofs.lemmas.List.{length-take, length-drop, take-append-drop}
use Rattle.send_model.proofs.ElementLaws.{all_both, all_take, all_drop}
use Rattle.send_model.specs.Attribute.{IsBytes, Time, second}
use Rattle.send_model.specs.Printed.{is_plain, hex_digit, hex_byte, hex_bytes, escaped_byte, escaped, uuid_text, time_text}

-- ---- words

-- Bytes above the space.
abbrev pub IsWord : List ℕ → Type 0
IsWord bytes = AllByRecursion (λ b. 0x20 < b) bytes

-- Two words, each with a byte behind it that is none of a word's: both are the same, and so is what
-- follows.
pub parted : (a b rest more : List ℕ) (s t : ℕ) → IsWord a → IsWord b → s ≤ 0x20 → t ≤ 0x20 → a ++ s ∷ rest ≡ b ++ t ∷ more → (a ≡ b) × (s ∷ rest ≡ t ∷ more)
parted [] [] rest more s t p q low other e = (refl, e)
parted [] (y ∷ b) rest more s t p q low other e = let same : s ≡ y = cc in absurd (omega (arith, q.0, low, same))
parted (x ∷ a) [] rest more s t p q low other e = let same : x ≡ t = cc in absurd (omega (arith, p.0, other, same))
parted (x ∷ a) (y ∷ b) rest more s t p q low other e =
    let first : x ≡ y = cc in
    let behind : a ++ s ∷ rest ≡ b ++ t ∷ more = cc in
    let parts = parted a b rest more s t p.1 q.1 low other behind in
    (ap₂ (λ (n : ℕ) (l : List ℕ). n ∷ l) first parts.0, parts.1)

-- The same with one byte that is in neither.
pub parted_at : (sep : ℕ) (a b rest more : List ℕ) → AllByRecursion (λ x. sep < x) a → AllByRecursion (λ x. sep < x) b → a ++ sep ∷ rest ≡ b ++ sep ∷ more → (a ≡ b) × (rest ≡ more)
parted_at sep [] [] rest more p q e = (refl, (let behind : rest ≡ more = cc in behind))
parted_at sep [] (y ∷ b) rest more p q e = let same : sep ≡ y = cc in absurd (omega (arith, q.0, same))
parted_at sep (x ∷ a) [] rest more p q e = let same : x ≡ sep = cc in absurd (omega (arith, p.0, same))
parted_at sep (x ∷ a) (y ∷ b) rest more p q e =
    let first : x ≡ y = cc in
    let behind : a ++ sep ∷ rest ≡ b ++ sep ∷ more = cc in
    let parts = parted_at sep a b rest more p.1 q.1 behind in
    (ap₂ (λ (n : ℕ) (l : List ℕ). n ∷ l) first parts.0, parts.1)

-- Lists that are equal when joined, the first of one length.
pub split_same : (a b c d : List ℕ) → length a ≡ length c → a ++ b ≡ c ++ d → (a ≡ c) × (b ≡ d)
split_same [] b [] d len e = (refl, e)
split_same [] b (y ∷ c) d len e = absurd (omega (arith, len))
split_same (x ∷ a) b [] d len e = absurd (omega (arith, len))
split_same (x ∷ a) b (y ∷ c) d len e =
    let first : x ≡ y = cc in
    let behind : a ++ b ≡ c ++ d = cc in
    let parts = split_same a b c d (omega (arith, len)) behind in
    (ap₂ (λ (n : ℕ) (l : List ℕ). n ∷ l) first parts.0, parts.1)

tail_same : {x y : ℕ} {a b : List ℕ} → x ∷ a ≡ y ∷ b → a ≡ b
tail_same e = cc

-- ---- numbers

digit_high : (radix c : ℕ) → radix ≤ 16 → digit_value c < radix → 0x2f < c
digit_high radix c few small = one (nat_lt c 48) refl
  where
    one : (b : Bool) → nat_lt c 48 ≡ b → 0x2f < c
    one true e =
        let is : digit_value c ≡ 36 = ap (λ (b : Bool). if b then 36 else (if nat_lt c 58 then c - 48 else (if nat_lt c 65 then 36 else (if nat_lt c 91 then c - 55 else (if nat_lt c 97 then 36 else (if nat_lt c 123 then c - 87 else 36)))))) e in
        absurd (omega (arith, few, small, is))
    one false e = omega (arith, ltb-false c 48 e)

-- No digit is a point, and so none is a space.
pub digits_high : (radix : ℕ) (ds : List ℕ) → radix ≤ 16 → AllDigits radix ds → AllByRecursion (λ x. 0x2e < x) ds
digits_high radix [] few all = tt
digits_high radix (c ∷ cs) few (small, all) = ((omega (arith, digit_high radix c few small)), digits_high radix cs few all)

pub high_word : (bytes : List ℕ) → AllByRecursion (λ x. 0x2e < x) bytes → IsWord bytes
high_word [] all = tt
high_word (x ∷ xs) (high, all) = ((omega (arith, high)), high_word xs all)

pub digits_word : (radix n : ℕ) → 2 ≤ radix → radix ≤ 16 → n < radix ^ 64 → IsWord (digits radix false n)
digits_word radix n low few small = high_word (digits radix false n) (digits_high radix (digits radix false n) few (digits_is_IsNumeral radix false low few n small).0.1)

pub decimal_small : (n : ℕ) → n < 2 ^ 64 → n < 10 ^ 64
decimal_small n small = omega (arith, small)

pub octal_small : (n : ℕ) → n < 2 ^ 64 → n < 8 ^ 64
octal_small n small = omega (arith, small)

pub digits_once : (radix n m : ℕ) → 2 ≤ radix → radix ≤ 16 → n < radix ^ 64 → m < radix ^ 64 → digits radix false n ≡ digits radix false m → n ≡ m
digits_once radix n m low few small other e =
    sym (digits_is_IsNumeral radix false low few n small).1 ∙ ap (digits_value radix) e ∙ (digits_is_IsNumeral radix false low few m other).1

-- ---- moments

zeros_high : (k : ℕ) → AllByRecursion (λ x. 0x2e < x) (replicate k 0x30)
zeros_high zero = tt
zeros_high (suc k) = (omega arith, zeros_high k)

zeros_value : (k : ℕ) (ds : List ℕ) → digits_value 10 (replicate k 0x30 ++ ds) ≡ digits_value 10 ds
zeros_value zero ds = refl
zeros_value (suc k) ds = zeros_value k ds

decimal_high : (n : ℕ) → n < 2 ^ 64 → AllByRecursion (λ x. 0x2e < x) (decimal n)
decimal_high n small = digits_high 10 (decimal n) (omega arith) (digits_is_IsNumeral 10 false (omega arith) (omega arith) n (decimal_small n small)).0.1

abbrev nanos_text : ℕ → List ℕ
nanos_text n = replicate (9 - length (decimal n)) 0x30 ++ decimal n

nanos_once : (n m : ℕ) → n < second → m < second → nanos_text n ≡ nanos_text m → n ≡ m
nanos_once n m small other e =
    sym (digits_is_IsNumeral 10 false (omega arith) (omega arith) n (omega (arith, small))).1
    ∙ sym (zeros_value (9 - length (decimal n)) (decimal n)) ∙ ap (digits_value 10) e
    ∙ zeros_value (9 - length (decimal m)) (decimal m)
    ∙ (digits_is_IsNumeral 10 false (omega arith) (omega arith) m (omega (arith, other))).1

time_is : (t : Time) → time_text t ≡ decimal t.secs ++ 0x2e ∷ nanos_text t.nanos
unfolding time_text
time_is t = append_assoc (decimal t.secs) (0x2e ∷ replicate (9 - length (decimal t.nanos)) 0x30) (decimal t.nanos)

pub time_word : (t : Time) → t.secs < 2 ^ 64 → t.nanos < second → IsWord (time_text t)
time_word t secs nanos =
    let zeros : List ℕ = replicate (9 - length (decimal t.nanos)) 0x30 in
    let behind : IsWord (nanos_text t.nanos) = all_both (λ b. 0x20 < b) zeros (decimal t.nanos) (high_word zeros (zeros_high (9 - length (decimal t.nanos)))) (high_word (decimal t.nanos) (decimal_high t.nanos (omega (arith, nanos)))) in
    subst (λ (l : List ℕ). IsWord l) (sym (time_is t))
    (all_both (λ b. 0x20 < b) (decimal t.secs) (0x2e ∷ nanos_text t.nanos) (high_word (decimal t.secs) (decimal_high t.secs secs)) ((omega arith), behind))

pub time_once : (t u : Time) → t.secs < 2 ^ 64 → t.nanos < second → u.secs < 2 ^ 64 → u.nanos < second → time_text t ≡ time_text u → t ≡ u
time_once t u secs nanos secs' nanos' e =
    let parts = parted_at 0x2e (decimal t.secs) (decimal u.secs) (nanos_text t.nanos) (nanos_text u.nanos) (decimal_high t.secs secs) (decimal_high u.secs secs') (sym (time_is t) ∙ e ∙ time_is u) in
    let same : t.secs ≡ u.secs = digits_once 10 t.secs u.secs (omega arith) (omega arith) (decimal_small t.secs secs) (decimal_small u.secs secs') parts.0 in
    let nano : t.nanos ≡ u.nanos = nanos_once t.nanos u.nanos nanos nanos' parts.1 in
    λ i. record { secs = same i; nanos = nano i }

-- ---- hexadecimal digits

pub hex_high : (n : ℕ) → 0x2f < hex_digit n
unfolding hex_digit
hex_high n = one (nat_lt n 10)
  where
    one : (b : Bool) → 0x2f < (if b then 0x30 + n else 0x57 + n)
    one true = omega arith
    one false = omega arith

pub hex_once : (n m : ℕ) → n < 16 → m < 16 → hex_digit n ≡ hex_digit m → n ≡ m
unfolding hex_digit
hex_once n m small other e = one (nat_lt n 10) (nat_lt m 10) refl refl e
  where
    one : (b c : Bool) → nat_lt n 10 ≡ b → nat_lt m 10 ≡ c → (if b then 0x30 + n else 0x57 + n) ≡ (if c then 0x30 + m else 0x57 + m) → n ≡ m
    one true true p q e = omega (arith, e)
    one true false p q e = absurd (omega (arith, e, ltb-true n 10 p, ltb-false m 10 q))
    one false true p q e = absurd (omega (arith, e, ltb-false n 10 p, ltb-true m 10 q))
    one false false p q e = omega (arith, e)

pub hex_word : (bytes : List ℕ) → IsWord (hex_bytes bytes)
hex_word [] = tt
hex_word (b ∷ bytes) = (omega (arith, hex_high (b / 16)), (omega (arith, hex_high (b % 16)), hex_word bytes))

byte_once : (a b : ℕ) → a < 256 → b < 256 → hex_digit (a / 16) ≡ hex_digit (b / 16) → hex_digit (a % 16) ≡ hex_digit (b % 16) → a ≡ b
byte_once a b small other high low =
    let h : a / 16 ≡ b / 16 = hex_once (a / 16) (b / 16) (omega (arith, small)) (omega (arith, other)) high in
    let l : a % 16 ≡ b % 16 = hex_once (a % 16) (b % 16) (omega arith) (omega arith) low in
    omega (arith, h, l)

pub hex_bytes_once : (a b : List ℕ) → IsBytes a → IsBytes b → hex_bytes a ≡ hex_bytes b → a ≡ b
hex_bytes_once [] [] p q e = refl
hex_bytes_once [] (y ∷ b) p q e = absurd cc
hex_bytes_once (x ∷ a) [] p q e = absurd cc
hex_bytes_once (x ∷ a) (y ∷ b) p q e =
    let high : hex_digit (x / 16) ≡ hex_digit (y / 16) = cc in
    let low : hex_digit (x % 16) ≡ hex_digit (y % 16) = cc in
    let rest : hex_bytes a ≡ hex_bytes b = cc in
    ap₂ (λ (n : ℕ) (l : List ℕ). n ∷ l) (byte_once x y p.0 q.0 high low) (hex_bytes_once a b p.1 q.1 rest)

pub hex_len : (bytes : List ℕ) → length (hex_bytes bytes) ≡ 2 * length bytes
hex_len [] = refl
hex_len (b ∷ bytes) = omega (arith, hex_len bytes)

-- ---- identifiers

abbrev group : ℕ → ℕ → List ℕ → List ℕ
group from count bytes = hex_bytes (take count (drop from bytes))

pub uuid_is : (bytes : List ℕ) → uuid_text bytes ≡ hex_bytes (take 4 bytes) ++ 0x2d ∷ (group 4 2 bytes ++ 0x2d ∷ (group 6 2 bytes ++ 0x2d ∷ (group 8 2 bytes ++ 0x2d ∷ hex_bytes (drop 10 bytes))))
unfolding uuid_text
uuid_is bytes =
    let a : List ℕ = hex_bytes (take 4 bytes) in
    let b : List ℕ = group 4 2 bytes in
    let c : List ℕ = group 6 2 bytes in
    let d : List ℕ = group 8 2 bytes in
    let e : List ℕ = hex_bytes (drop 10 bytes) in
    ap (λ (l : List ℕ). (l ++ 0x2d ∷ d) ++ 0x2d ∷ e) (append_assoc a (0x2d ∷ b) (0x2d ∷ c))
    ∙ ap (λ (l : List ℕ). l ++ 0x2d ∷ e) (append_assoc a (0x2d ∷ (b ++ 0x2d ∷ c)) (0x2d ∷ d))
    ∙ append_assoc a (0x2d ∷ ((b ++ 0x2d ∷ c) ++ 0x2d ∷ d)) (0x2d ∷ e)
    ∙ ap (λ (l : List ℕ). a ++ 0x2d ∷ l)
    (ap (λ (l : List ℕ). l ++ 0x2d ∷ e) (append_assoc b (0x2d ∷ c) (0x2d ∷ d))
    ∙ append_assoc b (0x2d ∷ (c ++ 0x2d ∷ d)) (0x2d ∷ e)
    ∙ ap (λ (l : List ℕ). b ++ 0x2d ∷ l) (append_assoc c (0x2d ∷ d) (0x2d ∷ e)))

word_then : (a b : List ℕ) → IsWord a → IsWord b → IsWord (a ++ 0x2d ∷ b)
word_then a b p q = all_both (λ x. 0x20 < x) a (0x2d ∷ b) p ((omega arith), q)

pub uuid_word : (bytes : List ℕ) → IsWord (uuid_text bytes)
uuid_word bytes =
    subst (λ (l : List ℕ). IsWord l) (sym (uuid_is bytes))
    (word_then _ _ (hex_word (take 4 bytes)) (word_then _ _ (hex_word (take 2 (drop 4 bytes))) (word_then _ _ (hex_word (take 2 (drop 6 bytes))) (word_then _ _ (hex_word (take 2 (drop 8 bytes))) (hex_word (drop 10 bytes))))))

taken_len : (from count : ℕ) (a b : List ℕ) → length a ≡ 16 → length b ≡ 16 → length (hex_bytes (take count (drop from a))) ≡ length (hex_bytes (take count (drop from b)))
taken_len from count a b p q =
    hex_len (take count (drop from a)) ∙ ap (λ (n : ℕ). 2 * n) (length-take count (drop from a) ∙ ap (min count) (length-drop from a ∙ ap (λ (n : ℕ). n - from) (p ∙ sym q) ∙ sym (length-drop from b)) ∙ sym (length-take count (drop from b))) ∙ sym (hex_len (take count (drop from b)))

in_parts : (bytes : List ℕ) → bytes ≡ take 4 bytes ++ (take 2 (drop 4 bytes) ++ (take 2 (drop 6 bytes) ++ (take 2 (drop 8 bytes) ++ drop 10 bytes)))
in_parts bytes =
    let last : drop 8 bytes ≡ take 2 (drop 8 bytes) ++ drop 10 bytes = sym (take-append-drop 2 (drop 8 bytes)) ∙ ap (λ (l : List ℕ). take 2 (drop 8 bytes) ++ l) (drop-drop 2 8 bytes) in
    let third : drop 6 bytes ≡ take 2 (drop 6 bytes) ++ drop 8 bytes = sym (take-append-drop 2 (drop 6 bytes)) ∙ ap (λ (l : List ℕ). take 2 (drop 6 bytes) ++ l) (drop-drop 2 6 bytes) in
    let second : drop 4 bytes ≡ take 2 (drop 4 bytes) ++ drop 6 bytes = sym (take-append-drop 2 (drop 4 bytes)) ∙ ap (λ (l : List ℕ). take 2 (drop 4 bytes) ++ l) (drop-drop 2 4 bytes) in
    sym (take-append-drop 4 bytes) ∙ ap (λ (l : List ℕ). take 4 bytes ++ l) (second ∙ ap (λ (l : List ℕ). take 2 (drop 4 bytes) ++ l) (third ∙ ap (λ (l : List ℕ). take 2 (drop 6 bytes) ++ l) last))

pub uuid_once : (a b : List ℕ) → length a ≡ 16 → length b ≡ 16 → IsBytes a → IsBytes b → uuid_text a ≡ uuid_text b → a ≡ b
uuid_once a b la lb p q e =
    let whole = sym (uuid_is a) ∙ e ∙ uuid_is b in
    let one = split_same _ _ _ _ (taken_len 0 4 a b la lb) whole in
    let two = split_same _ _ _ _ (taken_len 4 2 a b la lb) (tail_same one.1) in
    let three = split_same _ _ _ _ (taken_len 6 2 a b la lb) (tail_same two.1) in
    let four = split_same _ _ _ _ (taken_len 8 2 a b la lb) (tail_same three.1) in
    let same : (from count : ℕ) → group from count a ≡ group from count b → take count (drop from a) ≡ take count (drop from b) =
    λ from count h. hex_bytes_once (take count (drop from a)) (take count (drop from b)) (all_take (λ x. x < 256) count (drop from a) (all_drop (λ x. x < 256) from a p)) (all_take (λ x. x < 256) count (drop from b) (all_drop (λ x. x < 256) from b q)) h in
    in_parts a
    ∙ ap₂ (λ (x y : List ℕ). x ++ y) (same 0 4 one.0)
    (ap₂ (λ (x y : List ℕ). x ++ y) (same 4 2 two.0)
    (ap₂ (λ (x y : List ℕ). x ++ y) (same 6 2 three.0)
    (ap₂ (λ (x y : List ℕ). x ++ y) (same 8 2 four.0)
    (hex_bytes_once (drop 10 a) (drop 10 b) (all_drop (λ x. x < 256) 10 a p) (all_drop (λ x. x < 256) 10 b q) (tail_same four.1)))))
    ∙ sym (in_parts b)

-- ---- escaped forms

escaped_byte_word : (byte : ℕ) → IsWord (escaped_byte byte)
unfolding escaped_byte is_plain
escaped_byte_word byte = one (nat_le 0x21 byte && (nat_le byte 0x7e && not (byte == 0x5c))) refl
  where
    one : (b : Bool) → (nat_le 0x21 byte && (nat_le byte 0x7e && not (byte == 0x5c))) ≡ b → IsWord (if b then byte ∷ [] else 0x5c ∷ 0x78 ∷ hex_byte byte)
    one true e = (leb-true 0x21 byte (and_parts (nat_le 0x21 byte) _ e).0, tt)
    one false e = (omega arith, (omega arith, hex_word (byte ∷ [])))

pub escaped_word : (bytes : List ℕ) → IsWord (escaped bytes)
unfolding escaped
escaped_word [] = tt
escaped_word (b ∷ bytes) = all_both (λ x. 0x20 < x) (escaped_byte b) (escaped bytes) (escaped_byte_word b) (escaped_word bytes)

not_backslash : (byte : ℕ) → is_plain byte ≡ true → byte ≡ 0x5c → ⊥
unfolding is_plain
not_backslash byte plain e = absurd (clash (subst (λ (b : ℕ). (nat_le 0x21 b && (nat_le b 0x7e && not (b == 0x5c))) ≡ true) e plain))
  where
    clash : false ≡ true → ⊥
    clash c = absurd cc

pub escaped_once : (a b : List ℕ) → IsBytes a → IsBytes b → escaped a ≡ escaped b → a ≡ b
unfolding escaped escaped_byte
escaped_once [] [] p q e = refl
escaped_once [] (y ∷ b) p q e = absurd (empty y b (is_plain y) e)
  where
    empty : (y : ℕ) (b : List ℕ) (t : Bool) → [] ≡ (if t then y ∷ [] else 0x5c ∷ 0x78 ∷ hex_byte y) ++ escaped b → ⊥
    empty y b true e = absurd cc
    empty y b false e = absurd cc
escaped_once (x ∷ a) [] p q e = absurd (empty x a (is_plain x) e)
  where
    empty : (y : ℕ) (b : List ℕ) (t : Bool) → (if t then y ∷ [] else 0x5c ∷ 0x78 ∷ hex_byte y) ++ escaped b ≡ [] → ⊥
    empty y b true e = absurd cc
    empty y b false e = absurd cc
escaped_once (x ∷ a) (y ∷ b) p q e = two (escaped_once a b p.1 q.1) (is_plain x) (is_plain y) refl refl e
  where
    join : x ≡ y → a ≡ b → x ∷ a ≡ y ∷ b
    join first rest = ap₂ (λ (n : ℕ) (l : List ℕ). n ∷ l) first rest

    two : (escaped a ≡ escaped b → a ≡ b) → (t u : Bool) → is_plain x ≡ t → is_plain y ≡ u
        → (if t then x ∷ [] else 0x5c ∷ 0x78 ∷ hex_byte x) ++ escaped a ≡ (if u then y ∷ [] else 0x5c ∷ 0x78 ∷ hex_byte y) ++ escaped b → x ∷ a ≡ y ∷ b
    two again true true i j e = let first : x ≡ y = cc in let rest : escaped a ≡ escaped b = cc in join first (again rest)
    two again true false i j e = let first : x ≡ 0x5c = cc in absurd (not_backslash x i first)
    two again false true i j e = let first : y ≡ 0x5c = cc in absurd (not_backslash y j first)
    two again false false i j e =
        let high : hex_digit (x / 16) ≡ hex_digit (y / 16) = cc in
        let low : hex_digit (x % 16) ≡ hex_digit (y % 16) = cc in
        let rest : escaped a ≡ escaped b = cc in
        join (byte_once x y p.0 q.0 high low) (again rest)
