-- Escaped forms are read back, and nothing else is.
use Rattle.std.specs.Prelude.{◌≡◌, ℕ, ◌+◌, ◌-◌, ◌*◌, ◌/◌, ◌%◌, ◌<◌, ◌≤◌, ◌==◌, Bool, true, false, List, [], ◌∷◌, ◌++◌, drop, Option, None, Some, nat_le, nat_lt, ◌&&◌, if◌then◌else◌, IfSome}
use Rattle.std.proofs.Common.{refl, sym, ap, ap₂, subst, ◌∙◌, arith}
use Rattle.std.proofs.lemmas.Bool.{lt-ltb, le-leb, ltb-true, ltb-false, leb-true, eqb-true, and_parts}
use Rattle.send_model.specs.Attribute.{IsBytes}
use Rattle.send_model.specs.Printed.{is_plain, hex_digit, hex_byte, escaped_byte, escaped}
use Rattle.send_model.proofs.ElementLaws.{all_drop}
use Rattle.program_model.specs.EscapedWords.{hex_value, unless_plain, byte_of, escape_of, onto, plain_byte, unescaped, is_escaped_word, EscapedIsReadBack, ReadIsEscaped, BytesAreMeant}

-- ---- digits

-- A choice that is made.
chosen : {A : Type 0} (b : Bool) (x y : A) → b ≡ true → (if b then x else y) ≡ x
chosen b x y e = ap (λ (t : Bool). if t then x else y) e

passed : {A : Type 0} (b : Bool) (x y : A) → b ≡ false → (if b then x else y) ≡ y
passed b x y e = ap (λ (t : Bool). if t then x else y) e

le_false : (n m : ℕ) → m < n → nat_le n m ≡ false
le_false n m less = one (nat_le n m) refl
  where
    one : (b : Bool) → nat_le n m ≡ b → b ≡ false
    one true e = absurd (omega (arith, leb-true n m e, less))
    one false e = refl

both_true : (p q : Bool) → p ≡ true → q ≡ true → (p && q) ≡ true
both_true p q a b = ap₂ (λ (x y : Bool). x && y) a b

second_false : (p q : Bool) → q ≡ false → (p && q) ≡ false
second_false true q e = e
second_false false q e = refl

value_back : (n : ℕ) → n < 16 → hex_value (hex_digit n) ≡ Some n
unfolding hex_value hex_digit
value_back n small = one (nat_lt n 10) refl
  where
    letters : ℕ → Option ℕ
    letters glyph = if nat_le 0x61 glyph && nat_le glyph 0x66 then Some (glyph - 0x57) else None

    one : (b : Bool) → nat_lt n 10 ≡ b → hex_value (if b then 0x30 + n else 0x57 + n) ≡ Some n
    one true e =
        let below = ltb-true n 10 e in
        chosen (nat_le 0x30 (0x30 + n) && nat_le (0x30 + n) 0x39) (Some ((0x30 + n) - 0x30)) (letters (0x30 + n))
        (both_true (nat_le 0x30 (0x30 + n)) (nat_le (0x30 + n) 0x39) (le-leb 0x30 (0x30 + n) (omega arith)) (le-leb (0x30 + n) 0x39 (omega (arith, below))))
        ∙ ap (λ (k : ℕ). Some k) (omega arith)
    one false e =
        let over = ltb-false n 10 e in
        passed (nat_le 0x30 (0x57 + n) && nat_le (0x57 + n) 0x39) (Some ((0x57 + n) - 0x30)) (letters (0x57 + n))
        (second_false (nat_le 0x30 (0x57 + n)) (nat_le (0x57 + n) 0x39) (le_false (0x57 + n) 0x39 (omega arith)))
        ∙ chosen (nat_le 0x61 (0x57 + n) && nat_le (0x57 + n) 0x66) (Some ((0x57 + n) - 0x57)) None
        (both_true (nat_le 0x61 (0x57 + n)) (nat_le (0x57 + n) 0x66) (le-leb 0x61 (0x57 + n) (omega (arith, over))) (le-leb (0x57 + n) 0x66 (omega (arith, small))))
        ∙ ap (λ (k : ℕ). Some k) (omega arith)

-- What is read as a digit is the digit of a number below 16.
pub record IsDigit (glyph n : ℕ) : Type 0 where
  pub small : n < 16
  pub is : hex_digit n ≡ glyph

digit_read : (glyph : ℕ) → IfSome (hex_value glyph) (λ n. IsDigit glyph n)
unfolding hex_value hex_digit
digit_read glyph = one (nat_le 0x30 glyph && nat_le glyph 0x39) refl
  where
    two : (b : Bool) → (nat_le 0x61 glyph && nat_le glyph 0x66) ≡ b → IfSome (if b then Some (glyph - 0x57) else None) (λ n. IsDigit glyph n)
    two true e =
        let low = leb-true 0x61 glyph (and_parts (nat_le 0x61 glyph) (nat_le glyph 0x66) e).0 in
        let high = leb-true glyph 0x66 (and_parts (nat_le 0x61 glyph) (nat_le glyph 0x66) e).1 in
        record {
          small = omega (arith, low, high);
          is = passed (nat_lt (glyph - 0x57) 10) (0x30 + (glyph - 0x57)) (0x57 + (glyph - 0x57)) (not_below (glyph - 0x57) 10 (omega (arith, low))) ∙ omega (arith, low);
        }
      where
        not_below : (n m : ℕ) → m ≤ n → nat_lt n m ≡ false
        not_below n m over = three (nat_lt n m) refl
          where
            three : (b : Bool) → nat_lt n m ≡ b → b ≡ false
            three true e = absurd (omega (arith, ltb-true n m e, over))
            three false e = refl
    two false e = tt

    one : (b : Bool) → (nat_le 0x30 glyph && nat_le glyph 0x39) ≡ b
        → IfSome (if b then Some (glyph - 0x30) else (if nat_le 0x61 glyph && nat_le glyph 0x66 then Some (glyph - 0x57) else None)) (λ n. IsDigit glyph n)
    one true e =
        let low = leb-true 0x30 glyph (and_parts (nat_le 0x30 glyph) (nat_le glyph 0x39) e).0 in
        let high = leb-true glyph 0x39 (and_parts (nat_le 0x30 glyph) (nat_le glyph 0x39) e).1 in
        record {
          small = omega (arith, low, high);
          is = chosen (nat_lt (glyph - 0x30) 10) (0x30 + (glyph - 0x30)) (0x57 + (glyph - 0x30)) (lt-ltb (glyph - 0x30) 10 (omega (arith, low, high))) ∙ omega (arith, low);
        }
    one false e = two (nat_le 0x61 glyph && nat_le glyph 0x66) refl

-- ---- one byte

-- A byte that is not plain is that of its two digits.
escape_back : (byte : ℕ) → byte < 256 → is_plain byte ≡ false → escape_of 0x5c 0x78 (hex_digit (byte / 16)) (hex_digit (byte % 16)) ≡ Some byte
escape_back byte small other =
    ap₂ byte_of (value_back (byte / 16) (omega (arith, small))) (value_back (byte % 16) (omega arith))
    ∙ ap unless_plain (omega arith)
    ∙ passed (is_plain byte) None (Some byte) other

-- What is read as an escaped byte is one.
pub record IsEscape (a b c d byte : ℕ) : Type 0 where
  pub small : byte < 256
  pub is : escaped_byte byte ≡ a ∷ b ∷ c ∷ d ∷ []

escape_read : (a b c d : ℕ) → IfSome (escape_of a b c d) (λ byte. IsEscape a b c d byte)
unfolding escaped_byte
escape_read a b c d = one ((a == 0x5c) && (b == 0x78)) refl
  where
    three : (high low : ℕ) → IsDigit c high → IsDigit d low → a ≡ 0x5c → b ≡ 0x78 → (t : Bool) → is_plain (16 * high + low) ≡ t
        → IfSome (if t then None else Some (16 * high + low)) (λ byte. IsEscape a b c d byte)
    three high low h l first second true e = tt
    three high low h l first second false e = record {
      small = omega (arith, h.small, l.small);
      is = passed (is_plain (16 * high + low)) ((16 * high + low) ∷ []) (0x5c ∷ 0x78 ∷ hex_byte (16 * high + low)) e
          ∙ (λ i. sym first i ∷ sym second i ∷ (ap hex_digit upper ∙ h.is) i ∷ (ap hex_digit lower ∙ l.is) i ∷ []);
    }
      where
        upper : (16 * high + low) / 16 ≡ high
        upper = omega (arith, h.small, l.small)

        lower : (16 * high + low) % 16 ≡ low
        lower = omega (arith, h.small, l.small)

    two : (high low : Option ℕ) → IfSome high (λ n. IsDigit c n) → IfSome low (λ n. IsDigit d n) → a ≡ 0x5c → b ≡ 0x78 → IfSome (byte_of high low) (λ byte. IsEscape a b c d byte)
    two None low h l first second = tt
    two (Some high) None h l first second = tt
    two (Some high) (Some low) h l first second = three high low h l first second (is_plain (16 * high + low)) refl

    one : (t : Bool) → ((a == 0x5c) && (b == 0x78)) ≡ t → IfSome (if t then byte_of (hex_value c) (hex_value d) else None) (λ byte. IsEscape a b c d byte)
    one true e =
        two (hex_value c) (hex_value d) (digit_read c) (digit_read d)
        (eqb-true a 0x5c (and_parts (a == 0x5c) (b == 0x78) e).0) (eqb-true b 0x78 (and_parts (a == 0x5c) (b == 0x78) e).1)
    one false e = tt

-- ---- what stands first

pub plain_first : (byte : ℕ) (rest : List ℕ) → is_plain byte ≡ true → unescaped (byte ∷ rest) ≡ onto (Some byte) (unescaped rest)
unfolding unescaped
plain_first byte [] plain = ap (λ (o : Option ℕ). onto o (Some [])) (chosen (is_plain byte) (Some byte) None plain)
plain_first byte (b ∷ []) plain = ap (λ (o : Option ℕ). onto o (unescaped (b ∷ []))) (chosen (is_plain byte) (Some byte) None plain)
plain_first byte (b ∷ c ∷ []) plain = ap (λ (o : Option ℕ). onto o (unescaped (b ∷ c ∷ []))) (chosen (is_plain byte) (Some byte) None plain)
plain_first byte (b ∷ c ∷ d ∷ rest) plain =
    chosen (is_plain byte) (onto (Some byte) (unescaped (b ∷ c ∷ d ∷ rest))) (onto (escape_of byte b c d) (unescaped rest)) plain

pub escape_first : (a b c d : ℕ) (rest : List ℕ) → is_plain a ≡ false → unescaped (a ∷ b ∷ c ∷ d ∷ rest) ≡ onto (escape_of a b c d) (unescaped rest)
unfolding unescaped
escape_first a b c d rest other = passed (is_plain a) (onto (Some a) (unescaped (b ∷ c ∷ d ∷ rest))) (onto (escape_of a b c d) (unescaped rest)) other

-- ---- the way back

backslash : is_plain 0x5c ≡ false
unfolding is_plain
backslash = refl

pub escaped_is_read_back : EscapedIsReadBack
unfolding escaped escaped_byte unescaped
escaped_is_read_back [] are = refl
escaped_is_read_back (byte ∷ bytes) are = one (is_plain byte) refl (escaped_is_read_back bytes are.1)
  where
    one : (b : Bool) → is_plain byte ≡ b → unescaped (escaped bytes) ≡ Some bytes → unescaped (escaped_byte byte ++ escaped bytes) ≡ Some (byte ∷ bytes)
    one true e more =
        ap (λ (front : List ℕ). unescaped (front ++ escaped bytes)) (chosen (is_plain byte) (byte ∷ []) (0x5c ∷ 0x78 ∷ hex_byte byte) e)
        ∙ plain_first byte (escaped bytes) e
        ∙ ap (λ (o : Option (List ℕ)). onto (Some byte) o) more
    one false e more =
        ap (λ (front : List ℕ). unescaped (front ++ escaped bytes)) (passed (is_plain byte) (byte ∷ []) (0x5c ∷ 0x78 ∷ hex_byte byte) e)
        ∙ escape_first 0x5c 0x78 (hex_digit (byte / 16)) (hex_digit (byte % 16)) (escaped bytes) backslash
        ∙ ap₂ onto (escape_back byte are.0 e) more

-- ---- only escaped forms are read

-- What a form is read as.
abbrev IsRead : List ℕ → List ℕ → Type 0
IsRead word bytes = escaped bytes ≡ word

onto_plain : (byte : ℕ) (rest : List ℕ) → is_plain byte ≡ true → (o : Option (List ℕ)) → IfSome o (IsRead rest) → IfSome (onto (Some byte) o) (IsRead (byte ∷ rest))
unfolding escaped escaped_byte
onto_plain byte rest plain None read = tt
onto_plain byte rest plain (Some bytes) read =
    ap (λ (front : List ℕ). front ++ escaped bytes) (chosen (is_plain byte) (byte ∷ []) (0x5c ∷ 0x78 ∷ hex_byte byte) plain)
    ∙ ap (λ (l : List ℕ). byte ∷ l) read

onto_escape : (a b c d : ℕ) (rest : List ℕ) (first : Option ℕ) → IfSome first (λ byte. IsEscape a b c d byte) → (o : Option (List ℕ)) → IfSome o (IsRead rest)
    → IfSome (onto first o) (IsRead (a ∷ b ∷ c ∷ d ∷ rest))
unfolding escaped
onto_escape a b c d rest None is o read = tt
onto_escape a b c d rest (Some byte) is None read = tt
onto_escape a b c d rest (Some byte) is (Some bytes) read = ap₂ (λ (x y : List ℕ). x ++ y) is.is read

only_plain : (byte : ℕ) (rest : List ℕ) → IfSome (unescaped rest) (IsRead rest) → IfSome (onto (plain_byte byte) (unescaped rest)) (IsRead (byte ∷ rest))
only_plain byte rest read = one (is_plain byte) refl
  where
    one : (b : Bool) → is_plain byte ≡ b → IfSome (onto (if b then Some byte else None) (unescaped rest)) (IsRead (byte ∷ rest))
    one true e = onto_plain byte rest e (unescaped rest) read
    one false e = tt

read_forms : (word : List ℕ) → IfSome (unescaped word) (IsRead word)
unfolding unescaped escaped
read_forms [] = refl
read_forms (a ∷ []) = only_plain a [] refl
read_forms (a ∷ b ∷ []) = only_plain a (b ∷ []) (read_forms (b ∷ []))
read_forms (a ∷ b ∷ c ∷ []) = only_plain a (b ∷ c ∷ []) (read_forms (b ∷ c ∷ []))
read_forms (a ∷ b ∷ c ∷ d ∷ rest) = one (is_plain a) refl (read_forms (b ∷ c ∷ d ∷ rest)) (read_forms rest)
  where
    one : (t : Bool) → is_plain a ≡ t → IfSome (unescaped (b ∷ c ∷ d ∷ rest)) (IsRead (b ∷ c ∷ d ∷ rest)) → IfSome (unescaped rest) (IsRead rest)
        → IfSome (if t then onto (Some a) (unescaped (b ∷ c ∷ d ∷ rest)) else onto (escape_of a b c d) (unescaped rest)) (IsRead (a ∷ b ∷ c ∷ d ∷ rest))
    one true e three behind = onto_plain a (b ∷ c ∷ d ∷ rest) e (unescaped (b ∷ c ∷ d ∷ rest)) three
    one false e three behind = onto_escape a b c d rest (escape_of a b c d) (escape_read a b c d) (unescaped rest) behind

pub read_is_escaped : ReadIsEscaped
read_is_escaped word bytes is = subst (λ (o : Option (List ℕ)). IfSome o (IsRead word)) is (read_forms word)

-- ---- bytes

onto_bytes : (first : Option ℕ) → IfSome first (λ byte. byte < 256) → (o : Option (List ℕ)) → IfSome o IsBytes → IfSome (onto first o) IsBytes
onto_bytes None small o are = tt
onto_bytes (Some byte) small None are = tt
onto_bytes (Some byte) small (Some bytes) are = (small, are)

plain_small : (byte : ℕ) → byte < 256 → IfSome (plain_byte byte) (λ b. b < 256)
plain_small byte small = one (is_plain byte)
  where
    one : (t : Bool) → IfSome (if t then Some byte else None) (λ b. b < 256)
    one true = small
    one false = tt

escape_small : (a b c d : ℕ) → IfSome (escape_of a b c d) (λ byte. byte < 256)
escape_small a b c d = one (escape_of a b c d) (escape_read a b c d)
  where
    one : (o : Option ℕ) → IfSome o (λ byte. IsEscape a b c d byte) → IfSome o (λ byte. byte < 256)
    one None is = tt
    one (Some byte) is = is.small

bytes_read : (word : List ℕ) → IsBytes word → IfSome (unescaped word) IsBytes
unfolding unescaped
bytes_read [] are = tt
bytes_read (a ∷ []) are = onto_bytes (plain_byte a) (plain_small a are.0) (Some []) tt
bytes_read (a ∷ b ∷ []) are = onto_bytes (plain_byte a) (plain_small a are.0) (unescaped (b ∷ [])) (bytes_read (b ∷ []) are.1)
bytes_read (a ∷ b ∷ c ∷ []) are = onto_bytes (plain_byte a) (plain_small a are.0) (unescaped (b ∷ c ∷ [])) (bytes_read (b ∷ c ∷ []) are.1)
bytes_read (a ∷ b ∷ c ∷ d ∷ rest) are = one (is_plain a) (bytes_read (b ∷ c ∷ d ∷ rest) are.1) (bytes_read rest are.1.1.1.1)
  where
    one : (t : Bool) → IfSome (unescaped (b ∷ c ∷ d ∷ rest)) IsBytes → IfSome (unescaped rest) IsBytes
        → IfSome (if t then onto (Some a) (unescaped (b ∷ c ∷ d ∷ rest)) else onto (escape_of a b c d) (unescaped rest)) IsBytes
    one true three behind = onto_bytes (Some a) are.0 (unescaped (b ∷ c ∷ d ∷ rest)) three
    one false three behind = onto_bytes (escape_of a b c d) (escape_small a b c d) (unescaped rest) behind

pub bytes_are_meant : BytesAreMeant
bytes_are_meant word bytes are is = one (is_escaped_word word) is
  where
    one : (b : Bool) → (if b then unescaped (drop 8 word) else Some word) ≡ Some bytes → IsBytes bytes
    one true e = subst (λ (o : Option (List ℕ)). IfSome o IsBytes) e (bytes_read (drop 8 word) (all_drop (λ b. b < 256) 8 word are))
    one false e = subst (λ (o : Option (List ℕ)). IfSome o IsBytes) e are
