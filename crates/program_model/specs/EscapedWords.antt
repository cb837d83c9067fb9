-- Words for names and paths of any bytes: `escaped:WORD` means the bytes whose escaped form WORD
-- is, as they are printed, and any other word means its own bytes. This program's own.
use Rattle.std.specs.Prelude.{◌≡◌, ℕ, ◌+◌, ◌-◌, ◌*◌, ◌==◌, Bool, List, [], ◌∷◌, take, drop, Option, None, Some, codes, nat_le, ◌&&◌, if◌then◌else◌}
use Rattle.std.specs.Option.{unwrap_or}
use Rattle.std.specs.Str.{bytes_eq}
use Rattle.send_model.specs.Attribute.{IsBytes}
use Rattle.send_model.specs.Printed.{is_plain, escaped}

-- The number that a lower hexadecimal digit stands for.
unfoldable pub hex_value : ℕ → Option ℕ
hex_value glyph =
    if nat_le 0x30 glyph && nat_le glyph 0x39 then Some (glyph - 0x30)
    else (if nat_le 0x61 glyph && nat_le glyph 0x66 then Some (glyph - 0x57) else None)

-- The byte of two such digits, where it is one that is not plain: a plain byte stands for itself,
-- and has no other form.
abbrev pub unless_plain : ℕ → Option ℕ
unless_plain byte = if is_plain byte then None else Some byte

abbrev pub byte_of : Option ℕ → Option ℕ → Option ℕ
byte_of None low = None
byte_of (Some high) None = None
byte_of (Some high) (Some low) = unless_plain (16 * high + low)

-- The byte that a backslash, the letter x and two digits stand for.
abbrev pub escape_of : (first second third fourth : ℕ) → Option ℕ
escape_of first second third fourth =
    if (first == 0x5c)
    && (second == 0x78) then byte_of (hex_value third) (hex_value fourth) else None

-- A byte in front of others.
abbrev pub onto : Option ℕ → Option (List ℕ) → Option (List ℕ)
onto None bytes = None
onto (Some byte) None = None
onto (Some byte) (Some bytes) = Some (byte ∷ bytes)

-- A byte that is plain, and no other.
abbrev pub plain_byte : ℕ → Option ℕ
plain_byte byte = if is_plain byte then Some byte else None

-- The bytes whose escaped form this is, if it is one.
unfoldable pub unescaped : List ℕ → Option (List ℕ)
unescaped [] = Some []
unescaped (a ∷ []) = onto (plain_byte a) (Some [])
unescaped (a ∷ b ∷ []) = onto (plain_byte a) (unescaped (b ∷ []))
unescaped (a ∷ b ∷ c ∷ []) = onto (plain_byte a) (unescaped (b ∷ c ∷ []))
unescaped (a ∷ b ∷ c ∷ d ∷ rest) =
    if is_plain a then onto (Some a) (unescaped (b ∷ c ∷ d ∷ rest)) else onto (escape_of a b c d)
    (unescaped rest)

-- ---- words

-- Words that mean escaped bytes begin with this, whether or not they mean any.
abbrev pub is_escaped_word : List ℕ → Bool
is_escaped_word word = bytes_eq (take 8 word) (codes "escaped:")

-- The bytes that a word means where a name or a path stands, if it means any.
abbrev pub meant_by : List ℕ → Option (List ℕ)
meant_by word = if is_escaped_word word then unescaped (drop 8 word) else Some word

-- Those of a word that means some.
abbrev pub name_meant : List ℕ → List ℕ
name_meant word = unwrap_or (meant_by word) []

-- ---- laws

-- The escaped form of bytes is read back, and only it is read as these bytes: so each list of bytes
-- can be asked for, in one way.
abbrev pub EscapedIsReadBack : Type 0
EscapedIsReadBack = (bytes : List ℕ) → IsBytes bytes → unescaped (escaped bytes) ≡ Some bytes

abbrev pub ReadIsEscaped : Type 0
ReadIsEscaped = (word bytes : List ℕ) → unescaped word ≡ Some bytes → escaped bytes ≡ word

-- What words of bytes mean is bytes.
abbrev pub BytesAreMeant : Type 0
BytesAreMeant = (word bytes : List ℕ) → IsBytes word → meant_by word ≡ Some bytes → IsBytes bytes
