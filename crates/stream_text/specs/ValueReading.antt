-- What reading a value of a line answers, and what it adds to a frame.
use Rattle.std.specs.Prelude.{◌≡◌, ℕ, ◌+◌, ◌-◌, ◌*◌, ◌%◌, ◌==◌, Bool, true, false, ◌&&◌, nat_le, List, [], ◌∷◌, ◌++◌, length, slice_index, ◌≢◌, ◌≤◌, ◌<◌, if◌then◌else◌}
use Rattle.std.specs.Str.Parse.{AllDigits, digits_value}
use Rattle.send_model.specs.Attribute.{Field, form_of, FieldFits, FieldsFit, field_bytes, IsBytes, HasRoom}
use Rattle.send_model.specs.Spelling.{attribute_bytes, body_of, with_fields}
use Rattle.send_model.specs.Printed.{hex_bytes}
use Rattle.send_model.specs.Lines.{value_with, values_with}
use Rattle.stream_dump.specs.Values.{name_of}
use Rattle.text_model.specs.FieldForms.{form_of_field, AreFormed}

-- The number that a lower hexadecimal digit stands for, 16 for any other byte.
unfoldable pub digit_in : ℕ → ℕ
digit_in glyph =
    if nat_le 0x30 glyph && nat_le glyph 0x39 then glyph - 0x30
    else (if nat_le 0x61 glyph && nat_le glyph 0x66 then glyph - 0x57 else 16)

-- Pairs of digits were read as bytes, which were added; or they are no such pairs.
abbrev pub ReadsHex : (text old new : List ℕ) → Bool → Type 0
ReadsHex text old new true =
    (bytes : List ℕ) × IsBytes bytes × (hex_bytes bytes ≡ text) × (new ≡ old ++ bytes)
ReadsHex text old new false = (bytes : List ℕ) → IsBytes bytes → hex_bytes bytes ≡ text → ⊥

abbrev pub FillsHex : (text bytes : List ℕ) → Bool → Type 0
FillsHex text bytes true = IsBytes bytes × (hex_bytes bytes ≡ text)
FillsHex text bytes false = (other : List ℕ) → IsBytes other → hex_bytes other ≡ text → ⊥

-- A value of the attribute of a number that a version can say.
abbrev pub IsValueOf : ℕ → ℕ → Field → Type 0
IsValueOf version kind field = (form_of kind ≡ form_of_field field) × FieldFits version kind field

-- The attribute with the value whose text this is was added; or it is the text of none.
abbrev pub ReadsValue : (version kind : ℕ) (text old new : List ℕ) → Bool → Type 0
ReadsValue version kind text old new true =
    (field : Field) × IsValueOf version kind field × (value_with hex_bytes kind field ≡ text)
    × (new ≡ old ++ attribute_bytes version (record { kind = kind; bytes = field_bytes field }))
ReadsValue version kind text old new false =
    (field : Field) → IsValueOf version kind field → value_with hex_bytes kind field ≡ text → ⊥

-- The same of values, one after the other.
abbrev pub ReadsValues : (version : ℕ) (kinds : List ℕ) (text old new : List ℕ) → Bool → Type 0
ReadsValues version kinds text old new true =
    (fields : List Field) × AreFormed kinds fields × FieldsFit version kinds fields
    × (values_with hex_bytes kinds fields ≡ text)
    × (new ≡ old ++ body_of version (with_fields kinds fields))
ReadsValues version kinds text old new false =
    (fields : List Field) → AreFormed kinds fields → FieldsFit version kinds fields
    → values_with hex_bytes kinds fields ≡ text → ⊥

-- An attribute with these bytes was added; or they are too many for its length field.
abbrev pub AddsAttribute : (version kind : ℕ) (bytes old new : List ℕ) → Bool → Type 0
AddsAttribute version kind bytes old new true =
    HasRoom version kind (length bytes)
    × (new ≡ old ++ attribute_bytes version (record { kind = kind; bytes = bytes }))
AddsAttribute version kind bytes old new false = HasRoom version kind (length bytes) → ⊥

-- What stands in front of a value: a space, its name and a sign.
abbrev pub lead_of : ℕ → List ℕ
lead_of kind = 0x20 ∷ name_of kind ++ 0x3d ∷ []

-- The word from a place on has no space, and ends at one or at the end.
pub record IsWordEnd (text : List ℕ) (from end : ℕ) : Type 0 where
  pub low : from ≤ end
  pub high : end ≤ length text
  pub word : (k : ℕ) → from ≤ k → k < end → slice_index text k ≢ 0x20
  pub space : end < length text → slice_index text end ≡ 0x20

-- The byte that two digits say, whatever they are.
abbrev pub pair_in : ℕ → ℕ → ℕ
pair_in high low = (digit_in high % 16) * 16 + digit_in low % 16

-- The bytes that an escaped form says, whatever else is read so.
unfoldable pub loosely : List ℕ → List ℕ
loosely [] = []
loosely (a ∷ []) = a ∷ []
loosely (a ∷ b ∷ []) = a ∷ loosely (b ∷ [])
loosely (a ∷ b ∷ c ∷ []) = a ∷ loosely (b ∷ c ∷ [])
loosely (a ∷ b ∷ c ∷ d ∷ rest) =
    if a == 0x5c then pair_in c d ∷ loosely rest else a ∷ loosely (b ∷ c ∷ d ∷ rest)

-- One or more digits of a base, whose number is this.
pub record IsNumeralOf (base m : ℕ) (text : List ℕ) : Type 0 where
  pub some : 0 < length text
  pub all : AllDigits base text
  pub value : digits_value base text ≡ m
