-- The spelling that is written.
use Rattle.std.specs.Prelude.{ℕ, Bool, true, false, ◌==◌, ◌+◌, ◌<◌, ◌≤◌, List, [], ◌∷◌, length, Option, option_map}
use Rattle.send_model.specs.Attribute.{Field, Identifier, Number, ShortNumber, Moment, Bytes, HasRoom, second, DATA}
use Rattle.send_model.specs.Command.{Command, kind_of, row, fields_of}
use Rattle.send_model.specs.Spelling.{attributes_of, body_of, greatest_body}
use Rattle.send_model.specs.Reading.{frame_header_len, place_of}
use Rattle.send_commands.specs.declared.encoding.Field as coded
use Rattle.send_commands.specs.declared.encoding.Field.TheVariants as made
use Rattle.send_commands.specs.Meaning.{time_of}

-- Bytes fit the length field of an attribute, where it has one, and a moment has less than a second
-- of nanoseconds.
abbrev pub FieldShort : ℕ → ℕ → Field → Type 0
FieldShort version kind (Identifier bytes) = Unit {0}
FieldShort version kind (Number n) = Unit {0}
FieldShort version kind (ShortNumber n) = Unit {0}
FieldShort version kind (Moment t) = t.nanos < second
FieldShort version kind (Bytes bytes) = HasRoom version kind (length bytes)

-- The same of the values of attributes, in their order.
abbrev pub FieldsShort : ℕ → List ℕ → List Field → Type 0
FieldsShort version (kind ∷ kinds) (field ∷ fields) =
    FieldShort version kind field × FieldsShort version kinds fields
FieldsShort version [] [] = Unit {0}
FieldsShort version [] (field ∷ fields) = ⊥
FieldsShort version (kind ∷ kinds) [] = ⊥

-- A command whose values can be written in a version.
unfoldable pub IsWritable : ℕ → Command → Type 0
IsWritable version command = FieldsShort version (row (kind_of command)).wanted (fields_of command)

-- A condition in version 2 alone.
abbrev pub IfSecond : Bool → Type 0 → Type 0
IfSecond true P = P
IfSecond false P = Unit {0}

-- In version 2, where data may have any length, the body is short enough for a frame.
abbrev pub IsShortEnough : ℕ → Command → Type 0
IsShortEnough version command =
    IfSecond (version == 2) (length (body_of version (attributes_of command)) ≤ greatest_body)

-- Where in the canonical spelling of a command the bytes of its data begin, if it has data.
unfoldable pub data_at : ℕ → Command → Option ℕ
data_at version command =
    option_map (λ place. frame_header_len + place) (place_of version DATA (attributes_of command))

-- A value of the code as one of the definitions.
abbrev pub field_of : coded.Field → Field
field_of (made.Identifier uuid) = Identifier uuid
field_of (made.Number n) = Number n
field_of (made.ShortNumber n) = ShortNumber n
field_of (made.Moment t) = Moment (time_of t)
field_of (made.Bytes bytes) = Bytes bytes.now
