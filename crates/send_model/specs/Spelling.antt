-- How commands stand in a stream as bytes: attributes, frames and the stream header, and the one
-- spelling of a command that this program writes. Source: struct btrfs_stream_header,
-- btrfs_cmd_header and btrfs_tlv_header in send.h.
use Rattle.std.specs.Prelude.{◌≡◌, ℕ, true, ◌<◌, ◌≤◌, ◌==◌, List, [], ◌∷◌, ◌++◌, length, Option, None, Some, codes, if◌then◌else◌}
use Rattle.std.specs.List.{flat_map, AllByRecursion}
use Rattle.std.specs.Int.{w16, w32, to_le_bytes}
use Rattle.send_model.specs.Checksum.{crc_of}
use Rattle.send_model.specs.Attribute.{Field, field_bytes, FieldsFit, IsBytes, HasRoom, last_attribute, takes_rest}
use Rattle.send_model.specs.Command.{Kind, Command, kind_of, row, kind_of_number, fields_of}

-- A stream begins with its magic text, a zero byte and the version.
abbrev pub magic : List ℕ
magic = codes "btrfs-stream" ++ 0 ∷ []

unfoldable pub stream_header : ℕ → List ℕ
stream_header version = magic ++ to_le_bytes w32 version

-- An attribute: its number, the length of its bytes, and these. In version 2 DATA has no length.
pub record Attribute : Type 0 where
  pub kind : ℕ
  pub bytes : List ℕ

abbrev pub length_bytes : ℕ → Attribute → List ℕ
length_bytes version a = if takes_rest version a.kind then [] else to_le_bytes w16 (length a.bytes)

unfoldable pub attribute_bytes : ℕ → Attribute → List ℕ
attribute_bytes version a = to_le_bytes w16 a.kind ++ length_bytes version a ++ a.bytes

-- The body of a frame is its attributes, one after the other.
unfoldable pub body_of : ℕ → List Attribute → List ℕ
body_of version attributes = flat_map (attribute_bytes version) attributes

-- The bytes of the attribute of a number, if it is there.
abbrev pub value_of : ℕ → List Attribute → Option (List ℕ)
value_of kind [] = None
value_of kind (a ∷ rest) = if a.kind == kind then Some a.bytes else value_of kind rest

-- An attribute that a version may have.
pub record IsAttribute (version : ℕ) (a : Attribute) : Type 0 where
  pub known : (0 < a.kind) × (a.kind ≤ last_attribute version)
  pub short : HasRoom version a.kind (length a.bytes)
  pub bytes : IsBytes a.bytes

-- Lawful attributes, no number twice, and nothing after one whose bytes are the rest of the body.
abbrev pub AreAttributes : ℕ → List Attribute → Type 0
AreAttributes version [] = Unit {0}
AreAttributes version (a ∷ rest) =
    IsAttribute version a × (value_of a.kind rest ≡ None)
    × (takes_rest version a.kind ≡ true → rest ≡ []) × AreAttributes version rest

-- The checksum of a frame: over its ten header bytes, with the checksum itself taken as zero, and
-- its body.
unfoldable pub frame_checksum : ℕ → ℕ → List ℕ → ℕ
frame_checksum len number body =
    crc_of 0 (to_le_bytes w32 len ++ to_le_bytes w16 number ++ to_le_bytes w32 0 ++ body)

-- A frame: the length of its body, the command's number, the checksum, and the body.
unfoldable pub frame_of : ℕ → List ℕ → List ℕ
frame_of number body =
    to_le_bytes w32 (length body) ++ to_le_bytes w16 number
    ++ to_le_bytes w32 (frame_checksum (length body) number body) ++ body

-- The greatest body of a frame.
abbrev pub greatest_body : ℕ
greatest_body = 262_144

-- The wanted attributes of a command with its values, in rising order of their numbers.
abbrev pub with_fields : List ℕ → List Field → List Attribute
with_fields (kind ∷ kinds) (field ∷ fields) =
    record { kind = kind; bytes = field_bytes field } ∷ with_fields kinds fields
with_fields [] fields = []
with_fields (kind ∷ kinds) [] = []

unfoldable pub attributes_of : Command → List Attribute
attributes_of command = with_fields (row (kind_of command)).wanted (fields_of command)

-- A version has a command.
abbrev pub IsKnown : ℕ → Kind → Type 0
IsKnown version kind = kind_of_number version (row kind).number ≡ Some kind

-- The bytes are one frame of a version for the command: attributes in any order, no number twice,
-- the wanted ones there with the command's values, and others that are skipped. Times have less
-- than a second of nanoseconds.
pub record Spells (version : ℕ) (bytes : List ℕ) (command : Command) : Type 0 where
  pub known : IsKnown version (kind_of command)
  pub attributes : List Attribute
  pub lawful : AreAttributes version attributes
  pub frame : bytes ≡ frame_of (row (kind_of command)).number (body_of version attributes)
  pub short : length (body_of version attributes) ≤ greatest_body
  pub wanted : AllByRecursion (λ a. value_of a.kind attributes ≡ Some a.bytes)
      (attributes_of command)
  pub values : FieldsFit version (row (kind_of command)).wanted (fields_of command)

-- The canonical spelling: the wanted attributes alone, in rising order of their numbers. So DATA is
-- the last.
unfoldable pub canonical : ℕ → Command → List ℕ
canonical version command =
    frame_of (row (kind_of command)).number (body_of version (attributes_of command))

-- A command that a version can say: it has the command, its attributes have room for the values,
-- and its body is short enough.
pub record IsSpellable (version : ℕ) (command : Command) : Type 0 where
  pub known : IsKnown version (kind_of command)
  pub values : FieldsFit version (row (kind_of command)).wanted (fields_of command)
  pub short : length (body_of version (attributes_of command)) ≤ greatest_body

-- A stream of commands.
unfoldable pub canonical_all : ℕ → List Command → List ℕ
canonical_all version commands = flat_map (canonical version) commands
