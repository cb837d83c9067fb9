-- How bytes, identifiers, numbers and moments are printed: with no blank and no line end in them.
-- These forms are this program's own; btrfs receive --dump prints in its own way.
use Rattle.std.specs.Prelude.{ℕ, ◌+◌, ◌-◌, ◌/◌, ◌%◌, ◌==◌, Bool, false, not, ◌&&◌, nat_lt, nat_le, if◌then◌else◌, List, [], ◌∷◌, ◌++◌, length, take, drop, replicate}
use Rattle.std.specs.List.{flat_map}
use Rattle.std.specs.Fmt.{decimal, digits}
use Rattle.send_model.specs.Attribute.{Time}

-- A visible character of ASCII but the backslash stands for itself.
unfoldable pub is_plain : ℕ → Bool
is_plain byte = nat_le 0x21 byte && (nat_le byte 0x7e && not (byte == 0x5c))

-- The lower hexadecimal digit of a number below 16.
unfoldable pub hex_digit : ℕ → ℕ
hex_digit n = if nat_lt n 10 then 0x30 + n else 0x57 + n

-- A byte as two such digits.
abbrev pub hex_byte : ℕ → List ℕ
hex_byte byte = hex_digit (byte / 16) ∷ hex_digit (byte % 16) ∷ []

-- The escaped form: every byte that is not plain is a backslash, the letter x and two digits.
unfoldable pub escaped_byte : ℕ → List ℕ
escaped_byte byte = if is_plain byte then byte ∷ [] else 0x5c ∷ 0x78 ∷ hex_byte byte

unfoldable pub escaped : List ℕ → List ℕ
escaped [] = []
escaped (byte ∷ rest) = escaped_byte byte ++ escaped rest

-- An identifier in its usual form: 32 digits with hyphens after 8, 12, 16 and 20 of them.
abbrev pub hex_bytes : List ℕ → List ℕ
hex_bytes bytes = flat_map hex_byte bytes

unfoldable pub uuid_text : List ℕ → List ℕ
uuid_text bytes =
    hex_bytes (take 4 bytes) ++ 0x2d ∷ hex_bytes (take 2 (drop 4 bytes))
    ++ 0x2d ∷ hex_bytes (take 2 (drop 6 bytes))
    ++ 0x2d ∷ hex_bytes (take 2 (drop 8 bytes)) ++ 0x2d ∷ hex_bytes (drop 10 bytes)

-- Octal digits, without zeros in front.
abbrev pub octal : ℕ → List ℕ
octal n = digits 8 false n

-- Seconds, a point, and nine digits of nanoseconds.
unfoldable pub time_text : Time → List ℕ
time_text t =
    decimal t.secs ++ 0x2e ∷ replicate (9 - length (decimal t.nanos)) 0x30 ++ decimal t.nanos
