-- What stands for a WRITE that can be written can be written too.
use Rattle.std.specs.Prelude.{◌≡◌, ℕ, ◌+◌, ◌<◌, ◌≤◌, ◌^◌, ◌==◌, Bool, true, false, List, [], ◌∷◌, ◌++◌, length, take, drop}
use Rattle.std.specs.Int.{w64, to_le_bytes}
use Rattle.std.proofs.Common.{refl, ap, ◌∙◌, arith, length-append, length-take, length-drop, zero-le}
use Rattle.send_model.specs.Attribute.{takes_rest, PATH, FILE_OFFSET, DATA}
use Rattle.send_model.specs.Command.{Command, Write, Truncate, End, row}
use Rattle.send_model.specs.Spelling.{Attribute, attribute_bytes, body_of, attributes_of, greatest_body}
use Rattle.send_model.specs.Laws.{CanWrite}
use Rattle.send_model.proofs.Attributes.{bytes_by}
use Rattle.send_model.proofs.Canonical.{attribute_len}
use Rattle.send_model.proofs.Versions.{not_rest}
use Rattle.send_commands.specs.Writing.{IsWritable, IsShortEnough, IfSecond}

pub by_version : (b : Bool) (P : Type 0) → P → IfSecond b P
by_version true P p = p
by_version false P p = tt

-- What can be written is short.
pub short_enough : (version : ℕ) (c : Command) → CanWrite version c → IsShortEnough version c
short_enough version c w = let s = w.spellable in by_version (version == 2) (length (body_of version (attributes_of c)) ≤ greatest_body) s.short

-- ---- fewer bytes at another offset

-- A stretch is no longer than the bytes that it is taken of.
pub stretch_short : (at len : ℕ) (bytes part : List ℕ) → part ≡ take len (drop at bytes) → length part ≤ length bytes
stretch_short at len bytes part is = let long = ap length is in omega (arith, long, length-take len (drop at bytes), length-drop at bytes)

pub part_writable : (version : ℕ) (path : List ℕ) (offset at : ℕ) (bytes part : List ℕ) → IsWritable version (Write path offset bytes) → length part ≤ length bytes → IsWritable version (Write path at part)
unfolding IsWritable row
part_writable version path offset at bytes part w l = (w.0, (tt, ((λ e. let h = w.1.1.0 e in omega (arith, h, l)), tt)))

attribute_is : (version : ℕ) (a b : Attribute) → a.kind ≡ b.kind → length a.bytes ≤ length b.bytes → length (attribute_bytes version a) ≤ length (attribute_bytes version b)
attribute_is version a b k l = one (takes_rest version b.kind) refl
  where
    one : (t : Bool) → takes_rest version b.kind ≡ t → length (attribute_bytes version a) ≤ length (attribute_bytes version b)
    one true e = let x = ap length (bytes_by version a true (ap (takes_rest version) k ∙ e)) in let y = ap length (bytes_by version b true e) in omega (arith, x, y, l)
    one false e = let x = ap length (bytes_by version a false (ap (takes_rest version) k ∙ e)) in let y = ap length (bytes_by version b false e) in omega (arith, x, y, l)

body_of_three : (version : ℕ) (a b c : Attribute) → length (body_of version (a ∷ b ∷ c ∷ [])) ≡ length (attribute_bytes version a) + (length (attribute_bytes version b) + length (attribute_bytes version c))
unfolding body_of
body_of_three version a b c =
    let none : length {A = ℕ} [] ≡ 0 = refl in
    omega (arith, length-append (attribute_bytes version a) (attribute_bytes version b ++ (attribute_bytes version c ++ [])), length-append (attribute_bytes version b) (attribute_bytes version c ++ []), length-append (attribute_bytes version c) [], none)

part_body : (version : ℕ) (path : List ℕ) (offset at : ℕ) (bytes part : List ℕ) → length (body_of version (attributes_of (Write path offset bytes))) ≤ greatest_body → length part ≤ length bytes
    → length (body_of version (attributes_of (Write path at part))) ≤ greatest_body
unfolding row attributes_of
part_body version path offset at bytes part short l =
    let p : Attribute = record { kind = PATH; bytes = path } in
    let o : ℕ → Attribute = λ n. record { kind = FILE_OFFSET; bytes = to_le_bytes w64 n } in
    let d : List ℕ → Attribute = λ bs. record { kind = DATA; bytes = bs } in
    omega (
      arith,
      short,
      body_of_three version p (o at) (d part),
      body_of_three version p (o offset) (d bytes),
      attribute_is version (o at) (o offset) refl same,
      attribute_is version (d part) (d bytes) refl l,
    )
  where
    same : length (to_le_bytes w64 at) ≤ length (to_le_bytes w64 offset)
    same = omega arith

pub part_short : (version : ℕ) (path : List ℕ) (offset at : ℕ) (bytes part : List ℕ) → CanWrite version (Write path offset bytes) → length part ≤ length bytes → IsShortEnough version (Write path at part)
part_short version path offset at bytes part w l =
    let s = w.spellable in
    by_version (version == 2) (length (body_of version (attributes_of (Write path at part))) ≤ greatest_body) (part_body version path offset at bytes part s.short l)

-- ---- a TRUNCATE

pub length_writable : (version : ℕ) (path : List ℕ) (offset size : ℕ) (bytes : List ℕ) → IsWritable version (Write path offset bytes) → IsWritable version (Truncate size path)
unfolding IsWritable row
length_writable version path offset size bytes w = (tt, (w.0, tt))

path_short : (version : ℕ) (path : List ℕ) (offset : ℕ) (bytes : List ℕ) → IsWritable version (Write path offset bytes) → length path < 2 ^ 16
unfolding IsWritable row
path_short version path offset bytes w = w.0 (not_rest version 15 refl)

abbrev room_of : List Attribute → ℕ
room_of [] = 0
room_of (a ∷ others) = (4 + length a.bytes) + room_of others

room_len : (version : ℕ) (attributes : List Attribute) → length (body_of version attributes) ≤ room_of attributes
unfolding body_of
room_len version [] = zero-le
room_len version (a ∷ others) = omega (arith, length-append (attribute_bytes version a) (body_of version others), attribute_len version a, room_len version others)

length_room : (path : List ℕ) (size : ℕ) → length path < 2 ^ 16 → room_of (attributes_of (Truncate size path)) ≤ greatest_body
unfolding attributes_of row
length_room path size p = omega (arith, p)

pub length_short : (version : ℕ) (path : List ℕ) (offset size : ℕ) (bytes : List ℕ) → IsWritable version (Write path offset bytes) → IsShortEnough version (Truncate size path)
length_short version path offset size bytes w =
    let l = room_len version (attributes_of (Truncate size path)) in
    let r = length_room path size (path_short version path offset bytes w) in
    by_version (version == 2) (length (body_of version (attributes_of (Truncate size path))) ≤ greatest_body) (omega (arith, l, r))

-- ---- END

pub end_writable : (version : ℕ) → IsWritable version End
unfolding IsWritable row
end_writable version = tt

no_body : (version : ℕ) → length (body_of version (attributes_of End)) ≤ greatest_body
unfolding body_of attributes_of row
no_body version = omega arith

pub end_short : (version : ℕ) → IsShortEnough version End
end_short version = by_version (version == 2) (length (body_of version (attributes_of End)) ≤ greatest_body) (no_body version)

-- ---- what can not be said

-- No version says a number of more than 64 bits.
pub not_write : (version : ℕ) (path : List ℕ) (at : ℕ) (bytes : List ℕ) → (at < 2 ^ 64 → ⊥) → CanWrite version (Write path at bytes) → ⊥
unfolding row
not_write version path at bytes far w = let s = w.spellable in let v = s.values in far v.1.0

pub not_truncate : (version : ℕ) (path : List ℕ) (size : ℕ) → (size < 2 ^ 64 → ⊥) → CanWrite version (Truncate size path) → ⊥
unfolding row
not_truncate version path size far w = let s = w.spellable in let v = s.values in far v.0
