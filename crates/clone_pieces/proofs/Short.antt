-- A WRITE and a CLONE can be spelled in either version where their paths are short, and a WRITE
-- where it has at most 49,152 bytes.
use Rattle.std.specs.Prelude.{ℕ, ◌+◌, ◌<◌, ◌≤◌, ◌^◌, ◌==◌, Bool, true, false, List, [], ◌∷◌, length}
use Rattle.std.proofs.Common.{arith, length-append, zero-le}
use Rattle.send_model.specs.Command.{Command, Write, Clone, row}
use Rattle.send_model.specs.Spelling.{Attribute, attribute_bytes, attributes_of, body_of, greatest_body}
use Rattle.send_model.proofs.Canonical.{attribute_len}
use Rattle.send_commands.specs.Writing.{IsWritable, IsShortEnough, IfSecond}

pub write_writable : (version : ℕ) (path : List ℕ) (offset : ℕ) (bytes : List ℕ) → length path < 2 ^ 16 → length bytes < 2 ^ 16 → IsWritable version (Write path offset bytes)
unfolding IsWritable row
write_writable version path offset bytes p b = ((λ e. p), (tt, ((λ e. b), tt)))

pub clone_writable : (version : ℕ) (path : List ℕ) (offset : ℕ) (uuid : List ℕ) (ctransid : ℕ) (clone_path : List ℕ) (clone_offset clone_len : ℕ) → length path < 2 ^ 16 → length clone_path < 2 ^ 16
    → IsWritable version (Clone path offset uuid ctransid clone_path clone_offset clone_len)
unfolding IsWritable row
clone_writable version path offset uuid ctransid clone_path clone_offset clone_len p c = ((λ e. p), (tt, (tt, (tt, ((λ e. c), (tt, (tt, tt)))))))

by_version : (b : Bool) (P : Type 0) → P → IfSecond b P
by_version true P p = p
by_version false P p = tt

-- The room that attributes take.
abbrev room_of : List Attribute → ℕ
room_of [] = 0
room_of (a ∷ others) = (4 + length a.bytes) + room_of others

room_len : (version : ℕ) (attributes : List Attribute) → length (body_of version attributes) ≤ room_of attributes
unfolding body_of
room_len version [] = zero-le
room_len version (a ∷ others) = omega (arith, length-append (attribute_bytes version a) (body_of version others), attribute_len version a, room_len version others)

write_room : (path : List ℕ) (offset : ℕ) (bytes : List ℕ) → length path < 2 ^ 16 → length bytes < 2 ^ 16 → room_of (attributes_of (Write path offset bytes)) ≤ greatest_body
unfolding attributes_of row
write_room path offset bytes p b = omega (arith, p, b)

pub write_short : (version : ℕ) (path : List ℕ) (offset : ℕ) (bytes : List ℕ) → length path < 2 ^ 16 → length bytes < 2 ^ 16 → IsShortEnough version (Write path offset bytes)
write_short version path offset bytes p b =
    let l = room_len version (attributes_of (Write path offset bytes)) in
    let r = write_room path offset bytes p b in
    by_version (version == 2) (length (body_of version (attributes_of (Write path offset bytes))) ≤ greatest_body) (omega (arith, l, r))

clone_room : (path : List ℕ) (offset : ℕ) (uuid : List ℕ) (ctransid : ℕ) (clone_path : List ℕ) (clone_offset clone_len : ℕ) → length path < 2 ^ 16 → length clone_path < 2 ^ 16 → length uuid < 2 ^ 16
    → room_of (attributes_of (Clone path offset uuid ctransid clone_path clone_offset clone_len)) ≤ greatest_body
unfolding attributes_of row
clone_room path offset uuid ctransid clone_path clone_offset clone_len p c u = omega (arith, p, c, u)

pub clone_short : (version : ℕ) (path : List ℕ) (offset : ℕ) (uuid : List ℕ) (ctransid : ℕ) (clone_path : List ℕ) (clone_offset clone_len : ℕ) → length path < 2 ^ 16 → length clone_path < 2 ^ 16 → length uuid < 2 ^ 16
    → IsShortEnough version (Clone path offset uuid ctransid clone_path clone_offset clone_len)
clone_short version path offset uuid ctransid clone_path clone_offset clone_len p c u =
    let command : Command = Clone path offset uuid ctransid clone_path clone_offset clone_len in
    let l = room_len version (attributes_of command) in
    let r = clone_room path offset uuid ctransid clone_path clone_offset clone_len p c u in
    by_version (version == 2) (length (body_of version (attributes_of command)) ≤ greatest_body) (omega (arith, l, r))
