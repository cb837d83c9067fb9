-- The data of a command that a version can say lie in its frame, so they are no longer than the
-- greatest body.
use Rattle.std.specs.Prelude.{ℕ, ◌^◌, ◌≤◌, List, [], ◌++◌, length}
use Rattle.std.specs.Int.{w16, to_le_bytes}
use Rattle.std.proofs.Common.{arith, length-append, zero-le}
use Rattle.send_model.specs.Attribute.{PATH, FILE_OFFSET, DATA, field_bytes, Number}
use Rattle.send_model.specs.Command.{Command, Write, row}
use Rattle.send_model.specs.Spelling.{Attribute, length_bytes, attribute_bytes, body_of, attributes_of, greatest_body}
use Rattle.send_commands.specs.Meaning.{meaning_of}
use Rattle.clone_resolve.specs.Steps.{data_len}
use Rattle.cmd_reader.specs.declared.item.Item as read
use Rattle.cmd_reader.specs.Left.{Reader}
use Rattle.cmd_reader.specs.Next.{ItemFits}

in_attribute : (version : ℕ) (a : Attribute) → length a.bytes ≤ length (attribute_bytes version a)
unfolding attribute_bytes
in_attribute version a =
    let kind : List ℕ = to_le_bytes w16 a.kind in
    let len : List ℕ = length_bytes version a in
    omega (arith, length-append kind (len ++ a.bytes), length-append len a.bytes)

last_of_three : (xs ys zs : List ℕ) → length zs ≤ length (xs ++ (ys ++ (zs ++ [])))
last_of_three xs ys zs = omega (arith, length-append xs (ys ++ (zs ++ [])), length-append ys (zs ++ []), length-append zs [])

data_in_body : (version : ℕ) (path : List ℕ) (offset : ℕ) (bytes : List ℕ) → length bytes ≤ length (body_of version (attributes_of (Write path offset bytes)))
unfolding body_of attributes_of row
data_in_body version path offset bytes =
    let at : ℕ → List ℕ → List ℕ = λ kind value. attribute_bytes version (record { kind = kind; bytes = value }) in
    omega (arith, in_attribute version (record { kind = DATA; bytes = bytes }), last_of_three (at PATH path) (at FILE_OFFSET (field_bytes (Number offset))) (at DATA bytes))

short_data : (version : ℕ) (c : Command) → length (body_of version (attributes_of c)) ≤ greatest_body → data_len c ≤ 2 ^ 18
short_data version (Write path offset bytes) short = omega (arith, short, data_in_body version path offset bytes)
short_data version c short = zero-le

-- The data of an item that was read.
pub item_short : (item : read.Item) (old new : Reader) → ItemFits old new item → data_len (meaning_of item.command) ≤ 2 ^ 18
item_short item old new fits = short_data item.version (meaning_of item.command) fits.can_write.spellable.short
