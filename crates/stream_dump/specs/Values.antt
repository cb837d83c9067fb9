-- The values of a command as they are printed.
use Rattle.std.specs.Prelude.{ℕ, List, [], ◌∷◌, ◌++◌}
use Rattle.std.specs.Ordering.{nat_cmp}
use Rattle.std.specs.Option.{unwrap_or}
use Rattle.send_model.specs.Attribute.{Field, Identifier, Number, ShortNumber, Moment, Bytes}
use Rattle.send_model.specs.Command.{Command, row, kind_of, fields_of}
use Rattle.send_model.specs.Map.{value_at}
use Rattle.send_model.specs.Printed.{hex_bytes}
use Rattle.send_model.specs.Lines.{value_names, value_with, values_with, count_text}
use Rattle.send_commands.specs.Meaning.{time_of}
use Rattle.stream_dump.specs.declared.values.Contents.{Contents}
use Rattle.stream_dump.specs.declared.values.Contents.TheVariants as form
use Rattle.stream_dump.specs.declared.values.Value.{Value}
use Rattle.stream_dump.specs.declared.values.Value.TheVariants as made

-- A value of the code as one of the definitions.
abbrev pub field_of : Value → Field
field_of (made.Identifier uuid) = Identifier uuid
field_of (made.Number n) = Number n
field_of (made.ShortNumber n) = ShortNumber n
field_of (made.Moment t) = Moment (time_of t)
field_of (made.Bytes bytes) = Bytes bytes.now

-- How contents are printed.
abbrev pub form_of : Contents → List ℕ → List ℕ
form_of form.Count bytes = count_text bytes
form_of form.Digits bytes = hex_bytes bytes

-- The name of an attribute's values.
unfoldable pub name_of : ℕ → List ℕ
name_of kind = unwrap_or (value_at nat_cmp kind value_names) []

-- One value after a space, with its name.
abbrev pub one_value : (List ℕ → List ℕ) → ℕ → Field → List ℕ
one_value contents kind field = 0x20 ∷ name_of kind ++ 0x3d ∷ value_with contents kind field

-- A command's name and its values.
unfoldable pub command_text : (List ℕ → List ℕ) → Command → List ℕ
command_text contents command =
    (row (kind_of command)).name
    ++ values_with contents (row (kind_of command)).wanted (fields_of command)
