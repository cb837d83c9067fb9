-- The values of the attributes that a table has, and when they are those of a lawful command.
use Rattle.std.specs.Prelude.{◌≡◌, ℕ, Bool, true, List, [], ◌∷◌}
use Rattle.std.specs.List.{list_all}
use Rattle.std.specs.Option.{unwrap_or}
use Rattle.send_model.specs.Attribute.{form_of}
use Rattle.send_model.specs.Reading.{form_fits, nanos_lawful}
use Rattle.tlv_frame.specs.Table.{Table, value_at}

-- The bytes of an attribute, none where it is not there.
abbrev pub bytes_in : Table → ℕ → List ℕ
bytes_in table kind = unwrap_or (value_at table kind) []

-- Attributes have the lengths of their forms.
abbrev pub HaveForms : Table → List ℕ → Type 0
HaveForms table [] = Unit {0}
HaveForms table (kind ∷ kinds) =
    (form_fits (form_of kind) (bytes_in table kind) ≡ true) × HaveForms table kinds

-- The moments among attributes have less than a second of nanoseconds.
abbrev pub are_timely : Table → List ℕ → Bool
are_timely table kinds = list_all (λ kind. nanos_lawful (form_of kind) (bytes_in table kind)) kinds
