-- The attribute in front of a body, as far as it can be judged without those before it.
use Rattle.std.specs.Prelude.{ℕ, Bool, ◌&&◌, List, length, Result, Ok, nat_lt, nat_le}
use Rattle.send_model.specs.Refusal.{Refusal, BadAttribute}
use Rattle.send_model.specs.Chain.{◌>>◌, require}
use Rattle.send_model.specs.Attribute.{last_attribute}
use Rattle.send_model.specs.Spelling.{Attribute}
use Rattle.send_model.specs.Reading.{number16, attribute_number, attribute_end, attribute_in}

-- It is of a known number, and whole.
abbrev pub front_lawful : ℕ → List ℕ → Bool
front_lawful version body =
    nat_le 2 (length body) && nat_lt 0 (number16 body)
    && nat_le (number16 body) (last_attribute version)
    && nat_le (attribute_end version body) (length body)

unfoldable pub front_at : ℕ → List ℕ → Result Attribute Refusal
front_at version body = do
  require (front_lawful version body) (BadAttribute (attribute_number body))
  Ok (attribute_in version body)
