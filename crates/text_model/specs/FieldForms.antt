-- Which values are of the forms that attributes have, whatever command they belong to.
use Rattle.std.specs.Prelude.{◌≡◌, ℕ, List, [], ◌∷◌}
use Rattle.send_model.specs.Attribute.{Form, AnIdentifier, ANumber, AShortNumber, AMoment, AnyBytes, form_of, Field, Identifier, Number, ShortNumber, Moment, Bytes}

abbrev pub form_of_field : Field → Form
form_of_field (Identifier bytes) = AnIdentifier
form_of_field (Number n) = ANumber
form_of_field (ShortNumber n) = AShortNumber
form_of_field (Moment t) = AMoment
form_of_field (Bytes bytes) = AnyBytes

-- As many values as attributes, each of its attribute's form.
abbrev pub AreFormed : List ℕ → List Field → Type 0
AreFormed [] [] = Unit {0}
AreFormed [] (field ∷ fields) = ⊥
AreFormed (kind ∷ kinds) [] = ⊥
AreFormed (kind ∷ kinds) (field ∷ fields) =
    (form_of kind ≡ form_of_field field) × AreFormed kinds fields
