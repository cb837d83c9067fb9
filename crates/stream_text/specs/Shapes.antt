-- How the value of an attribute is written, by its form and its number.
use Rattle.std.specs.Prelude.{◌≡◌, ℕ, ◌==◌, true, false, [], ◌∷◌, Option, None, Some}
use Rattle.send_model.specs.Attribute.{AnIdentifier, ANumber, AShortNumber, AMoment, AnyBytes, NoForm, form_of, is_one_of, XATTR_DATA, DATA, MODE}
use Rattle.stream_text.specs.declared.shapes.Shape.{Shape}
use Rattle.stream_text.specs.declared.shapes.Shape.TheVariants as shape

abbrev pub HasShape : ℕ → Option Shape → Type 0
HasShape kind None = form_of kind ≡ NoForm
HasShape kind (Some shape.Identifier) = form_of kind ≡ AnIdentifier
HasShape kind (Some shape.Moment) = form_of kind ≡ AMoment
HasShape kind (Some shape.Contents) =
    (form_of kind ≡ AnyBytes) × (is_one_of kind (XATTR_DATA ∷ DATA ∷ []) ≡ true)
HasShape kind (Some shape.Escaped) =
    (form_of kind ≡ AnyBytes) × (is_one_of kind (XATTR_DATA ∷ DATA ∷ []) ≡ false)
HasShape kind (Some shape.ShortNumber) = form_of kind ≡ AShortNumber
HasShape kind (Some shape.Octal) = (form_of kind ≡ ANumber) × ((kind == MODE) ≡ true)
HasShape kind (Some shape.Number) = (form_of kind ≡ ANumber) × ((kind == MODE) ≡ false)
