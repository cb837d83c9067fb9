-- Which command a number and the attributes of a table are, and why they are none.
use Rattle.std.specs.Prelude.{◌≡◌, ℕ, Bool, true, false, List, [], Option, None, Some, Ok, Err}
use Rattle.std.specs.List.{list_all}
use Rattle.std.specs.Option.{unwrap_or}
use Rattle.std.proofs.Common.{refl, sym, ap, ◌∙◌}
use Rattle.send_model.specs.Refusal.{Refusal, BadTime, UnknownCommand, Encoded}
use Rattle.send_model.specs.Attribute.{form_of}
use Rattle.send_model.specs.Command.{Kind, row, is_encoded, kind_of_number, command_with}
use Rattle.send_model.specs.Spelling.{Attribute}
use Rattle.send_model.specs.Reading.{wanted_there, bytes_at, moment_lawful, nanos_lawful, command_of}
use Rattle.tlv_frame.specs.Table.{Table, StandsFor}
use Rattle.send_commands.specs.Values.{bytes_in, are_timely}

-- What calls on the version of a table say of a number.
pub plainly : {version v : ℕ} {encoded : Bool} (number : ℕ) → v ≡ version → encoded ≡ is_encoded v number → encoded ≡ false → is_encoded version number ≡ false
plainly number same is not = ap (λ (n : ℕ). is_encoded n number) (sym same) ∙ sym is ∙ not

pub known_as : {version v : ℕ} {kind : Option Kind} (number : ℕ) → v ≡ version → kind ≡ kind_of_number v number → kind_of_number version number ≡ kind
known_as number same is = ap (λ (n : ℕ). kind_of_number n number) (sym same) ∙ sym is

pub command_encoded : (version number : ℕ) (list : List Attribute) → is_encoded version number ≡ true → command_of version number list ≡ Err Encoded
unfolding command_of
command_encoded version number list e = rw e refl

pub command_unknown : (version number : ℕ) (list : List Attribute) → is_encoded version number ≡ false → kind_of_number version number ≡ None → command_of version number list ≡ Err (UnknownCommand number)
unfolding command_of
command_unknown version number list plain e = rw (plain, e) refl

-- The bytes of a table's attributes.
bytes_same : (table : Table) (list : List Attribute) → StandsFor table list → bytes_in table ≡ bytes_at list
bytes_same table list stands = λ i kind. unwrap_or (stands.values kind i) []

module _ (table : Table) (version number : ℕ) (kind : Kind) (plain : is_encoded version number ≡ false) (known : kind_of_number version number ≡ Some kind) where
  -- Not all wanted attributes are there.
  pub command_lacking : (list : List Attribute) (refusal : Refusal) → wanted_there (row kind).wanted list ≡ Err refusal → command_of version number list ≡ Err refusal
  unfolding command_of
  command_lacking list refusal lacking = rw (plain, known, lacking) refl

  -- A time has too many nanoseconds.
  pub command_untimely : (list : List Attribute) → StandsFor table list → wanted_there (row kind).wanted list ≡ Ok tt → are_timely table (row kind).wanted ≡ false → command_of version number list ≡ Err BadTime
  unfolding command_of
  command_untimely list stands there late =
      let times : list_all (moment_lawful list) (row kind).wanted ≡ false = ap (λ (values : ℕ → List ℕ). list_all (λ k. nanos_lawful (form_of k) (values k)) (row kind).wanted) (sym (bytes_same table list stands)) ∙ late in
      rw (plain, known, there, times) refl

  -- All is lawful.
  pub command_lawful : (list : List Attribute) → StandsFor table list → wanted_there (row kind).wanted list ≡ Ok tt → are_timely table (row kind).wanted ≡ true → command_of version number list ≡ Ok (command_with kind (bytes_in table))
  unfolding command_of
  command_lawful list stands there timely =
      let times : list_all (moment_lawful list) (row kind).wanted ≡ true = ap (λ (values : ℕ → List ℕ). list_all (λ k. nanos_lawful (form_of k) (values k)) (row kind).wanted) (sym (bytes_same table list stands)) ∙ timely in
      rw (plain, known, there, times) (ap (λ (values : ℕ → List ℕ). Ok (command_with kind values)) (sym (bytes_same table list stands)))
