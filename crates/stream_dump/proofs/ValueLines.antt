-- The values of a command, printed one after the other.
use Rattle.std.proofs.Common.{◌≡◌, ℕ, ◌+◌, ◌<◌, ◌≤◌, List, [], ◌∷◌, ◌++◌, length, take, drop, replicate, map, slice_index_or, refl, sym, ap, ap₂, subst, ◌∙◌, add-one, append_assoc, drop-cons}
use Rattle.std.proofs.lemmas.List.{get_or-map, length-map, take-replicate}
use Rattle.send_model.specs.Attribute.{Field}
use Rattle.std.specs.Ordering.{nat_cmp}
use Rattle.std.specs.Option.{unwrap_or}
use Rattle.send_model.specs.Map.{value_at}
use Rattle.send_model.specs.Lines.{value_names, value_with, values_with}
use Rattle.send_model.specs.Printed.{hex_bytes, uuid_text}
use Rattle.stream_dump.specs.declared.values.Value.{Value}
use Rattle.stream_dump.specs.Values.{field_of, name_of, one_value}

-- The values from a place on come after what is printed.
pub record IsValuesTo (contents : List ℕ → List ℕ) (start now : List ℕ) (kinds : List ℕ) (fields : List Field) (place : ℕ) : Type 0 where
  pub rest : now ++ values_with contents (drop place kinds) (drop place fields) ≡ start ++ values_with contents kinds fields

name_is : (kind : ℕ) → unwrap_or (value_at nat_cmp kind value_names) [] ≡ name_of kind
unfolding name_of
name_is kind = refl

first_value : (contents : List ℕ → List ℕ) (kind : ℕ) (kinds : List ℕ) (field : Field) (fields : List Field) → values_with contents (kind ∷ kinds) (field ∷ fields) ≡ one_value contents kind field ++ values_with contents kinds fields
first_value contents kind kinds field fields =
    ap (λ (name : List ℕ). (0x20 ∷ (name ++ (0x3d ∷ value_with contents kind field))) ++ values_with contents kinds fields) (name_is kind)

next_value : (contents : List ℕ → List ℕ) (start now kinds : List ℕ) (fields : List Field) (place : ℕ) (d : Field) → IsValuesTo contents start now kinds fields place → place < length kinds → place < length fields
    → IsValuesTo contents start (now ++ one_value contents (slice_index_or kinds place 0) (slice_index_or fields place d)) kinds fields (place + 1)
next_value contents start now kinds fields place d v less within =
    let kind : ℕ = slice_index_or kinds place 0 in
    let field : Field = slice_index_or fields place d in
    let first : drop place kinds ≡ kind ∷ drop (place + 1) kinds = rw (add-one, drop-cons kinds place 0) in
    let second : drop place fields ≡ field ∷ drop (place + 1) fields = rw (add-one, drop-cons fields place d) in
    record {
      rest = append_assoc now (one_value contents kind field) (values_with contents (drop (place + 1) kinds) (drop (place + 1) fields))
          ∙ ap (λ (l : List ℕ). now ++ l) (sym (ap₂ (values_with contents) first second ∙ first_value contents kind (drop (place + 1) kinds) field (drop (place + 1) fields)))
          ∙ v.rest;
    }

-- A value of the code was printed.
pub value_printed : (contents : List ℕ → List ℕ) (start now after kinds : List ℕ) (values : List Value) (place : ℕ) (d : Value) → IsValuesTo contents start now kinds (map field_of values) place
    → place < length kinds → place < length values → after ≡ now ++ one_value contents (slice_index_or kinds place 0) (field_of (slice_index_or values place d))
    → IsValuesTo contents start after kinds (map field_of values) (place + 1)
value_printed contents start now after kinds values place d v less within is =
    let there : place < length (map field_of values) = subst (λ (n : ℕ). place < n) (sym (length-map values field_of)) within in
    let same : slice_index_or (map field_of values) place (field_of d) ≡ field_of (slice_index_or values place d) = get_or-map field_of values place d (field_of d) within in
    subst (λ (l : List ℕ). IsValuesTo contents start l kinds (map field_of values) (place + 1))
    (ap (λ (f : Field). now ++ one_value contents (slice_index_or kinds place 0) f) same ∙ sym is)
    (next_value contents start now kinds (map field_of values) place (field_of d) v less there)

-- The first of nine zeros.
pub zeros_taken : (count : ℕ) → count ≤ 9 → take {A = ℕ} count (0x30 ∷ 0x30 ∷ 0x30 ∷ 0x30 ∷ 0x30 ∷ 0x30 ∷ 0x30 ∷ 0x30 ∷ 0x30 ∷ []) ≡ replicate count 0x30
zeros_taken count few = take-replicate count 9 0x30 few

-- The groups of an identifier, one after the other.
pub uuid_printed : (to bytes uuid node first second third fourth : List ℕ) → bytes ≡ uuid → node ≡ drop 10 bytes
    → first ≡ to ++ hex_bytes (take 4 bytes) → second ≡ first ++ 0x2d ∷ hex_bytes (take 2 (drop 4 bytes))
    → third ≡ second ++ 0x2d ∷ hex_bytes (take 2 (drop 6 bytes)) → fourth ≡ third ++ 0x2d ∷ hex_bytes (take 2 (drop 8 bytes))
    → fourth ++ 0x2d ∷ hex_bytes node ≡ to ++ uuid_text uuid
unfolding uuid_text
uuid_printed to bytes uuid node first second third fourth same is e1 e2 e3 e4 =
    let a : List ℕ = hex_bytes (take 4 bytes) in
    let b : List ℕ = 0x2d ∷ hex_bytes (take 2 (drop 4 bytes)) in
    let c : List ℕ = 0x2d ∷ hex_bytes (take 2 (drop 6 bytes)) in
    let d : List ℕ = 0x2d ∷ hex_bytes (take 2 (drop 8 bytes)) in
    let e : List ℕ = 0x2d ∷ hex_bytes node in
    ap (λ (l : List ℕ). l ++ e) (e4 ∙ ap (λ (l : List ℕ). l ++ d) (e3 ∙ ap (λ (l : List ℕ). l ++ c) (e2 ∙ ap (λ (l : List ℕ). l ++ b) e1)))
    ∙ ap (λ (l : List ℕ). ((l ++ c) ++ d) ++ e) (append_assoc to a b)
    ∙ ap (λ (l : List ℕ). (l ++ d) ++ e) (append_assoc to (a ++ b) c)
    ∙ ap (λ (l : List ℕ). l ++ e) (append_assoc to ((a ++ b) ++ c) d)
    ∙ append_assoc to (((a ++ b) ++ c) ++ d) e
    ∙ ap (λ (l : List ℕ). to ++ ((((a ++ b) ++ c) ++ d) ++ 0x2d ∷ hex_bytes l)) is
    ∙ ap (λ (u : List ℕ). to ++ uuid_text u) same
