-- Values of a line, one after the other.
use Rattle.std.specs.Prelude.{◌≡◌, ◌≢◌, ℕ, ◌+◌, ◌-◌, ◌<◌, ◌≤◌, ◌==◌, Bool, true, false, List, [], ◌∷◌, ◌++◌, length, take, drop}
use Rattle.std.proofs.Common.{sym, ap, ap₂, subst, ◌∙◌, arith, append_assoc, append-nil, get_or, drop-drop, drop-cons, add-one, eqb-true, eq-eqb}
use Rattle.std.proofs.lemmas.List.{take-append-drop, length-drop, get_or-drop, append_cancel_left, drop_all, take_all}
use Rattle.send_model.specs.Attribute.{Field, field_bytes, FieldFits}
use Rattle.send_model.specs.Spelling.{attribute_bytes, body_of, with_fields}
use Rattle.send_model.specs.Printed.{hex_bytes}
use Rattle.send_model.specs.Lines.{value_with, values_with}
use Rattle.stream_dump.specs.Values.{name_of}
use Rattle.text_model.proofs.OneReading.{value_word}
use Rattle.stream_text.specs.ValueReading.{ReadsValue, ReadsValues, lead_of, IsWordEnd}
use Rattle.stream_text.proofs.CommandTexts.{word_of, values_spaced}

-- The first value's lead, its text, and the others.
pub first_values : (kind : ℕ) (kinds : List ℕ) (field : Field) (fields : List Field)
    → values_with hex_bytes (kind ∷ kinds) (field ∷ fields) ≡ lead_of kind ++ (value_with hex_bytes kind field ++ values_with hex_bytes kinds fields)
unfolding name_of
first_values kind kinds field fields =
    let value : List ℕ = value_with hex_bytes kind field in
    let rest : List ℕ = values_with hex_bytes kinds fields in
    ap (λ (l : List ℕ). 0x20 ∷ l) (append_assoc (name_of kind) (0x3d ∷ value) rest ∙ sym (append_assoc (name_of kind) (0x3d ∷ []) (value ++ rest)))

-- What stands in front of the first value is not there.
pub lead_missing : (version kind : ℕ) (kinds text old new : List ℕ) → ((rest : List ℕ) → text ≢ lead_of kind ++ rest) → ReadsValues version (kind ∷ kinds) text old new false
lead_missing version kind kinds text old new none [] are fit says = absurd are
lead_missing version kind kinds text old new none (f ∷ fs) are fit says = none (value_with hex_bytes kind f ++ values_with hex_bytes kinds fs) (sym says ∙ first_values kind kinds f fs)

shifted : (text : List ℕ) (from end : ℕ) → IsWordEnd text from end → IsWordEnd (drop from text) 0 (end - from)
shifted text from end w = record {
  low = omega arith;
  high = omega (arith, length-drop from text, w.low, w.high);
  word = λ k above below e. w.word (from + k) (omega arith) (omega (arith, below, w.low)) (sym (get_or-drop from text k 0) ∙ e);
  space = λ less.
      let place : from + (end - from) ≡ end = omega (arith, w.low) in
      get_or-drop from text (end - from) 0 ∙ ap (λ (n : ℕ). get_or text n 0) place ∙ w.space (omega (arith, less, length-drop from text, w.low));
}

-- A value behind its lead: where it begins and ends in the text.
pub record IsValueAt (kind : ℕ) (text : List ℕ) (at from end : ℕ) : Type 0 where
  pub low : at ≤ from
  pub lead : take (from - at) (drop at text) ≡ lead_of kind
  pub word : IsWordEnd text from end

module _ (version kind : ℕ) (kinds text : List ℕ) (at from end : ℕ) (v : IsValueAt kind text at from end) where
  abbrev value : List ℕ
  value = take (end - from) (drop from text)

  in_front : drop at text ≡ lead_of kind ++ drop from text
  in_front =
      let place : at + (from - at) ≡ from = omega (arith, v.low) in
      sym (take-append-drop (from - at) (drop at text)) ∙ ap₂ (λ (a b : List ℕ). a ++ b) v.lead (drop-drop (from - at) at text ∙ ap (λ (n : ℕ). drop n text) place)

  -- A value that stands here is the text of the word.
  parts : (field : Field) (fields : List Field) → FieldFits version kind field → values_with hex_bytes (kind ∷ kinds) (field ∷ fields) ≡ drop at text
      → (value ≡ value_with hex_bytes kind field) × (drop end text ≡ values_with hex_bytes kinds fields)
  parts field fields fits says =
      let own : List ℕ = value_with hex_bytes kind field in
      let rest : List ℕ = values_with hex_bytes kinds fields in
      let here : drop from text ≡ own ++ rest = append_cancel_left (lead_of kind) (drop from text) (own ++ rest) (sym in_front ∙ sym says ∙ first_values kind kinds field fields) in
      let w = word_of (drop from text) (end - from) (shifted text from end v.word) own rest (value_word version kind field fits) (values_spaced kinds fields) here in
      let place : from + (end - from) ≡ end = omega (arith, v.word.low) in
      (w.0, ap (λ (n : ℕ). drop n text) (sym place) ∙ sym (drop-drop (end - from) from text) ∙ w.1)

  -- It is none.
  pub value_wrong : (old new : List ℕ) → ReadsValue version kind value old new false → ReadsValues version (kind ∷ kinds) (drop at text) old new false
  value_wrong old new none [] are fit says = absurd are
  value_wrong old new none (f ∷ fs) are fit says = none f (are.0, fit.0) (sym (parts f fs fit.0 says).0)

  -- It is one, and the others follow.
  pub value_right : (old mid after : List ℕ) (b : Bool) → ReadsValue version kind value old mid true → ReadsValues version kinds (drop end text) mid after b → ReadsValues version (kind ∷ kinds) (drop at text) old after b
  unfolding body_of
  value_right old mid after true r rest =
      let field : Field = r.0 in
      let place : from + (end - from) ≡ end = omega (arith, v.word.low) in
      let here : drop from text ≡ value ++ drop end text = sym (take-append-drop (end - from) (drop from text)) ∙ ap (λ (l : List ℕ). value ++ l) (drop-drop (end - from) from text ∙ ap (λ (n : ℕ). drop n text) place) in (
        field ∷ rest.0,
        (r.1.0, rest.1),
        (r.1.1, rest.2),
        first_values kind kinds field rest.0 ∙ ap (λ (l : List ℕ). lead_of kind ++ l) (ap₂ (λ (a b : List ℕ). a ++ b) r.2 rest.3 ∙ sym here) ∙ sym in_front,
        rest.4 ∙ ap (λ (l : List ℕ). l ++ body_of version (with_fields kinds rest.0)) r.3
            ∙ append_assoc old (attribute_bytes version (record { kind = kind; bytes = field_bytes field })) (body_of version (with_fields kinds rest.0)),
      )
  value_right old mid after false r rest = one
    where
      one : ReadsValues version (kind ∷ kinds) (drop at text) old after false
      one [] are fit says = absurd are
      one (f ∷ fs) are fit says = rest fs are.1 fit.1 (sym (parts f fs fit.0 says).1)

-- No more values are wanted.
more_wrong : (version at : ℕ) (text old : List ℕ) → at ≤ length text → (at ≡ length text → ⊥) → ReadsValues version [] (drop at text) old old false
more_wrong version at text old within other [] are fit says = other (omega (arith, within, ap length says, length-drop at text))
more_wrong version at text old within other (f ∷ fs) are fit says = absurd are

clash : true ≡ false → ⊥
clash c = absurd cc

pub values_end : (version at : ℕ) (text old : List ℕ) → at ≤ length text → (b : Bool) → (at == length text) ≡ b → ReadsValues version [] (drop at text) old old b
unfolding body_of
values_end version at text old within true e =
    let last : at ≡ length text = eqb-true at (length text) e in
    ([], tt, tt, sym (drop_all at text (omega (arith, last))), sym (append-nil old))
values_end version at text old within false e = more_wrong version at text old within (λ last. clash (sym (eq-eqb at (length text) last) ∙ e))

-- ---- as a loop goes over them

kinds_at : (kinds : List ℕ) (place : ℕ) → place < length kinds → drop place kinds ≡ get_or kinds place 0 ∷ drop (place + 1) kinds
kinds_at kinds place less = rw (add-one, drop-cons kinds place 0)

pub rest_is : (text : List ℕ) (at : ℕ) → take (length text - at) (drop at text) ≡ drop at text
rest_is text at = take_all (length text - at) (drop at text) (omega (arith, length-drop at text))

module _ (version : ℕ) (kinds text : List ℕ) (place at : ℕ) (less : place < length kinds) where
  abbrev here : ℕ
  here = get_or kinds place 0

  pub missing_at : (old : List ℕ) → ((rest : List ℕ) → take (length text - at) (drop at text) ≢ lead_of here ++ rest) → ReadsValues version (drop place kinds) (drop at text) old old false
  missing_at old none =
      subst (λ (ks : List ℕ). ReadsValues version ks (drop at text) old old false) (sym (kinds_at kinds place less))
      (lead_missing version here (drop (place + 1) kinds) (drop at text) old old (λ rest e. none rest (rest_is text at ∙ e)))

  value_at : (lead end : ℕ) → take lead (take (length text - at) (drop at text)) ≡ lead_of here → IsWordEnd text (at + lead) end → IsValueAt here text at (at + lead) end
  value_at lead end is word =
      let count : at + lead - at ≡ lead = omega arith in
      record {
        low = omega arith;
        lead = ap (λ (n : ℕ). take n (drop at text)) count ∙ sym (ap (take lead) (rest_is text at)) ∙ is;
        word = word;
      }

  pub wrong_at : (lead end : ℕ) (old new : List ℕ) → take lead (take (length text - at) (drop at text)) ≡ lead_of here → IsWordEnd text (at + lead) end
      → ReadsValue version here (take (end - (at + lead)) (drop (at + lead) text)) old new false → ReadsValues version (drop place kinds) (drop at text) old new false
  wrong_at lead end old new is word none =
      subst (λ (ks : List ℕ). ReadsValues version ks (drop at text) old new false) (sym (kinds_at kinds place less))
      (value_wrong version here (drop (place + 1) kinds) text at (at + lead) end (value_at lead end is word) old new none)

  pub right_at : (lead end : ℕ) (old mid after : List ℕ) (b : Bool) → take lead (take (length text - at) (drop at text)) ≡ lead_of here → IsWordEnd text (at + lead) end
      → ReadsValue version here (take (end - (at + lead)) (drop (at + lead) text)) old mid true → ReadsValues version (drop (place + 1) kinds) (drop end text) mid after b
      → ReadsValues version (drop place kinds) (drop at text) old after b
  right_at lead end old mid after b is word read rest =
      subst (λ (ks : List ℕ). ReadsValues version ks (drop at text) old after b) (sym (kinds_at kinds place less))
      (value_right version here (drop (place + 1) kinds) text at (at + lead) end (value_at lead end is word) old mid after b read rest)

pub end_at : (version : ℕ) (kinds text old : List ℕ) (place at : ℕ) → length kinds ≤ place → at ≤ length text → (b : Bool) → (at == length text) ≡ b → ReadsValues version (drop place kinds) (drop at text) old old b
end_at version kinds text old place at past within b is =
    subst (λ (ks : List ℕ). ReadsValues version ks (drop at text) old old b) (sym (drop_all place kinds past)) (values_end version at text old within b is)
