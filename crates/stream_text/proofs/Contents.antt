-- Values of bytes, as they are read.
use Rattle.std.specs.Prelude.{◌≡◌, ℕ, Bool, true, false, List, [], ◌∷◌, ◌++◌, length, if◌then◌else◌}
use Rattle.std.proofs.Common.{sym, ap, subst, ◌∙◌}
use Rattle.send_model.specs.Attribute.{AnyBytes, form_of, Identifier, Number, ShortNumber, Moment, Bytes, IsBytes, HasRoom, is_one_of, XATTR_DATA, DATA}
use Rattle.send_model.specs.Spelling.{attribute_bytes}
use Rattle.send_model.specs.Printed.{hex_bytes, escaped}
use Rattle.text_model.proofs.Glyphs.{hex_bytes_once, escaped_once}
use Rattle.stream_text.specs.ValueReading.{ReadsHex, AddsAttribute, ReadsValue}

-- How bytes are printed, by whether they are contents.
abbrev form : Bool → List ℕ → List ℕ
form contents bytes = if contents then hex_bytes bytes else escaped bytes

form_once : (contents : Bool) (a b : List ℕ) → IsBytes a → IsBytes b → form contents a ≡ form contents b → a ≡ b
form_once true a b p q e = hex_bytes_once a b p q e
form_once false a b p q e = escaped_once a b p q e

abbrev is_contents : ℕ → Bool
is_contents kind = is_one_of kind (XATTR_DATA ∷ DATA ∷ [])

-- No bytes have this text.
pub bytes_none : (version kind : ℕ) (contents : Bool) (text old new : List ℕ) → form_of kind ≡ AnyBytes → is_contents kind ≡ contents
    → ((bytes : List ℕ) → IsBytes bytes → form contents bytes ≡ text → ⊥) → ReadsValue version kind text old new false
bytes_none version kind contents text old new any is none (Identifier a) v says = absurd (let e : form_of kind ≡ AnyBytes = any in let f = v.0 in cc)
bytes_none version kind contents text old new any is none (Number a) v says = absurd (let e : form_of kind ≡ AnyBytes = any in let f = v.0 in cc)
bytes_none version kind contents text old new any is none (ShortNumber a) v says = absurd (let e : form_of kind ≡ AnyBytes = any in let f = v.0 in cc)
bytes_none version kind contents text old new any is none (Moment a) v says = absurd (let e : form_of kind ≡ AnyBytes = any in let f = v.0 in cc)
bytes_none version kind contents text old new any is none (Bytes bytes) v says = none bytes v.1.1 (ap (λ (b : Bool). form b bytes) (sym is) ∙ says)

-- These bytes have it, and they are too many.
pub bytes_long : (version kind : ℕ) (contents : Bool) (bytes text old new : List ℕ) → form_of kind ≡ AnyBytes → is_contents kind ≡ contents → IsBytes bytes → form contents bytes ≡ text
    → (HasRoom version kind (length bytes) → ⊥) → ReadsValue version kind text old new false
bytes_long version kind contents bytes text old new any is are says long (Identifier a) v other = absurd (let e : form_of kind ≡ AnyBytes = any in let f = v.0 in cc)
bytes_long version kind contents bytes text old new any is are says long (Number a) v other = absurd (let e : form_of kind ≡ AnyBytes = any in let f = v.0 in cc)
bytes_long version kind contents bytes text old new any is are says long (ShortNumber a) v other = absurd (let e : form_of kind ≡ AnyBytes = any in let f = v.0 in cc)
bytes_long version kind contents bytes text old new any is are says long (Moment a) v other = absurd (let e : form_of kind ≡ AnyBytes = any in let f = v.0 in cc)
bytes_long version kind contents bytes text old new any is are says long (Bytes b) v other =
    let same : b ≡ bytes = form_once contents b bytes v.1.1 are (ap (λ (t : Bool). form t b) (sym is) ∙ other ∙ sym says) in
    long (subst (λ (l : List ℕ). HasRoom version kind (length l)) same v.1.0)

-- These bytes have it, and were added.
pub bytes_read : (version kind : ℕ) (contents : Bool) (bytes text old new : List ℕ) → form_of kind ≡ AnyBytes → is_contents kind ≡ contents → IsBytes bytes → form contents bytes ≡ text
    → HasRoom version kind (length bytes) → new ≡ old ++ attribute_bytes version (record { kind = kind; bytes = bytes }) → ReadsValue version kind text old new true
bytes_read version kind contents bytes text old new any is are says room added = (Bytes bytes, (any, (room, are)), ap (λ (t : Bool). form t bytes) is ∙ says, added)

-- Digits were read as bytes, and these were added or were too many.
pub hex_end : (version kind : ℕ) (text cleared filled slice old new : List ℕ) → form_of kind ≡ AnyBytes → is_contents kind ≡ true → cleared ≡ [] → slice ≡ filled
    → ReadsHex text cleared filled true → (b : Bool) → AddsAttribute version kind slice old new b → ReadsValue version kind text old new b
hex_end version kind text cleared filled slice old new any is none same h true a =
    let bytes : slice ≡ h.0 = same ∙ h.3 ∙ ap (λ (l : List ℕ). l ++ h.0) none in
    bytes_read version kind true h.0 text old new any is h.1 h.2 (subst (λ (l : List ℕ). HasRoom version kind (length l)) bytes a.0)
    (a.1 ∙ ap (λ (l : List ℕ). old ++ attribute_bytes version (record { kind = kind; bytes = l })) bytes)
hex_end version kind text cleared filled slice old new any is none same h false a =
    let bytes : slice ≡ h.0 = same ∙ h.3 ∙ ap (λ (l : List ℕ). l ++ h.0) none in
    bytes_long version kind true h.0 text old new any is h.1 h.2 (subst (λ (l : List ℕ). HasRoom version kind (length l) → ⊥) bytes a)

-- An escaped form was read, printed again and found the same, and its bytes were added or were too many.
pub escaped_end : (version kind : ℕ) (text bytes old new : List ℕ) → form_of kind ≡ AnyBytes → is_contents kind ≡ false → IsBytes bytes → escaped bytes ≡ text
    → (b : Bool) → AddsAttribute version kind bytes old new b → ReadsValue version kind text old new b
escaped_end version kind text bytes old new any is are says true a = bytes_read version kind false bytes text old new any is are says a.0 a.1
escaped_end version kind text bytes old new any is are says false a = bytes_long version kind false bytes text old new any is are says a

-- The form that was printed again is another one.
pub escaped_none : (version kind : ℕ) (text read printed old new : List ℕ) → form_of kind ≡ AnyBytes → is_contents kind ≡ false → ((bytes : List ℕ) → IsBytes bytes → escaped bytes ≡ text → read ≡ bytes)
    → printed ≡ escaped read → (printed ≡ text → ⊥) → ReadsValue version kind text old new false
escaped_none version kind text read printed old new any is meant again other =
    bytes_none version kind false text old new any is (λ bytes are says. other (again ∙ ap escaped (meant bytes are says) ∙ says))
