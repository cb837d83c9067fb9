-- Identifiers, as they are read.
use Rattle.std.specs.Prelude.{◌≡◌, ◌≢◌, ℕ, ◌+◌, true, false, List, [], ◌∷◌, ◌++◌, length, take, drop, slice_index}
use Rattle.std.proofs.Common.{ap, arith, length-append}
use Rattle.std.proofs.lemmas.List.{length-take, length-drop}
use Rattle.send_model.specs.Attribute.{IsBytes, AnIdentifier, form_of, Identifier, Number, ShortNumber, Moment, Bytes}
use Rattle.send_model.specs.Printed.{uuid_text, hex_bytes}
use Rattle.text_model.proofs.Glyphs.{uuid_is, hex_len}
use Rattle.stream_text.specs.ValueReading.{pair_in, ReadsValue, AddsAttribute}
use Rattle.stream_text.proofs.Digits.{pair_back}

-- The byte that two bytes of a text say.
abbrev pub pair : List ℕ → ℕ → ℕ
pair text at = pair_in (slice_index text at) (slice_index text (at + 1))

-- The bytes that stand in a text of an identifier.
abbrev pub bytes_in : List ℕ → List ℕ
bytes_in text =
    pair text 0 ∷ pair text 2 ∷ pair text 4 ∷ pair text 6 ∷ pair text 9 ∷ pair text 11 ∷ pair text 14 ∷ pair text 16 ∷ pair text 19 ∷ pair text 21 ∷ pair text 24 ∷ pair text 26 ∷ pair text 28 ∷ pair text 30 ∷ pair text 32 ∷ pair text 34 ∷ []

-- They are those of the identifier.
pub uuid_back : (bytes : List ℕ) → length bytes ≡ 16 → IsBytes bytes → bytes_in (uuid_text bytes) ≡ bytes
unfolding uuid_text
uuid_back [] len are = absurd (omega (arith, len))
uuid_back (b0 ∷ []) len are = absurd (omega (arith, len))
uuid_back (b0 ∷ b1 ∷ []) len are = absurd (omega (arith, len))
uuid_back (b0 ∷ b1 ∷ b2 ∷ []) len are = absurd (omega (arith, len))
uuid_back (b0 ∷ b1 ∷ b2 ∷ b3 ∷ []) len are = absurd (omega (arith, len))
uuid_back (b0 ∷ b1 ∷ b2 ∷ b3 ∷ b4 ∷ []) len are = absurd (omega (arith, len))
uuid_back (b0 ∷ b1 ∷ b2 ∷ b3 ∷ b4 ∷ b5 ∷ []) len are = absurd (omega (arith, len))
uuid_back (b0 ∷ b1 ∷ b2 ∷ b3 ∷ b4 ∷ b5 ∷ b6 ∷ []) len are = absurd (omega (arith, len))
uuid_back (b0 ∷ b1 ∷ b2 ∷ b3 ∷ b4 ∷ b5 ∷ b6 ∷ b7 ∷ []) len are = absurd (omega (arith, len))
uuid_back (b0 ∷ b1 ∷ b2 ∷ b3 ∷ b4 ∷ b5 ∷ b6 ∷ b7 ∷ b8 ∷ []) len are = absurd (omega (arith, len))
uuid_back (b0 ∷ b1 ∷ b2 ∷ b3 ∷ b4 ∷ b5 ∷ b6 ∷ b7 ∷ b8 ∷ b9 ∷ []) len are = absurd (omega (arith, len))
uuid_back (b0 ∷ b1 ∷ b2 ∷ b3 ∷ b4 ∷ b5 ∷ b6 ∷ b7 ∷ b8 ∷ b9 ∷ b10 ∷ []) len are = absurd (omega (arith, len))
uuid_back (b0 ∷ b1 ∷ b2 ∷ b3 ∷ b4 ∷ b5 ∷ b6 ∷ b7 ∷ b8 ∷ b9 ∷ b10 ∷ b11 ∷ []) len are = absurd (omega (arith, len))
uuid_back (b0 ∷ b1 ∷ b2 ∷ b3 ∷ b4 ∷ b5 ∷ b6 ∷ b7 ∷ b8 ∷ b9 ∷ b10 ∷ b11 ∷ b12 ∷ []) len are = absurd (omega (arith, len))
uuid_back (b0 ∷ b1 ∷ b2 ∷ b3 ∷ b4 ∷ b5 ∷ b6 ∷ b7 ∷ b8 ∷ b9 ∷ b10 ∷ b11 ∷ b12 ∷ b13 ∷ []) len are = absurd (omega (arith, len))
uuid_back (b0 ∷ b1 ∷ b2 ∷ b3 ∷ b4 ∷ b5 ∷ b6 ∷ b7 ∷ b8 ∷ b9 ∷ b10 ∷ b11 ∷ b12 ∷ b13 ∷ b14 ∷ []) len are = absurd (omega (arith, len))
uuid_back (b0 ∷ b1 ∷ b2 ∷ b3 ∷ b4 ∷ b5 ∷ b6 ∷ b7 ∷ b8 ∷ b9 ∷ b10 ∷ b11 ∷ b12 ∷ b13 ∷ b14 ∷ b15 ∷ []) len are =
    let e0 = pair_back b0 are.0 in
    let e1 = pair_back b1 are.1.0 in
    let e2 = pair_back b2 are.1.1.0 in
    let e3 = pair_back b3 are.1.1.1.0 in
    let e4 = pair_back b4 are.1.1.1.1.0 in
    let e5 = pair_back b5 are.1.1.1.1.1.0 in
    let e6 = pair_back b6 are.1.1.1.1.1.1.0 in
    let e7 = pair_back b7 are.1.1.1.1.1.1.1.0 in
    let e8 = pair_back b8 are.1.1.1.1.1.1.1.1.0 in
    let e9 = pair_back b9 are.1.1.1.1.1.1.1.1.1.0 in
    let e10 = pair_back b10 are.1.1.1.1.1.1.1.1.1.1.0 in
    let e11 = pair_back b11 are.1.1.1.1.1.1.1.1.1.1.1.0 in
    let e12 = pair_back b12 are.1.1.1.1.1.1.1.1.1.1.1.1.0 in
    let e13 = pair_back b13 are.1.1.1.1.1.1.1.1.1.1.1.1.1.0 in
    let e14 = pair_back b14 are.1.1.1.1.1.1.1.1.1.1.1.1.1.1.0 in
    let e15 = pair_back b15 are.1.1.1.1.1.1.1.1.1.1.1.1.1.1.1.0 in
    λ i. e0 i ∷ e1 i ∷ e2 i ∷ e3 i ∷ e4 i ∷ e5 i ∷ e6 i ∷ e7 i ∷ e8 i ∷ e9 i ∷ e10 i ∷ e11 i ∷ e12 i ∷ e13 i ∷ e14 i ∷ e15 i ∷ []
uuid_back (b0 ∷ b1 ∷ b2 ∷ b3 ∷ b4 ∷ b5 ∷ b6 ∷ b7 ∷ b8 ∷ b9 ∷ b10 ∷ b11 ∷ b12 ∷ b13 ∷ b14 ∷ b15 ∷ b16 ∷ rest) len are = absurd (omega (arith, len))

-- No identifier has this text.
pub uuid_none : (version kind : ℕ) (text old new : List ℕ) → form_of kind ≡ AnIdentifier → ((bytes : List ℕ) → length bytes ≡ 16 → IsBytes bytes → uuid_text bytes ≢ text) → ReadsValue version kind text old new false
uuid_none version kind text old new any none (Identifier a) v says = none a v.1.0 v.1.1 says
uuid_none version kind text old new any none (Number a) v says = absurd (let e : form_of kind ≡ AnIdentifier = any in let f = v.0 in cc)
uuid_none version kind text old new any none (ShortNumber a) v says = absurd (let e : form_of kind ≡ AnIdentifier = any in let f = v.0 in cc)
uuid_none version kind text old new any none (Moment a) v says = absurd (let e : form_of kind ≡ AnIdentifier = any in let f = v.0 in cc)
uuid_none version kind text old new any none (Bytes a) v says = absurd (let e : form_of kind ≡ AnIdentifier = any in let f = v.0 in cc)

pub uuid_read : (version kind : ℕ) (bytes text old new : List ℕ) → form_of kind ≡ AnIdentifier → length bytes ≡ 16 → IsBytes bytes → uuid_text bytes ≡ text
    → AddsAttribute version kind bytes old new true → ReadsValue version kind text old new true
uuid_read version kind bytes text old new any len are says a = (Identifier bytes, (any, (len, are)), says, a.1)

-- A text of an identifier has 36 bytes.
pub uuid_text_len : (bytes : List ℕ) → length bytes ≡ 16 → length (uuid_text bytes) ≡ 36
uuid_text_len bytes len =
    let a : List ℕ = hex_bytes (take 4 bytes) in
    let b : List ℕ = hex_bytes (take 2 (drop 4 bytes)) in
    let d : List ℕ = hex_bytes (take 2 (drop 6 bytes)) in
    let e : List ℕ = hex_bytes (take 2 (drop 8 bytes)) in
    let f : List ℕ = hex_bytes (drop 10 bytes) in
    omega (
      arith,
      ap length (uuid_is bytes),
      length-append a (0x2d ∷ (b ++ 0x2d ∷ (d ++ 0x2d ∷ (e ++ 0x2d ∷ f)))),
      length-append b (0x2d ∷ (d ++ 0x2d ∷ (e ++ 0x2d ∷ f))),
      length-append d (0x2d ∷ (e ++ 0x2d ∷ f)),
      length-append e (0x2d ∷ f),
      hex_len (take 4 bytes),
      hex_len (take 2 (drop 4 bytes)),
      hex_len (take 2 (drop 6 bytes)),
      hex_len (take 2 (drop 8 bytes)),
      hex_len (drop 10 bytes),
      length-take 4 bytes,
      length-take 2 (drop 4 bytes),
      length-take 2 (drop 6 bytes),
      length-take 2 (drop 8 bytes),
      length-drop 4 bytes,
      length-drop 6 bytes,
      length-drop 8 bytes,
      length-drop 10 bytes,
      len,
    )
