-- Pairs of digits, piece by piece.
use Rattle.std.specs.Prelude.{◌≡◌, ℕ, zero, suc, ◌+◌, ◌-◌, ◌*◌, ◌/◌, ◌%◌, ◌<◌, ◌≤◌, List, [], ◌∷◌, ◌++◌, length, take, drop, true, false}
use Rattle.std.proofs.Common.{refl, sym, ap, ap₂, ◌∙◌, arith, append_assoc}
use Rattle.std.proofs.Math.Seq.{take-add}
use Rattle.std.proofs.lemmas.Grind.{flat_map-append}
use Rattle.std.proofs.lemmas.List.{length-drop, length-take-le}
use Rattle.send_model.specs.Attribute.{IsBytes}
use Rattle.send_model.specs.Printed.{hex_digit, hex_byte, hex_bytes}
use Rattle.send_model.proofs.ElementLaws.{all_both, all_take, all_drop}
use Rattle.text_model.proofs.Glyphs.{hex_len}
use Rattle.stream_text.specs.ValueReading.{FillsHex, ReadsHex}

double : (k : ℕ) → 2 * suc k ≡ suc (suc (2 * k))
double k = omega arith

hex_drop : (k : ℕ) (bytes : List ℕ) → hex_bytes (drop k bytes) ≡ drop (2 * k) (hex_bytes bytes)
hex_drop zero bytes = refl
hex_drop (suc k) [] = ap (λ (n : ℕ). drop n []) (sym (double k))
hex_drop (suc k) (b ∷ bytes) = hex_drop k bytes ∙ ap (λ (n : ℕ). drop n (hex_bytes (b ∷ bytes))) (sym (double k))

hex_take : (k : ℕ) (bytes : List ℕ) → hex_bytes (take k bytes) ≡ take (2 * k) (hex_bytes bytes)
hex_take zero bytes = refl
hex_take (suc k) [] = ap (λ (n : ℕ). take n []) (sym (double k))
hex_take (suc k) (b ∷ bytes) =
    ap (λ (l : List ℕ). hex_digit (b / 16) ∷ hex_digit (b % 16) ∷ l) (hex_take k bytes)
    ∙ ap (λ (n : ℕ). take n (hex_bytes (b ∷ bytes))) (sym (double k))

pub odd_is_none : (text : List ℕ) → (length text % 2 ≡ 0 → ⊥) → ReadsHex text [] [] false
odd_is_none text odd bytes are says = odd (omega (arith, ap length says, hex_len bytes))

-- A piece that is no pairs of digits makes the whole none.
pub piece_is_none : (text buf : List ℕ) (at upto : ℕ) → at ≤ upto → at % 2 ≡ 0 → upto % 2 ≡ 0 → FillsHex (take (upto - at) (drop at text)) buf false
    → (bytes : List ℕ) → IsBytes bytes → hex_bytes bytes ≡ text → ⊥
piece_is_none text buf at upto low even last none bytes are says =
    let part : List ℕ = take ((upto - at) / 2) (drop (at / 2) bytes) in
    let from : 2 * (at / 2) ≡ at = omega (arith, even) in
    let count : 2 * ((upto - at) / 2) ≡ upto - at = omega (arith, even, last, low) in
    none part (all_take (λ b. b < 256) ((upto - at) / 2) (drop (at / 2) bytes) (all_drop (λ b. b < 256) (at / 2) bytes are))
    (hex_take ((upto - at) / 2) (drop (at / 2) bytes) ∙ ap₂ (λ (n : ℕ) (l : List ℕ). take n l) count (hex_drop (at / 2) bytes ∙ ap₂ (λ (n : ℕ) (l : List ℕ). drop n l) from says))

pub record IsHexTo (text start now : List ℕ) (at : ℕ) : Type 0 where
  pub bytes : List ℕ
  pub are : IsBytes bytes
  pub says : hex_bytes bytes ≡ take at text
  pub added : now ≡ start ++ bytes

pub hex_next : (text start now after buf : List ℕ) (at upto : ℕ) → at ≤ upto → upto ≤ length text → IsHexTo text start now at → FillsHex (take (upto - at) (drop at text)) buf true → after ≡ now ++ buf
    → IsHexTo text start after (at + length (take (upto - at) (drop at text)))
hex_next text start now after buf at upto low within h filled is =
    let piece : List ℕ = take (upto - at) (drop at text) in
    let few : upto - at ≤ length (drop at text) = omega (arith, length-drop at text, low, within) in
    let count : length piece ≡ upto - at = length-take-le (upto - at) (drop at text) few in
    record {
      bytes = h.bytes ++ buf;
      are = all_both (λ b. b < 256) h.bytes buf h.are filled.0;
      says = flat_map-append hex_byte h.bytes buf ∙ ap₂ (λ (a b : List ℕ). a ++ b) h.says filled.1
          ∙ sym (take-add at (length piece) text ∙ ap (λ (n : ℕ). take at text ++ take n (drop at text)) count);
      added = is ∙ ap (λ (l : List ℕ). l ++ buf) h.added ∙ append_assoc start h.bytes buf;
    }
