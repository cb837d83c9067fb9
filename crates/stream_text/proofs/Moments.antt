-- Moments, as they are read.
use Rattle.std.specs.Prelude.{◌≡◌, ℕ, zero, suc, ◌+◌, ◌-◌, ◌^◌, ◌<◌, ◌≤◌, true, List, ◌∷◌, ◌++◌, length, take, drop, replicate}
use Rattle.std.specs.Fmt.{decimal}
use Rattle.std.specs.Int.{w32, w64, to_le_bytes}
use Rattle.std.specs.Str.Parse.{AllDigits, digits_value}
use Rattle.std.proofs.Common.{refl, sym, ap, ap₂, subst, ◌∙◌, arith, append_assoc, length-append}
use Rattle.std.proofs.Math.Seq.{take-append_seam, drop-append-add}
use Rattle.std.proofs.lemmas.Fmt.{length-decimal-le}
use Rattle.std.proofs.lemmas.List.{length-replicate, length-drop, take_all}
use Rattle.send_model.specs.Attribute.{AMoment, form_of, Moment, Time, second}
use Rattle.send_model.specs.Printed.{time_text}
use Rattle.stream_text.specs.ValueReading.{IsNumeralOf, AddsAttribute, ReadsValue}
use Rattle.stream_text.proofs.Digits.{numeral_of}

zeros_digits : (k : ℕ) (ds : List ℕ) → AllDigits 10 ds → AllDigits 10 (replicate k 0x30 ++ ds)
zeros_digits zero ds all = all
zeros_digits (suc k) ds all = (omega arith, zeros_digits k ds all)

zeros_value : (k : ℕ) (ds : List ℕ) → digits_value 10 (replicate k 0x30 ++ ds) ≡ digits_value 10 ds
zeros_value zero ds = refl
zeros_value (suc k) ds = zeros_value k ds

-- The numerals of a moment stand at their places in its text.
pub record TimeIn (t : Time) (text : List ℕ) : Type 0 where
  pub long : 11 ≤ length text
  pub secs : IsNumeralOf 10 t.secs (take (length text - 10) text)
  pub nanos : IsNumeralOf 10 t.nanos (drop (length text - 10 + 1) text)

pub time_parts : (t : Time) (text : List ℕ) → t.secs < 2 ^ 64 → t.nanos < second → time_text t ≡ text → TimeIn t text
unfolding time_text
time_parts t text secs nanos says =
    let a : List ℕ = decimal t.secs in
    let b : List ℕ = decimal t.nanos in
    let zeros : List ℕ = replicate (9 - length b) 0x30 in
    let first : IsNumeralOf 10 t.secs a = numeral_of 10 t.secs a refl secs refl in
    let last : IsNumeralOf 10 t.nanos b = numeral_of 10 t.nanos b refl (omega (arith, nanos)) refl in
    let few : length b ≤ 9 = length-decimal-le 9 t.nanos (omega arith) (omega (arith, nanos)) (omega (arith, nanos)) in
    let nine : length (zeros ++ b) ≡ 9 = omega (arith, length-append zeros b, length-replicate {A = ℕ} (9 - length b) 0x30, few) in
    let is : text ≡ a ++ 0x2e ∷ (zeros ++ b) = sym says ∙ append_assoc a (0x2e ∷ zeros) b in
    let len : length text ≡ length a + 10 = omega (arith, ap length is, length-append a (0x2e ∷ (zeros ++ b)), nine) in
    let point : length text - 10 ≡ length a = omega (arith, len) in
    let behind : length text - 10 + 1 ≡ length a + 1 = omega (arith, len) in
    record {
      long = omega (arith, len, first.some);
      secs = subst (λ (l : List ℕ). IsNumeralOf 10 t.secs l) (sym (ap₂ (λ (n : ℕ) (l : List ℕ). take n l) point is ∙ take-append_seam a (0x2e ∷ (zeros ++ b)))) first;
      nanos = subst (λ (l : List ℕ). IsNumeralOf 10 t.nanos l)
          (sym (ap₂ (λ (n : ℕ) (l : List ℕ). drop n l) behind is ∙ drop-append-add a (0x2e ∷ (zeros ++ b)) 1))
          (record { some = omega (arith, nine); all = zeros_digits (9 - length b) b last.all; value = zeros_value (9 - length b) b ∙ last.value });
    }

pub time_read : (version kind : ℕ) (t : Time) (text old new : List ℕ) → form_of kind ≡ AMoment → t.secs < 2 ^ 64 → t.nanos < second → time_text t ≡ text
    → AddsAttribute version kind (to_le_bytes w64 t.secs ++ to_le_bytes w32 t.nanos) old new true → ReadsValue version kind text old new true
time_read version kind t text old new any secs nanos says a = (Moment t, (any, (secs, nanos)), says, a.1)

pub nanos_there : (t : Time) (text : List ℕ) → TimeIn t text → IsNumeralOf 10 t.nanos (take (length text - (length text - 10 + 1)) (drop (length text - 10 + 1) text))
nanos_there t text p =
    let k : ℕ = length text - 10 + 1 in
    subst (λ (l : List ℕ). IsNumeralOf 10 t.nanos l) (sym (take_all (length text - k) (drop k text) (omega (arith, length-drop k text)))) p.nanos
