-- Where a word ends, as a search for a space finds it.
use Rattle.std.specs.Prelude.{◌≡◌, ◌≢◌, ℕ, ◌+◌, ◌-◌, ◌<◌, ◌≤◌, List, length, take, drop, slice_index}
use Rattle.std.proofs.Common.{sym, ap, ◌∙◌, arith, get_or, eqb-true, eq-eqb}
use Rattle.std.proofs.lemmas.List.{length-take-le, length-drop, get_or-take, get_or-drop}
use Rattle.memchr.specs.Find.{NoneBefore, Nowhere, Passes, is_byte}
use Rattle.stream_text.specs.ValueReading.{IsWordEnd}

abbrev ahead : List ℕ → ℕ → List ℕ
ahead text from = take (length text - from) (drop from text)

ahead_len : (text : List ℕ) (from : ℕ) → from ≤ length text → length (ahead text from) ≡ length text - from
ahead_len text from low = length-take-le (length text - from) (drop from text) (omega (arith, length-drop from text))

ahead_at : (text : List ℕ) (from k : ℕ) → k < length text - from → get_or (ahead text from) k 0 ≡ get_or text (from + k) 0
ahead_at text from k less = get_or-take (length text - from) (drop from text) k 0 less ∙ get_or-drop from text k 0

no_space : (text : List ℕ) (from end : ℕ) → from ≤ end → end ≤ length text → Nowhere (Passes (is_byte 0x20) (ahead text from)) 0 (end - from) → (k : ℕ) → from ≤ k → k < end → slice_index text k ≢ 0x20
no_space text from end low high none k above below e =
    let place : from + (k - from) ≡ k = omega (arith, above) in
    let here : get_or (ahead text from) (k - from) 0 ≡ 0x20 = ahead_at text from (k - from) (omega (arith, above, below, high)) ∙ ap (λ (n : ℕ). get_or text n 0) place ∙ e in
    none (k - from) (omega arith) (omega (arith, above, below)) (eq-eqb _ 0x20 here)

pub word_some : (text : List ℕ) (from len : ℕ) → from ≤ length text → NoneBefore (Passes (is_byte 0x20) (ahead text from)) 0 (length (ahead text from)) len × Passes (is_byte 0x20) (ahead text from) len → IsWordEnd text from (from + len)
word_some text from len low m =
    let high : len < length text - from = omega (arith, m.0.high, ahead_len text from low) in
    record {
      low = omega arith;
      high = omega (arith, high);
      word = no_space text from (from + len) (omega arith) (omega (arith, high)) (λ k a b. m.0.before k a (omega (arith, b)));
      space = λ less. sym (ahead_at text from len high) ∙ eqb-true _ 0x20 m.1;
    }

pub word_none : (text : List ℕ) (from : ℕ) → from ≤ length text → Nowhere (Passes (is_byte 0x20) (ahead text from)) 0 (length (ahead text from)) → IsWordEnd text from (length text)
word_none text from low none = record {
  low = low;
  high = omega arith;
  word = no_space text from (length text) low (omega arith) (λ k a b. none k a (omega (arith, b, ahead_len text from low)));
  space = λ less. absurd (omega (arith, less));
}
