-- The escaped form of the bytes that are left, as a loop goes over them.
use Rattle.std.proofs.Common.{◌≡◌, ℕ, ◌+◌, ◌-◌, ◌*◌, ◌/◌, ◌%◌, ◌<◌, ◌≤◌, List, [], ◌∷◌, ◌++◌, length, take, drop, Bool, true, if◌then◌else◌, ap, ap₂, sym, ◌∙◌, add-one, arith, append_assoc, append-nil, drop-cons, drop-drop}
use Rattle.std.proofs.Math.Seq.{take-add}
use Rattle.std.proofs.lemmas.List.{drop_all, length-drop, length-take-le}
use Rattle.std.proofs.lemmas.Grind.{flat_map-append}
use Rattle.std.specs.Prelude.{slice_index_or}
use Rattle.send_model.specs.Printed.{escaped, escaped_byte, is_plain, hex_digit, hex_byte, hex_bytes}

pub escaped_step : (to bytes : List ℕ) (i d : ℕ) → i < length bytes
    → (to ++ escaped_byte (slice_index_or bytes i d)) ++ escaped (drop (i + 1) bytes) ≡ to ++ escaped (drop i bytes)
unfolding escaped
escaped_step to bytes i d less =
    let e : drop i bytes ≡ slice_index_or bytes i d ∷ drop (i + 1) bytes = rw (add-one, drop-cons bytes i d) in
    append_assoc to (escaped_byte (slice_index_or bytes i d)) (escaped (drop (i + 1) bytes)) ∙ ap (λ (l : List ℕ). to ++ escaped l) (sym e)

pub escaped_end : (to bytes : List ℕ) (i : ℕ) → length bytes ≤ i → to ++ escaped (drop i bytes) ≡ to
unfolding escaped
escaped_end to bytes i past = ap (λ (l : List ℕ). to ++ escaped l) (drop_all i bytes past) ∙ append-nil to

-- the run of bytes that stand for themselves, from a place on, and the escaped form of what comes
-- after it
abbrev pub run_and_rest : List ℕ → ℕ → ℕ → List ℕ
run_and_rest bytes from at = take (at - from) (drop from bytes) ++ escaped (drop at bytes)

plain_byte : (byte : ℕ) → is_plain byte ≡ true → escaped_byte byte ≡ byte ∷ []
unfolding escaped_byte
plain_byte byte plain = ap (λ (b : Bool). if b then byte ∷ [] else 0x5c ∷ 0x78 ∷ hex_digit (byte / 16) ∷ hex_digit (byte % 16) ∷ []) plain

-- a byte that stands for itself makes the run longer
pub run_grows : (bytes : List ℕ) (from at : ℕ) → from ≤ at → at < length bytes → is_plain (slice_index_or bytes at 0) ≡ true
    → run_and_rest bytes from (at + 1) ≡ run_and_rest bytes from at
unfolding escaped
run_grows bytes from at before less plain =
    let byte : ℕ = slice_index_or bytes at 0 in
    let rest = drop (at + 1) bytes in
    let count : ℕ = at - from in
    let run = take count (drop from bytes) in
    let more : at + 1 - from ≡ count + 1 = omega arith in
    let place : from + count ≡ at = omega arith in
    let here : drop at bytes ≡ byte ∷ rest = rw (add-one, drop-cons bytes at 0) in
    let there : drop count (drop from bytes) ≡ byte ∷ rest = drop-drop count from bytes ∙ ap (λ (n : ℕ). drop n bytes) place ∙ here in
    let longer : take (count + 1) (drop from bytes) ≡ run ++ byte ∷ [] =
    take-add count 1 (drop from bytes) ∙ ap (λ (l : List ℕ). run ++ take 1 l) there in
    let form : escaped (drop at bytes) ≡ byte ∷ escaped rest =
    ap escaped here ∙ ap (λ (l : List ℕ). l ++ escaped rest) (plain_byte byte plain) in
    ap (λ (n : ℕ). take n (drop from bytes) ++ escaped rest) more
    ∙ ap (λ (l : List ℕ). l ++ escaped rest) longer
    ∙ append_assoc run (byte ∷ []) (escaped rest)
    ∙ ap (λ (l : List ℕ). run ++ l) (sym form)

-- another byte ends the run
pub run_ends : (to bytes : List ℕ) (from at : ℕ) → at < length bytes
    → ((to ++ take (at - from) (drop from bytes)) ++ escaped_byte (slice_index_or bytes at 0)) ++ run_and_rest bytes (at + 1) (at + 1)
    ≡ to ++ run_and_rest bytes from at
run_ends to bytes from at less =
    let run = take (at - from) (drop from bytes) in
    let pushed = (to ++ run) ++ escaped_byte (slice_index_or bytes at 0) in
    let none : at + 1 - (at + 1) ≡ 0 = omega arith in
    ap (λ (n : ℕ). pushed ++ (take n (drop (at + 1) bytes) ++ escaped (drop (at + 1) bytes))) none
    ∙ escaped_step (to ++ run) bytes at 0 less
    ∙ append_assoc to run (escaped (drop at bytes))

-- at the end the run is all that is left
pub run_at_end : (to bytes : List ℕ) (from at : ℕ) → length bytes ≤ at
    → to ++ take (at - from) (drop from bytes) ≡ to ++ run_and_rest bytes from at
run_at_end to bytes from at past =
    let run = take (at - from) (drop from bytes) in
    ap (λ (l : List ℕ). to ++ l) (sym (escaped_end run bytes at past))

-- the digits of one more piece
pub digits_step : (to now after bytes digits : List ℕ) (at upto : ℕ) → at ≤ upto → upto ≤ length bytes → now ≡ to ++ hex_bytes (take at bytes)
    → take (2 * length (take (upto - at) (drop at bytes))) digits ≡ hex_bytes (take (upto - at) (drop at bytes))
    → after ≡ now ++ take (2 * length (take (upto - at) (drop at bytes))) digits
    → after ≡ to ++ hex_bytes (take (at + length (take (upto - at) (drop at bytes))) bytes)
digits_step to now after bytes digits at upto from within so filled is =
    let piece : List ℕ = take (upto - at) (drop at bytes) in
    let few : upto - at ≤ length (drop at bytes) = omega (arith, length-drop at bytes, from, within) in
    let count : length piece ≡ upto - at = length-take-le (upto - at) (drop at bytes) few in
    let parts : take (at + length piece) bytes ≡ take at bytes ++ piece = take-add at (length piece) bytes ∙ ap (λ (n : ℕ). take at bytes ++ take n (drop at bytes)) count in
    is ∙ ap₂ (λ (a b : List ℕ). a ++ b) so filled ∙ append_assoc to (hex_bytes (take at bytes)) (hex_bytes piece)
    ∙ ap (λ (l : List ℕ). to ++ l) (sym (ap hex_bytes parts ∙ flat_map-append hex_byte (take at bytes) piece))
