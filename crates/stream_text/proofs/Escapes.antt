-- Escaped forms, run by run.
use Rattle.std.specs.Prelude.{◌≡◌, ◌≢◌, ℕ, ◌+◌, ◌-◌, ◌/◌, ◌%◌, ◌<◌, ◌≤◌, ◌==◌, ◌&&◌, not, nat_le, Bool, true, false, List, [], ◌∷◌, ◌++◌, length, take, drop, if◌then◌else◌}
use Rattle.std.proofs.Common.{refl, sym, ap, ap₂, subst, ◌∙◌, arith, add-one, get_or, drop-cons, drop-drop, append_assoc, append-nil, eqb-true, eq-eqb}
use Rattle.std.proofs.Math.Seq.{take-add}
use Rattle.std.proofs.lemmas.List.{drop_all, length-drop}
use Rattle.send_model.specs.Attribute.{IsBytes}
use Rattle.send_model.specs.Printed.{is_plain, hex_byte, hex_digit, escaped_byte, escaped}
use Rattle.stream_text.specs.ValueReading.{pair_in, loosely}
use Rattle.stream_text.proofs.Digits.{pair_back}

other_is : (a : ℕ) → a ≢ 0x5c → (a == 0x5c) ≡ false
other_is a other = one (a == 0x5c) refl
  where
    one : (b : Bool) → (a == 0x5c) ≡ b → b ≡ false
    one true e = absurd (other (eqb-true a 0x5c e))
    one false e = refl

pub loosely_plain : (a : ℕ) (rest : List ℕ) → a ≢ 0x5c → loosely (a ∷ rest) ≡ a ∷ loosely rest
unfolding loosely
loosely_plain a [] other = refl
loosely_plain a (b ∷ []) other = refl
loosely_plain a (b ∷ c ∷ []) other = refl
loosely_plain a (b ∷ c ∷ d ∷ rest) other = ap (λ (t : Bool). if t then pair_in c d ∷ loosely rest else a ∷ loosely (b ∷ c ∷ d ∷ rest)) (other_is a other)

pub loosely_short : (a : ℕ) (rest : List ℕ) → length rest < 3 → loosely (a ∷ rest) ≡ a ∷ loosely rest
unfolding loosely
loosely_short a [] few = refl
loosely_short a (b ∷ []) few = refl
loosely_short a (b ∷ c ∷ []) few = refl
loosely_short a (b ∷ c ∷ d ∷ rest) few = absurd (omega (arith, few))

pub loosely_escape : (a b c d : ℕ) (rest : List ℕ) → a ≡ 0x5c → loosely (a ∷ b ∷ c ∷ d ∷ rest) ≡ pair_in c d ∷ loosely rest
unfolding loosely
loosely_escape a b c d rest is = ap (λ (t : Bool). if t then pair_in c d ∷ loosely rest else a ∷ loosely (b ∷ c ∷ d ∷ rest)) (eq-eqb a 0x5c is)

not_backslash : (byte : ℕ) → is_plain byte ≡ true → byte ≢ 0x5c
unfolding is_plain
not_backslash byte plain e = clash (subst (λ (b : ℕ). (nat_le 0x21 b && (nat_le b 0x7e && not (b == 0x5c))) ≡ true) e plain)
  where
    clash : false ≡ true → ⊥
    clash c = absurd cc

pub loosely_back : (bytes : List ℕ) → IsBytes bytes → loosely (escaped bytes) ≡ bytes
unfolding loosely escaped escaped_byte
loosely_back [] are = refl
loosely_back (b ∷ bytes) are = one (is_plain b) refl (loosely_back bytes are.1)
  where
    one : (t : Bool) → is_plain b ≡ t → loosely (escaped bytes) ≡ bytes → loosely ((if t then b ∷ [] else 0x5c ∷ 0x78 ∷ hex_byte b) ++ escaped bytes) ≡ b ∷ bytes
    one true e rest = loosely_plain b (escaped bytes) (not_backslash b e) ∙ ap (λ (l : List ℕ). b ∷ l) rest
    one false e rest =
        loosely_escape 0x5c 0x78 (hex_digit (b / 16)) (hex_digit (b % 16)) (escaped bytes) refl
        ∙ ap₂ (λ (x : ℕ) (l : List ℕ). x ∷ l) (pair_back b are.0) rest

-- What was read, the run up to a place, and what is left.
abbrev pub IsLooselyTo : (text start now : List ℕ) (from at : ℕ) → Type 0
IsLooselyTo text start now from at = (now ++ take (at - from) (drop from text)) ++ loosely (drop at text) ≡ start ++ loosely text

here : (text : List ℕ) (at : ℕ) → at < length text → drop at text ≡ get_or text at 0 ∷ drop (at + 1) text
here text at less = rw (add-one, drop-cons text at 0)

longer : (text : List ℕ) (from at : ℕ) → from ≤ at → at < length text → take (at + 1 - from) (drop from text) ≡ take (at - from) (drop from text) ++ get_or text at 0 ∷ []
longer text from at low less =
    let count : at + 1 - from ≡ (at - from) + 1 = omega (arith, low) in
    let place : from + (at - from) ≡ at = omega (arith, low) in
    let there : drop (at - from) (drop from text) ≡ get_or text at 0 ∷ drop (at + 1) text = drop-drop (at - from) from text ∙ ap (λ (n : ℕ). drop n text) place ∙ here text at less in
    ap (λ (n : ℕ). take n (drop from text)) count ∙ take-add (at - from) 1 (drop from text) ∙ ap (λ (l : List ℕ). take (at - from) (drop from text) ++ take 1 l) there

run_next : (text start now : List ℕ) (from at : ℕ) → from ≤ at → at < length text → loosely (get_or text at 0 ∷ drop (at + 1) text) ≡ get_or text at 0 ∷ loosely (drop (at + 1) text)
    → IsLooselyTo text start now from at → IsLooselyTo text start now from (at + 1)
run_next text start now from at low less step before =
    let run : List ℕ = take (at - from) (drop from text) in
    let a : ℕ = get_or text at 0 in
    ap (λ (l : List ℕ). (now ++ l) ++ loosely (drop (at + 1) text)) (longer text from at low less)
    ∙ ap (λ (l : List ℕ). l ++ loosely (drop (at + 1) text)) (sym (append_assoc now run (a ∷ [])))
    ∙ append_assoc (now ++ run) (a ∷ []) (loosely (drop (at + 1) text))
    ∙ ap (λ (l : List ℕ). (now ++ run) ++ l) (sym (ap loosely (here text at less) ∙ step))
    ∙ before

pub run_plain : (text start now : List ℕ) (from at : ℕ) → from ≤ at → at < length text → get_or text at 0 ≢ 0x5c → IsLooselyTo text start now from at → IsLooselyTo text start now from (at + 1)
run_plain text start now from at low less other before = run_next text start now from at low less (loosely_plain (get_or text at 0) (drop (at + 1) text) other) before

pub run_short : (text start now : List ℕ) (from at : ℕ) → from ≤ at → at < length text → length text - at < 4 → IsLooselyTo text start now from at → IsLooselyTo text start now from (at + 1)
run_short text start now from at low less few before =
    run_next text start now from at low less (loosely_short (get_or text at 0) (drop (at + 1) text) (omega (arith, length-drop (at + 1) text, few, less))) before

pub run_escape : (text start now mid after : List ℕ) (from at pair : ℕ) → from ≤ at → 4 ≤ length text - at → get_or text at 0 ≡ 0x5c → mid ≡ now ++ take (at - from) (drop from text)
    → pair ≡ pair_in (get_or text (at + 2) 0) (get_or text (at + 3) 0) → after ≡ mid ++ pair ∷ [] → IsLooselyTo text start now from at → IsLooselyTo text start after (at + 4) (at + 4)
run_escape text start now mid after from at pair low enough is ran said added before =
    let none : at + 4 - (at + 4) ≡ 0 = omega arith in
    let run : List ℕ = now ++ take (at - from) (drop from text) in
    let a : ℕ = get_or text at 0 in
    let b : ℕ = get_or text (at + 1) 0 in
    let c : ℕ = get_or text (at + 2) 0 in
    let d : ℕ = get_or text (at + 3) 0 in
    let rest : List ℕ = drop (at + 4) text in
    let second : drop (at + 1) text ≡ b ∷ drop (at + 2) text = here text (at + 1) (omega (arith, enough)) ∙ ap (λ (n : ℕ). b ∷ drop n text) (plus_one at 1) in
    let third : drop (at + 2) text ≡ c ∷ drop (at + 3) text = here text (at + 2) (omega (arith, enough)) ∙ ap (λ (n : ℕ). c ∷ drop n text) (plus_one at 2) in
    let fourth : drop (at + 3) text ≡ d ∷ rest = here text (at + 3) (omega (arith, enough)) ∙ ap (λ (n : ℕ). d ∷ drop n text) (plus_one at 3) in
    let all : drop at text ≡ a ∷ b ∷ c ∷ d ∷ rest = here text at (omega (arith, enough)) ∙ ap (λ (l : List ℕ). a ∷ l) (second ∙ ap (λ (l : List ℕ). b ∷ l) (third ∙ ap (λ (l : List ℕ). c ∷ l) fourth)) in
    let left : loosely (drop at text) ≡ pair ∷ loosely rest = ap loosely all ∙ loosely_escape a b c d rest is ∙ ap (λ (n : ℕ). n ∷ loosely rest) (sym said) in
    ap (λ (n : ℕ). (after ++ take n rest) ++ loosely rest) none
    ∙ ap (λ (l : List ℕ). l ++ loosely rest) (append-nil after ∙ added ∙ ap (λ (l : List ℕ). l ++ pair ∷ []) ran)
    ∙ append_assoc run (pair ∷ []) (loosely rest)
    ∙ ap (λ (l : List ℕ). run ++ l) (sym left)
    ∙ before
  where
    plus_one : (n k : ℕ) → n + k + 1 ≡ n + (k + 1)
    plus_one n k = omega arith

pub run_end : (text start now : List ℕ) (from at : ℕ) → length text ≤ at → IsLooselyTo text start now from at → take (at - from) (drop from text) ≡ drop from text
    → (bytes : List ℕ) → IsBytes bytes → escaped bytes ≡ text → now ++ drop from text ≡ start ++ bytes
unfolding loosely
run_end text start now from at past before all bytes are says =
    ap (λ (l : List ℕ). now ++ l) (sym all) ∙ sym (append-nil (now ++ take (at - from) (drop from text)))
    ∙ ap (λ (l : List ℕ). (now ++ take (at - from) (drop from text)) ++ loosely l) (sym (drop_all at text past))
    ∙ before ∙ ap (λ (l : List ℕ). start ++ l) (sym (ap loosely says) ∙ loosely_back bytes are)
