-- The folder of a path, from what `rsplit_once` says of it.
use Rattle.std.proofs.Common.{◌≡◌, ℕ, suc, ◌+◌, ◌≤◌, ◌<◌, List, [], ◌∷◌, ◌++◌, length, get_or, take, drop, None, Some, MatchOption, refl, sym, ap, ◌∙◌, arith, Bor, ne_eqb}
use Rattle.std.proofs.lemmas.List.{take-append-drop}
use Rattle.std.proofs.lemmas.Str.{encode_ascii}
use Rattle.std.proofs.lemmas.Str.Pattern.{NoCharPasses-char}
use Rattle.std.proofs.lemmas.Bool.{cond-false}
use Rattle.std.specs.Prelude.{Option}
use Rattle.std.specs.Option.{option_map}
use Rattle.std.specs.Str.Pattern.{RFindsChar}
use Rattle.file_disk.specs.Opening.{with_byte, before_last_slash}

-- No byte is a slash.
abbrev pub Lacks : List ℕ → Type 0
Lacks path = (i : ℕ) → i < length path → get_or path i 0 ≡ 47 → ⊥

no_slash : (path : List ℕ) → Lacks path → before_last_slash path ≡ None
no_slash [] lacks = refl
no_slash (byte ∷ path) lacks =
    ap (with_byte byte) (no_slash path (λ i l e. lacks (suc i) (omega (arith, l)) e))
    ∙ cond-false _ _ _ (ne_eqb byte 47 (lacks 0 (omega arith)))

last_slash : (front name : List ℕ) → Lacks name → before_last_slash (front ++ 47 ∷ name) ≡ Some front
last_slash [] name lacks = ap (with_byte 47) (no_slash name lacks)
last_slash (byte ∷ front) name lacks = ap (with_byte byte) (last_slash front name lacks)

-- The clause of `rsplit_once` at a slash.
pub before_split : (path : List ℕ) (r : Option (Bor (List ℕ) × Bor (List ℕ)))
    → MatchOption r (RFindsChar 47 path None) (λ x. (i : ℕ) × (j : ℕ) × RFindsChar 47 path (Some (i, j)) × (x.0.now ≡ take i path) × (x.1.now ≡ drop j path) × (i ≤ j) × (length x.0.now ≡ i) × (length x.1.now + j ≡ length path))
    → option_map (λ x. x.0.now) r ≡ before_last_slash path
before_split path None none = sym (no_slash path (λ i l e. NoCharPasses-char 47 path i none (omega arith) l e))
before_split path (Some x) h =
    let i = h.0 in
    let j = h.1 in
    let parts : path ≡ take i path ++ 47 ∷ drop j path =
    sym (take-append-drop i path) ∙ ap (λ back. take i path ++ back) (h.2.1.split ∙ ap (λ slash. slash ++ drop j path) (encode_ascii 47 (omega arith))) in
    ap Some h.3 ∙ sym (ap before_last_slash parts ∙ last_slash (take i path) (drop j path) (λ k l e. NoCharPasses-char 47 (drop j path) k h.2.0 (omega arith) l e))
