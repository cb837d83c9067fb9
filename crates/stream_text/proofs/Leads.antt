-- What stands in front of a value.
use Rattle.std.specs.Prelude.{◌≡◌, ◌≢◌, ℕ, ◌-◌, ◌≤◌, true, false, List, [], ◌∷◌, ◌++◌, length, take, drop}
use Rattle.std.specs.Str.{bytes_eq}
use Rattle.std.proofs.Common.{sym, ap, ◌∙◌, arith, length-append, append_assoc}
use Rattle.std.proofs.Math.Seq.{take-append_seam}
use Rattle.std.proofs.lemmas.List.{take-append-drop}
use Rattle.std.proofs.lemmas.Slice.Eq.{bytes_eq-Decides}

pub strip_some : (text p rest : List ℕ) → bytes_eq (take (length p) text) p ≡ true → rest ≡ drop (length p) text → text ≡ p ++ rest
strip_some text p rest same is =
    sym (take-append-drop (length p) text) ∙ ap (λ (l : List ℕ). l ++ drop (length p) text) ((bytes_eq-Decides (take (length p) text) p).0 same) ∙ ap (λ (l : List ℕ). p ++ l) (sym is)

clash : true ≡ false → ⊥
clash e = absurd cc

pub strip_none : (text p : List ℕ) → bytes_eq (take (length p) text) p ≡ false → (rest : List ℕ) → text ≢ p ++ rest
strip_none text p other rest e =
    clash (sym ((bytes_eq-Decides (take (length p) text) p).1 (ap (take (length p)) e ∙ take-append_seam p rest)) ∙ other)

-- Three prefixes, one behind the other.
pub lead_some : (text first second rest name : List ℕ) → text ≡ (0x20 ∷ []) ++ first → first ≡ name ++ second → second ≡ (0x3d ∷ []) ++ rest → text ≡ (0x20 ∷ (name ++ 0x3d ∷ [])) ++ rest
lead_some text first second rest name a b d =
    a ∙ ap (λ (l : List ℕ). 0x20 ∷ l) (b ∙ ap (λ (l : List ℕ). name ++ l) d ∙ sym (append_assoc name (0x3d ∷ []) rest))

pub lead_taken : (text lead rest : List ℕ) → text ≡ lead ++ rest → (length text - length rest ≤ length text) × (take (length text - length rest) text ≡ lead)
lead_taken text lead rest e =
    let count : length text - length rest ≡ length lead = omega (arith, ap length e, length-append lead rest) in
    ((omega arith), ap (λ (n : ℕ). take n text) count ∙ ap (take (length lead)) e ∙ take-append_seam lead rest)

pub lead_none : (text first name : List ℕ) → text ≡ (0x20 ∷ []) ++ first → bytes_eq (take (length name) first) name ≡ false → (rest : List ℕ) → text ≢ (0x20 ∷ (name ++ 0x3d ∷ [])) ++ rest
lead_none text first name a other rest e =
    strip_none first name other ((0x3d ∷ []) ++ rest)
    (let behind : first ≡ (name ++ 0x3d ∷ []) ++ rest = cc in behind ∙ append_assoc name (0x3d ∷ []) rest)
