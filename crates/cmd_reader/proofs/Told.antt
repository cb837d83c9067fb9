-- What follows of a file that the inputs tell.
use Rattle.std.specs.Prelude.{◌≡◌, ℕ, List, take, Option, None, Some, String}
use Rattle.std.specs.String.{string_bytes}
use Rattle.std.proofs.Common.{refl, subst, ◌∙◌, le_refl}
use Rattle.std.proofs.lemmas.List.{take-take}
use Rattle.send_model.specs.Lengths.{limit}
use Rattle.sx_base.specs.Outside.{file_at}
use Rattle.cmd_reader.specs.Places.{IfTold}

pub told_map : (told : Option (List (List ℕ × List ℕ))) (name : List ℕ) (P Q : List ℕ → Type 0) → ((file : List ℕ) → P file → Q file) → IfTold told name P → IfTold told name Q
told_map None name P Q f p = tt
told_map (Some files) name P Q f p = λ file same. f file (p file same)

pub told_both : (told : Option (List (List ℕ × List ℕ))) (name : List ℕ) (P Q R : List ℕ → Type 0) → ((file : List ℕ) → P file → Q file → R file) → IfTold told name P → IfTold told name Q → IfTold told name R
told_both None name P Q R f p q = tt
told_both (Some files) name P Q R f p q = λ file same. f file (p file same) (q file same)

pub told_always : (told : Option (List (List ℕ × List ℕ))) (name : List ℕ) (P : List ℕ → Type 0) → ((file : List ℕ) → P file) → IfTold told name P
told_always None name P f = tt
told_always (Some files) name P f = λ file same. f file

-- The same holds of the bytes before the limit.
told_front : (told : Option (List (List ℕ × List ℕ))) (name : List ℕ) (P : List ℕ → Type 0) → IfTold told name P → IfTold told name (λ file. P (take limit file))
told_front None name P p = tt
told_front (Some files) name P p = λ file same. p (take limit file) (take-take limit limit file (le_refl limit) ∙ same)

-- A fact of a file and of its bytes before the limit.
abbrev pub Here : (List ℕ → Type 0) → List ℕ → Type 0
Here P file = P file × P (take limit file)

pub told_here : (told : Option (List (List ℕ × List ℕ))) (name : List ℕ) (P : List ℕ → Type 0) → IfTold told name P → IfTold told name (Here P)
told_here told name P p = told_both told name P (λ file. P (take limit file)) (Here P) (λ file a b. (a, b)) p (told_front told name P p)

-- The same inputs and the same name.
pub told_moved : (told now : Option (List (List ℕ × List ℕ))) (name same : List ℕ) (P : List ℕ → Type 0) → now ≡ told → same ≡ name → IfTold now same P → IfTold told name P
told_moved told now name same P e f p = subst (λ (n : List ℕ). IfTold told n P) f (subst (λ (t : Option (List (List ℕ × List ℕ))). IfTold t same P) e p)

-- What a call on the next file says of it, as of a table of files.
pub told_next : {Z : Type 0} (table : List (List ℕ × List ℕ)) (inputs : Option (List (List ℕ × List ℕ))) (name : String Z) (spelled : List ℕ) (P : List ℕ → Type 0)
    → inputs ≡ Some table → spelled ≡ string_bytes name → IfTold inputs spelled P → P (file_at table (string_bytes name))
told_next table inputs name spelled P same is p = told_moved (Some table) inputs (string_bytes name) spelled P same is p (file_at table (string_bytes name)) refl
