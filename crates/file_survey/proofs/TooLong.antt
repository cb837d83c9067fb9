-- Which of several files is the first that is too long, as a loop goes over them.
use Rattle.std.specs.Prelude.{◌≡◌, ℕ, ◌+◌, Bool, true, false, List, [], ◌∷◌, drop, None, Some, if◌then◌else◌}
use Rattle.std.proofs.Common.{refl, ap, ◌∙◌}
use Rattle.send_model.specs.Reading.{Verdict, Ending, Whole, Faulty, reads}
use Rattle.send_model.specs.Lengths.{is_too_long, unless_faulty, too_long_from, too_long}

-- The first file that is too long is the first of those after the given number.
abbrev pub LongAhead : List (List ℕ) → ℕ → List (List ℕ) → Type 0
LongAhead files number after = too_long files ≡ too_long_from (number + 1) after

-- Before the first file.
pub long_start : (files : List (List ℕ)) → LongAhead files 0 files
unfolding too_long
long_start files = refl

-- After the last.
pub long_end : (files : List (List ℕ)) (number : ℕ) → drop number files ≡ [] → LongAhead files number (drop number files) → too_long files ≡ None
unfolding too_long_from
long_end files number past ahead = ahead ∙ ap (too_long_from (number + 1)) past

front_fits : (number : ℕ) (bytes : List ℕ) (after : List (List ℕ)) → is_too_long number bytes ≡ false → too_long_from number (bytes ∷ after) ≡ unless_faulty (reads number bytes).end (too_long_from (number + 1) after)
unfolding too_long_from
front_fits number bytes after fits = ap (λ (b : Bool). if b then Some number else unless_faulty (reads number bytes).end (too_long_from (number + 1) after)) fits

-- The next file is read whole.
pub long_next : (files : List (List ℕ)) (number : ℕ) (bytes : List ℕ) (after : List (List ℕ)) → drop number files ≡ bytes ∷ after → LongAhead files number (drop number files) → is_too_long (number + 1) bytes ≡ false → (reads (number + 1) bytes).end ≡ Whole → LongAhead files (number + 1) after
long_next files number bytes after here ahead fits whole =
    ahead ∙ ap (too_long_from (number + 1)) here ∙ front_fits (number + 1) bytes after fits ∙ ap (λ (e : Ending). unless_faulty e (too_long_from (number + 1 + 1) after)) whole

-- The next file breaks a rule.
pub long_fault : (files : List (List ℕ)) (number : ℕ) (bytes : List ℕ) (after : List (List ℕ)) (verdict : Verdict) → drop number files ≡ bytes ∷ after → LongAhead files number (drop number files) → is_too_long (number + 1) bytes ≡ false → (reads (number + 1) bytes).end ≡ Faulty verdict → too_long files ≡ None
long_fault files number bytes after verdict here ahead fits faulty =
    ahead ∙ ap (too_long_from (number + 1)) here ∙ front_fits (number + 1) bytes after fits ∙ ap (λ (e : Ending). unless_faulty e (too_long_from (number + 1 + 1) after)) faulty

-- The next file is too long.
pub long_here : (files : List (List ℕ)) (number : ℕ) (bytes : List ℕ) (after : List (List ℕ)) → drop number files ≡ bytes ∷ after → LongAhead files number (drop number files) → is_too_long (number + 1) bytes ≡ true → too_long files ≡ Some (number + 1)
unfolding too_long_from
long_here files number bytes after here ahead long =
    ahead ∙ ap (too_long_from (number + 1)) here ∙ ap (λ (b : Bool). if b then Some (number + 1) else unless_faulty (reads (number + 1) bytes).end (too_long_from (number + 1 + 1) after)) long
