-- A command for each of the eight files, one after the other.
use Rattle.std.specs.Prelude.{◌≡◌, ℕ, zero, suc, ◌+◌, ◌<◌, ◌≤◌, List, [], ◌∷◌, ◌++◌, map, take}
use Rattle.std.specs.List.{flat_map}
use Rattle.std.proofs.Common.{refl, sym, ap, ◌∙◌, arith, append_assoc, append-nil}
use Rattle.send_model.specs.Command.{Command, End}
use Rattle.send_model.specs.Spelling.{canonical, canonical_all}
use Rattle.send_model.specs.Generated.{files}

files_next : (place : ℕ) → place < 8 → take (place + 1) files ≡ take place files ++ place ∷ []
files_next zero less = refl
files_next (suc zero) less = refl
files_next (suc (suc zero)) less = refl
files_next (suc (suc (suc zero))) less = refl
files_next (suc (suc (suc (suc zero)))) less = refl
files_next (suc (suc (suc (suc (suc zero))))) less = refl
files_next (suc (suc (suc (suc (suc (suc zero)))))) less = refl
files_next (suc (suc (suc (suc (suc (suc (suc zero))))))) less = refl
files_next (suc (suc (suc (suc (suc (suc (suc (suc more)))))))) less = absurd (omega (arith, less))

map_last : (f : ℕ → Command) (xs : List ℕ) (x : ℕ) → map f (xs ++ x ∷ []) ≡ map f xs ++ f x ∷ []
map_last f [] x = refl
map_last f (y ∷ xs) x = ap (λ (l : List Command). f y ∷ l) (map_last f xs x)

spelled_last : (cs : List Command) (c : Command) → canonical_all 1 (cs ++ c ∷ []) ≡ canonical_all 1 cs ++ canonical 1 c
unfolding canonical_all
spelled_last [] c = append-nil (canonical 1 c)
spelled_last (d ∷ cs) c = ap (λ (l : List ℕ). canonical 1 d ++ l) (spelled_last cs c) ∙ sym (append_assoc (canonical 1 d) (flat_map (canonical 1) cs) (canonical 1 c))

pub each_first : (f : ℕ → Command) (start : List ℕ) → start ≡ start ++ canonical_all 1 (map f (take 0 files))
unfolding canonical_all
each_first f start = sym (append-nil start)

pub each_next : (f : ℕ → Command) (start now after : List ℕ) (place : ℕ) → place < 8 → now ≡ start ++ canonical_all 1 (map f (take place files))
    → after ≡ now ++ canonical 1 (f place) → after ≡ start ++ canonical_all 1 (map f (take (place + 1) files))
each_next f start now after place less is added =
    added ∙ ap (λ (l : List ℕ). l ++ canonical 1 (f place)) is ∙ append_assoc start (canonical_all 1 (map f (take place files))) (canonical 1 (f place))
    ∙ ap (λ (l : List ℕ). start ++ l) (sym (ap (canonical_all 1) (ap (map f) (files_next place less) ∙ map_last f (take place files) place) ∙ spelled_last (map f (take place files)) (f place)))

all_files : (place : ℕ) → 8 ≤ place → take place files ≡ files
all_files (suc (suc (suc (suc (suc (suc (suc (suc zero)))))))) most = refl
all_files (suc (suc (suc (suc (suc (suc (suc (suc (suc more))))))))) most = refl
all_files zero most = absurd (omega (arith, most))
all_files (suc zero) most = absurd (omega (arith, most))
all_files (suc (suc zero)) most = absurd (omega (arith, most))
all_files (suc (suc (suc zero))) most = absurd (omega (arith, most))
all_files (suc (suc (suc (suc zero)))) most = absurd (omega (arith, most))
all_files (suc (suc (suc (suc (suc zero))))) most = absurd (omega (arith, most))
all_files (suc (suc (suc (suc (suc (suc zero)))))) most = absurd (omega (arith, most))
all_files (suc (suc (suc (suc (suc (suc (suc zero))))))) most = absurd (omega (arith, most))

pub each_done : (f : ℕ → Command) (start now : List ℕ) (place : ℕ) → 8 ≤ place → now ≡ start ++ canonical_all 1 (map f (take place files)) → now ≡ start ++ canonical_all 1 (map f files)
each_done f start now place most is = is ∙ ap (λ (l : List ℕ). start ++ canonical_all 1 (map f l)) (all_files place most)

-- ---- the first part

two_spelled : (xs ys : List Command) → canonical_all 1 (xs ++ ys) ≡ canonical_all 1 xs ++ canonical_all 1 ys
unfolding canonical_all
two_spelled [] ys = refl
two_spelled (c ∷ xs) ys = ap (λ (l : List ℕ). canonical 1 c ++ l) (two_spelled xs ys) ∙ sym (append_assoc (canonical 1 c) (flat_map (canonical 1) xs) (flat_map (canonical 1) ys))

five : (to h s a b e : List ℕ) → ((((to ++ h) ++ s) ++ a) ++ b) ++ e ≡ to ++ (h ++ (s ++ ((a ++ b) ++ e)))
five to h s a b e =
    ap (λ (l : List ℕ). l ++ e) (append_assoc ((to ++ h) ++ s) a b) ∙ append_assoc ((to ++ h) ++ s) (a ++ b) e
    ∙ append_assoc (to ++ h) s ((a ++ b) ++ e) ∙ append_assoc to h (s ++ ((a ++ b) ++ e))

-- A head, the commands of the files, and END.
pub first_spelled : (to header : List ℕ) (head : Command) (xs ys : List Command)
    → ((((to ++ header) ++ canonical 1 head) ++ canonical_all 1 xs) ++ canonical_all 1 ys) ++ canonical 1 End ≡ to ++ (header ++ canonical_all 1 (head ∷ ((xs ++ ys) ++ End ∷ [])))
unfolding canonical_all
first_spelled to header head xs ys =
    five to header (canonical 1 head) (canonical_all 1 xs) (canonical_all 1 ys) (canonical 1 End)
    ∙ ap (λ (l : List ℕ). to ++ (header ++ (canonical 1 head ++ l))) (sym (spelled_last (xs ++ ys) End ∙ ap (λ (l : List ℕ). l ++ canonical 1 End) (two_spelled xs ys)))
