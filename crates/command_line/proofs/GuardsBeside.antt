-- Guards beside the words that mean them, one after the other.
use Rattle.std.specs.Prelude.{◌≡◌, ◌↔◌, ℕ, ◌+◌, List, [], ◌∷◌, ◌++◌, drop, Option, None, Some}
use Rattle.std.specs.List.{cons_option}
use Rattle.std.proofs.Common.{sym, ap, ◌∙◌, append_assoc, append-nil}
use Rattle.send_model.specs.Guards.{Guard, GuardSpec, new_guard, guard_of}
use Rattle.send_model.specs.Words.{new_guards}
use Rattle.command_line.specs.Given.{guards_in}

-- ---- guards that are made of words

abbrev news : List (List ℕ) → List Guard
news words = new_guards (guards_in words)

-- What is made so far, beside the guards of the words that are left, is all.
pub made_one : (made all : List Guard) (words rest : List (List ℕ)) (word : List ℕ) (guard : GuardSpec) → words ≡ word ∷ rest → guard_of word ≡ Some guard
    → made ++ new_guards (guards_in words) ≡ all → (made ++ new_guard guard ∷ []) ++ new_guards (guards_in rest) ≡ all
made_one made all words rest word guard here means so_far =
    append_assoc made (new_guard guard ∷ []) (news rest)
    ∙ ap (λ (o : Option GuardSpec). made ++ new_guards (cons_option o (guards_in rest))) (sym means)
    ∙ ap (λ (l : List (List ℕ)). made ++ news l) (sym here)
    ∙ so_far

pub made_none : (made all : List Guard) (words rest : List (List ℕ)) (word : List ℕ) → words ≡ word ∷ rest → guard_of word ≡ None
    → made ++ new_guards (guards_in words) ≡ all → made ++ new_guards (guards_in rest) ≡ all
made_none made all words rest word here means so_far =
    ap (λ (o : Option GuardSpec). made ++ new_guards (cons_option o (guards_in rest))) (sym means)
    ∙ ap (λ (l : List (List ℕ)). made ++ news l) (sym here)
    ∙ so_far

pub made_all : (made all : List Guard) (words : List (List ℕ)) → words ≡ [] → made ++ new_guards (guards_in words) ≡ all → made ≡ all
made_all made all words none so_far = sym (append-nil made) ∙ ap (λ (l : List (List ℕ)). made ++ news l) (sym none) ∙ so_far

-- ---- guards that were handed in

-- The guards are those of all words exactly where those from a place on are those of the words that
-- are left.
pub record Fit (guards : List Guard) (at : ℕ) (left : List (List ℕ)) (all : List Guard) : Type 0 where
  pub as_those : (guards ≡ all) ↔ (drop at guards ≡ new_guards (guards_in left))

pub fit_start : (guards : List Guard) (words : List (List ℕ)) → Fit guards 0 words (new_guards (guards_in words))
fit_start guards words = record { as_those = ((λ those. those), (λ those. those)) }

pub fit_other : (guards all : List Guard) (at : ℕ) (words rest : List (List ℕ)) (word : List ℕ) → words ≡ word ∷ rest → guard_of word ≡ None → Fit guards at words all → Fit guards at rest all
fit_other guards all at words rest word here means f =
    let same : news words ≡ news rest = ap news here ∙ ap (λ (o : Option GuardSpec). new_guards (cons_option o (guards_in rest))) means in
    record { as_those = ((λ those. f.as_those.0 those ∙ same), (λ those. f.as_those.1 (those ∙ sym same))) }

first_is : {A : Type 0} {x y : A} {xs ys : List A} → x ∷ xs ≡ y ∷ ys → x ≡ y
first_is {x} e = ap (λ (l : List _). elim l [ [] ↦ x | z ∷ zs ↦ z ]) e

rest_is : {A : Type 0} {x y : A} {xs ys : List A} → x ∷ xs ≡ y ∷ ys → xs ≡ ys
rest_is e = ap (λ (l : List _). elim l [ [] ↦ [] | z ∷ zs ↦ zs ]) e

more_is : (words rest : List (List ℕ)) (word : List ℕ) (spec : GuardSpec) → words ≡ word ∷ rest → guard_of word ≡ Some spec → news words ≡ new_guard spec ∷ news rest
more_is words rest word spec here means = ap news here ∙ ap (λ (o : Option GuardSpec). new_guards (cons_option o (guards_in rest))) means

pub fit_guard : (guards all : List Guard) (at : ℕ) (words rest : List (List ℕ)) (word : List ℕ) (spec : GuardSpec) (guard : Guard) → words ≡ word ∷ rest → guard_of word ≡ Some spec
    → drop at guards ≡ guard ∷ drop (at + 1) guards → new_guard spec ≡ guard → Fit guards at words all → Fit guards (at + 1) rest all
fit_guard guards all at words rest word spec guard here means there same f =
    let more = more_is words rest word spec here means in record {
      as_those = (
        (λ those. rest_is (sym there ∙ f.as_those.0 those ∙ more)),
        (λ those. f.as_those.1 (there ∙ ap (λ (l : List Guard). guard ∷ l) those ∙ ap (λ (g : Guard). g ∷ news rest) (sym same) ∙ sym more)),
      );
    }

pub fit_not : (guards all : List Guard) (at : ℕ) (words rest : List (List ℕ)) (word : List ℕ) (spec : GuardSpec) (guard : Guard) → words ≡ word ∷ rest → guard_of word ≡ Some spec
    → drop at guards ≡ guard ∷ drop (at + 1) guards → (new_guard spec ≡ guard → ⊥) → Fit guards at words all → guards ≡ all → ⊥
fit_not guards all at words rest word spec guard here means there other f those =
    other (sym (first_is (sym there ∙ f.as_those.0 those ∙ more_is words rest word spec here means)))

nothing_there : {A : Type 0} {x : A} {xs : List A} {P : Type 0} → [] ≡ x ∷ xs → P
nothing_there e = cc

pub fit_ended : (guards all : List Guard) (at : ℕ) (words rest : List (List ℕ)) (word : List ℕ) (spec : GuardSpec) → words ≡ word ∷ rest → guard_of word ≡ Some spec
    → drop at guards ≡ [] → Fit guards at words all → guards ≡ all → ⊥
fit_ended guards all at words rest word spec here means ended f those =
    nothing_there (sym ended ∙ f.as_those.0 those ∙ more_is words rest word spec here means)

pub fit_end : (guards all : List Guard) (at : ℕ) (words : List (List ℕ)) → words ≡ [] → Fit guards at words all → (guards ≡ all) ↔ (drop at guards ≡ [])
fit_end guards all at words none f =
    let same : news words ≡ [] = ap news none in ((λ those. f.as_those.0 those ∙ same), (λ those. f.as_those.1 (those ∙ sym same)))
