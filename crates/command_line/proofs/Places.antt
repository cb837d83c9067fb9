-- The word at a place, in front of those behind it.
use Rattle.std.specs.Prelude.{◌≡◌, ℕ, suc, ◌+◌, ◌-◌, ◌<◌, List, [], ◌∷◌, ◌++◌, length, take, drop, map, slice_index_or}
use Rattle.std.proofs.Common.{sym, ap, ◌∙◌, arith, drop-cons, add-one}
use Rattle.std.proofs.Math.Seq.{take-add}
use Rattle.std.proofs.lemmas.List.{get_or-map, length-map, drop-map, take-map, take_rest}

pub word_here : {S T : Type 0} (text : S → T) (words : List S) (place : ℕ) (word : S) → place < length words → word ≡ slice_index_or words place word
    → drop place (map text words) ≡ text word ∷ drop (place + 1) (map text words)
word_here text words place word less is =
    drop-cons (map text words) place (text word) (omega (arith, less, length-map words text))
    ∙ ap (λ (w : _). w ∷ drop (suc place) (map text words)) (get_or-map text words place word (text word) less ∙ ap text (sym is))
    ∙ ap (λ (k : ℕ). text word ∷ drop k (map text words)) (sym (add-one place))

pub front_more : {A : Type 0} (words rest : List A) (place : ℕ) (word : A) → drop place words ≡ word ∷ rest → take (place + 1) words ≡ take place words ++ word ∷ []
front_more words rest place word here = take-add place 1 words ∙ ap (λ (l : List _). take place words ++ take 1 l) here

-- The words from a place on, and those in front of it, as a slice has them.
pub words_behind : {S T : Type 0} (text : S → T) (words : List S) (place : ℕ) → map text (take (length words - place) (drop place words)) ≡ drop place (map text words)
words_behind text words place = ap (map text) (take_rest words place) ∙ sym (drop-map text place words)

pub words_in_front : {S T : Type 0} (text : S → T) (words : List S) (place : ℕ) → map text (take place words) ≡ take place (map text words)
words_in_front text words place = sym (take-map text place words)
