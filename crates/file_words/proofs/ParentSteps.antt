-- A word that says a parent, as it is read: by its parts, and spelled again part by part.
use Rattle.std.specs.Prelude.{◌≡◌, ◌↔◌, ℕ, Bool, true, false, List, [], ◌∷◌, ◌++◌, length, take, drop, Option, None, Some, Result, Ok, Err, IfOk, IsOk, codes, if◌then◌else◌}
use Rattle.std.specs.Fmt.{decimal}
use Rattle.std.specs.Str.{bytes_eq}
use Rattle.std.proofs.Common.{refl, sym, ap, subst, ◌∙◌}
use Rattle.std.proofs.lemmas.Bool.{false≢true}
use Rattle.std.proofs.lemmas.List.{take_at, drop_at, take-append-drop}
use Rattle.uuid.specs.Text.{parsed, hyphenated_text, lower}
use Rattle.send_model.specs.Guards.{after_text, number_word}
use Rattle.send_model.specs.Store.{Key}
use Rattle.send_model.proofs.Stores.{bytes_eq_same, bytes_eq_true}
use Rattle.program_model.specs.FileWords.{parent_word, if_spelled, with_number, given_parent}

-- ---- the spelling, part by part

both_ways : (a b : Bool) → (a ≡ true → b ≡ true) → (b ≡ true → a ≡ true) → a ≡ b
both_ways true true f g = refl
both_ways false false f g = refl
both_ways true false f g = absurd (false≢true (f refl))
both_ways false true f g = absurd (false≢true (g refl))

-- Bytes that go on behind a text are those of the text and others exactly if what stands behind it
-- is those others.
abbrev pub then_rest : Option (List ℕ) → List ℕ → Bool
then_rest None rest = false
then_rest (Some left) rest = bytes_eq left rest

pub after_there : (text word rest : List ℕ) → bytes_eq word (text ++ rest) ≡ then_rest (after_text text word) rest
after_there text word rest = one (bytes_eq (take (length text) word) text) refl
  where
    n : ℕ
    n = length text

    one : (b : Bool) → bytes_eq (take n word) text ≡ b → bytes_eq word (text ++ rest) ≡ then_rest (if b then Some (drop n word) else None) rest
    one true e =
        let whole : word ≡ text ++ drop n word = sym (take-append-drop n word) ∙ ap (λ (l : List ℕ). l ++ drop n word) (bytes_eq_true (take n word) text e) in
        both_ways (bytes_eq word (text ++ rest)) (bytes_eq (drop n word) rest)
        (λ same. subst (λ (l : List ℕ). bytes_eq l rest ≡ true) (sym (ap (λ (l : List ℕ). drop n l) (bytes_eq_true word (text ++ rest) same) ∙ drop_at text rest n refl)) (bytes_eq_same rest))
        (λ same. subst (λ (l : List ℕ). bytes_eq l (text ++ rest) ≡ true) (sym (whole ∙ ap (λ (l : List ℕ). text ++ l) (bytes_eq_true (drop n word) rest same))) (bytes_eq_same (text ++ rest)))
    one false e =
        both_ways (bytes_eq word (text ++ rest)) false
        (λ same. sym e ∙ subst (λ (l : List ℕ). bytes_eq l text ≡ true) (sym (ap (λ (l : List ℕ). take n l) (bytes_eq_true word (text ++ rest) same) ∙ take_at text rest n refl)) (bytes_eq_same text))
        (λ same. absurd (false≢true same))

no_front : (text word rest : List ℕ) → after_text text word ≡ None → bytes_eq word (text ++ rest) ≡ false
no_front text word rest e = after_there text word rest ∙ ap (λ (o : Option (List ℕ)). then_rest o rest) e

has_front : (text word rest left : List ℕ) → after_text text word ≡ Some left → bytes_eq word (text ++ rest) ≡ bytes_eq left rest
has_front text word rest left e = after_there text word rest ∙ ap (λ (o : Option (List ℕ)). then_rest o rest) e

module _ (word : List ℕ) (key : Key) where
  abbrev digits : List ℕ
  digits = decimal key.ctransid

  abbrev text : List ℕ
  text = hyphenated_text lower key.uuid

  pub no_word : after_text (codes "parent:") word ≡ None → false ≡ bytes_eq word (parent_word key)
  no_word e = sym (no_front (codes "parent:") word (text ++ (codes ":" ++ digits)) e)

  pub no_uuid : (first : List ℕ) → after_text (codes "parent:") word ≡ Some first → after_text text first ≡ None → false ≡ bytes_eq word (parent_word key)
  no_uuid first e f = sym (has_front (codes "parent:") word (text ++ (codes ":" ++ digits)) first e ∙ no_front text first (codes ":" ++ digits) f)

  pub no_colon : (first second : List ℕ) → after_text (codes "parent:") word ≡ Some first → after_text text first ≡ Some second → after_text (codes ":") second ≡ None → false ≡ bytes_eq word (parent_word key)
  no_colon first second e f g =
      sym (has_front (codes "parent:") word (text ++ (codes ":" ++ digits)) first e ∙ has_front text first (codes ":" ++ digits) second f ∙ no_front (codes ":") second digits g)

  pub whole_word : (first second third : List ℕ) → after_text (codes "parent:") word ≡ Some first → after_text text first ≡ Some second → after_text (codes ":") second ≡ Some third
      → bytes_eq third digits ≡ bytes_eq word (parent_word key)
  whole_word first second third e f g =
      sym (has_front (codes "parent:") word (text ++ (codes ":" ++ digits)) first e ∙ has_front text first (codes ":" ++ digits) second f ∙ has_front (codes ":") second digits third g)

-- ---- what is read

abbrev pub with_uuid : List ℕ → Option (List ℕ) → Option Key
with_uuid word o = elim o [ None ↦ None | Some uuid ↦ with_number word uuid (number_word (drop 44 word)) ]

pub not_parsed : {E : Type 0} (r : Result (List ℕ) E) (input : List ℕ) (error : E) → r ≡ Err error → (IsOk r ↔ ((u : List ℕ) × (parsed input ≡ Some u))) → parsed input ≡ None
not_parsed {E} r input error is ok = one (parsed input) refl
  where
    never : (x : Result (List ℕ) E) → x ≡ Err error → IsOk x → ⊥
    never (Ok u) e h = cc
    never (Err other) e h = false≢true h

    one : (o : Option (List ℕ)) → parsed input ≡ o → o ≡ None
    one None e = refl
    one (Some uuid) e = absurd (never r is (ok.1 (uuid, e)))

module _ (word : List ℕ) where
  pub no_uuid_read : parsed (take 36 (drop 7 word)) ≡ None → None ≡ given_parent word
  no_uuid_read e = sym (ap (with_uuid word) e)

  pub no_number_read : (uuid : List ℕ) → Some uuid ≡ parsed (take 36 (drop 7 word)) → None ≡ number_word (drop 44 word) → None ≡ given_parent word
  no_number_read uuid e f = ap (with_number word uuid) f ∙ ap (with_uuid word) e

  pub parent_read : (uuid : List ℕ) (ctransid : ℕ) (b : Bool) → Some uuid ≡ parsed (take 36 (drop 7 word)) → Some ctransid ≡ number_word (drop 44 word)
      → b ≡ bytes_eq word (parent_word (record { uuid = uuid; ctransid = ctransid })) → (if b then Some (record { uuid = uuid; ctransid = ctransid }) else None) ≡ given_parent word
  parent_read uuid ctransid b e f g =
      ap (λ (same : Bool). if same then Some (record { uuid = uuid; ctransid = ctransid }) else None) g ∙ ap (with_number word uuid) f ∙ ap (with_uuid word) e
