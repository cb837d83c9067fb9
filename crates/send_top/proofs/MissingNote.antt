-- The note of what is missing, a line's room at a time.
use Rattle.std.specs.Prelude.{◌≡◌, ◌+◌, ◌<◌, ◌≤◌, ℕ, List, [], ◌∷◌, ◌++◌, length, take, drop, codes, slice_index_or, Option, Result, Ok, Err, OnOk, OnErr}
use Rattle.std.specs.Io.KnownBytes.{Appends}
use Rattle.std.proofs.Common.{refl, sym, ap, subst, ◌∙◌, append_assoc, append-nil, length-append, arith}
use Rattle.std.proofs.KnownBytes.{Appends-nil, Appends-trans}
use Rattle.std.proofs.Math.Seq.{take-append-add}
use Rattle.std.proofs.lemmas.List.{take-append-le}
use Rattle.send_model.specs.Printed.{escaped, escaped_byte}
use Rattle.program_model.specs.Answers.{IsMissing, note_of}
use Rattle.sx_base.specs.Outside.{AppendsPart}
use Rattle.sx_base.proofs.EscapedSteps.{escaped_step, escaped_end}
use Rattle.send_top.specs.Answered.{HandedOn}

-- Some of the note was written, and a line stands behind it; the bytes from a place on are still to
-- be escaped.
pub record IsNoted (what line : List ℕ) (place : ℕ) (old now : Option (List ℕ)) : Type 0 where
  pub written : List ℕ
  pub wrote : Appends old now written
  pub is : (written ++ line) ++ escaped (drop place what) ≡ codes "missing " ++ escaped what

pub begins : (what line : List ℕ) (old : Option (List ℕ)) → line ≡ codes "missing " → IsNoted what line 0 old old
begins what line old is = record { written = []; wrote = Appends-nil old; is = ap (λ (l : List ℕ). l ++ escaped what) is }

pub handed : (what before after : List ℕ) (place : ℕ) (old middle now : Option (List ℕ)) → IsNoted what before place old middle → HandedOn before after middle now → IsNoted what after place old now
handed what before after place old middle now n (more, wrote, is) = record {
  written = n.written ++ more;
  wrote = Appends-trans old middle now n.written more n.wrote wrote;
  is = ap (λ (l : List ℕ). l ++ escaped (drop place what)) (append_assoc n.written more after ∙ ap (λ (l : List ℕ). n.written ++ l) is) ∙ n.is;
}

pub pushed : (what line new : List ℕ) (place byte : ℕ) (old now : Option (List ℕ)) → IsNoted what line place old now → place < length what
    → byte ≡ slice_index_or what place 0 → new ≡ line ++ escaped_byte byte → IsNoted what new (place + 1) old now
pushed what line new place byte old now n less is grown = record {
  written = n.written;
  wrote = n.wrote;
  is = ap (λ (l : List ℕ). (n.written ++ l) ++ escaped (drop (place + 1) what)) grown
      ∙ ap (λ (l : List ℕ). l ++ escaped (drop (place + 1) what)) (sym (append_assoc n.written line (escaped_byte byte)))
      ∙ ap (λ (b : ℕ). ((n.written ++ line) ++ escaped_byte b) ++ escaped (drop (place + 1) what)) is
      ∙ escaped_step (n.written ++ line) what place 0 less ∙ n.is;
}

-- All is escaped, so this is the note.
whole : (what line : List ℕ) (place : ℕ) (old now : Option (List ℕ)) (n : IsNoted what line place old now) → length what ≤ place → n.written ++ (line ++ 10 ∷ []) ≡ note_of (IsMissing what)
unfolding note_of
whole what line place old now n all =
    sym (append_assoc n.written line (10 ∷ [])) ∙ ap (λ (l : List ℕ). l ++ 10 ∷ []) (sym (escaped_end (n.written ++ line) what place all) ∙ n.is)

pub ended : (what line last : List ℕ) (place : ℕ) (old now new : Option (List ℕ)) → IsNoted what line place old now → length what ≤ place → last ≡ line ++ 10 ∷ []
    → Appends now new last → Appends old new (note_of (IsMissing what))
ended what line last place old now new n all is wrote =
    subst (Appends old new) (ap (λ (l : List ℕ). n.written ++ l) is ∙ whole what line place old now n all) (Appends-trans old now new n.written last n.wrote wrote)

-- ---- where the notes fail

-- A part of what comes next is a part of all.
part_behind : (written piece rest all : List ℕ) (old now new : Option (List ℕ)) → Appends old now written → AppendsPart now new piece → (written ++ piece) ++ rest ≡ all → AppendsPart old new all
part_behind written piece rest all old now new wrote (count, less, part) is =
    let short : length written + count ≤ length (written ++ piece) = omega (arith, less, length-append written piece) in
    let bound : length written + count < length all =
    subst (λ (l : List ℕ). length written + count < length l) is (omega (arith, less, length-append written piece, length-append (written ++ piece) rest)) in
    let front : take (length written + count) all ≡ written ++ take count piece =
    ap (take (length written + count)) (sym is) ∙ take-append-le (length written + count) (written ++ piece) rest short ∙ take-append-add written piece count in (
      length written + count,
      bound,
      subst (Appends old new) (sym front) (Appends-trans old now new written (take count piece) wrote part),
    )

note_is : (what : List ℕ) → (codes "missing " ++ escaped what) ++ 10 ∷ [] ≡ note_of (IsMissing what)
unfolding note_of
note_is what = refl

pub stopped : (what line : List ℕ) (place : ℕ) (old now new : Option (List ℕ)) → IsNoted what line place old now → AppendsPart now new line → AppendsPart old new (note_of (IsMissing what))
stopped what line place old now new n part =
    part_behind n.written line (escaped (drop place what) ++ 10 ∷ []) (note_of (IsMissing what)) old now new n.wrote part
    (sym (append_assoc (n.written ++ line) (escaped (drop place what)) (10 ∷ [])) ∙ ap (λ (l : List ℕ). l ++ 10 ∷ []) n.is ∙ note_is what)

pub cut : (what line last : List ℕ) (place : ℕ) (old now new : Option (List ℕ)) → IsNoted what line place old now → length what ≤ place → last ≡ line ++ 10 ∷ []
    → AppendsPart now new last → AppendsPart old new (note_of (IsMissing what))
cut what line last place old now new n all is part =
    part_behind n.written last [] (note_of (IsMissing what)) old now new n.wrote part
    (append_assoc n.written last [] ∙ ap (λ (l : List ℕ). n.written ++ l) (append-nil last ∙ is) ∙ whole what line place old now n all)

-- What is said of a call that ended so, whatever it answered.
pub on_err : {T E : Type 0} (result : Result T E) (P : Type 0) → P → OnErr result P
on_err (Ok x) P p = tt
on_err (Err e) P p = p

pub then_ok : {T E : Type 0} (result : Result T E) (P Q : Type 0) → (P → Q) → OnOk result P → OnOk result Q
then_ok (Ok x) P Q follows p = follows p
then_ok (Err e) P Q follows p = tt

pub then_err : {T E : Type 0} (result : Result T E) (P Q : Type 0) → (P → Q) → OnErr result P → OnErr result Q
then_err (Ok x) P Q follows p = tt
then_err (Err e) P Q follows p = follows p
