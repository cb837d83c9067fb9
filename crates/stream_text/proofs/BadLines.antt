-- The line that is named, by the lines before it and the first bytes behind these.
use Rattle.std.specs.Prelude.{◌≡◌, ◌≢◌, ℕ, zero, suc, ◌+◌, ◌<◌, ◌≤◌, List, [], ◌∷◌, ◌++◌, map, length, take, Option, None, Some, slice_get}
use Rattle.std.specs.List.{concat}
use Rattle.std.proofs.Common.{inl, inr, refl, sym, ap, subst, ◌∙◌, arith, append_assoc, append-nil, length-append}
use Rattle.std.proofs.Math.Seq.{take-append_seam, take-append-add}
use Rattle.std.proofs.lemmas.List.{take-append-le, length-map}
use Rattle.std.proofs.lemmas.List.Folds.{concat-append}
use Rattle.send_model.specs.Lengths.{limit}
use Rattle.send_model.proofs.ElementLaws.{all_take, all_rest}
use Rattle.text_model.specs.Texts.{Line, Stream, line_text, lines_of_streams, text_of_lines}
use Rattle.text_model.specs.LineOrder.{IsDueLine, Runs, due_after}
use Rattle.text_model.specs.Packing.{lines_of, BeginsText, first_lines, IsBadLine, place_of_line, IsNamed, longest_line}
use Rattle.text_model.proofs.LineRuns.{runs_rest, streams_run, streams_due, begins, begun_runs, continues, Continues}
use Rattle.text_model.proofs.LineShapes.{line_whole, line_len}
use Rattle.text_model.proofs.Judging.{text_lines, lines_once}
use Rattle.stream_text.specs.Lines.{HasNoLine}
use Rattle.stream_text.proofs.LineCuts.{lines_joined}

-- ---- the first lines

module _ (bytes : List ℕ) (lines : List Line) (more : List (List ℕ)) (cut : lines_of bytes ≡ map line_text lines ++ more) where
  count_is : length (map line_text lines) ≡ length lines
  count_is = length-map lines line_text

  pub firsts : first_lines (length lines) bytes ≡ map line_text lines
  firsts =
      ap (take (length lines)) cut ∙ ap (λ (n : ℕ). take n (map line_text lines ++ more)) (sym count_is) ∙ take-append_seam (map line_text lines) more

  pub firsts_further : (n : ℕ) → first_lines (length lines + n) bytes ≡ map line_text lines ++ take n more
  firsts_further n =
      ap (take (length lines + n)) cut ∙ ap (λ (k : ℕ). take (k + n) (map line_text lines ++ more)) (sym count_is) ∙ take-append-add (map line_text lines) more n

  pub firsts_among : (n : ℕ) → n ≤ length lines → first_lines n bytes ≡ take n (map line_text lines)
  firsts_among n few = ap (take n) cut ∙ take-append-le n (map line_text lines) more (omega (arith, few, count_is))

  pub all_count : length (lines_of bytes) ≡ length lines + length more
  all_count = ap length cut ∙ length-append (map line_text lines) more ∙ ap (λ (n : ℕ). n + length more) count_is

pub texts_joined : (lines : List Line) → concat (map line_text lines) ≡ text_of_lines lines
texts_joined [] = refl
texts_joined (line ∷ lines) = ap (λ (l : List ℕ). line_text line ++ l) (texts_joined lines)

pub first_place : (bytes : List ℕ) (lines : List Line) (more : List (List ℕ)) → lines_of bytes ≡ map line_text lines ++ more → place_of_line (length lines) bytes ≡ length (text_of_lines lines)
first_place bytes lines more cut = ap (λ (l : List (List ℕ)). length (concat l)) (firsts bytes lines more cut) ∙ ap length (texts_joined lines)

pub further_place : (bytes : List ℕ) (lines : List Line) (more : List (List ℕ)) (n : ℕ) → lines_of bytes ≡ map line_text lines ++ more
    → place_of_line (length lines + n) bytes ≡ length (text_of_lines lines) + length (concat (take n more))
further_place bytes lines more n cut =
    ap (λ (l : List (List ℕ)). length (concat l)) (firsts_further bytes lines more cut n)
    ∙ ap length (concat-append (map line_text lines) (take n more) ∙ ap (λ (l : List ℕ). l ++ concat (take n more)) (texts_joined lines))
    ∙ length-append (text_of_lines lines) (concat (take n more))

-- ---- a line that is not due

-- A line that may not stand here.
abbrev pub IsWrong : Option ℕ → List ℕ → Type 0
IsWrong due text = (line : Line) → IsDueLine due line → line_text line ≡ text → ⊥

last_wrong : (due : Option ℕ) (text : List ℕ) (rest : List Line) → IsWrong due text → Runs due rest → map line_text rest ≡ text ∷ [] → ⊥
last_wrong due text [] wrong runs says = absurd cc
last_wrong due text (line ∷ rest) wrong runs says = let same : line_text line ≡ text = cc in wrong line runs.0 same

pub wrong_line : (bytes text : List ℕ) (lines : List Line) (more : List (List ℕ)) → Runs None lines → lines_of bytes ≡ map line_text lines ++ text ∷ more → IsWrong (due_after None lines) text
    → IsBadLine bytes (length lines)
wrong_line bytes text lines more runs cut wrong = record {
  among = omega (arith, all_count bytes lines (text ∷ more) cut);
  front = subst (λ (l : List (List ℕ)). BeginsText l) (sym (firsts bytes lines (text ∷ more) cut)) (begins lines runs);
  wrong = λ less b.
      let c : Continues lines b.lines (text ∷ []) = continues None lines b.lines (text ∷ []) runs (begun_runs (first_lines (length lines + 1) bytes) b) (sym (firsts_further bytes lines (text ∷ more) cut 1) ∙ b.texts) in
      last_wrong (due_after None lines) text c.rest wrong
      (runs_rest None lines c.rest (subst (λ (l : List Line). Runs None l) c.are (begun_runs (first_lines (length lines + 1) bytes) b))) c.says;
  missing = λ e t. absurd (omega (arith, e, all_count bytes lines (text ∷ more) cut));
}

-- ---- nothing behind the last line

pub streams_lines : (streams : List Stream) → streams ≢ [] → lines_of_streams streams ≢ []
streams_lines [] some none = some refl
streams_lines (s ∷ streams) some none = absurd cc

pub missing_line : (bytes : List ℕ) (lines : List Line) → Runs None lines → lines_of bytes ≡ map line_text lines → (due_after None lines ≡ None → lines ≢ [] → ⊥) → IsBadLine bytes (length lines)
missing_line bytes lines runs cut never =
    let whole : lines_of bytes ≡ map line_text lines ++ [] = cut ∙ sym (append-nil (map line_text lines)) in
    let all : length (lines_of bytes) ≡ length lines = all_count bytes lines [] whole ∙ omega arith in
    record {
      among = omega (arith, all);
      front = subst (λ (l : List (List ℕ)). BeginsText l) (sym (firsts bytes lines [] whole)) (begins lines runs);
      wrong = λ less b. absurd (omega (arith, less, all));
      missing = λ e t.
          let same : lines ≡ lines_of_streams t.streams = lines_once lines (lines_of_streams t.streams) runs (streams_run t.streams t.lawful.each) (sym cut ∙ text_lines bytes t) in
          never (ap (due_after None) same ∙ streams_due t.streams) (λ none. streams_lines t.streams t.lawful.some (sym same ∙ none));
    }

-- ---- what is wrong of a line

-- A line without an end is none.
no_end : (body text : List ℕ) → HasNoLine text → text ≡ body ++ 0x0a ∷ [] → ⊥
no_end body text none e = (all_rest (λ byte. byte ≢ 0x0a) body (0x0a ∷ []) (subst (λ (l : List ℕ). HasNoLine l) e none)).0 refl

pub unended_wrong : (due : Option ℕ) (text : List ℕ) → HasNoLine text → IsWrong due text
unended_wrong due text none line is says = let w = line_whole due line is in no_end w.body text none (sym says ∙ w.is)

pub long_wrong : (due : Option ℕ) (text : List ℕ) → longest_line < length text → IsWrong due text
long_wrong due text long line is says = omega (arith, long, line_len due line is, ap length says)

-- ---- lines that are met

there : {A : Type 0} (xs : List A) (y : A) (ys : List A) → slice_get (xs ++ y ∷ ys) (length xs) ≡ Some y
there [] y ys = refl
there (x ∷ xs) y ys = there xs y ys

pub line_there : (bytes text : List ℕ) (lines : List Line) (more : List (List ℕ)) → lines_of bytes ≡ map line_text lines ++ text ∷ more → slice_get (lines_of bytes) (length lines) ≡ Some text
line_there bytes text lines more cut =
    ap (λ (l : List (List ℕ)). slice_get l (length lines)) cut ∙ ap (slice_get (map line_text lines ++ text ∷ more)) (sym (length-map lines line_text)) ∙ there (map line_text lines) text more

pub ended_named : (bytes text : List ℕ) (lines : List Line) (more : List (List ℕ)) → lines_of bytes ≡ map line_text lines ++ (text ++ 0x0a ∷ []) ∷ more
    → length (text_of_lines lines) + length (text ++ 0x0a ∷ []) ≤ limit → IsNamed bytes (length lines)
ended_named bytes text lines more cut within =
    let line : List ℕ = text ++ 0x0a ∷ [] in
    let place : place_of_line (length lines + 1) bytes ≡ length (text_of_lines lines) + length (line ++ []) = further_place bytes lines (line ∷ more) 1 cut in
    inr (
      line,
      record {
        line_is = line_there bytes line lines more cut;
        ends_or_passes = inl (omega (arith, place, within, ap length (append-nil line)), (text, refl));
      },
    )

pub long_named : (bytes text : List ℕ) (lines : List Line) (more : List (List ℕ)) → lines_of bytes ≡ map line_text lines ++ text ∷ more
    → longest_line < length text → length (text_of_lines lines) + longest_line < limit → IsNamed bytes (length lines)
long_named bytes text lines more cut long within =
    inr (
      text,
      record {
        line_is = line_there bytes text lines more cut;
        ends_or_passes = inr (long, omega (arith, first_place bytes lines (text ∷ more) cut, within));
      },
    )

-- ---- files that are too long

-- The line at a place among first ones, as their last.
taken_more : (lines : List (List ℕ)) (n : ℕ) (line : List ℕ) → slice_get lines n ≡ Some line → concat (take (n + 1) lines) ≡ concat (take n lines) ++ line
taken_more [] n line is = absurd cc
taken_more (l ∷ lines) zero line is =
    let same : l ≡ line = cc in
    append-nil l ∙ same
taken_more (l ∷ lines) (suc n) line is =
    let next : suc n + 1 ≡ suc (n + 1) = omega arith in
    ap (λ (k : ℕ). concat (take k (l ∷ lines))) next ∙ ap (λ (x : List ℕ). l ++ x) (taken_more lines n line is) ∙ sym (append_assoc l (concat (take n lines)) line)

-- First lines are the first bytes.
taken_front : (lines : List (List ℕ)) (n : ℕ) → take (length (concat (take n lines))) (concat lines) ≡ concat (take n lines)
taken_front lines zero = refl
taken_front [] (suc n) = refl
taken_front (l ∷ lines) (suc n) =
    ap (λ (k : ℕ). take k (l ++ concat lines)) (length-append l (concat (take n lines)))
    ∙ take-append-add l (concat lines) (length (concat (take n lines)))
    ∙ ap (λ (x : List ℕ). l ++ x) (taken_front lines n)

-- No line ends in bytes without a newline.
pub none_ends : (held rest : List ℕ) (n : ℕ) (text : List ℕ) → HasNoLine held → slice_get (lines_of (held ++ rest)) n ≡ Some (text ++ 0x0a ∷ []) → length (concat (take (n + 1) (lines_of (held ++ rest)))) ≤ length held → ⊥
none_ends held rest n text none is within =
    let lines : List (List ℕ) = lines_of (held ++ rest) in
    let front : List ℕ = concat (take (n + 1) lines) in
    let here : front ≡ take (length front) held = sym (taken_front lines (n + 1)) ∙ ap (take (length front)) (lines_joined (held ++ rest)) ∙ take-append-le (length front) held rest within in
    let all : HasNoLine front = subst (λ (l : List ℕ). HasNoLine l) (sym here) (all_take (λ byte. byte ≢ 0x0a) (length front) held none) in
    no_end (concat (take n lines) ++ text) front all (taken_more lines n (text ++ 0x0a ∷ []) is ∙ sym (append_assoc (concat (take n lines)) text (0x0a ∷ [])))

pub behind : {A : Type 0} (xs ys : List A) (n : ℕ) → slice_get (xs ++ ys) (length xs + n) ≡ slice_get ys n
behind [] ys n = ap (slice_get ys) (omega arith)
behind (x ∷ xs) ys n = let next : length (x ∷ xs) + n ≡ suc (length xs + n) = omega arith in ap (slice_get (x ∷ (xs ++ ys))) next ∙ behind xs ys n
