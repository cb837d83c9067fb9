-- Texts that have no end before the limit.
use Rattle.std.specs.Prelude.{◌≡◌, ℕ, ◌+◌, ◌-◌, ◌<◌, ◌≤◌, Bool, true, false, nat_lt, List, [], ◌∷◌, ◌++◌, map, length, take, None, Some, slice_get}
use Rattle.std.specs.List.{concat}
use Rattle.std.proofs.Common.{⊎_elim, refl, sym, ap, subst, ◌∙◌, arith, length-append}
use Rattle.std.proofs.lemmas.Bool.{ltb-true, ltb-false}
use Rattle.std.proofs.lemmas.List.{length-map}
use Rattle.send_model.specs.Lengths.{limit}
use Rattle.text_model.specs.Texts.{Line, line_text, text_of_lines}
use Rattle.text_model.specs.LineOrder.{Runs}
use Rattle.text_model.specs.Packing.{lines_of, BeginsText, first_lines, place_of_line, IsMet, IsTooLongText, longest_line}
use Rattle.text_model.proofs.LineRuns.{begins}
use Rattle.text_model.proofs.LineShapes.{lines_cut}
use Rattle.text_model.proofs.Judging.{begins_first}
use Rattle.stream_text.specs.Lines.{HasNoLine}
use Rattle.stream_text.proofs.BadLines.{behind, firsts_among, further_place, none_ends}

module _ (bytes : List ℕ) (lines : List Line) (held rest : List ℕ) (runs : Runs None lines) (is : bytes ≡ text_of_lines lines ++ (held ++ rest))
    (none : HasNoLine held) (short : length held ≤ longest_line) (full : length (text_of_lines lines) + length held ≡ limit) where
  abbrev more : List (List ℕ)
  more = lines_of (held ++ rest)

  cut : lines_of bytes ≡ map line_text lines ++ more
  cut = ap lines_of is ∙ lines_cut None lines (held ++ rest) runs

  -- A line before the place that was read to.
  before_right : (before : ℕ) → before < length lines → BeginsText (first_lines (before + 1) bytes)
  before_right before less =
      subst (λ (l : List (List ℕ)). BeginsText l) (sym (firsts_among bytes lines more cut (before + 1) (omega (arith, less)))) (begins_first (before + 1) (map line_text lines) (begins lines runs))

  line_behind : (n : ℕ) (line : List ℕ) → slice_get (lines_of bytes) (length lines + n) ≡ Some line → slice_get more n ≡ Some line
  line_behind n line there =
      sym (behind (map line_text lines) more n) ∙ ap (λ (k : ℕ). slice_get (map line_text lines ++ more) (k + n)) (length-map lines line_text) ∙ sym (ap (λ (l : List (List ℕ)). slice_get l (length lines + n)) cut) ∙ there

  ends_not : (n : ℕ) (line text : List ℕ) → slice_get (lines_of bytes) (length lines + n) ≡ Some line → line ≡ text ++ 0x0a ∷ [] → place_of_line (length lines + n + 1) bytes ≤ limit → ⊥
  ends_not n line text there ends within =
      let place : place_of_line (length lines + (n + 1)) bytes ≡ length (text_of_lines lines) + length (concat (take (n + 1) more)) = further_place bytes lines more (n + 1) cut in
      let next : length lines + n + 1 ≡ length lines + (n + 1) = omega arith in
      let same : place_of_line (length lines + n + 1) bytes ≡ place_of_line (length lines + (n + 1)) bytes = ap (λ (k : ℕ). place_of_line k bytes) next in
      none_ends held rest n text none (line_behind n line there ∙ ap (λ (l : List ℕ). Some l) ends) (omega (arith, place, same, within, full))

  passes_not : (n : ℕ) → place_of_line (length lines + n) bytes + longest_line < limit → ⊥
  passes_not n within =
      let place : place_of_line (length lines + n) bytes ≡ length (text_of_lines lines) + length (concat (take n more)) = further_place bytes lines more n cut in
      omega (arith, place, within, full, short)

  met_right : (before : ℕ) (line : List ℕ) → IsMet bytes before line → (b : Bool) → nat_lt before (length lines) ≡ b → BeginsText (first_lines (before + 1) bytes)
  met_right before line met true e = before_right before (ltb-true before (length lines) e)
  met_right before line met false e =
      let n : ℕ = before - length lines in
      let at : before ≡ length lines + n = omega (arith, ltb-false before (length lines) e) in
      let there : slice_get (lines_of bytes) (length lines + n) ≡ Some line = ap (slice_get (lines_of bytes)) (sym at) ∙ met.line_is in
      absurd (⊎_elim
      (λ ends. ends_not n line ends.1.0 there ends.1.1 (subst (λ (k : ℕ). place_of_line (k + 1) bytes ≤ limit) at ends.0))
      (λ passes. passes_not n (subst (λ (k : ℕ). place_of_line k bytes + longest_line < limit) at passes.1))
      met.ends_or_passes)

  pub too_long : IsTooLongText bytes
  too_long = record {
    long = omega (arith, full, ap length is, length-append (text_of_lines lines) (held ++ rest), length-append held rest);
    right = λ before line met. met_right before line met (nat_lt before (length lines)) refl;
  }
