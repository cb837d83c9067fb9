-- What the lines that were read stand for, and what of it was written.
use Rattle.std.specs.Prelude.{◌≡◌, ◌≢◌, ◌⊎◌, ℕ, ◌+◌, ◌-◌, ◌<◌, Bool, true, false, nat_lt, List, [], ◌∷◌, ◌++◌, map, length, take, None}
use Rattle.std.specs.Int.{w16, w32, to_le_bytes}
use Rattle.std.proofs.Common.{⊎_elim, refl, sym, ap, subst, ◌∙◌, arith, length-append, append_assoc}
use Rattle.std.proofs.Math.Seq.{take-append_seam}
use Rattle.std.proofs.lemmas.Bool.{ltb-true, ltb-false}
use Rattle.std.proofs.lemmas.Grind.{flat_map-append}
use Rattle.send_model.specs.Command.{row, kind_of}
use Rattle.send_model.specs.Spelling.{stream_header, canonical, frame_of, frame_checksum, body_of, attributes_of}
use Rattle.send_model.specs.Headline.{IsFrontOf, IsProperFrontOf}
use Rattle.text_model.specs.Texts.{Line, Header, Says, IsText, line_text, line_bytes, lines_of_streams, text_of_lines, bytes_of_lines, packed_of}
use Rattle.text_model.specs.LineOrder.{Runs, due_after}
use Rattle.text_model.specs.Packing.{lines_of, BeginsText, first_lines, IsBadLine, Packs, IsPackedPart}
use Rattle.text_model.proofs.LineRuns.{Whole, whole, streams_run, begins, begun_runs, continues, Continues}
use Rattle.text_model.proofs.Judging.{text_lines, lines_once, begins_first}
use Rattle.stream_text.proofs.BadLines.{firsts, firsts_further, firsts_among, all_count, streams_lines}

-- ---- a lawful text

pub is_lawful : (bytes : List ℕ) (lines : List Line) → Runs None lines → bytes ≡ text_of_lines lines → due_after None lines ≡ None → lines ≢ [] → (t : IsText bytes) × (bytes_of_lines lines ≡ packed_of t.streams)
is_lawful bytes lines runs is none some =
    let w : Whole lines = whole lines runs none some in
    (record { streams = w.streams; lawful = w.lawful; text = is ∙ ap text_of_lines w.are }, ap bytes_of_lines w.are)

-- ---- first lines

pub lines_pack : (bytes : List ℕ) (lines : List Line) (more : List (List ℕ)) → Runs None lines → lines_of bytes ≡ map line_text lines ++ more → Packs (first_lines (length lines) bytes) (bytes_of_lines lines)
lines_pack bytes lines more runs cut =
    let are : first_lines (length lines) bytes ≡ map line_text lines = firsts bytes lines more cut in
    let front : BeginsText (first_lines (length lines) bytes) = subst (λ (l : List (List ℕ)). BeginsText l) (sym are) (begins lines runs) in
    (front, ap bytes_of_lines (lines_once lines front.lines runs (begun_runs (first_lines (length lines) bytes) front) (sym are ∙ front.texts)))

-- ---- what was written of them

pub some_bytes : (line : Line) → 0 < length (line_bytes line)
unfolding stream_header canonical frame_of
some_bytes (Header version) = omega arith
some_bytes (Says version c) =
    let body : List ℕ = body_of version (attributes_of c) in
    omega (arith, length-append (to_le_bytes w32 (length body) ++ to_le_bytes w16 (row (kind_of c)).number ++ to_le_bytes w32 (frame_checksum (length body) (row (kind_of c)).number body)) body)

is_part : (all written rest : List ℕ) → all ≡ written ++ rest → IsFrontOf all written
is_part all written rest is = record {
  count = length written;
  within = omega (arith, ap length is, length-append written rest);
  written_is = sym (ap (take (length written)) is ∙ take-append_seam written rest);
}

is_proper_part : (all written rest : List ℕ) → all ≡ written ++ rest → 0 < length rest → IsProperFrontOf all written
is_proper_part all written rest is some = record {
  count = length written;
  within = omega (arith, ap length is, length-append written rest, some);
  written_is = sym (ap (take (length written)) is ∙ take-append_seam written rest);
}

not_none : (bytes : List ℕ) → bytes ≢ [] → 0 < length bytes
not_none [] some = absurd (some refl)
not_none (b ∷ bytes) some = omega arith

module _ (bytes : List ℕ) (lines : List Line) (more : List (List ℕ)) (written pending : List ℕ) (runs : Runs None lines) (cut : lines_of bytes ≡ map line_text lines ++ more)
    (are : written ++ pending ≡ bytes_of_lines lines) where
  all_bytes : (others rest : List Line) → others ≡ lines ++ rest → bytes_of_lines others ≡ written ++ (pending ++ bytes_of_lines rest)
  all_bytes others rest is =
      ap bytes_of_lines is ∙ flat_map-append line_bytes lines rest ∙ ap (λ (l : List ℕ). l ++ bytes_of_lines rest) (sym are) ∙ append_assoc written pending (bytes_of_lines rest)

  some_left : (others rest : List Line) → others ≢ [] → others ≡ lines ++ rest → (lines ≡ []) ⊎ (pending ≢ []) → 0 < length (pending ++ bytes_of_lines rest)
  some_left others rest some is left =
      ⊎_elim
      (λ none. first rest (λ empty. some (is ∙ ap (λ (l : List Line). l ++ rest) none ∙ empty)))
      (λ kept. omega (arith, not_none pending kept, length-append pending (bytes_of_lines rest))) left
    where
      first : (rest : List Line) → rest ≢ [] → 0 < length (pending ++ bytes_of_lines rest)
      first [] some = absurd (some refl)
      first (line ∷ rest) some = omega (arith, some_bytes line, length-append pending (bytes_of_lines (line ∷ rest)), length-append (line_bytes line) (bytes_of_lines rest))

  lawful_part : (lines ≡ []) ⊎ (pending ≢ []) → (t : IsText bytes) → IsProperFrontOf (packed_of t.streams) written
  lawful_part left t =
      let all : List Line = lines_of_streams t.streams in
      let c : Continues lines all more = continues None lines all more runs (streams_run t.streams t.lawful.each) (sym cut ∙ text_lines bytes t) in
      is_proper_part (packed_of t.streams) written (pending ++ bytes_of_lines c.rest) (all_bytes all c.rest c.are) (some_left all c.rest (streams_lines t.streams t.lawful.some) c.are left)

  not_before : (before : ℕ) → IsBadLine bytes before → before < length lines → ⊥
  not_before before bad less =
      bad.wrong (omega (arith, less, all_count bytes lines more cut))
      (subst (λ (l : List (List ℕ)). BeginsText l) (sym (firsts_among bytes lines more cut (before + 1) (omega (arith, less)))) (begins_first (before + 1) (map line_text lines) (begins lines runs)))

  other_by : (before n : ℕ) → before ≡ length lines + n → (front : BeginsText (first_lines before bytes)) → IsFrontOf (bytes_of_lines front.lines) written
  other_by before n at front =
      let are_first : map line_text lines ++ take n more ≡ map line_text front.lines = sym (firsts_further bytes lines more cut n) ∙ ap (λ (k : ℕ). first_lines k bytes) (sym at) ∙ front.texts in
      let c : Continues lines front.lines (take n more) = continues None lines front.lines (take n more) runs (begun_runs (first_lines before bytes) front) are_first in
      is_part (bytes_of_lines front.lines) written (pending ++ bytes_of_lines c.rest) (all_bytes front.lines c.rest c.are)

  other_part : (before : ℕ) (bad : IsBadLine bytes before) → IsFrontOf (bytes_of_lines bad.front.lines) written
  other_part before bad = one (nat_lt before (length lines)) refl
    where
      one : (b : Bool) → nat_lt before (length lines) ≡ b → IsFrontOf (bytes_of_lines bad.front.lines) written
      one true e = absurd (not_before before bad (ltb-true before (length lines) e))
      one false e = other_by before (before - length lines) (omega (arith, ltb-false before (length lines) e)) bad.front

  -- A line stands behind them.
  rest_some : (x : List ℕ) (xs : List (List ℕ)) (rest : List Line) → more ≡ x ∷ xs → map line_text rest ≡ more → 0 < length (pending ++ bytes_of_lines rest)
  rest_some x xs [] is says = absurd cc
  rest_some x xs (line ∷ rest) is says = omega (arith, some_bytes line, length-append pending (bytes_of_lines (line ∷ rest)), length-append (line_bytes line) (bytes_of_lines rest))

  lawful_before : (x : List ℕ) (xs : List (List ℕ)) → more ≡ x ∷ xs → (t : IsText bytes) → IsProperFrontOf (packed_of t.streams) written
  lawful_before x xs is t =
      let all : List Line = lines_of_streams t.streams in
      let c : Continues lines all more = continues None lines all more runs (streams_run t.streams t.lawful.each) (sym cut ∙ text_lines bytes t) in
      is_proper_part (packed_of t.streams) written (pending ++ bytes_of_lines c.rest) (all_bytes all c.rest c.are) (rest_some x xs c.rest is c.says)

  pub packed_before : (x : List ℕ) (xs : List (List ℕ)) → more ≡ x ∷ xs → IsPackedPart bytes written
  packed_before x xs is = record { lawful = lawful_before x xs is; other = other_part }

  pub packed_part : (lines ≡ []) ⊎ (pending ≢ []) → IsPackedPart bytes written
  packed_part left = record { lawful = lawful_part left; other = other_part }
