-- How the lines of a text are gone through, and what is answered where that ends.
use Rattle.std.specs.Prelude.{◌≡◌, ◌≢◌, ◌⊎◌, ℕ, ◌+◌, ◌-◌, ◌<◌, ◌≤◌, List, [], ◌∷◌, ◌++◌, map, length, take, drop, Option, None}
use Rattle.std.proofs.Common.{inl, inr, refl, sym, ap, ap₂, subst, ◌∙◌, arith, append_assoc, append-nil, length-append}
use Rattle.std.proofs.Math.Seq.{take-add}
use Rattle.std.proofs.lemmas.Grind.{flat_map-append}
use Rattle.std.proofs.lemmas.List.{take-append-drop, take-take, take_all, drop_all, length-take-le, length-drop}
use Rattle.send_model.specs.Refusal as meant
use Rattle.send_model.specs.Lengths.{limit}
use Rattle.send_model.specs.Reading.{Verdict}
use Rattle.send_model.specs.Due.{DoneWhole, RefusedAt}
use Rattle.text_model.specs.Texts.{Line, line_text, line_bytes, text_of_lines}
use Rattle.text_model.specs.LineOrder.{IsDueLine, due_after, due_after_line}
use Rattle.text_model.specs.Packing.{lines_of, first_lines, IsBadLine, IsNamed, bad_text, place_of_line, Packs, IsPackedPart, PackSays, IsPackDue, IsTooLongText, longest_line}
use Rattle.text_model.proofs.LineRuns.{runs_join, due_join}
use Rattle.text_model.proofs.LineShapes.{lines_cut}
use Rattle.stream_text.specs.Lines.{HasNoLine, IsHeld, IsLineIn}
use Rattle.stream_text.specs.PackSteps.{IsPackedTo}
use Rattle.stream_text.proofs.LineCuts.{HasFirst, cut_here, long_cut, last_cut}
use Rattle.stream_text.proofs.BadLines.{IsWrong, first_place, wrong_line, missing_line, unended_wrong, long_wrong, ended_named, long_named}
use Rattle.stream_text.proofs.LongTexts.{too_long}
use Rattle.stream_text.proofs.PackedLines.{is_lawful, lines_pack, packed_part, packed_before, some_bytes}

-- ---- before the first line

pub packed_fresh : (file : List ℕ) → IsPackedTo 0 0 None [] [] file
packed_fresh file = record { lines = []; runs = tt; text = refl; within = omega arith; count = refl; due_is = refl; bytes = refl; some = inl refl }

-- ---- where the lines stand

module _ (at number : ℕ) (due : Option ℕ) (pending written file : List ℕ) (s : IsPackedTo at number due pending written file) where
  text_place : length (text_of_lines s.lines) ≡ at
  text_place = ap length (sym s.text) ∙ length-take-le at file s.within

  in_two : file ≡ text_of_lines s.lines ++ drop at file
  in_two = sym (take-append-drop at file) ∙ ap (λ (l : List ℕ). l ++ drop at file) s.text

  cut_at : (rest : List ℕ) → drop at file ≡ rest → lines_of file ≡ map line_text s.lines ++ lines_of rest
  cut_at rest is = ap lines_of (in_two ∙ ap (λ (l : List ℕ). text_of_lines s.lines ++ l) is) ∙ lines_cut None s.lines rest s.runs

  held_first : (held : List ℕ) → IsHeld at held file → drop at file ≡ held ++ drop (length held) (drop at file)
  held_first held h = sym (take-append-drop (length held) (drop at file)) ∙ ap (λ (l : List ℕ). l ++ drop (length held) (drop at file)) h.here

  line_first : (held : List ℕ) (len : ℕ) → IsHeld at held file → IsLineIn held len
      → drop at file ≡ take (len - 1) held ++ 0x0a ∷ (drop len held ++ drop (length held) (drop at file))
  line_first held len h l =
      let rest : List ℕ = drop (length held) (drop at file) in
      let text : List ℕ = take (len - 1) held in
      held_first held h
      ∙ ap (λ (x : List ℕ). x ++ rest) (sym (take-append-drop len held) ∙ ap (λ (x : List ℕ). x ++ drop len held) l.line)
      ∙ append_assoc (text ++ 0x0a ∷ []) (drop len held) rest ∙ append_assoc text (0x0a ∷ []) (drop len held ++ rest)

  -- ---- one line more

  pub packed_next : (held : List ℕ) (len : ℕ) (line : Line) (kept sent : List ℕ) → IsHeld at held file → IsLineIn held len → IsDueLine due line → line_text line ≡ take (len - 1) held ++ 0x0a ∷ []
      → sent ++ kept ≡ written ++ pending → IsPackedTo (at + len) (number + 1) (due_after_line line) (kept ++ line_bytes line) sent file
  packed_next held len line kept sent h l is says same =
      let lines : List Line = s.lines ++ line ∷ [] in
      let due_line : IsDueLine (due_after None s.lines) line = subst (λ (d : Option ℕ). IsDueLine d line) s.due_is is in
      let here : take len (drop at file) ≡ take len held = sym (take-take len (length held) (drop at file) l.within) ∙ ap (take len) h.here in
      record {
        lines = lines;
        runs = runs_join None s.lines (line ∷ []) s.runs (due_line, tt);
        text = take-add at len file ∙ ap₂ (λ (a b : List ℕ). a ++ b) s.text (here ∙ l.line ∙ sym says ∙ sym (append-nil (line_text line))) ∙ sym (flat_map-append line_text s.lines (line ∷ []));
        within = omega (arith, h.within, l.within);
        count = omega (arith, s.count, length-append s.lines (line ∷ []));
        due_is = sym (due_join None s.lines (line ∷ []));
        bytes = sym (append_assoc sent kept (line_bytes line)) ∙ ap₂ (λ (a b : List ℕ). a ++ b) (same ∙ s.bytes) (sym (append-nil (line_bytes line))) ∙ sym (flat_map-append line_bytes s.lines (line ∷ []));
        some = inr (λ none. absurd (omega (arith, some_bytes line, ap length none, length-append kept (line_bytes line))));
      }

  -- ---- a line is named

  pub named_here : IsBadLine file (length s.lines) → IsNamed file (length s.lines) → (v : Verdict) → v ≡ record { file = 1; command = number + 1; offset = at; refusal = meant.BadText }
      → IsPackDue file (RefusedAt v) × PackSays file (RefusedAt v) (written ++ pending)
  named_here bad named v is =
      let place : at ≡ place_of_line (length s.lines) file = sym text_place ∙ sym (first_place file s.lines (lines_of (drop at file)) (cut_at (drop at file) refl)) in
      let verdict : v ≡ bad_text (length s.lines) file = is ∙ (λ i. record { file = 1; command = s.count i + 1; offset = place i; refusal = meant.BadText }) in
      let all : Packs (first_lines (length s.lines) file) (written ++ pending) =
      subst (λ (l : List ℕ). Packs (first_lines (length s.lines) file) l) (sym s.bytes) (lines_pack file s.lines (lines_of (drop at file)) s.runs (cut_at (drop at file) refl)) in
      ((length s.lines, bad, named, verdict), (length s.lines, verdict, all))

  wrong_due : (text : List ℕ) → IsWrong due text → IsWrong (due_after None s.lines) text
  wrong_due text wrong line is says = wrong line (subst (λ (d : Option ℕ). IsDueLine d line) (sym s.due_is) is) says

  pub wrong_here : (held : List ℕ) (len : ℕ) → IsHeld at held file → IsLineIn held len → at + length held ≤ limit → IsWrong due (take (len - 1) held ++ 0x0a ∷ [])
      → IsBadLine file (length s.lines) × IsNamed file (length s.lines)
  wrong_here held len h l within wrong =
      let text : List ℕ = take (len - 1) held in
      let rest : List ℕ = drop len held ++ drop (length held) (drop at file) in
      let cut : lines_of file ≡ map line_text s.lines ++ (text ++ 0x0a ∷ []) ∷ lines_of rest =
      cut_at (text ++ 0x0a ∷ rest) (line_first held len h l) ∙ ap (λ (x : List (List ℕ)). map line_text s.lines ++ x) (cut_here text rest l.text) in
      let short : length (text ++ 0x0a ∷ []) ≡ len = sym (ap length l.line) ∙ length-take-le len held l.within in (
        wrong_line file (text ++ 0x0a ∷ []) s.lines (lines_of rest) s.runs cut (wrong_due (text ++ 0x0a ∷ []) wrong),
        ended_named file text s.lines (lines_of rest) cut (omega (arith, text_place, short, l.within, within)),
      )

  pub long_here : (held : List ℕ) → IsHeld at held file → HasNoLine held → longest_line < length held → at + length held ≤ limit → IsBadLine file (length s.lines) × IsNamed file (length s.lines)
  long_here [] h none long within = absurd (omega (arith, long))
  long_here (b ∷ body) h none long within =
      let rest : List ℕ = drop (length (b ∷ body)) (drop at file) in
      let first : HasFirst (b ∷ (body ++ rest)) (length (b ∷ body)) = long_cut b body rest none in
      let cut : lines_of file ≡ map line_text s.lines ++ first.line ∷ first.more =
      cut_at (b ∷ (body ++ rest)) (held_first (b ∷ body) h) ∙ ap (λ (x : List (List ℕ)). map line_text s.lines ++ x) first.cut in
      let more : longest_line < length first.line = omega (arith, long, first.long) in (
        wrong_line file first.line s.lines first.more s.runs cut (long_wrong (due_after None s.lines) first.line more),
        long_named file first.line s.lines first.more cut more (omega (arith, text_place, long, within)),
      )

  pub unended_here : (held : List ℕ) → IsHeld at held file → HasNoLine held → held ≢ [] → length file ≡ at + length held → at + length held < limit
      → IsBadLine file (length s.lines) × IsNamed file (length s.lines)
  unended_here [] h none some ends within = absurd (some refl)
  unended_here (b ∷ body) h none some ends within =
      let held : List ℕ = b ∷ body in
      let last : drop (length held) (drop at file) ≡ [] = drop_all (length held) (drop at file) (omega (arith, length-drop at file, ends)) in
      let cut : lines_of file ≡ map line_text s.lines ++ held ∷ [] =
      cut_at held (held_first held h ∙ ap (λ (l : List ℕ). held ++ l) last ∙ append-nil held) ∙ ap (λ (x : List (List ℕ)). map line_text s.lines ++ x) (last_cut b body none) in (
        wrong_line file held s.lines [] s.runs cut (unended_wrong (due_after None s.lines) held none),
        inl (omega (arith, ends, within)),
      )

  -- ---- the end of the file

  whole_lines : length file ≡ at → lines_of file ≡ map line_text s.lines
  unfolding lines_of
  whole_lines ends = cut_at [] (drop_all at file (omega (arith, ends))) ∙ append-nil (map line_text s.lines)

  some_count : s.lines ≢ [] → 0 < number
  some_count some = one s.lines s.count some
    where
      one : (lines : List Line) → number ≡ length lines → lines ≢ [] → 0 < number
      one [] count some = absurd (some refl)
      one (x ∷ xs) count some = omega (arith, count)

  pub missing_here : length file ≡ at → at < limit → (due ≡ None → 0 < number → ⊥) → IsBadLine file (length s.lines) × IsNamed file (length s.lines)
  missing_here ends within never = (
    missing_line file s.lines s.runs (whole_lines ends) (λ none some. never (s.due_is ∙ none) (some_count some)),
    inl (omega (arith, ends, within)),
  )

  pub done_here : length file ≡ at → at < limit → due ≡ None → 0 < number → IsPackDue file DoneWhole × PackSays file DoneWhole (written ++ pending)
  done_here ends within none some =
      let are : file ≡ text_of_lines s.lines = sym (take_all at file (omega (arith, ends))) ∙ s.text in
      let t = is_lawful file s.lines s.runs are (sym s.due_is ∙ none) (λ empty. absurd (omega (arith, some, s.count, ap length empty))) in
      (((omega (arith, ends, within)), t.0), (t.0, s.bytes ∙ t.1))

  -- ---- something else ends the call

  pub part_here : (kept sent : List ℕ) → sent ++ kept ≡ written ++ pending → (s.lines ≡ []) ⊎ (kept ≢ []) → IsPackedPart file sent
  part_here kept sent same left = packed_part file s.lines (lines_of (drop at file)) sent kept s.runs (cut_at (drop at file) refl) (same ∙ s.bytes) left

  pub stopped_here : IsPackedPart file written
  stopped_here = part_here pending written refl s.some

  -- A line stands there that was not taken yet.
  pub line_ahead : (held : List ℕ) (len : ℕ) → IsHeld at held file → IsLineIn held len → (kept sent : List ℕ) → sent ++ kept ≡ written ++ pending → IsPackedPart file sent
  line_ahead held len h l kept sent same =
      let text : List ℕ = take (len - 1) held in
      let rest : List ℕ = drop len held ++ drop (length held) (drop at file) in
      packed_before file s.lines (lines_of (text ++ 0x0a ∷ rest)) sent kept s.runs (cut_at (text ++ 0x0a ∷ rest) (line_first held len h l)) (same ∙ s.bytes)
      (text ++ 0x0a ∷ []) (lines_of rest) (cut_here text rest l.text)

  -- So many of the last bytes were written, and not all.
  pub broken_here : (count : ℕ) → count < length pending → IsPackedPart file (written ++ take count pending)
  broken_here count less =
      part_here (drop count pending) (written ++ take count pending)
      (append_assoc written (take count pending) (drop count pending) ∙ ap (λ (l : List ℕ). written ++ l) (take-append-drop count pending))
      (inr (λ none. absurd (omega (arith, less, length-drop count pending, ap length none))))

  pub long_file : (held : List ℕ) → IsHeld at held file → HasNoLine held → length held ≤ longest_line → at + length held ≡ limit → IsTooLongText file
  long_file held h none short full =
      too_long file s.lines held (drop (length held) (drop at file)) s.runs (in_two ∙ ap (λ (l : List ℕ). text_of_lines s.lines ++ l) (held_first held h)) none short (omega (arith, text_place, full))

-- ---- the same in other words

pub as_packed : (at place number count : ℕ) (due other : Option ℕ) (pending kept written file : List ℕ) → place ≡ at → count ≡ number → other ≡ due → kept ≡ pending
    → IsPackedTo at number due pending written file → IsPackedTo place count other kept written file
as_packed at place number count due other pending kept written file a n d p s =
    subst (λ (k : ℕ). IsPackedTo k count other kept written file) (sym a)
    (subst (λ (k : ℕ). IsPackedTo at k other kept written file) (sym n)
    (subst (λ (o : Option ℕ). IsPackedTo at number o kept written file) (sym d)
    (subst (λ (l : List ℕ). IsPackedTo at number due l written file) (sym p) s)))
