-- The steps of packing, and what they say together.
use Rattle.std.specs.Prelude.{◌≡◌, ℕ, ◌+◌, ◌-◌, ◌<◌, true, false, List, [], ◌∷◌, ◌++◌, length, take, drop, Option, None, Some, Result, Ok, Err, OnOk}
use Rattle.std.specs.Io.KnownBytes.{Appends}
use Rattle.std.specs.String.{string_bytes}
use Rattle.std.proofs.Common.{inl, inr, refl, sym, ap, subst, ◌∙◌, arith, append_assoc, append-nil, take-append-drop}
use Rattle.std.proofs.KnownBytes.{Appends-nil, Appends-trans}
use Rattle.std.proofs.lemmas.List.{length-drop}
use Rattle.send_model.specs.Lengths.{limit}
use Rattle.send_model.specs.Words.{first_file}
use Rattle.sx_base.specs.Calls.{Caused, IfAllTold, IsStop, SteadyIfDone, Wrote}
use Rattle.sx_base.specs.Causes.{Rose}
use Rattle.sx_base.specs.Outside.{file_at, AppendsPart}
use Rattle.sx_base.specs.declared.outcome.Outcome.{Outcome}
use Rattle.sx_base.specs.declared.outcome.Outcome.TheVariants as ended
use Rattle.stream_dump.specs.Steps.{Output}
use Rattle.text_model.specs.Texts.{line_bytes}
use Rattle.text_model.specs.LineOrder.{due_after_line}
use Rattle.text_model.specs.Packing.{IsBadLine, IsNamed, IsPackedPart}
use Rattle.stream_text.specs.declared.line_reader.Front.{Front}
use Rattle.stream_text.specs.declared.line_reader.Front.TheVariants as front
use Rattle.stream_text.specs.declared.line_reader.LineFault.{LineFault}
use Rattle.stream_text.specs.declared.line_reader.LineFault.TheVariants as fault
use Rattle.stream_text.specs.declared.line_reader.LineReader.{LineReader}
use Rattle.stream_text.specs.declared.packing.Step.{Step}
use Rattle.stream_text.specs.declared.packing.Step.TheVariants as step
use Rattle.stream_text.specs.declared.text_line.Packed.{Packed}
use Rattle.stream_text.specs.Lines.{HasNoLine, IsHeld, IsLineIn, IfFile}
use Rattle.stream_text.specs.LineTaking.{TakesLine}
use Rattle.stream_text.specs.Reading.{held, fed, IsReader, LookSays}
use Rattle.stream_text.specs.Packed.{PackEnds}
use Rattle.stream_text.specs.Taking.{FrontFits, FrontThere, outcome_of, bad_line, Finishes, SendsSome, IsFurther, ArePacked, IsEnd, StepAnswers, StepSays}
use Rattle.stream_text.proofs.PackSteps.{packed_fresh, packed_next, named_here, wrong_here, long_here, unended_here, missing_here, done_here, part_here, stopped_here, line_ahead, broken_here, long_file, as_packed}
use Rattle.stream_text.proofs.ReadLines.{fed_is, held_passed}

-- ---- a line is named

-- Some of what was kept was written before, and the rest is written now.
pub refused_after : (r : LineReader) (packed : Packed) (written file : List ℕ) (s : ArePacked r packed written file) → IsBadLine file (length s.lines) → IsNamed file (length s.lines)
    → (sent kept : List ℕ) → sent ++ kept ≡ packed.bytes → (first : Option (List ℕ)) (before now : Output) (result : Outcome) → Appends first before.taken sent
    → Finishes kept (bad_line r) before now result → Wrote first now.taken (λ more. PackEnds file result (written ++ more))
refused_after r packed written file s bad named sent kept same first before now result went (inl (is, appends)) =
    subst (λ (o : Outcome). Wrote first now.taken (λ more. PackEnds file o (written ++ more))) (sym is) (
      sent ++ kept,
      Appends-trans first before.taken now.taken sent kept went appends,
      subst (λ (l : List ℕ). PackEnds file (bad_line r) (written ++ l)) (sym same) (named_here r.at r.number packed.due packed.bytes written file s bad named _ refl),
    )
refused_after r packed written file s bad named sent kept same first before now result went (inr (is, rose, (count, less, appends))) =
    let first_part : List ℕ = sent ++ take count kept in
    let all : (written ++ first_part) ++ drop count kept ≡ written ++ packed.bytes =
    append_assoc written first_part (drop count kept)
    ∙ ap (λ (l : List ℕ). written ++ l) (append_assoc sent (take count kept) (drop count kept) ∙ ap (λ (l : List ℕ). sent ++ l) (take-append-drop count kept) ∙ same) in
    subst (λ (o : Outcome). Wrote first now.taken (λ more. PackEnds file o (written ++ more))) (sym is) (
      first_part,
      Appends-trans first before.taken now.taken sent (take count kept) went appends,
      part_here r.at r.number packed.due packed.bytes written file s (drop count kept) (written ++ first_part) all
          (inr (λ none. absurd (omega (arith, less, length-drop count kept, ap length none)))),
    )

pub refused_says : (r : LineReader) (packed : Packed) (written file : List ℕ) (s : ArePacked r packed written file) → IsBadLine file (length s.lines) × IsNamed file (length s.lines)
    → (before now : Output) (result : Outcome) → Finishes packed.bytes (bad_line r) before now result → Wrote before.taken now.taken (λ more. PackEnds file result (written ++ more))
refused_says r packed written file s both before now result ends =
    refused_after r packed written file s both.0 both.1 [] packed.bytes refl before.taken before now result (Appends-nil before.taken) ends

-- ---- the end of the file

end_by_held : (r : LineReader) (packed : Packed) (written file : List ℕ) (s : ArePacked r packed written file) (bytes : List ℕ) → held r ≡ bytes → IsHeld r.at bytes file → HasNoLine bytes
    → r.at + length bytes < limit → length file ≡ r.at + length bytes → ((held r ≡ []) × (0 < r.number) × (packed.due ≡ None) → ⊥) → IsBadLine file (length s.lines) × IsNamed file (length s.lines)
end_by_held r packed written file s [] is h none early ends not_whole =
    missing_here r.at r.number packed.due packed.bytes written file s (omega (arith, ends)) (omega (arith, early)) (λ due some. not_whole (is, some, due))
end_by_held r packed written file s (b ∷ bytes) is h none early ends not_whole =
    unended_here r.at r.number packed.due packed.bytes written file s (b ∷ bytes) h none (λ empty. absurd (let e : b ∷ bytes ≡ [] = empty in cc)) ends early

pub end_named : (r : LineReader) (packed : Packed) (written file : List ℕ) (s : ArePacked r packed written file) → IsReader r → IsHeld r.at (held r) file → HasNoLine (held r) → fed r < limit → length file ≡ fed r
    → ((held r ≡ []) × (0 < r.number) × (packed.due ≡ None) → ⊥) → IsBadLine file (length s.lines) × IsNamed file (length s.lines)
end_named r packed written file s is h none early ends not_whole =
    end_by_held r packed written file s (held r) refl h none (omega (arith, early, fed_is r is)) (omega (arith, ends, fed_is r is)) not_whole

pub end_whole : (r : LineReader) (packed : Packed) (written file : List ℕ) (taken : Option (List ℕ)) → ArePacked r packed written file → IsReader r → fed r < limit → length file ≡ fed r
    → (held r ≡ []) × (0 < r.number) × (packed.due ≡ None) → Wrote taken taken (λ more. StepAnswers r packed file (written ++ more) (Ok step.End))
end_whole r packed written file taken s is early ends all = (
  [],
  Appends-nil taken,
  (
    record { ends = omega (arith, ends, fed_is r is, ap length all.0); early = omega (arith, early, fed_is r is, ap length all.0); none = all.2; some = all.1 },
    subst (λ (l : List ℕ). ArePacked r packed l file) (sym (append-nil written)) s,
  ),
)

-- ---- a line that is too long

pub long_named_here : (r : LineReader) (packed : Packed) (written file : List ℕ) (s : ArePacked r packed written file) → IsReader r → IsHeld r.at (held r) file → HasNoLine (held r) → length (held r) ≡ 2_097_153
    → IsBadLine file (length s.lines) × IsNamed file (length s.lines)
long_named_here r packed written file s is h none long =
    long_here r.at r.number packed.due packed.bytes written file s (held r) h none (omega (arith, long)) (omega (arith, is.within, fed_is r is))

-- ---- a line

-- What was kept could not be written.
pub line_breaks : (r : LineReader) (packed : Packed) (written file : List ℕ) (before now : Option (List ℕ)) → ArePacked r packed written file → AppendsPart before now packed.bytes
    → Wrote before now (λ more. PackEnds file ended.OutputFault (written ++ more))
line_breaks r packed written file before now s (count, less, appends) = (take count packed.bytes, appends, broken_here r.at r.number packed.due packed.bytes written file s count less)

-- There is no memory for the line.
pub line_stops : (r : LineReader) (packed : Packed) (written file : List ℕ) (len : ℕ) (kept : List ℕ) (before now : Option (List ℕ)) → ArePacked r packed written file → IsHeld r.at (held r) file → IsLineIn (held r) len
    → SendsSome packed.bytes kept before now (Ok tt) → Wrote before now (λ more. PackEnds file ended.NoMemory (written ++ more))
line_stops r packed written file len kept before now s h line (sent, appends, same) =
    (sent, appends, line_ahead r.at r.number packed.due packed.bytes written file s (held r) len h line kept (written ++ sent) (append_assoc written sent kept ∙ ap (λ (l : List ℕ). written ++ l) same))

-- It may not stand here.
pub line_wrong : (r : LineReader) (packed : Packed) (written file : List ℕ) (len : ℕ) (kept new : List ℕ) (due : Option ℕ) (first : Option (List ℕ)) (before now : Output) (result : Outcome) → ArePacked r packed written file → IsReader r
    → IsHeld r.at (held r) file → IsLineIn (held r) len → SendsSome packed.bytes kept first before.taken (Ok tt) → TakesLine packed.due (take (len - 1) (held r)) kept new due false
    → Finishes new (bad_line r) before now result → Wrote first now.taken (λ more. PackEnds file result (written ++ more))
line_wrong r packed written file len kept new due first before now result s is h line (sent, appends, same) none ends =
    let both = wrong_here r.at r.number packed.due packed.bytes written file s (held r) len h line (omega (arith, is.within, fed_is r is)) none.0 in
    refused_after r packed written file s both.0 both.1 sent new (ap (λ (l : List ℕ). sent ++ l) none.1 ∙ same) first before now result appends ends

-- It may, and is passed.
pub line_right : (old new : LineReader) (packed next : Packed) (written file : List ℕ) (len : ℕ) (kept : List ℕ) (before now : Option (List ℕ)) → ArePacked old packed written file
    → IsHeld old.at (held old) file → IsLineIn (held old) len → SendsSome packed.bytes kept before now (Ok tt) → TakesLine packed.due (take (len - 1) (held old)) kept next.bytes next.due true
    → new.at ≡ old.at + len → new.number ≡ old.number + 1 → held new ≡ drop len (held old) → Wrote before now (λ more. StepAnswers new next file (written ++ more) (Ok step.Line))
line_right old new packed next written file len kept before now s h line (sent, appends, same) (l, due, says, added, then) place number left = (
  sent,
  appends,
  (
    subst (λ (k : ℕ). IsHeld k (held new) file) (sym place) (subst (λ (b : List ℕ). IsHeld (old.at + len) b file) (sym left) (held_passed old.at len (held old) file line.within h)),
    as_packed (old.at + len) new.at (old.number + 1) new.number (due_after_line l) next.due (kept ++ line_bytes l) next.bytes (written ++ sent) file place number then added
        (packed_next old.at old.number packed.due packed.bytes written file s (held old) len l kept (written ++ sent) h line due says (append_assoc written sent kept ∙ ap (λ (b : List ℕ). written ++ b) same)),
  ),
)

-- ---- the next line of the file

pub look_fits : (told : Option (List (List ℕ × List ℕ))) (r : LineReader) (before now : ℕ) (f : Front) → LookSays told r before now (Ok f) → FrontFits f (held r)
look_fits told r before now (front.Line len) says = says
look_fits told r before now front.Long says = says
look_fits told r before now front.End says = says.0

abbrev table : Type 0
table = Option (List (List ℕ × List ℕ))

always : (told : table) (name : List ℕ) (P : List ℕ → Type 0) → ((file : List ℕ) → P file) → IfFile told name P
always None name P each = tt
always (Some files) name P each = each (file_at files name)

pub file_map : (told : table) (name : List ℕ) (P Q : List ℕ → Type 0) → ((file : List ℕ) → P file → Q file) → IfFile told name P → IfFile told name Q
file_map None name P Q f p = tt
file_map (Some files) name P Q f p = f (file_at files name) p

pub file_both : (told : table) (name : List ℕ) (P Q R : List ℕ → Type 0) → ((file : List ℕ) → P file → Q file → R file) → IfFile told name P → IfFile told name Q → IfFile told name R
file_both None name P Q R f p q = tt
file_both (Some files) name P Q R f p q = f (file_at files name) p q

look_there : (told : table) (r : LineReader) (before now : ℕ) (f : Front) → LookSays told r before now (Ok f) → IfFile told (string_bytes r.name) (FrontThere f (fed r))
look_there told r before now (front.Line len) says = always told (string_bytes r.name) (FrontThere (front.Line len) (fed r)) (λ file. tt)
look_there told r before now front.Long says = always told (string_bytes r.name) (FrontThere front.Long (fed r)) (λ file. tt)
look_there told r before now front.End says = file_map told (string_bytes r.name) (λ file. length file ≡ fed r) (FrontThere front.End (fed r)) (λ file ends. (says.1.0, ends)) says.1.1

-- The lines are packed whatever more of the file was read.
pub same_packed : (old mid : LineReader) (packed : Packed) (written file : List ℕ) → mid.at ≡ old.at → mid.number ≡ old.number → ArePacked old packed written file → ArePacked mid packed written file
same_packed old mid packed written file at number s =
    as_packed old.at mid.at old.number mid.number packed.due packed.due packed.bytes packed.bytes written file at number refl refl s

pub front_says : (told : table) (name : List ℕ) (old mid new : LineReader) (packed next : Packed) (early late : ℕ) (f : Front) (before now : Option (List ℕ)) (result : Result Step Outcome)
    → string_bytes mid.name ≡ name → mid.at ≡ old.at → mid.number ≡ old.number → LookSays told mid early late (Ok f) → IfFile told name (IsHeld old.at (held mid))
    → ((file : List ℕ) → IsHeld mid.at (held mid) file → FrontThere f (fed mid) file → StepSays mid packed new next before now result file) → IfFile told name (StepSays old packed new next before now result)
front_says told name old mid new packed next early late f before now result named at number says ahead steps =
    file_both told name (IsHeld old.at (held mid)) (FrontThere f (fed mid)) (StepSays old packed new next before now result)
    (λ file h there written s. steps file (subst (λ (k : ℕ). IsHeld k (held mid) file) (sym at) h) there written (same_packed old mid packed written file at number s)) ahead
    (subst (λ (n : List ℕ). IfFile told n (FrontThere f (fed mid))) named (look_there told mid early late f says))

-- No more of the file can be read.
fault_step : (told : table) (old mid : LineReader) (packed : Packed) (early late : ℕ) (why : LineFault) (taken : Option (List ℕ)) (file : List ℕ) → IsReader mid → mid.at ≡ old.at → mid.number ≡ old.number
    → LookSays told mid early late (Err why) → IsHeld old.at (held mid) file → StepSays old packed mid packed taken taken (Err (outcome_of why)) file
fault_step told old mid packed early late fault.InputFault taken file is at number says h written s =
    ([], Appends-nil taken, subst (λ (l : List ℕ). IsPackedPart file l) (sym (append-nil written)) (stopped_here old.at old.number packed.due packed.bytes written file s))
fault_step told old mid packed early late fault.InputTooLong taken file is at number says h written s = (
  [],
  Appends-nil taken,
  (
    (refl, long_file old.at old.number packed.due packed.bytes written file s (held mid) h says.0 (omega (arith, says.1)) (omega (arith, says.2, fed_is mid is, at))),
    subst (λ (l : List ℕ). IsPackedPart file l) (sym (append-nil written)) (stopped_here old.at old.number packed.due packed.bytes written file s),
  ),
)

pub fault_says : (told : table) (name : List ℕ) (old mid : LineReader) (packed : Packed) (early late : ℕ) (why : LineFault) (outcome : Outcome) (taken : Option (List ℕ)) → outcome ≡ outcome_of why → IsReader mid → mid.at ≡ old.at → mid.number ≡ old.number
    → LookSays told mid early late (Err why) → IfFile told name (IsHeld old.at (held mid)) → IfFile told name (StepSays old packed mid packed taken taken (Err outcome))
fault_says told name old mid packed early late why outcome taken ends is at number says ahead =
    subst (λ (o : Outcome). IfFile told name (StepSays old packed mid packed taken taken (Err o))) (sym ends)
    (file_map told name (IsHeld old.at (held mid)) (StepSays old packed mid packed taken taken (Err (outcome_of why)))
    (λ file h. fault_step told old mid packed early late why taken file is at number says h) ahead)

-- ---- the other clauses

pub on_ok_always : (result : Result Step Outcome) (P : Type 0) → P → OnOk result P
on_ok_always (Ok x) P p = p
on_ok_always (Err e) P p = tt

pub end_stops : (why : LineFault) (outcome : Outcome) → outcome ≡ outcome_of why → IsStop outcome
end_stops fault.InputFault outcome is = subst (λ (o : Outcome). IsStop o) (sym is) tt
end_stops fault.InputTooLong outcome is = subst (λ (o : Outcome). IsStop o) (sym is) tt

pub end_caused : (told : table) (r : LineReader) (why : LineFault) (outcome : Outcome) (before now early late : ℕ) → outcome ≡ outcome_of why → LookSays told r before now (Err why) → Caused before now early late outcome
end_caused told r fault.InputFault outcome before now early late is says = subst (λ (o : Outcome). Caused before now early late o) (sym is) says
end_caused told r fault.InputTooLong outcome before now early late is says = subst (λ (o : Outcome). Caused before now early late o) (sym is) tt

pub further_from : (old mid new : LineReader) (result : Result Step Outcome) → mid.at ≡ old.at → IsFurther mid new result → IsFurther old new result
further_from old mid new (Ok step.Line) at further = omega (arith, at, further)
further_from old mid new (Ok step.End) at further = tt
further_from old mid new (Err outcome) at further = tt

pub finish_stops : (bytes : List ℕ) (r : LineReader) (before now : Output) (result : Outcome) → Finishes bytes (bad_line r) before now result → IsStop result
finish_stops bytes r before now result (inl (is, appends)) = subst (λ (o : Outcome). IsStop o) (sym is) tt
finish_stops bytes r before now result (inr (is, rose, part)) = subst (λ (o : Outcome). IsStop o) (sym is) tt

pub refused_caused : (bytes : List ℕ) (r : LineReader) (early late : ℕ) (before now : Output) (result : Outcome) → Finishes bytes (bad_line r) before now result → Caused early late before.faults now.faults result
refused_caused bytes r early late before now result (inl (is, appends)) = subst (λ (o : Outcome). Caused early late before.faults now.faults o) (sym is) tt
refused_caused bytes r early late before now result (inr (is, rose, part)) = subst (λ (o : Outcome). Caused early late before.faults now.faults o) (sym is) rose

-- ---- the whole call

-- How far the file was packed.
abbrev pub PackedSoFar : LineReader → Packed → (before now : Option (List ℕ)) → (file : List ℕ) → Type 0
PackedSoFar r packed before now file = IsHeld r.at (held r) file × Wrote before now (λ written. ArePacked r packed written file)

fresh_step : (r : LineReader) (packed : Packed) (taken : Option (List ℕ)) (file : List ℕ) → r.at ≡ 0 → r.number ≡ 0 → held r ≡ [] → packed.bytes ≡ [] → packed.due ≡ None → PackedSoFar r packed taken taken file
fresh_step r packed taken file at number none empty due = (
  subst (λ (l : List ℕ). IsHeld r.at l file) (sym none) (subst (λ (k : ℕ). IsHeld k [] file) (sym at) (record { within = omega arith; here = refl })),
  ([], Appends-nil taken, as_packed 0 r.at 0 r.number None packed.due [] packed.bytes [] file at number due empty (packed_fresh file)),
)

pub fresh_says : (told : table) (name : List ℕ) (r : LineReader) (packed : Packed) (taken : Option (List ℕ)) → r.at ≡ 0 → r.number ≡ 0 → held r ≡ [] → packed.bytes ≡ [] → packed.due ≡ None → IfFile told name (PackedSoFar r packed taken taken)
fresh_says told name r packed taken at number none empty due = always told name (PackedSoFar r packed taken taken) (λ file. fresh_step r packed taken file at number none empty due)

pub goes_on : (told : table) (name : List ℕ) (old new : LineReader) (packed next : Packed) (first before now : Option (List ℕ)) → IfFile told name (PackedSoFar old packed first before)
    → IfFile told name (StepSays old packed new next before now (Ok step.Line)) → IfFile told name (PackedSoFar new next first now)
goes_on told name old new packed next first before now so_far says =
    file_both told name (PackedSoFar old packed first before) (StepSays old packed new next before now (Ok step.Line)) (PackedSoFar new next first now)
    (λ file p steps.
    let w = p.1 in
    let more = steps w.0 w.2 in
    (more.2.0, (w.0 ++ more.0, Appends-trans first before now w.0 more.0 w.1 more.1, more.2.1))) so_far says

to_all : (told : table) (name : List ℕ) (P : List ℕ → Type 0) → IfFile told name P → IfAllTold told (name ∷ []) (λ files. P (first_file files))
to_all None name P p = tt
to_all (Some files) name P p = p

pub stops_with : (told : table) (name : List ℕ) (old new : LineReader) (packed next : Packed) (first before now : Option (List ℕ)) (outcome : Outcome) → IfFile told name (PackedSoFar old packed first before)
    → IfFile told name (StepSays old packed new next before now (Err outcome)) → IfAllTold told (name ∷ []) (λ files. Wrote first now (PackEnds (first_file files) outcome))
stops_with told name old new packed next first before now outcome so_far says =
    to_all told name (λ file. Wrote first now (PackEnds file outcome))
    (file_both told name (PackedSoFar old packed first before) (StepSays old packed new next before now (Err outcome)) (λ file. Wrote first now (PackEnds file outcome))
    (λ file p steps.
    let w = p.1 in
    let more = steps w.0 w.2 in
    (w.0 ++ more.0, Appends-trans first before now w.0 more.0 w.1 more.1, more.2)) so_far says)

done_step : (r : LineReader) (packed : Packed) (written file : List ℕ) (first : Option (List ℕ)) (before now : Output) (result : Outcome) → Appends first before.taken written → IsEnd r packed file → ArePacked r packed written file
    → Finishes packed.bytes ended.Done before now result → Wrote first now.taken (PackEnds file result)
done_step r packed written file first before now result went end s (inl (is, appends)) =
    subst (λ (o : Outcome). Wrote first now.taken (PackEnds file o)) (sym is) (
      written ++ packed.bytes,
      Appends-trans first before.taken now.taken written packed.bytes went appends,
      done_here r.at r.number packed.due packed.bytes written file s end.ends end.early end.none end.some,
    )
done_step r packed written file first before now result went end s (inr (is, rose, (count, less, appends))) =
    subst (λ (o : Outcome). Wrote first now.taken (PackEnds file o)) (sym is) (
      written ++ take count packed.bytes,
      Appends-trans first before.taken now.taken written (take count packed.bytes) went appends,
      broken_here r.at r.number packed.due packed.bytes written file s count less,
    )

pub ends_done : (told : table) (name : List ℕ) (old new : LineReader) (packed next : Packed) (first second : Option (List ℕ)) (before now : Output) (result : Outcome) → IfFile told name (PackedSoFar old packed first second)
    → IfFile told name (StepSays old packed new next second before.taken (Ok step.End)) → Finishes next.bytes ended.Done before now result → IfAllTold told (name ∷ []) (λ files. Wrote first now.taken (PackEnds (first_file files) result))
ends_done told name old new packed next first second before now result so_far says ends =
    to_all told name (λ file. Wrote first now.taken (PackEnds file result))
    (file_both told name (PackedSoFar old packed first second) (StepSays old packed new next second before.taken (Ok step.End)) (λ file. Wrote first now.taken (PackEnds file result))
    (λ file p steps.
    let w = p.1 in
    let more = steps w.0 w.2 in
    done_step new next (w.0 ++ more.0) file first before now result (Appends-trans first second before.taken w.0 more.0 w.1 more.1) more.2.0 more.2.1 ends) so_far says)

-- There is no memory for a reader.
pub unopened : (told : table) (name : List ℕ) (taken : Option (List ℕ)) → IfAllTold told (name ∷ []) (λ files. Wrote taken taken (PackEnds (first_file files) ended.NoMemory))
unopened told name taken =
    to_all told name (λ file. Wrote taken taken (PackEnds file ended.NoMemory))
    (always told name (λ file. Wrote taken taken (PackEnds file ended.NoMemory)) (λ file. ([], Appends-nil taken, stopped_here 0 0 None [] [] file (packed_fresh file))))

-- ---- in other words

pub file_moved : (told now : table) (name other : List ℕ) (P : List ℕ → Type 0) → told ≡ now → name ≡ other → IfFile told name P → IfFile now other P
file_moved told now name other P t n p =
    subst (λ (o : table). IfFile o other P) t (subst (λ (l : List ℕ). IfFile told l P) n p)

pub caused_from : (before first now out_before out_first out_now : ℕ) (outcome : Outcome) → before ≡ first → out_before ≡ out_first → Caused before now out_before out_now outcome → Caused first now out_first out_now outcome
caused_from before first now out_before out_first out_now outcome a b caused =
    subst (λ (n : ℕ). Caused n now out_first out_now outcome) a (subst (λ (n : ℕ). Caused before now n out_now outcome) b caused)

pub steady_from : (before first now : ℕ) (outcome : Outcome) → before ≡ first → SteadyIfDone before now outcome → SteadyIfDone first now outcome
steady_from before first now outcome a steady = subst (λ (n : ℕ). SteadyIfDone n now outcome) a steady

pub finish_caused : (bytes : List ℕ) (early late first : ℕ) (before now : Output) (result : Outcome) → before.faults ≡ first → Finishes bytes ended.Done before now result → Caused early late first now.faults result
finish_caused bytes early late first before now result same (inl (is, appends)) = subst (λ (o : Outcome). Caused early late first now.faults o) (sym is) tt
finish_caused bytes early late first before now result same (inr (is, rose, part)) =
    subst (λ (o : Outcome). Caused early late first now.faults o) (sym is) (subst (λ (n : ℕ). Rose n now.faults) same rose)

pub step_at : (told : table) (name : List ℕ) (old new : LineReader) (packed next : Packed) (before now : Option (List ℕ)) (taken made : Step) → taken ≡ made
    → IfFile told name (StepSays old packed new next before now (Ok taken)) → IfFile told name (StepSays old packed new next before now (Ok made))
step_at told name old new packed next before now taken made is says = subst (λ (t : Step). IfFile told name (StepSays old packed new next before now (Ok t))) is says

pub line_further : (old new : LineReader) (taken : Step) → taken ≡ step.Line → IsFurther old new (Ok taken) → old.at < new.at
line_further old new taken is further = subst (λ (t : Step). IsFurther old new (Ok t)) is further

pub held_now : (told now : table) (name other : List ℕ) (r : LineReader) (packed : Packed) (before after : Option (List ℕ)) → told ≡ now → name ≡ other → IfFile told name (PackedSoFar r packed before after)
    → IfFile now other (IsHeld r.at (held r))
held_now told now name other r packed before after t n p =
    file_moved told now name other (IsHeld r.at (held r)) t n (file_map told name (PackedSoFar r packed before after) (IsHeld r.at (held r)) (λ file q. q.0) p)
