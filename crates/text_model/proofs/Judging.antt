-- A text is lawful or has one line that is named, and never both.
use Rattle.std.specs.Prelude.{◌≡◌, ◌⊎◌, ℕ, zero, suc, ◌+◌, ◌<◌, ◌≤◌, Bool, true, false, nat_lt, List, [], ◌∷◌, ◌++◌, map, length, take, drop, Option, None, Some, slice_get}
use Rattle.std.specs.List.{AllByRecursion}
use Rattle.std.proofs.Common.{⊎_elim, refl, sym, ap, ap₂, subst, ◌∙◌, arith, append-nil}
use Rattle.std.proofs.lemmas.Bool.{ltb-true, ltb-false}
use Rattle.std.proofs.lemmas.List.{take-map, take-take, take-append-drop}
use Rattle.send_model.specs.Command.{Command, End}
use Rattle.send_model.specs.Lengths.{limit}
use Rattle.send_model.specs.Counts.{is_end}
use Rattle.send_model.specs.Laws.{AreInner}
use Rattle.send_model.specs.Due.{DoneWhole, RefusedAt, TooLong, TooMuch}
use Rattle.text_model.specs.Texts.{Line, Says, Stream, IsStream, IsText, line_text, stream_lines, lines_of_streams, text_of_lines, text_of}
use Rattle.text_model.specs.Packing.{lines_of, BeginsText, first_lines, IsBadLine, bad_text, IsMet, IsTooLongText, longest_line}
use Rattle.text_model.specs.TextLaws.{TextHasOneReading, FrontHasOneReading, LawfulIsNotBad, OneLineIsBad, SomeLineIsBad, OneIsDue, LinesAreShort}
use Rattle.text_model.specs.LineOrder.{IsDueLine, Runs}
use Rattle.text_model.proofs.LineRuns.{runs_first, streams_run, begins, begun_runs, continues, Continues}
use Rattle.text_model.proofs.LineShapes.{lines_cut, line_len}

-- ---- first lines

taken_runs : (n : ℕ) (lines : List Line) → Runs None lines → Runs None (take n lines)
taken_runs n lines runs = runs_first None (take n lines) (drop n lines) (subst (λ (l : List Line). Runs None l) (sym (take-append-drop n lines)) runs)

begins_taken : (n : ℕ) (lines : List Line) → Runs None lines → BeginsText (take n (map line_text lines))
begins_taken n lines runs = subst (λ (l : List (List ℕ)). BeginsText l) (sym (take-map line_text n lines)) (begins (take n lines) (taken_runs n lines runs))

pub begins_first : (n : ℕ) (front : List (List ℕ)) → BeginsText front → BeginsText (take n front)
begins_first n front b = subst (λ (l : List (List ℕ)). BeginsText (take n l)) (sym b.texts) (begins_taken n b.lines (begun_runs front b))

pub text_lines : (bytes : List ℕ) (t : IsText bytes) → lines_of bytes ≡ map line_text (lines_of_streams t.streams)
unfolding lines_of
text_lines bytes t =
    let lines : List Line = lines_of_streams t.streams in
    ap lines_of (t.text ∙ sym (append-nil (text_of_lines lines)))
    ∙ lines_cut None lines [] (streams_run t.streams t.lawful.each)
    ∙ append-nil (map line_text lines)

pub lawful_begins : (bytes : List ℕ) (n : ℕ) → IsText bytes → BeginsText (first_lines n bytes)
lawful_begins bytes n t = subst (λ (l : List (List ℕ)). BeginsText (take n l)) (sym (text_lines bytes t)) (begins_taken n (lines_of_streams t.streams) (streams_run t.streams t.lawful.each))

-- ---- never both, and one at most

pub lawful_is_not_bad : LawfulIsNotBad
lawful_is_not_bad bytes before t bad = one (nat_lt before (length (lines_of bytes))) refl
  where
    one : (b : Bool) → nat_lt before (length (lines_of bytes)) ≡ b → ⊥
    one true e = bad.wrong (ltb-true before (length (lines_of bytes)) e) (lawful_begins bytes (before + 1) t)
    one false e = let last : before ≡ length (lines_of bytes) = omega (arith, ltb-false before (length (lines_of bytes)) e, bad.among) in bad.missing last t

later_begins : (bytes : List ℕ) (n m : ℕ) → n < m → BeginsText (first_lines m bytes) → BeginsText (first_lines (n + 1) bytes)
later_begins bytes n m less b =
    subst (λ (l : List (List ℕ)). BeginsText l) (take-take (n + 1) m (lines_of bytes) (omega (arith, less))) (begins_first (n + 1) (first_lines m bytes) b)

bad_less : (bytes : List ℕ) (n m : ℕ) → IsBadLine bytes n → IsBadLine bytes m → n < m → ⊥
bad_less bytes n m bad other less = bad.wrong (omega (arith, less, other.among)) (later_begins bytes n m less other.front)

pub one_line_is_bad : OneLineIsBad
one_line_is_bad bytes n m bad other = one (nat_lt n m) (nat_lt m n) refl refl
  where
    one : (b c : Bool) → nat_lt n m ≡ b → nat_lt m n ≡ c → n ≡ m
    one true c e f = absurd (bad_less bytes n m bad other (ltb-true n m e))
    one false true e f = absurd (bad_less bytes m n other bad (ltb-true m n f))
    one false false e f = omega (arith, ltb-false n m e, ltb-false m n f)

-- ---- one at least

none_begins : (bytes : List ℕ) → ((n : ℕ) → IsBadLine bytes n → ⊥) → (k : ℕ) → k ≤ length (lines_of bytes) → (BeginsText (first_lines k bytes) → ⊥) → ⊥
none_begins bytes none zero within never = never (begins [] tt)
none_begins bytes none (suc k) within never =
    let same : k + 1 ≡ suc k = omega arith in
    none_begins bytes none k (omega (arith, within))
    (λ front. none k (record {
      among = omega (arith, within);
      front = front;
      wrong = λ less b. never (subst (λ (n : ℕ). BeginsText (first_lines n bytes)) same b);
      missing = λ e t. absurd (omega (arith, e, within));
    }))

pub some_line_is_bad : SomeLineIsBad
some_line_is_bad bytes not_text none =
    none_begins bytes none (length (lines_of bytes)) (omega arith)
    (λ front. none (length (lines_of bytes)) (record {
      among = omega arith;
      front = front;
      wrong = λ less b. absurd (omega (arith, less));
      missing = λ e t. not_text t;
    }))

-- ---- one answer

met_within : (lines : List (List ℕ)) (n : ℕ) (line : List ℕ) → slice_get lines n ≡ Some line → n < length lines
met_within [] n line e = absurd cc
met_within (l ∷ lines) zero line e = omega arith
met_within (l ∷ lines) (suc n) line e = omega (arith, met_within lines n line e)

not_met : (bytes : List ℕ) (n : ℕ) → IsBadLine bytes n → (length bytes < limit) ⊎ ((line : List ℕ) × IsMet bytes n line) → IsTooLongText bytes → ⊥
not_met bytes n bad named long =
    ⊎_elim (λ short. absurd (omega (arith, short, long.long)))
    (λ met. bad.wrong (met_within (lines_of bytes) n met.0 met.1.line_is) (long.right n met.0 met.1)) named

pub one_is_due : OneIsDue
one_is_due bytes DoneWhole DoneWhole p q = refl
one_is_due bytes DoneWhole (RefusedAt v) p q = absurd (lawful_is_not_bad bytes q.0 p.1 q.1)
one_is_due bytes DoneWhole (TooLong file) p q = absurd (omega (arith, p.0, q.1.long))
one_is_due bytes DoneWhole (TooMuch sum) p q = absurd q
one_is_due bytes (RefusedAt v) DoneWhole p q = absurd (lawful_is_not_bad bytes p.0 q.1 p.1)
one_is_due bytes (RefusedAt v) (RefusedAt w) p q = ap RefusedAt (p.3 ∙ ap (λ (n : ℕ). bad_text n bytes) (one_line_is_bad bytes p.0 q.0 p.1 q.1) ∙ sym q.3)
one_is_due bytes (RefusedAt v) (TooLong file) p q = absurd (not_met bytes p.0 p.1 p.2 q.1)
one_is_due bytes (RefusedAt v) (TooMuch sum) p q = absurd q
one_is_due bytes (TooLong file) DoneWhole p q = absurd (omega (arith, q.0, p.1.long))
one_is_due bytes (TooLong file) (RefusedAt w) p q = absurd (not_met bytes q.0 q.1 q.2 p.1)
one_is_due bytes (TooLong file) (TooLong other) p q = ap TooLong (p.0 ∙ sym q.0)
one_is_due bytes (TooLong file) (TooMuch sum) p q = absurd q
one_is_due bytes (TooMuch sum) other p q = absurd p

-- ---- one reading

nothing_more : (rest : List Line) → map line_text rest ≡ [] → rest ≡ []
nothing_more [] e = refl
nothing_more (l ∷ rest) e = absurd cc

pub lines_once : (xs ys : List Line) → Runs None xs → Runs None ys → map line_text xs ≡ map line_text ys → xs ≡ ys
lines_once xs ys p q e =
    let more : Continues xs ys [] = continues None xs ys [] p q (append-nil (map line_text xs) ∙ e) in
    sym (append-nil xs) ∙ ap (λ (l : List Line). xs ++ l) (sym (nothing_more more.rest more.says)) ∙ sym more.are

pub front_has_one_reading : FrontHasOneReading
front_has_one_reading front b c = lines_once b.lines c.lines (begun_runs front b) (begun_runs front c) (sym b.texts ∙ c.texts)

-- Commands of a stream up to its END, and what follows.
commands_once : (version : ℕ) (cs ds : List Command) (xs ys : List Line) → AreInner version cs → AreInner version ds
    → map (Says version) (cs ++ End ∷ []) ++ xs ≡ map (Says version) (ds ++ End ∷ []) ++ ys → (cs ≡ ds) × (xs ≡ ys)
commands_once version [] [] xs ys p q e = (refl, (let rest : xs ≡ ys = cc in rest))
commands_once version [] (d ∷ ds) xs ys p q e = let same : End ≡ d = cc in absurd (clash (ap is_end same ∙ q.0.1))
  where
    clash : true ≡ false → ⊥
    clash f = absurd cc
commands_once version (c ∷ cs) [] xs ys p q e = let same : End ≡ c = cc in absurd (clash (ap is_end same ∙ p.0.1))
  where
    clash : true ≡ false → ⊥
    clash f = absurd cc
commands_once version (c ∷ cs) (d ∷ ds) xs ys p q e =
    let same : c ≡ d = cc in
    let behind : map (Says version) (cs ++ End ∷ []) ++ xs ≡ map (Says version) (ds ++ End ∷ []) ++ ys = cc in
    let rest = commands_once version cs ds xs ys p.1 q.1 behind in
    (ap₂ (λ (x : Command) (l : List Command). x ∷ l) same rest.0, rest.1)

same_stream : (s t : Stream) (xs ys : List Line) → IsStream s → IsStream t → stream_lines s ++ xs ≡ stream_lines t ++ ys → (s ≡ t) × (xs ≡ ys)
same_stream s t xs ys p q e =
    let version : s.version ≡ t.version = cc in
    let behind : map (Says s.version) (s.commands ++ End ∷ []) ++ xs ≡ map (Says t.version) (t.commands ++ End ∷ []) ++ ys = cc in
    let inner : AreInner s.version t.commands = subst (λ (v : ℕ). AreInner v t.commands) (sym version) q.commands in
    let both = commands_once s.version s.commands t.commands xs ys p.commands inner
    (behind ∙ ap (λ (v : ℕ). map (Says v) (t.commands ++ End ∷ []) ++ ys) (sym version)) in
    ((λ i. record { version = version i; commands = both.0 i }), both.1)

streams_once : (ss ts : List Stream) → AllByRecursion IsStream ss → AllByRecursion IsStream ts → lines_of_streams ss ≡ lines_of_streams ts → ss ≡ ts
streams_once [] [] p q e = refl
streams_once [] (t ∷ ts) p q e = absurd cc
streams_once (s ∷ ss) [] p q e = absurd cc
streams_once (s ∷ ss) (t ∷ ts) p q e =
    let both = same_stream s t (lines_of_streams ss) (lines_of_streams ts) p.0 q.0 e in
    ap₂ (λ (x : Stream) (l : List Stream). x ∷ l) both.0 (streams_once ss ts p.1 q.1 both.1)

pub text_has_one_reading : TextHasOneReading
text_has_one_reading ss ts p q e =
    let first : IsText (text_of ss) = record { streams = ss; lawful = p; text = refl } in
    let second : IsText (text_of ss) = record { streams = ts; lawful = q; text = e } in
    streams_once ss ts p.each q.each
    (lines_once (lines_of_streams ss) (lines_of_streams ts) (streams_run ss p.each) (streams_run ts q.each)
    (sym (text_lines (text_of ss) first) ∙ text_lines (text_of ss) second))

-- ---- short lines

last_due : (due : Option ℕ) (lines : List Line) (front : List (List ℕ)) (line : List ℕ) → Runs due lines → front ++ line ∷ [] ≡ map line_text lines
    → (other : Option ℕ) × (last : Line) × IsDueLine other last × (line_text last ≡ line)
last_due due [] [] line runs e = absurd cc
last_due due [] (f ∷ front) line runs e = absurd cc
last_due due (x ∷ xs) [] line runs e = let same : line ≡ line_text x = cc in (due, x, runs.0, sym same)
last_due due (x ∷ xs) (f ∷ front) line runs e = let behind : front ++ line ∷ [] ≡ map line_text xs = cc in last_due _ xs front line runs.1 behind

pub lines_are_short : LinesAreShort
lines_are_short front line b =
    let last = last_due None b.lines front line (begun_runs (front ++ line ∷ []) b) b.texts in
    subst (λ (l : List ℕ). length l ≤ longest_line) last.3 (line_len last.0 last.1 last.2)
