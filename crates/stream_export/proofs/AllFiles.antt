-- Exporting files one after the other, each with the name that is given for its heads: what the
-- loop over them keeps, and each of its ends.
use Rattle.std.specs.Prelude.{◌≡◌, ℕ, ◌+◌, ◌<◌, ◌≤◌, List, [], ◌∷◌, ◌++◌, map, length, drop, slice_index_or, String, Option, None, Some, Err}
use Rattle.std.specs.String.{string_bytes}
use Rattle.std.proofs.Common.{refl, sym, ap, subst, ◌∙◌, append_assoc, append-nil, arith}
use Rattle.std.proofs.lemmas.List.{drop_all}
use Rattle.send_model.specs.Reading.{Item, Reading, input}
use Rattle.send_model.specs.Headline.{IsFrontOf}
use Rattle.send_model.specs.Due.{Limited, limited_from}
use Rattle.send_model.specs.Overridden.{Override, Overrides, override_for, overridden, overridden_items, overridden_limited}
use Rattle.send_model.proofs.Fronts.{part_front}
use Rattle.std.proofs.KnownBytes.{Appends-trans}
use Rattle.sx_base.specs.Outside.{file_at}
use Rattle.sx_base.specs.Calls.{contents, IfAllTold, Wrote}
use Rattle.sx_base.specs.declared.outcome.Outcome.{Outcome}
use Rattle.sx_base.specs.declared.outcome.Outcome.TheVariants as ended_by
use Rattle.sx_base.proofs.NamedFiles.{file_there, count_of_files}
use Rattle.cmd_reader.specs.Places.{IfTold}
use Rattle.cmd_reader.proofs.Told.{told_next}
use Rattle.auditor.specs.Following.{beside, due_from_here, then_read, read_with, file_read, read_whole}
use Rattle.auditor.proofs.AllFiles.{input_is}
use Rattle.auditor.proofs.Dues.{due_stop, due_on}
use Rattle.send_model.specs.Exported.{AreSmallBy}
use Rattle.stream_export.specs.Exporting.{Point, written_from, SmallFrom, Goes}
use Rattle.stream_export.specs.Steps.{Passes, then_others}
use Rattle.stream_export.proofs.Unpacked.{Stops, FileTaken, FileEnds, AllTaken}
use Rattle.stream_export.proofs.Going.{goes_none, goes_on, goes_all, passes_none, passes_on}
use Rattle.stream_export.proofs.Named.{split_with}

-- The commands of the files up to one with this number were read, and with the names that are given
-- they were taken; their bytes are gathered or written.
pub record AllStand (overrides : Overrides) (number : ℕ) (old now : Point) (bytes_old bytes_now : List ℕ) (taken_old taken_now : Option (List ℕ)) (files : List (List ℕ)) : Type 0 where
  items : List Item
  text : List ℕ
  read : overridden_limited overrides (limited_from 1 files) ≡ then_read items (overridden_limited overrides (limited_from (number + 1) (drop number files)))
  goes : Goes old items now text
  passes : Passes bytes_old bytes_now text taken_old taken_now

pub all_start : (told : Option (List (List ℕ × List ℕ))) (overrides : Overrides) (names : List (List ℕ)) (now : Point) (bytes_now : List ℕ) (taken : Option (List ℕ)) → IfAllTold told names (AllStand overrides 0 now now bytes_now bytes_now taken taken)
all_start None overrides names now bytes_now taken = tt
all_start (Some table) overrides names now bytes_now taken = record { items = []; text = []; read = refl; goes = goes_none now; passes = passes_none bytes_now taken }

then_then : (items more : List Item) (l : Limited) → then_read items (then_read more l) ≡ then_read (items ++ more) l
then_then items more l = ap (λ (is : List Item). record { items = is; stop = l.stop }) (sym (append_assoc items more l.items))

-- What is read of the next file and of those after it.
read_next : (overrides : Overrides) (number : ℕ) (bytes : List ℕ) (files : List (List ℕ)) → drop number files ≡ bytes ∷ drop (number + 1) files
    → overridden_limited overrides (limited_from (number + 1) (drop number files))
    ≡ then_others (read_with (override_for overrides (number + 1)) (file_read (number + 1) bytes)) (overridden_limited overrides (limited_from (number + 1 + 1) (drop (number + 1) files)))
read_next overrides number bytes files here =
    ap (λ (fs : List (List ℕ)). overridden_limited overrides (limited_from (number + 1) fs)) here ∙ split_with overrides (number + 1) bytes (drop (number + 1) files)

-- The next file is taken.
next_file : (overrides : Overrides) (number : ℕ) (old now next : Point) (bytes_old bytes_now bytes_next : List ℕ) (taken_old taken_now taken_next : Option (List ℕ)) (bytes : List ℕ) (files : List (List ℕ)) → drop number files ≡ bytes ∷ drop (number + 1) files
    → AllStand overrides number old now bytes_old bytes_now taken_old taken_now files → FileTaken (override_for overrides (number + 1)) (number + 1) now next bytes_now bytes_next taken_now taken_next bytes
    → AllStand overrides (number + 1) old next bytes_old bytes_next taken_old taken_next files
next_file overrides number old now next bytes_old bytes_now bytes_next taken_old taken_now taken_next bytes files here s f =
    let more : Limited = overridden_limited overrides (limited_from (number + 1 + 1) (drop (number + 1) files)) in
    record {
      items = s.items ++ f.items;
      text = s.text ++ f.text;
      read = s.read ∙ ap (then_read s.items) (read_next overrides number bytes files here ∙ ap (λ (l : Limited). then_others l more) f.read)
          ∙ then_then s.items f.items more;
      goes = goes_on old now next s.items f.items s.text f.text s.goes f.goes;
      passes = passes_on bytes_old bytes_now bytes_next s.text f.text taken_old taken_now taken_next s.passes f.passes;
    }

-- A front part of what is gathered and all that comes after it.
front_on : (old now : Point) (bytes_old bytes_now text : List ℕ) (items others : List Item) (taken_old taken_now taken_next : Option (List ℕ)) → Goes old items now text → Passes bytes_old bytes_now text taken_old taken_now
    → Wrote taken_now taken_next (IsFrontOf (bytes_now ++ written_from now others)) → Wrote taken_old taken_next (IsFrontOf (bytes_old ++ written_from old (items ++ others)))
front_on old now bytes_old bytes_now text items others taken_old taken_now taken_next g p (w, appends, front) =
    let rest : List ℕ = written_from now others in
    let whole : bytes_old ++ written_from old (items ++ others) ≡ (p.sent ++ (bytes_now ++ rest)) ++ [] =
    ap (λ (l : List ℕ). bytes_old ++ l) (g.written others) ∙ sym (append_assoc bytes_old text rest) ∙ ap (λ (l : List ℕ). l ++ rest) (sym p.bytes_are)
    ∙ append_assoc p.sent bytes_now rest ∙ sym (append-nil (p.sent ++ (bytes_now ++ rest))) in
    let all = part_front (bytes_old ++ written_from old (items ++ others)) p.sent (bytes_now ++ rest) [] front.count whole in (
      p.sent ++ w,
      Appends-trans taken_old taken_now taken_next p.sent w p.appends appends,
      subst (λ (l : List ℕ). IsFrontOf (bytes_old ++ written_from old (items ++ others)) (p.sent ++ l)) (sym front.written_is) all,
    )

-- What ends the export at what else is read, ends it there.
stops_on : (old now : Point) (bytes_old bytes_now bytes_next text : List ℕ) (items : List Item) (more : Limited) (taken_old taken_now taken_next : Option (List ℕ)) (outcome : Outcome) → Goes old items now text → Passes bytes_old bytes_now text taken_old taken_now
    → Stops now more bytes_now bytes_next taken_now taken_next outcome → Stops old (then_read items more) bytes_old bytes_next taken_old taken_next outcome
stops_on old now bytes_old bytes_now bytes_next text items more taken_old taken_now taken_next outcome g p stops = by_outcome outcome stops
  where
    due : due_from_here (beside [] old.now.state) (then_read items more) ≡ due_from_here (beside [] now.now.state) more
    due = due_on (beside [] old.now.state) (beside [] now.now.state) items more g.accepted

    all : Passes bytes_now bytes_next (written_from now more.items) taken_now taken_next → Passes bytes_old bytes_next (written_from old (items ++ more.items)) taken_old taken_next
    all q =
        subst (λ (l : List ℕ). Passes bytes_old bytes_next l taken_old taken_next) (sym (g.written more.items))
        (passes_on bytes_old bytes_now bytes_next text (written_from now more.items) taken_old taken_now taken_next p q)

    front : Wrote taken_now taken_next (IsFrontOf (bytes_now ++ written_from now more.items)) → Wrote taken_old taken_next (IsFrontOf (bytes_old ++ written_from old (items ++ more.items)))
    front w = front_on old now bytes_old bytes_now text items more.items taken_old taken_now taken_next g p w

    by_outcome : (x : Outcome) → Stops now more bytes_now bytes_next taken_now taken_next x → Stops old (then_read items more) bytes_old bytes_next taken_old taken_next x
    by_outcome (ended_by.Refused verdict) (is, q) = (due ∙ is, all q)
    by_outcome (ended_by.InputTooLong file) (is, q) = (due ∙ is, all q)
    by_outcome ended_by.InputFault w = front w
    by_outcome ended_by.OutputFault w = front w
    by_outcome ended_by.NoMemory w = front w
    by_outcome ended_by.Done s = absurd s
    by_outcome (ended_by.TooMuch sum) s = absurd s
    by_outcome (ended_by.InputChanged file place) s = absurd s

-- After the last file.
all_done : (overrides : Overrides) (number : ℕ) (old now : Point) (bytes_old bytes_now : List ℕ) (taken_old taken_now : Option (List ℕ)) (files : List (List ℕ)) → drop number files ≡ []
    → AllStand overrides number old now bytes_old bytes_now taken_old taken_now files → AllTaken overrides old bytes_old bytes_now taken_old taken_now files
unfolding limited_from input AreSmallBy
all_done overrides number old now bytes_old bytes_now taken_old taken_now files past s =
    let read : overridden_limited overrides (limited_from 1 files) ≡ read_whole s.items =
    s.read ∙ ap (λ (fs : List (List ℕ)). then_read s.items (overridden_limited overrides (limited_from (number + 1) fs))) past ∙ ap read_whole (append-nil s.items) in
    let items_are : (overridden overrides (input files)).items ≡ s.items =
    ap (λ (r : Reading). overridden_items overrides r.items) (input_is 1 files (ap (λ (l : Limited). l.stop) read)) ∙ ap (λ (l : Limited). l.items) read in
    let text : s.text ≡ written_from old (overridden_limited overrides (limited_from 1 files)).items =
    sym (goes_all old now s.items s.text s.goes) ∙ ap (λ (l : Limited). written_from old l.items) (sym read) in
    record {
      done = ap (due_from_here (beside [] old.now.state)) read ∙ due_stop (beside [] old.now.state) (beside [] now.now.state) (read_whole s.items) s.goes.accepted;
      passes = subst (λ (l : List ℕ). Passes bytes_old bytes_now l taken_old taken_now) text s.passes;
      small = subst (SmallFrom old) (append-nil s.items ∙ sym items_are) (s.goes.small [] tt);
    }

-- ---- of files that are told

-- The next file is taken.
pub all_next : {Z : Type 0} (told inputs : Option (List (List ℕ × List ℕ))) (overrides : Overrides) (names : List (String Z)) (number : ℕ) (old now next : Point) (bytes_old bytes_now bytes_next : List ℕ) (taken_old taken_now taken_next : Option (List ℕ)) (name : String Z) (spelled : List ℕ) (override : Override)
    → inputs ≡ told → number < length names → name ≡ slice_index_or names number name → spelled ≡ string_bytes name
    → override ≡ override_for overrides (number + 1) → IfTold inputs spelled (FileTaken override (number + 1) now next bytes_now bytes_next taken_now taken_next)
    → IfAllTold told (map string_bytes names) (AllStand overrides number old now bytes_old bytes_now taken_old taken_now) → IfAllTold told (map string_bytes names) (AllStand overrides (number + 1) old next bytes_old bytes_next taken_old taken_next)
all_next None inputs overrides names number old now next bytes_old bytes_now bytes_next taken_old taken_now taken_next name spelled override same less is spelling given ends s = tt
all_next (Some table) inputs overrides names number old now next bytes_old bytes_now bytes_next taken_old taken_now taken_next name spelled override same less is spelling given ends s =
    let Taken : Override → List ℕ → Type 0 = λ o. FileTaken o (number + 1) now next bytes_now bytes_next taken_now taken_next in
    let own : Override = override_for overrides (number + 1) in
    let said = told_next table inputs name spelled (Taken own) same spelling (subst (λ (o : Override). IfTold inputs spelled (Taken o)) given ends) in
    next_file overrides number old now next bytes_old bytes_now bytes_next taken_old taken_now taken_next (file_at table (string_bytes name)) (contents table (map string_bytes names)) (file_there table names number name less is) s said

-- The next file ends the export.
pub all_stop : {Z : Type 0} (told inputs : Option (List (List ℕ × List ℕ))) (overrides : Overrides) (names : List (String Z)) (number : ℕ) (old now next : Point) (bytes_old bytes_now bytes_next : List ℕ) (taken_old taken_now taken_next : Option (List ℕ)) (name : String Z) (spelled : List ℕ) (override : Override) (outcome : Outcome)
    → inputs ≡ told → number < length names → name ≡ slice_index_or names number name → spelled ≡ string_bytes name
    → override ≡ override_for overrides (number + 1) → IfTold inputs spelled (FileEnds override (number + 1) now next bytes_now bytes_next taken_now taken_next (Err outcome))
    → IfAllTold told (map string_bytes names) (AllStand overrides number old now bytes_old bytes_now taken_old taken_now)
    → IfAllTold told (map string_bytes names) (λ files. Stops old (overridden_limited overrides (limited_from 1 files)) bytes_old bytes_next taken_old taken_next outcome)
all_stop None inputs overrides names number old now next bytes_old bytes_now bytes_next taken_old taken_now taken_next name spelled override outcome same less is spelling given ends s = tt
all_stop (Some table) inputs overrides names number old now next bytes_old bytes_now bytes_next taken_old taken_now taken_next name spelled override outcome same less is spelling given ends s =
    let Stopped : Override → List ℕ → Type 0 = λ o. FileEnds o (number + 1) now next bytes_now bytes_next taken_now taken_next (Err outcome) in
    let own : Override = override_for overrides (number + 1) in
    let said = told_next table inputs name spelled (Stopped own) same spelling (subst (λ (o : Override). IfTold inputs spelled (Stopped o)) given ends) in
    let files : List (List ℕ) = contents table (map string_bytes names) in
    let bytes : List ℕ = file_at table (string_bytes name) in
    let more : Limited = overridden_limited overrides (limited_from (number + 1 + 1) (drop (number + 1) files)) in
    let whole : Limited = then_others (read_with own (file_read (number + 1) bytes)) more in
    let read : overridden_limited overrides (limited_from 1 files) ≡ then_read s.items whole = s.read ∙ ap (then_read s.items) (read_next overrides number bytes files (file_there table names number name less is)) in
    subst (λ (l : Limited). Stops old l bytes_old bytes_next taken_old taken_next outcome) (sym read)
    (stops_on old now bytes_old bytes_now bytes_next s.text s.items whole taken_old taken_now taken_next outcome s.goes s.passes (said more))

-- After the last.
pub all_end : {Z : Type 0} (told : Option (List (List ℕ × List ℕ))) (overrides : Overrides) (names : List (String Z)) (number : ℕ) (old now : Point) (bytes_old bytes_now : List ℕ) (taken_old taken_now : Option (List ℕ)) → length names ≤ number
    → IfAllTold told (map string_bytes names) (AllStand overrides number old now bytes_old bytes_now taken_old taken_now) → IfAllTold told (map string_bytes names) (AllTaken overrides old bytes_old bytes_now taken_old taken_now)
all_end None overrides names number old now bytes_old bytes_now taken_old taken_now past s = tt
all_end (Some table) overrides names number old now bytes_old bytes_now taken_old taken_now past s =
    let files : List (List ℕ) = contents table (map string_bytes names) in
    let over : length files ≤ number = omega (arith, count_of_files table names, past) in
    all_done overrides number old now bytes_old bytes_now taken_old taken_now files (drop_all number files over) s
