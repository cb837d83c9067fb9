-- Following files one after the other, each with the name that is given for its heads: what the
-- loop over them keeps, and each of its ends.
use Rattle.std.specs.Prelude.{◌≡◌, ℕ, ◌+◌, ◌<◌, ◌≤◌, Bool, true, false, List, [], ◌∷◌, ◌++◌, map, length, take, drop, slice_index_or, String, Option, None, Some, Result, Ok, Err}
use Rattle.std.specs.String.{string_bytes}
use Rattle.std.proofs.Common.{refl, sym, ap, subst, ◌∙◌, append_assoc, append-nil, length-append, arith}
use Rattle.std.proofs.lemmas.List.{drop_all, map-append}
use Rattle.send_model.specs.Reading.{Item, Ending, Whole, Faulty, Reading, reads, joined, input, input_from}
use Rattle.send_model.specs.Order.{heads, heads_of, commands_of}
use Rattle.send_model.specs.Lengths.{limit, is_too_long}
use Rattle.send_model.specs.Due.{Due, Limited, Stop, AtEnd, AtFault, AtLimit, limited_from, then_limited}
use Rattle.send_model.specs.Overridden.{Override, Overrides, override_for, overridden_as, overridden_item, overridden_items, overridden, overridden_limited}
use Rattle.send_model.proofs.OverriddenByFile.{file_has_one_override}
use Rattle.send_model.proofs.Writing.{heads_of-append}
use Rattle.sx_base.specs.Outside.{file_at}
use Rattle.sx_base.specs.Calls.{contents, IfAllTold}
use Rattle.sx_base.specs.Refusals.{verdict_meant}
use Rattle.sx_base.specs.declared.outcome.Outcome.{Outcome}
use Rattle.sx_base.specs.declared.outcome.Outcome.TheVariants as ended_by
use Rattle.cmd_reader.specs.Places.{IfTold}
use Rattle.cmd_reader.proofs.Told.{told_next}
use Rattle.auditor.specs.declared.counts.Counts.{Counts}
use Rattle.auditor.specs.declared.counts.Totals.{Totals}
use Rattle.auditor.specs.Following.{Followed, follow, AreAccepted, due_from_here, then_read, read_with, file_read, read_whole}
use Rattle.auditor.specs.Answers.{Stops, AreCounted, FileAccepted, FileEnds, AllAccepted, AllEnd}
use Rattle.sx_base.proofs.NamedFiles.{file_there, count_of_files}
use Rattle.auditor.proofs.Runs.{none, run_on, refused_still}
use Rattle.auditor.proofs.TooLong.{by_length, nothing_more, read_is, read_either}
use Rattle.auditor.proofs.Dues.{due_stop, due_refused, refused_is, never_long, due_on}

-- ---- what is read of files

-- What is read of a file, and what is read of the others if that is all of it.
abbrev then_others : Limited → Limited → Limited
then_others first more = elim first.stop [
  | AtEnd ↦ then_read first.items more
  | AtFault verdict ↦ first
  | AtLimit file ↦ first
]

split : (file : ℕ) (bytes : List ℕ) (files : List (List ℕ)) → limited_from file (bytes ∷ files) ≡ then_others (file_read file bytes) (limited_from (file + 1) files)
unfolding limited_from
split file bytes files =
    read_is file bytes files ∙ by_long (is_too_long file bytes) ∙ ap (λ (l : Limited). then_others l more) (sym (read_is file bytes []))
  where
    more : Limited
    more = limited_from (file + 1) files

    by_end : (items : List Item) (ending : Ending) → then_limited items ending more ≡ then_others (then_limited items ending nothing_more) more
    by_end items Whole = ap (λ (is : List Item). then_read is more) (sym (append-nil items))
    by_end items (Faulty verdict) = refl

    by_long : (b : Bool) → by_length b file bytes more ≡ then_others (by_length b file bytes nothing_more) more
    by_long true = refl
    by_long false = by_end (reads file bytes).items (reads file bytes).end

-- All items of a file have what is said in front of it.
file_with : (overrides : Overrides) (file : ℕ) (bytes : List ℕ) → overridden_limited overrides (file_read file bytes) ≡ read_with (override_for overrides file) (file_read file bytes)
file_with overrides file bytes =
    let items_of : Reading → List Item = λ r. r.items in
    ap (λ (items : List Item). record { items = items; stop = (file_read file bytes).stop })
    (read_either (λ items. overridden_items overrides items ≡ map (overridden_as (override_for overrides file)) items) file bytes
    (ap items_of (file_has_one_override overrides file bytes)) (ap items_of (file_has_one_override overrides file (take limit bytes))))

-- So the first file can be read with its own, and then the others with theirs.
split_with : (overrides : Overrides) (file : ℕ) (bytes : List ℕ) (files : List (List ℕ))
    → overridden_limited overrides (limited_from file (bytes ∷ files)) ≡ then_others (read_with (override_for overrides file) (file_read file bytes)) (overridden_limited overrides (limited_from (file + 1) files))
split_with overrides file bytes files =
    ap (overridden_limited overrides) (split file bytes files)
    ∙ by_stop (file_read file bytes).items (file_read file bytes).stop
    ∙ ap (λ (l : Limited). then_others l (overridden_limited overrides more)) (file_with overrides file bytes)
  where
    more : Limited
    more = limited_from (file + 1) files

    by_stop : (items : List Item) (stop : Stop) → overridden_limited overrides (then_others (record { items = items; stop = stop }) more) ≡ then_others (overridden_limited overrides (record { items = items; stop = stop })) (overridden_limited overrides more)
    by_stop items AtEnd = ap (λ (is : List Item). record { items = is; stop = more.stop }) (map-append (overridden_item overrides) items more.items)
    by_stop items (AtFault verdict) = refl
    by_stop items (AtLimit number) = refl

-- Where all is read to the end, it is what the files give.
pub input_is : (number : ℕ) (files : List (List ℕ)) → (limited_from number files).stop ≡ AtEnd → input_from number files ≡ record { items = (limited_from number files).items; end = Whole }
unfolding limited_from input_from
input_is number [] e = refl
input_is number (bytes ∷ files) e =
    by_long (input_is (number + 1) files) (is_too_long number bytes) (sym (ap (λ (l : Limited). l.stop) (read_is number bytes files)) ∙ e)
    ∙ ap (λ (l : Limited). record { items = l.items; end = Whole }) (sym (read_is number bytes files))
  where
    more : Limited
    more = limited_from (number + 1) files

    Others : Type 0
    Others = more.stop ≡ AtEnd → input_from (number + 1) files ≡ record { items = more.items; end = Whole }

    by_end : Others → (items : List Item) (ending : Ending) → (then_limited items ending more).stop ≡ AtEnd
        → joined (record { items = items; end = ending }) (input_from (number + 1) files) ≡ record { items = (then_limited items ending more).items; end = Whole }
    by_end others items Whole e = ap (λ (x : Reading). record { items = items ++ x.items; end = x.end }) (others e)
    by_end others items (Faulty verdict) e = cc

    by_long : Others → (b : Bool) → (by_length b number bytes more).stop ≡ AtEnd → joined (reads number bytes) (input_from (number + 1) files) ≡ record { items = (by_length b number bytes more).items; end = Whole }
    by_long others true e = cc
    by_long others false e = by_end others (reads number bytes).items (reads number bytes).end e

-- ---- what the loop keeps

-- The commands of the files up to one with this number were read, and with the names that are given
-- they were accepted and counted.
pub record AllStand (overrides : Overrides) (start : Followed) (number : ℕ) (now : Followed) (parts commands : ℕ) (files : List (List ℕ)) : Type 0 where
  items : List Item
  read : overridden_limited overrides (limited_from 1 files) ≡ then_read items (overridden_limited overrides (limited_from (number + 1) (drop number files)))
  all : AreAccepted start items now
  counted : AreCounted parts commands items

none_counted : AreCounted 0 0 []
unfolding heads_of
none_counted = record { parts_are = refl; commands_are = refl }

pub all_start : (told : Option (List (List ℕ × List ℕ))) (overrides : Overrides) (names : List (List ℕ)) (now : Followed) (parts commands : ℕ) → parts ≡ 0 → commands ≡ 0 → IfAllTold told names (AllStand overrides now 0 now parts commands)
all_start None overrides names now parts commands p c = tt
all_start (Some table) overrides names now parts commands p c = record {
  items = [];
  read = refl;
  all = none follow now;
  counted = record { parts_are = p ∙ none_counted.parts_are; commands_are = c ∙ none_counted.commands_are };
}

counted_both : (items more : List Item) (p c q d : ℕ) → AreCounted p c items → AreCounted q d more → AreCounted (p + q) (c + d) (items ++ more)
counted_both items more p c q d a b =
    let cs : commands_of (items ++ more) ≡ commands_of items ++ commands_of more = map-append (λ (i : Item). i.command) items more in
    let hs : heads (items ++ more) ≡ heads items ++ heads more = ap heads_of cs ∙ heads_of-append (commands_of items) (commands_of more) in
    record {
      parts_are = omega (arith, a.parts_are, b.parts_are, ap length hs, length-append (heads items) (heads more));
      commands_are = omega (arith, a.commands_are, b.commands_are, length-append items more);
    }

then_then : (items more : List Item) (l : Limited) → then_read items (then_read more l) ≡ then_read (items ++ more) l
then_then items more l = ap (λ (is : List Item). record { items = is; stop = l.stop }) (sym (append_assoc items more l.items))

-- What is read of the next file and of those after it.
read_next : (overrides : Overrides) (number : ℕ) (bytes : List ℕ) (files : List (List ℕ)) → drop number files ≡ bytes ∷ drop (number + 1) files
    → overridden_limited overrides (limited_from (number + 1) (drop number files))
    ≡ then_others (read_with (override_for overrides (number + 1)) (file_read (number + 1) bytes)) (overridden_limited overrides (limited_from (number + 1 + 1) (drop (number + 1) files)))
read_next overrides number bytes files here =
    ap (λ (fs : List (List ℕ)). overridden_limited overrides (limited_from (number + 1) fs)) here ∙ split_with overrides (number + 1) bytes (drop (number + 1) files)

-- The next file is accepted.
next_file : (overrides : Overrides) (start : Followed) (number : ℕ) (now next : Followed) (parts commands : ℕ) (counts : Counts) (bytes : List ℕ) (files : List (List ℕ)) → drop number files ≡ bytes ∷ drop (number + 1) files
    → AllStand overrides start number now parts commands files → FileAccepted (override_for overrides (number + 1)) (number + 1) now next counts bytes
    → AllStand overrides start (number + 1) next (parts + counts.parts) (commands + counts.commands) files
next_file overrides start number now next parts commands counts bytes files here s f =
    let more : Limited = overridden_limited overrides (limited_from (number + 1 + 1) (drop (number + 1) files)) in
    record {
      items = s.items ++ f.items;
      read = s.read ∙ ap (then_read s.items) (read_next overrides number bytes files here ∙ ap (λ (l : Limited). then_others l more) f.read)
          ∙ then_then s.items f.items more;
      all = run_on follow s.items f.items start now s.all ∙ f.all;
      counted = counted_both s.items f.items parts commands counts.parts counts.commands s.counted f.counted;
    }

-- What is due to a file stays due, whatever files follow it, unless it is accepted.
due_stays : (now : Followed) (first more : Limited) (outcome : Outcome) → Stops (due_from_here now first) outcome → Stops (due_from_here now (then_others first more)) outcome
due_stays now first more outcome stops = by_stop first.items first.stop outcome stops
  where
    by_stop : (items : List Item) (stop : Stop) (o : Outcome) → Stops (due_from_here now (record { items = items; stop = stop })) o → Stops (due_from_here now (then_others (record { items = items; stop = stop }) more)) o
    by_stop items (AtFault verdict) o stops = stops
    by_stop items (AtLimit file) o stops = stops
    by_stop items AtEnd (ended_by.Refused verdict) stops =
        due_refused now (then_read items more) (verdict_meant verdict) (refused_still follow items more.items now (verdict_meant verdict) (refused_is now items (verdict_meant verdict) stops))
    by_stop items AtEnd (ended_by.InputTooLong file) stops = absurd (never_long now items file stops)
    by_stop items AtEnd (ended_by.TooMuch sum) stops = absurd stops
    by_stop items AtEnd (ended_by.InputChanged file place) stops = absurd stops
    by_stop items AtEnd ended_by.InputFault stops = tt
    by_stop items AtEnd ended_by.NoMemory stops = tt
    by_stop items AtEnd ended_by.OutputFault stops = absurd stops
    by_stop items AtEnd ended_by.Done stops = absurd stops

stops_here : (overrides : Overrides) (start : Followed) (number : ℕ) (now : Followed) (parts commands : ℕ) (bytes : List ℕ) (files : List (List ℕ)) (outcome : Outcome) → drop number files ≡ bytes ∷ drop (number + 1) files
    → AllStand overrides start number now parts commands files → Stops (due_from_here now (read_with (override_for overrides (number + 1)) (file_read (number + 1) bytes))) outcome
    → Stops (due_from_here start (overridden_limited overrides (limited_from 1 files))) outcome
stops_here overrides start number now parts commands bytes files outcome here s stops =
    let first : Limited = read_with (override_for overrides (number + 1)) (file_read (number + 1) bytes) in
    let more : Limited = overridden_limited overrides (limited_from (number + 1 + 1) (drop (number + 1) files)) in
    let read : due_from_here start (overridden_limited overrides (limited_from 1 files)) ≡ due_from_here now (then_others first more) =
    ap (due_from_here start) s.read ∙ due_on start now s.items (overridden_limited overrides (limited_from (number + 1) (drop number files))) s.all
    ∙ ap (due_from_here now) (read_next overrides number bytes files here) in
    subst (λ (d : Due). Stops d outcome) (sym read) (due_stays now first more outcome stops)

-- After the last file.
all_done : (overrides : Overrides) (start : Followed) (number : ℕ) (now : Followed) (totals : Totals) (files : List (List ℕ)) → drop number files ≡ [] → AllStand overrides start number now totals.parts totals.commands files
    → AllAccepted overrides start totals files
unfolding limited_from input
all_done overrides start number now totals files past s =
    let read : overridden_limited overrides (limited_from 1 files) ≡ read_whole s.items =
    s.read ∙ ap (λ (fs : List (List ℕ)). then_read s.items (overridden_limited overrides (limited_from (number + 1) fs))) past ∙ ap read_whole (append-nil s.items) in
    let items_are : (overridden overrides (input files)).items ≡ s.items =
    ap (λ (r : Reading). overridden_items overrides r.items) (input_is 1 files (ap (λ (l : Limited). l.stop) read)) ∙ ap (λ (l : Limited). l.items) read in
    record {
      done = ap (due_from_here start) read ∙ due_stop start now (read_whole s.items) s.all;
      counted = subst (λ (is : List Item). AreCounted totals.parts totals.commands is) (sym items_are) s.counted;
    }

-- The next file is accepted, of those that are told.
pub all_next : {Z : Type 0} (told inputs : Option (List (List ℕ × List ℕ))) (overrides : Overrides) (names : List (String Z)) (start : Followed) (number : ℕ) (now next : Followed) (parts commands parts_now commands_now : ℕ) (name : String Z) (spelled : List ℕ) (override : Override) (r : Result Counts Outcome) (counts : Counts)
    → inputs ≡ told → number < length names → name ≡ slice_index_or names number name → spelled ≡ string_bytes name
    → override ≡ override_for overrides (number + 1) → r ≡ Ok counts → IfTold inputs spelled (FileEnds override (number + 1) now next r) → parts_now ≡ parts + counts.parts → commands_now ≡ commands + counts.commands
    → IfAllTold told (map string_bytes names) (AllStand overrides start number now parts commands) → IfAllTold told (map string_bytes names) (AllStand overrides start (number + 1) next parts_now commands_now)
all_next None inputs overrides names start number now next parts commands parts_now commands_now name spelled override r counts same less is spelling given was ends p c s = tt
all_next (Some table) inputs overrides names start number now next parts commands parts_now commands_now name spelled override r counts same less is spelling given was ends p c s =
    let files : List (List ℕ) = contents table (map string_bytes names) in
    let of_file : Override = override_for overrides (number + 1) in
    let ended : IfTold inputs spelled (FileEnds of_file (number + 1) now next r) = subst (λ (o : Override). IfTold inputs spelled (FileEnds o (number + 1) now next r)) given ends in
    let said = told_next table inputs name spelled (FileEnds of_file (number + 1) now next (Ok counts)) same spelling
    (subst (λ (x : Result Counts Outcome). IfTold inputs spelled (FileEnds of_file (number + 1) now next x)) was ended) in
    subst (λ (k : ℕ). AllStand overrides start (number + 1) next k commands_now files) (sym p) (
    subst (λ (k : ℕ). AllStand overrides start (number + 1) next (parts + counts.parts) k files) (sym c)
    (next_file overrides start number now next parts commands counts (file_at table (string_bytes name)) files (file_there table names number name less is) s said))

-- The next file ends the audit.
pub all_stop : {Z : Type 0} (told inputs : Option (List (List ℕ × List ℕ))) (overrides : Overrides) (names : List (String Z)) (start : Followed) (number : ℕ) (now next : Followed) (parts commands : ℕ) (name : String Z) (spelled : List ℕ) (override : Override) (r : Result Counts Outcome) (outcome : Outcome)
    → inputs ≡ told → number < length names → name ≡ slice_index_or names number name → spelled ≡ string_bytes name
    → override ≡ override_for overrides (number + 1) → r ≡ Err outcome → IfTold inputs spelled (FileEnds override (number + 1) now next r)
    → IfAllTold told (map string_bytes names) (AllStand overrides start number now parts commands) → IfAllTold told (map string_bytes names) (AllEnd overrides start (Err outcome))
all_stop None inputs overrides names start number now next parts commands name spelled override r outcome same less is spelling given was ends s = tt
all_stop (Some table) inputs overrides names start number now next parts commands name spelled override r outcome same less is spelling given was ends s =
    let of_file : Override = override_for overrides (number + 1) in
    let ended : IfTold inputs spelled (FileEnds of_file (number + 1) now next r) = subst (λ (o : Override). IfTold inputs spelled (FileEnds o (number + 1) now next r)) given ends in
    let said = told_next table inputs name spelled (FileEnds of_file (number + 1) now next (Err outcome)) same spelling
    (subst (λ (x : Result Counts Outcome). IfTold inputs spelled (FileEnds of_file (number + 1) now next x)) was ended) in
    stops_here overrides start number now parts commands (file_at table (string_bytes name)) (contents table (map string_bytes names)) outcome (file_there table names number name less is) s said

-- After the last.
pub all_end : {Z : Type 0} (told : Option (List (List ℕ × List ℕ))) (overrides : Overrides) (names : List (String Z)) (start : Followed) (number : ℕ) (now : Followed) (totals : Totals) → length names ≤ number
    → IfAllTold told (map string_bytes names) (AllStand overrides start number now totals.parts totals.commands) → IfAllTold told (map string_bytes names) (AllEnd overrides start (Ok totals))
all_end None overrides names start number now totals past s = tt
all_end (Some table) overrides names start number now totals past s =
    let files : List (List ℕ) = contents table (map string_bytes names) in
    let over : length files ≤ number = omega (arith, count_of_files table names, past) in
    all_done overrides start number now totals files (drop_all number files over) s
