-- What answers of `receive` mean: each whole line in what was written is that of an entry that is
-- complete in the image.
use Rattle.std.specs.Prelude.{◌≡◌, ◌⊎◌, ◌^◌, ◌<◌, ℕ, ◌+◌, Bool, true, false, List, [], ◌∷◌, ◌++◌, length, take, drop, map, Option, None, Some, ⊤, if◌then◌else◌}
use Rattle.std.specs.List.{flat_map}
use Rattle.std.proofs.Common.{inl, inr, refl, sym, ap, subst, ◌∙◌, arith, append-nil}
use Rattle.std.proofs.Math.Seq.{take-length}
use Rattle.std.proofs.lemmas.List.{take-append-le}
use Rattle.send_model.specs.Refusal.{Refusal}
use Rattle.send_model.specs.Reading.{Item, Verdict, Ending, Whole, Faulty, reads, joined, input, input_from}
use Rattle.send_model.specs.Lengths.{limit, is_too_long}
use Rattle.send_model.specs.Store.{Store, State, After, step}
use Rattle.send_model.specs.Receive.{Ran, run_by, then_run, byte_cells, start_of}
use Rattle.send_model.specs.Guards.{Guard, Watched, watched_step, receive_watched}
use Rattle.send_model.specs.Due as stream_dues
use Rattle.send_model.specs.Due.{DoneWhole, RefusedAt, TooLong, Stop, AtEnd, AtFault, AtLimit, then_limited, limited_from, stop_due, audit_due_of}
use Rattle.send_model.specs.Answer.{Done, Refused, Usage, InputFault, OutputFault, NoMemory, InputTooLong, TooMuch, InputChanged}
use Rattle.send_model.specs.Words.{new_guards}
use Rattle.send_model.specs.Overridden.{overridden_items}
use Rattle.store_model.specs.Image.{limit_of, front_of, reserve}
use Rattle.store_model.specs.Stored.{as_bytes, body_bytes, StandsFor}
use Rattle.store_model.specs.NamedFiles.{NamedFiles, read_of, AreGiven}
use Rattle.store_model.specs.States.{IsBetween, is_complete, complete_behind, received, left_by, complete_line, HasNumbers, lines_behind, received_lines, lines_in}
use Rattle.store_model.specs.Requests.{ReceiveFiles, at_entry}
use Rattle.store_model.specs.Dues.{Ends, LogFull, receive_due, receive_left, IsReceiveDue, ReceiveSays}
use Rattle.store_model.specs.Answers as answers
use Rattle.store_model.specs.Answers.{Answer, OfAnyWord, StoreFault, Answers}
use Rattle.store_model.specs.Meanings.{completed_behind, HasWhatIsTold, StandsForWhatIsTold, OnTheWayIsTold, OnTheWayIsInFront, OnTheWayHasGroups, ReceiveIsTold, ReceiveHasGroups, ReceiveIsDone, ReceiveIsRefused, ReceiveIsDue, ReceiveIsFull}
use Rattle.send_model.proofs.Keeping.{all_filtered}
use Rattle.send_model.proofs.ElementLaws.{all_drop}
use Rattle.store_model.proofs.OneStore.{one_store}
use Rattle.store_model.proofs.Numbers.{stored_has_numbers, received_has_numbers}
use Rattle.store_model.proofs.CompleteLines.{lines_are_counted, first_lines}
use Rattle.store_model.proofs.Betweens.{between_has_them}
use Rattle.store_model.proofs.LeftStores.{left_is_state, left_is_received}
use Rattle.store_model.proofs.StoreAnswers.{gate_one, receive_is_audit}
use Rattle.store_model.proofs.ReadFronts.{limited_is_front}

-- ---- on the way

small_behind : (start store : Store ℕ) → HasNumbers store → HasNumbers (completed_behind start store)
small_behind start store small =
    all_filtered (λ e. e.key.ctransid < 2 ^ 64) is_complete (drop (length start) store) (all_drop (λ e. e.key.ctransid < 2 ^ 64) (length start) store small)

told : (start end now : Store ℕ) (written unwritten : List ℕ) → HasNumbers end → IsBetween (lines_in written) start end now
    → lines_behind start end ≡ written ++ unwritten → HasWhatIsTold start written now
unfolding lines_behind
told start end now written unwritten small between is =
    let them = between_has_them (lines_in written) start end now between in
    let lines = first_lines (completed_behind start end) written unwritten (small_behind start end small) is in
    record {
      begins = them.0;
      enough = them.1;
      part = lines.0;
      lines = lines.1 ∙ ap (λ (es : Store ℕ). flat_map complete_line es ++ lines.0)
          (ap (take (lines_in written)) them.2.1 ∙ take-append-le (lines_in written) (completed_behind start now) them.2.0 them.1);
      part_is = lines.2;
    }

pub on_the_way_is_told : OnTheWayIsTold
on_the_way_is_told before image guards files store written are h = (
  h.now,
  h.is,
  told store (left_by store guards files) h.now written h.unwritten
      (received_has_numbers store guards files (stored_has_numbers 0 as_bytes before store h.stands) are) h.state h.lines,
)

pub on_the_way_is_in_front : OnTheWayIsInFront
on_the_way_is_in_front before image guards files store written h = (h.unwritten, h.lines)

pub on_the_way_has_groups : OnTheWayHasGroups
on_the_way_has_groups before image guards files store written h = (h.stands, (h.first, h.more, h.all, h.groups))

-- ---- where the answer is due

-- all lines of a store on the way, and ended more
whole_told : (start end now : Store ℕ) (written : List ℕ) → HasNumbers now → IsBetween (complete_behind start now) start end now → written ≡ lines_behind start now → HasWhatIsTold start written now
unfolding lines_behind
whole_told start end now written small between is =
    let them = between_has_them (complete_behind start now) start end now between in
    let count : lines_in written ≡ length (completed_behind start now) =
    ap (λ (l : List ℕ). lines_in l) is ∙ lines_are_counted (completed_behind start now) (small_behind start now small) in
    record {
      begins = them.0;
      enough = omega (arith, count);
      part = [];
      lines = is ∙ ap (λ (es : Store ℕ). flat_map complete_line es) (sym (ap (λ (n : ℕ). take n (completed_behind start now)) count ∙ take-length (completed_behind start now)))
          ∙ sym (append-nil (flat_map complete_line (take (lines_in written) (completed_behind start now))));
      part_is = refl;
    }

said_told : (before : List ℕ) (guards : List Guard) (files : NamedFiles) (store : Store ℕ) (written left : List ℕ) → AreGiven files → ReceiveSays before guards files store written left → StandsForWhatIsTold store written left
said_told before guards files store written left are h =
    let most : ℕ = limit_of h.0.header in
    let gate : ℕ = length (front_of h.0.header (map body_bytes h.0.groups)) in
    let now : Store ℕ = receive_left most gate store guards files in
    (now, h.1.1, whole_told store (left_by store guards files) now written (stored_has_numbers 0 as_bytes left now h.1.1) (left_is_state most gate store guards files are) h.1.0)

pub receive_is_told : ReceiveIsTold
receive_is_told guards place at words image files store (OfAnyWord Done) written left stands are h = said_told image (new_guards guards) files store written left are (h.1.0 store stands)
receive_is_told guards place at words image files store (OfAnyWord (Refused verdict)) written left stands are h = said_told image (new_guards guards) files store written left are (h.1.0 store stands)
receive_is_told guards place at words image files store (OfAnyWord (InputTooLong file)) written left stands are h = said_told image (new_guards guards) files store written left are (h.1.0 store stands)
receive_is_told guards place at words image files store (OfAnyWord (TooMuch sum)) written left stands are h = said_told image (new_guards guards) files store written left are (h.1.0 store stands)
receive_is_told guards place at words image files store (answers.NotStore group) written left stands are h = said_told image (new_guards guards) files store written left are (h.1.0 store stands)
receive_is_told guards place at words image files store (answers.Missing what) written left stands are h = said_told image (new_guards guards) files store written left are (h.1.0 store stands)
receive_is_told guards place at words image files store (answers.LogFull end wanted most) written left stands are h = said_told image (new_guards guards) files store written left are (h.1.0 store stands)
receive_is_told guards place at words image files store (answers.StoreThere size) written left stands are h = said_told image (new_guards guards) files store written left are (h.1.0 store stands)
receive_is_told guards place at words image files store (answers.Damaged group stored computed) written left stands are h = said_told image (new_guards guards) files store written left are (h.1.0 store stands)
receive_is_told guards place at words image files store (OfAnyWord InputFault) written left stands are h = on_the_way_is_told image left (new_guards guards) files store written are (h.1.0 store stands)
receive_is_told guards place at words image files store (OfAnyWord NoMemory) written left stands are h = on_the_way_is_told image left (new_guards guards) files store written are (h.0 store stands)
receive_is_told guards place at words image files store (OfAnyWord OutputFault) written left stands are h = on_the_way_is_told image left (new_guards guards) files store written are (h.0 store stands).0
receive_is_told guards place at words image files store StoreFault written left stands are h = on_the_way_is_told image left (new_guards guards) files store written are (h.0 store stands)
receive_is_told guards place at words image files store (OfAnyWord (InputChanged file again)) written left stands are h = absurd h.0
receive_is_told guards place at words image files store (OfAnyWord Usage) written left stands are h = absurd h

-- ---- groups

pub receive_has_groups : ReceiveHasGroups
receive_has_groups guards place at words image files store (OfAnyWord Done) written left stands h = (let says = h.1.0 store stands in (says.0, says.2))
receive_has_groups guards place at words image files store (OfAnyWord (Refused verdict)) written left stands h = (let says = h.1.0 store stands in (says.0, says.2))
receive_has_groups guards place at words image files store (OfAnyWord (InputTooLong file)) written left stands h = (let says = h.1.0 store stands in (says.0, says.2))
receive_has_groups guards place at words image files store (OfAnyWord (TooMuch sum)) written left stands h = (let says = h.1.0 store stands in (says.0, says.2))
receive_has_groups guards place at words image files store (answers.NotStore group) written left stands h = (let says = h.1.0 store stands in (says.0, says.2))
receive_has_groups guards place at words image files store (answers.Missing what) written left stands h = (let says = h.1.0 store stands in (says.0, says.2))
receive_has_groups guards place at words image files store (answers.LogFull end wanted most) written left stands h = (let says = h.1.0 store stands in (says.0, says.2))
receive_has_groups guards place at words image files store (answers.StoreThere size) written left stands h = (let says = h.1.0 store stands in (says.0, says.2))
receive_has_groups guards place at words image files store (answers.Damaged group stored computed) written left stands h = (let says = h.1.0 store stands in (says.0, says.2))
receive_has_groups guards place at words image files store (OfAnyWord InputFault) written left stands h = on_the_way_has_groups image left (new_guards guards) files store written (h.1.0 store stands)
receive_has_groups guards place at words image files store (OfAnyWord NoMemory) written left stands h = on_the_way_has_groups image left (new_guards guards) files store written (h.0 store stands)
receive_has_groups guards place at words image files store (OfAnyWord OutputFault) written left stands h = on_the_way_has_groups image left (new_guards guards) files store written (h.0 store stands).0
receive_has_groups guards place at words image files store StoreFault written left stands h = on_the_way_has_groups image left (new_guards guards) files store written (h.0 store stands)
receive_has_groups guards place at words image files store (OfAnyWord (InputChanged file again)) written left stands h = absurd h.0
receive_has_groups guards place at words image files store (OfAnyWord Usage) written left stands h = absurd h

-- ---- with status 0 and 1

-- Reading does not stop at the limit of a file.
abbrev IsNoLimit : Stop → Type 0
IsNoLimit AtEnd = ⊤
IsNoLimit (AtFault verdict) = ⊤
IsNoLimit (AtLimit file) = ⊥

-- then all was read
all_read : (number : ℕ) (files : List (List ℕ)) → IsNoLimit (limited_from number files).stop → (limited_from number files).items ≡ (input_from number files).items
unfolding limited_from input_from
all_read number [] ended = refl
all_read number (bytes ∷ files) ended = one (is_too_long number bytes) (reads number bytes).items (reads number bytes).end ended (all_read (number + 1) files)
  where
    one : (b : Bool) (items : List Item) (end : Ending)
        → IsNoLimit (if b then record { items = (reads number (take limit bytes)).items; stop = AtLimit number } else then_limited items end (limited_from (number + 1) files)).stop
        → (IsNoLimit (limited_from (number + 1) files).stop → (limited_from (number + 1) files).items ≡ (input_from (number + 1) files).items)
        → (if b then record { items = (reads number (take limit bytes)).items; stop = AtLimit number } else then_limited items end (limited_from (number + 1) files)).items
        ≡ (joined (record { items = items; end = end }) (input_from (number + 1) files)).items
    one true items end ended more = absurd ended
    one false items Whole ended more = ap (λ (l : List Item). items ++ l) (more ended)
    one false items (Faulty verdict) ended more = refl

named_read : (files : NamedFiles) → IsNoLimit (read_of files).limited.stop → (read_of files).limited.items ≡ (read_of files).reading.items
unfolding input
named_read files ended = ap (overridden_items files.overrides) (all_read 1 files.bytes ended)

abbrev does : Watched (State ℕ) → Item → After (Watched (State ℕ))
does w item = watched_step (λ s i. step 0 (byte_cells i) s i.command) w item

-- What is refused early is refused with more items too, and nothing more is done.
refused_early : (w : Watched (State ℕ)) (items more : List Item) (verdict : Verdict) → (run_by does w items).refused ≡ Some verdict → run_by does w (items ++ more) ≡ run_by does w items
unfolding run_by
refused_early w [] more verdict e = cc
refused_early w (item ∷ items) more verdict e = one (does w item).refusal e (λ q. refused_early (does w item).state items more verdict q)
  where
    next : Watched (State ℕ)
    next = (does w item).state

    one : (o : Option Refusal) → (then_run item (record { state = next; refusal = o }) (run_by does next items)).refused ≡ Some verdict
        → ((run_by does next items).refused ≡ Some verdict → run_by does next (items ++ more) ≡ run_by does next items)
        → then_run item (record { state = next; refusal = o }) (run_by does next (items ++ more)) ≡ then_run item (record { state = next; refusal = o }) (run_by does next items)
    one None q later = later q
    one (Some refusal) q later = refl

abbrev run_of : Store ℕ → List Guard → List Item → Ran (Watched (State ℕ))
run_of store guards items = run_by does (record { guards = guards; state = start_of store }) items

-- An audit that is done, or refuses, has read all that there is to read before its end.
abbrev IsAtEnd : stream_dues.Due → Type 0
IsAtEnd DoneWhole = ⊤
IsAtEnd (RefusedAt verdict) = ⊤
IsAtEnd (TooLong file) = ⊥
IsAtEnd (stream_dues.TooMuch sum) = ⊥

same_run : (store : Store ℕ) (guards : List Guard) (files : NamedFiles) (due : stream_dues.Due) → AreGiven files → IsAtEnd due → audit_due_of store guards (read_of files).limited ≡ due
    → run_of store guards (read_of files).limited.items ≡ run_of store guards (read_of files).reading.items
same_run store guards files due are ends e = one (run_of store guards (read_of files).limited.items).refused refl e
  where
    front : (rest : List Item) × ((read_of files).reading.items ≡ (read_of files).limited.items ++ rest)
    front = limited_is_front files are

    by_stop : (stop : Stop) → (read_of files).limited.stop ≡ stop → stop_due stop ≡ due → run_of store guards (read_of files).limited.items ≡ run_of store guards (read_of files).reading.items
    by_stop AtEnd is q = ap (run_of store guards) (named_read files (subst IsNoLimit (sym is) tt))
    by_stop (AtFault verdict) is q = ap (run_of store guards) (named_read files (subst IsNoLimit (sym is) tt))
    by_stop (AtLimit file) is q = absurd (subst IsAtEnd (sym q) ends)

    one : (o : Option Verdict) → (run_of store guards (read_of files).limited.items).refused ≡ o
        → (elim o as (λ x. stream_dues.Due) [ Some verdict ↦ RefusedAt verdict | None ↦ stop_due (read_of files).limited.stop ]) ≡ due
        → run_of store guards (read_of files).limited.items ≡ run_of store guards (read_of files).reading.items
    one (Some verdict) is q =
        sym (refused_early (record { guards = guards; state = start_of store }) (read_of files).limited.items front.0 verdict is) ∙ ap (run_of store guards) (sym front.1)
    one None is q = by_stop (read_of files).limited.stop refl q

-- so what it leaves is what receiving leaves
left_whole : (most gate : ℕ) (store : Store ℕ) (guards : List Guard) (files : NamedFiles) (due : stream_dues.Due) → AreGiven files → IsAtEnd due → Ends due ≡ receive_due most gate store guards files
    → receive_left most gate store guards files ≡ left_by store guards files
unfolding received receive_watched
left_whole most gate store guards files due are ends e =
    left_is_received most gate store guards files due (sym e)
    ∙ ap (λ (r : Ran (Watched (State ℕ))). r.state.state.store) (same_run store guards files due are ends (one (receive_is_audit most gate store guards files)))
  where
    one : ((receive_due most gate store guards files ≡ Ends (audit_due_of store guards (read_of files).limited))
        ⊎ ((end : ℕ) × (wanted : ℕ) × (receive_due most gate store guards files ≡ LogFull end wanted most) × (most < end + wanted + reserve)))
        → audit_due_of store guards (read_of files).limited ≡ due
    one (inl is) = let q : Ends due ≡ Ends (audit_due_of store guards (read_of files).limited) = e ∙ is in cc
    one (inr full) = let q : Ends due ≡ LogFull full.0 full.1 most = e ∙ full.2 in cc

said_whole : (before : List ℕ) (guards : List Guard) (files : NamedFiles) (store : Store ℕ) (due : stream_dues.Due) (written left : List ℕ) → AreGiven files → IsAtEnd due
    → IsReceiveDue before guards files store (Ends due) → ReceiveSays before guards files store written left
    → (written ≡ received_lines store guards files) × StandsFor left (left_by store guards files)
said_whole before guards files store due written left are ends is says = one (same_room (says.0) (is.0))
  where
    most : StandsFor before store → ℕ
    most s = limit_of s.header

    gate : StandsFor before store → ℕ
    gate s = length (front_of s.header (map body_bytes s.groups))

    one : ((most says.0 ≡ most is.0) × (gate says.0 ≡ gate is.0)) → (written ≡ received_lines store guards files) × StandsFor left (left_by store guards files)
    one same =
        let left_is : receive_left (most says.0) (gate says.0) store guards files ≡ left_by store guards files =
        left_whole (most says.0) (gate says.0) store guards files due are ends (is.1 ∙ (λ i. receive_due (sym same.0 i) (sym same.1 i) store guards files)) in
        (says.1.0 ∙ ap (λ (s : Store ℕ). lines_behind store s) left_is, subst (λ (s : Store ℕ). StandsFor left s) left_is says.1.1)

    same_room : (a b : StandsFor before store) → (most a ≡ most b) × (gate a ≡ gate b)
    same_room a b = gate_one before store a b

-- by the one store that the image stands for
due_over : (image : List ℕ) (guards : List Guard) (files : NamedFiles) (store : Store ℕ) (due : stream_dues.Due) → StandsFor image store
    → (found : Store ℕ) × StandsFor image found × IsReceiveDue image guards files found (Ends due) → IsReceiveDue image guards files store (Ends due)
due_over image guards files store due stands h = subst (λ (s : Store ℕ). IsReceiveDue image guards files s (Ends due)) (one_store 0 as_bytes image h.0 store h.1 stands) h.2

pub receive_is_done : ReceiveIsDone
receive_is_done guards place at words image files store written left stands are h =
    said_whole image (new_guards guards) files store DoneWhole written left are tt (due_over image (new_guards guards) files store DoneWhole stands h.0) (h.1.0 store stands)

pub receive_is_refused : ReceiveIsRefused
receive_is_refused guards place at words image files store verdict written left stands are h =
    said_whole image (new_guards guards) files store (RefusedAt verdict) written left are tt (due_over image (new_guards guards) files store (RefusedAt verdict) stands h.0) (h.1.0 store stands)

-- ---- what files decide, and where there is no room

pub receive_is_due : ReceiveIsDue
receive_is_due guards place at words image files store due written left stands h = one due h
  where
    is_due : (due : stream_dues.Due) → (found : Store ℕ) × StandsFor image found × IsReceiveDue image (new_guards guards) files found (Ends due) → audit_due_of store (new_guards guards) (read_of files).limited ≡ due
    is_due due d = same (due_over image (new_guards guards) files store due stands d)
      where
        same : IsReceiveDue image (new_guards guards) files store (Ends due) → audit_due_of store (new_guards guards) (read_of files).limited ≡ due
        same (room, e) = by_audit (receive_is_audit (limit_of room.header) (length (front_of room.header (map body_bytes room.groups))) store (new_guards guards) files)
          where
            by_audit : ((receive_due (limit_of room.header) (length (front_of room.header (map body_bytes room.groups))) store (new_guards guards) files ≡ Ends (audit_due_of store (new_guards guards) (read_of files).limited))
                ⊎ ((end : ℕ) × (wanted : ℕ) × (receive_due (limit_of room.header) (length (front_of room.header (map body_bytes room.groups))) store (new_guards guards) files ≡ LogFull end wanted (limit_of room.header))
                × (limit_of room.header < end + wanted + reserve)))
                → audit_due_of store (new_guards guards) (read_of files).limited ≡ due
            by_audit (inl is) = let q : Ends due ≡ Ends (audit_due_of store (new_guards guards) (read_of files).limited) = e ∙ is in cc
            by_audit (inr full) = let q : Ends due ≡ LogFull full.0 full.1 (limit_of room.header) = e ∙ full.2 in cc

    one : (due : stream_dues.Due) → Answers (ReceiveFiles guards place at) (at_entry words image files) (OfAnyWord (answers.answered due)) written left
        → audit_due_of store (new_guards guards) (read_of files).limited ≡ due
    one DoneWhole h = is_due DoneWhole h.0
    one (RefusedAt verdict) h = is_due (RefusedAt verdict) h.0
    one (TooLong file) h = is_due (TooLong file) h.0
    one (stream_dues.TooMuch sum) h = is_due (stream_dues.TooMuch sum) h.0

-- the limit that is told is that of the room, and what has no room goes past it
full_of : (most gate : ℕ) (store : Store ℕ) (guards : List Guard) (files : NamedFiles) (end wanted limit : ℕ) → LogFull end wanted limit ≡ receive_due most gate store guards files
    → (limit ≡ most) × (limit < end + wanted + reserve)
full_of most gate store guards files end wanted limit e = one (receive_is_audit most gate store guards files)
  where
    one : ((receive_due most gate store guards files ≡ Ends (audit_due_of store guards (read_of files).limited))
        ⊎ ((end : ℕ) × (wanted : ℕ) × (receive_due most gate store guards files ≡ LogFull end wanted most) × (most < end + wanted + reserve)))
        → (limit ≡ most) × (limit < end + wanted + reserve)
    one (inl is) = let q : LogFull end wanted limit ≡ Ends (audit_due_of store guards (read_of files).limited) = e ∙ is in cc
    one (inr full) =
        let q : LogFull end wanted limit ≡ LogFull full.0 full.1 most = e ∙ full.2 in
        let same : limit ≡ most = cc in
        let place : end ≡ full.0 = cc in
        let asked : wanted ≡ full.1 = cc in
        (same, omega (arith, same, place, asked, full.3))

pub receive_is_full : ReceiveIsFull
receive_is_full guards place at words image files store end wanted limit written left stands h =
    two (subst (λ (s : Store ℕ). IsReceiveDue image (new_guards guards) files s (LogFull end wanted limit)) (one_store 0 as_bytes image h.0.0 store h.0.1 stands) h.0.2) (h.1.0 store stands)
  where
    two : IsReceiveDue image (new_guards guards) files store (LogFull end wanted limit) → ReceiveSays image (new_guards guards) files store written left
        → (stands : StandsFor image store) × (limit ≡ limit_of stands.header) × (limit < end + wanted + reserve)
        × (let gate = length (front_of stands.header (map body_bytes stands.groups)) in let kept = receive_left limit gate store (new_guards guards) files in
        (answers.LogFull end wanted limit ≡ answers.answer_of (receive_due limit gate store (new_guards guards) files)) × (written ≡ lines_behind store kept) × StandsFor left kept)
    two (room, e) (own, says, groups) =
        let gate : ℕ = length (front_of own.header (map body_bytes own.groups)) in
        let same = gate_one image store own room in
        let is = full_of (limit_of room.header) (length (front_of room.header (map body_bytes room.groups))) store (new_guards guards) files end wanted limit e in
        let most : limit ≡ limit_of own.header = is.0 ∙ sym same.0 in
        let kept : receive_left (limit_of own.header) gate store (new_guards guards) files ≡ receive_left limit gate store (new_guards guards) files =
        ap (λ (n : ℕ). receive_left n gate store (new_guards guards) files) (sym most) in (
          own,
          most,
          is.1,
          (
            ap answers.answer_of (e ∙ (λ i. receive_due (sym is.0 i) (sym same.1 i) store (new_guards guards) files)),
            says.0 ∙ ap (λ (s : Store ℕ). lines_behind store s) kept,
            subst (λ (s : Store ℕ). StandsFor left s) kept says.1,
          ),
        )
