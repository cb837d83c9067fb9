-- What answers of files that take turns mean.
use Rattle.std.specs.Prelude.{◌≡◌, ◌≤◌, ◌<◌, ◌^◌, ℕ, Bool, true, false, List, [], ◌∷◌, ◌++◌, length, take, map, ◌+◌, if◌then◌else◌}
use Rattle.std.specs.List.{AllByRecursion, flat_map}
use Rattle.std.proofs.Common.{refl, sym, ap, subst, ◌∙◌, inl, inr, arith, append_assoc, append-nil}
use Rattle.send_model.specs.Lengths.{limit, is_too_long}
use Rattle.send_model.specs.Subvolume.{Subvolume}
use Rattle.send_model.specs.Store.{Entry, Store}
use Rattle.send_model.specs.Due as files_due
use Rattle.send_model.specs.Due.{DoneWhole, RefusedAt, TooLong}
use Rattle.send_model.specs.Answer.{Done, Refused, Usage, InputFault, OutputFault, NoMemory, InputTooLong, TooMuch, InputChanged}
use Rattle.store_model.specs.Stored.{as_bytes, body_bytes, StandsFor, StandsForNone}
use Rattle.store_model.specs.Image.{limit_of, front_of, reserve}
use Rattle.store_model.specs.States.{complete_line, HasNumbers, lines_in}
use Rattle.store_model.specs.Dues as dues
use Rattle.store_model.specs.Dues.{Due, Ends}
use Rattle.store_model.specs.Answers.{OfAnyWord, StoreFault, NotStore, Missing, LogFull, StoreThere, Damaged}
use Rattle.store_model.specs.Turns.{Event, completed_parts, lines_of, sessions_from, turns_of}
use Rattle.store_model.specs.TurnLaws.{IsIn, IsComplete}
use Rattle.store_model.proofs.Entries.{in_left, in_right}
use Rattle.store_model.proofs.OneStore.{one_store, never_both}
use Rattle.store_model.proofs.Numbers.{stored_has_numbers}
use Rattle.store_model.proofs.CompleteLines.{lines_both, first_lines, lines_are_counted}
use Rattle.store_model.proofs.TurnMeanings.{entries_have_their_heads, lines_are_of_entries}
use Rattle.store_model.specs.TurnDues.{InTurns, files_read, room_of, interleave_end}
use Rattle.store_model.specs.TurnAnswers.{taken_turns, taken_lines, IsMadeBy, IsEndDue, TurnsDue}
use Rattle.store_model.specs.TurnDueLaws.{HasTaken}
use Rattle.store_model.specs.TurnMeanings.{StandsForWhatTurnsTold, OnTurnWayIsTold, OnTurnWayIsInFront, OnTurnWayHasGroups, TurnsAreTold, TurnsAreDone, TurnsAreRefused, TurnsAreFull, TurnsAreCut, NoTurnsOverNone, LongIsCut, ShortIsWhole}
use Rattle.store_model.proofs.TurnEnds.{end_is_full}
use Rattle.store_model.proofs.TurnJoining.{lines_joined}
use Rattle.store_model.proofs.TurnTaken.{ends_are_taken}

-- ---- what stands in a list

-- what holds of each element holds of all
all_of : {A : Type 0} (P : A → Type 0) (xs : List A) → ((x : A) → IsIn x xs → P x) → AllByRecursion P xs
all_of P [] h = tt
all_of P (x ∷ xs) h = (h x (inl refl), all_of P xs (λ y there. h y (inr there)))

-- and of each that stands there
each_of : {A : Type 0} (P : A → Type 0) (xs : List A) (x : A) → AllByRecursion P xs → IsIn x xs → P x
each_of P [] x all there = absurd there
each_of P (y ∷ xs) x all (inl same) = subst P (sym same) all.0
each_of P (y ∷ xs) x all (inr there) = each_of P xs x all.1 there

-- as many lines stand whole in what was written as there are entries at most
counted : (es : Store ℕ) (written unwritten : List ℕ) → HasNumbers es → flat_map complete_line es ≡ written ++ unwritten → lines_in written ≤ length es
counted es written unwritten small is = omega (arith, lines_both written unwritten, ap (λ (l : List ℕ). lines_in l) is, lines_are_counted es small)

-- ---- on the way

-- what some events made has an entry for each part that completed among them, with the line that
-- was due
made_told : (turns : InTurns) (before : List ℕ) (store : Store ℕ) (events : List Event) (written unwritten image : List ℕ)
    → IsMadeBy turns before store events image → lines_of events ≡ written ++ unwritten → StandsForWhatTurnsTold store written image
unfolding lines_of
made_told turns before store events written unwritten image made lines =
    let new : Store ℕ = made.order.new in
    let complete : AllByRecursion IsComplete new = (entries_have_their_heads (completed_parts events) new made.order.parts).1 in
    let there : (e : Entry (Subvolume ℕ)) → IsIn e new → IsIn e made.now =
    λ e inside. (made.order.complete e (each_of IsComplete new e complete inside)).1 (in_right e store new inside) in
    let small : HasNumbers new = all_of (λ e. e.key.ctransid < 2 ^ 64) new
    (λ e inside. each_of (λ e. e.key.ctransid < 2 ^ 64) made.now e (stored_has_numbers 0 as_bytes image made.now made.is) (there e inside)) in
    let all : flat_map complete_line new ≡ written ++ unwritten = sym (lines_are_of_entries (completed_parts events) new made.order.parts) ∙ lines in
    let first = first_lines new written unwritten small all in (
      made.now,
      made.is,
      record {
        new = new;
        complete = complete;
        there = there;
        kept = λ e is inside. (made.order.complete e is).1 (in_left e store new inside);
        enough = counted new written unwritten small all;
        part = first.0;
        lines = first.1;
        part_is = first.2;
      },
    )

pub on_turn_way_is_told : OnTurnWayIsTold
on_turn_way_is_told turns before store written image h = made_told turns before store h.first written h.unwritten image h.made h.lines

pub on_turn_way_is_in_front : OnTurnWayIsInFront
on_turn_way_is_in_front turns before store written image h = (
  h.unwritten ++ lines_of h.more,
  ap lines_of h.all ∙ lines_joined h.first h.more ∙ ap (λ (l : List ℕ). l ++ lines_of h.more) h.lines ∙ append_assoc written h.unwritten (lines_of h.more),
)

pub on_turn_way_has_groups : OnTurnWayHasGroups
on_turn_way_has_groups turns before store written image h = (h.made.stands, (h.first, h.more, h.all, h.made.groups))

-- ---- where the answer is due

due_told : (turns : InTurns) (before : List ℕ) (store : Store ℕ) (due : Due) (written image : List ℕ) → StandsFor before store → TurnsDue turns before due written image → StandsForWhatTurnsTold store written image
due_told turns before store due written image stands h =
    subst (λ (s : Store ℕ). StandsForWhatTurnsTold s written image) (one_store 0 as_bytes before h.0 store h.1 stands)
    (made_told turns before h.0 _ written [] image h.2.made (sym h.2.lines ∙ sym (append-nil written)))

pub turns_are_told : TurnsAreTold
turns_are_told turns before store (OfAnyWord Done) written image stands h = due_told turns before store (Ends DoneWhole) written image stands h
turns_are_told turns before store (OfAnyWord (Refused verdict)) written image stands h = due_told turns before store (Ends (RefusedAt verdict)) written image stands h
turns_are_told turns before store (OfAnyWord (InputTooLong file)) written image stands h = due_told turns before store (Ends (TooLong file)) written image stands h
turns_are_told turns before store (LogFull end wanted most) written image stands h = due_told turns before store (dues.LogFull end wanted most) written image stands h
turns_are_told turns before store (NotStore group) written image stands h = absurd (never_both before store group stands h.0)
turns_are_told turns before store (OfAnyWord InputFault) written image stands h = on_turn_way_is_told turns before store written image (h.0 store stands)
turns_are_told turns before store (OfAnyWord NoMemory) written image stands h = on_turn_way_is_told turns before store written image (h.0 store stands)
turns_are_told turns before store StoreFault written image stands h = on_turn_way_is_told turns before store written image (h.0 store stands)
turns_are_told turns before store (OfAnyWord OutputFault) written image stands h = on_turn_way_is_told turns before store written image (h.0 store stands).0
turns_are_told turns before store (OfAnyWord (TooMuch sum)) written image stands h = absurd h
turns_are_told turns before store (OfAnyWord (InputChanged file place)) written image stands h = absurd h
turns_are_told turns before store (OfAnyWord Usage) written image stands h = absurd h
turns_are_told turns before store (Missing what) written image stands h = absurd h
turns_are_told turns before store (StoreThere size) written image stands h = absurd h
turns_are_told turns before store (Damaged group stored computed) written image stands h = absurd h

-- after all turns
taken_told : (turns : InTurns) (before : List ℕ) (store : Store ℕ) (due : files_due.Due) (written image : List ℕ) → StandsFor before store → HasTaken turns before due written image
    → (written ≡ taken_lines turns store) × StandsFor image (taken_turns turns store).store
taken_told turns before store due written image stands h =
    subst (λ (s : Store ℕ). (written ≡ taken_lines turns s) × StandsFor image (taken_turns turns s).store) (one_store 0 as_bytes before h.store store h.stood stands) (h.lines, h.stands)

pub turns_are_done : TurnsAreDone
turns_are_done turns before store written image are stands h =
    taken_told turns before store DoneWhole written image stands (ends_are_taken before written image turns DoneWhole are (λ file e. cc) h)

pub turns_are_refused : TurnsAreRefused
turns_are_refused turns before store verdict written image are stands h =
    taken_told turns before store (RefusedAt verdict) written image stands (ends_are_taken before written image turns (RefusedAt verdict) are (λ file e. cc) h)

pub turns_are_full : TurnsAreFull
turns_are_full turns before store place wanted most written image stands h = one (subst (λ (s : Store ℕ). IsEndDue turns before s (dues.LogFull place wanted most) written image) (one_store 0 as_bytes before h.0 store h.1 stands) h.2)
  where
    one : IsEndDue turns before store (dues.LogFull place wanted most) written image → (stands : StandsFor before store) × (most ≡ limit_of stands.header) × (most < place + wanted + reserve)
        × (dues.LogFull place wanted most ≡ (interleave_end (room_of most (length (front_of stands.header (map body_bytes stands.groups)))) store turns).due)
    one d =
        let gate : ℕ = length (front_of d.stands.header (map body_bytes d.stands.groups)) in
        let full = end_is_full (room_of (limit_of d.stands.header) gate) store turns place wanted most (sym d.is) in
        (d.stands, full.0, full.1, sym d.is ∙ ap (λ (n : ℕ). (interleave_end (room_of n gate) store turns).due) (sym full.0))

pub turns_are_cut : TurnsAreCut
turns_are_cut turns before store written image stands h = (h.0 store stands).1

-- ---- over no store

nothing_due : (turns : InTurns) (before : List ℕ) (group : ℕ) (due : Due) (written image : List ℕ) → StandsForNone before group → TurnsDue turns before due written image → ⊥
nothing_due turns before group due written image none h = never_both before h.0 group h.1 none

pub no_turns_over_none : NoTurnsOverNone
no_turns_over_none turns before group (OfAnyWord Done) written image none h = absurd (nothing_due turns before group (Ends DoneWhole) written image none h)
no_turns_over_none turns before group (OfAnyWord (Refused verdict)) written image none h = absurd (nothing_due turns before group (Ends (RefusedAt verdict)) written image none h)
no_turns_over_none turns before group (OfAnyWord (InputTooLong file)) written image none h = absurd (nothing_due turns before group (Ends (TooLong file)) written image none h)
no_turns_over_none turns before group (LogFull end wanted most) written image none h = absurd (nothing_due turns before group (dues.LogFull end wanted most) written image none h)
no_turns_over_none turns before group (NotStore at) written image none h = (h.1, h.2, λ e. cc, λ e. cc)
no_turns_over_none turns before group (OfAnyWord InputFault) written image none h = absurd (h.1 group none)
no_turns_over_none turns before group (OfAnyWord NoMemory) written image none h = let is = h.1 group none in (is.0, is.1, λ e. cc, λ e. cc)
no_turns_over_none turns before group StoreFault written image none h = let is = h.1 group none in (is.0, is.1, λ e. cc, λ e. cc)
no_turns_over_none turns before group (OfAnyWord OutputFault) written image none h = absurd (h.1 group none)
no_turns_over_none turns before group (OfAnyWord (TooMuch sum)) written image none h = absurd h
no_turns_over_none turns before group (OfAnyWord (InputChanged file place)) written image none h = absurd h
no_turns_over_none turns before group (OfAnyWord Usage) written image none h = absurd h
no_turns_over_none turns before group (Missing what) written image none h = absurd h
no_turns_over_none turns before group (StoreThere size) written image none h = absurd h
no_turns_over_none turns before group (Damaged at stored computed) written image none h = absurd h

-- ---- how far files are read

read_of : (b : Bool) (file : List ℕ) → is_too_long 1 file ≡ b → files_read 1 (file ∷ []) ≡ (if b then take limit file else file) ∷ []
unfolding files_read
read_of b file long = ap (λ (c : Bool). (if c then take limit file else file) ∷ []) long

pub long_is_cut : LongIsCut
long_is_cut store schedule file guards shares long = (
  ap (λ (files : List (List ℕ)). sessions_from 1 files guards shares) (read_of true file long),
  ap (λ (files : List (List ℕ)). turns_of store schedule files guards shares) (read_of true file long),
)

pub short_is_whole : ShortIsWhole
short_is_whole store schedule file guards shares short = (
  ap (λ (files : List (List ℕ)). sessions_from 1 files guards shares) (read_of false file short),
  ap (λ (files : List (List ℕ)). turns_of store schedule files guards shares) (read_of false file short),
)
