-- An audit is receiving under its guards: of the files, or of what stands before the limit of the
-- first that is too long.
use Rattle.std.specs.Prelude.{◌≡◌, ℕ, ◌+◌, Bool, true, false, List, [], ◌∷◌, ◌++◌, take, Option, None, Some, if◌then◌else◌}
use Rattle.std.specs.Option.{option_map}
use Rattle.std.proofs.Common.{refl, ap, ◌∙◌}
use Rattle.send_model.specs.Reading.{Item, Verdict, Ending, Whole, Faulty, Reading, reads, joined, input, input_from}
use Rattle.send_model.specs.Lengths.{limit, is_too_long, unless_faulty, too_long, too_long_from}
use Rattle.send_model.specs.Store.{State}
use Rattle.send_model.specs.Receive.{run_by, first_of, fault_of, start_of}
use Rattle.send_model.specs.Guards.{Watched, watched_step, receive_watched, receive_under}
use Rattle.send_model.specs.GuardLaws.{AuditIsReceiving, AuditStopsAtLimit}
use Rattle.send_model.specs.Due.{Due, RefusedAt, TooLong, refused_due, or_due, Stop, AtEnd, AtFault, AtLimit, Limited, then_limited, limited_from, stop_due, audit_due}
use Rattle.send_model.proofs.Guarding.{does_step}
use Rattle.send_model.proofs.LongFiles.{limited_by, first_long_is_named, named_stops_reading, read_to_the_limit}

abbrev pub stop_of : Ending → Stop
stop_of Whole = AtEnd
stop_of (Faulty verdict) = AtFault verdict

abbrev pub as_limited : Reading → Limited
as_limited reading = record { items = reading.items; stop = stop_of reading.end }

-- Where no file is too long, files are read up to the limit as they are read.
pub limited_is : (number : ℕ) (files : List (List ℕ)) → too_long_from number files ≡ None → limited_from number files ≡ as_limited (input_from number files)
unfolding too_long_from limited_from input_from
limited_is number [] e = refl
limited_is number (bytes ∷ files) e = one (is_too_long number bytes) (reads number bytes).items (reads number bytes).end e (λ q. limited_is (number + 1) files q)
  where
    one : (b : Bool) (items : List Item) (ending : Ending) → (if b then Some number else unless_faulty ending (too_long_from (number + 1) files)) ≡ None
        → (too_long_from (number + 1) files ≡ None → limited_from (number + 1) files ≡ as_limited (input_from (number + 1) files))
        → limited_by b (reads number (take limit bytes)).items number items ending (limited_from (number + 1) files)
        ≡ as_limited (joined (record { items = items; end = ending }) (input_from (number + 1) files))
    one true items ending f more = cc
    one false items Whole f more = ap (λ (l : Limited). then_limited items Whole l) (more f)
    one false items (Faulty verdict) f more = refl

-- The answer, by what a run refused and by how reading stopped.
abbrev pub answer_of : Option Verdict → Stop → Due
answer_of refused stop = elim refused [ Some verdict ↦ RefusedAt verdict | None ↦ stop_due stop ]

pub answer_is : (refused : Option Verdict) (ending : Ending) → answer_of refused (stop_of ending) ≡ refused_due (first_of refused (fault_of ending))
answer_is (Some verdict) ending = refl
answer_is None Whole = refl
answer_is None (Faulty verdict) = refl

pub audit_is_receiving : AuditIsReceiving
unfolding too_long audit_due input receive_under receive_watched
audit_is_receiving store guards files none =
    let w : Watched (State ℕ) = record { guards = guards; state = start_of store } in
    let reading : Reading = input_from 1 files in
    ap (λ (l : Limited). answer_of (run_by (watched_step does_step) w l.items).refused l.stop) (limited_is 1 files none)
    ∙ answer_is (run_by (watched_step does_step) w reading.items).refused reading.end

-- ---- where a file is too long

pub long_answer : (refused : Option Verdict) (n : ℕ) → answer_of refused (AtLimit n) ≡ or_due (option_map RefusedAt (first_of refused None)) (TooLong n)
long_answer (Some verdict) n = refl
long_answer None n = refl

pub audit_stops_at_limit : AuditStopsAtLimit
unfolding audit_due input receive_watched
audit_stops_at_limit store guards files n first =
    let w : Watched (State ℕ) = record { guards = guards; state = start_of store } in
    let read : Limited = limited_from 1 files in
    let before : List Item = (input_from 1 (first.before ++ take limit first.bytes ∷ [])).items in
    ap (λ (items : List Item). answer_of (run_by (watched_step does_step) w items).refused read.stop) (read_to_the_limit 1 n files first)
    ∙ ap (λ (stop : Stop). answer_of (run_by (watched_step does_step) w before).refused stop) (named_stops_reading 1 n files (first_long_is_named 1 n files first))
    ∙ long_answer (run_by (watched_step does_step) w before).refused n
