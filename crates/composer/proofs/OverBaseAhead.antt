-- Composing files over any base, as far as a loop over them has come: what is due, and what stands
-- written, where it stops and where all is done.
use Rattle.std.specs.Prelude.{◌≡◌, ◌≢◌, ℕ, ◌+◌, ◌<◌, ◌≤◌, true, false, List, [], ◌∷◌, ◌++◌, length, take, Option, None, Some, Err, is_some, option_map}
use Rattle.std.proofs.Common.{refl, sym, ap, subst, ◌∙◌, append-nil}
use Rattle.std.proofs.lemmas.Bool.{false≢true}
use Rattle.std.proofs.lemmas.List.{map-append}
use Rattle.send_model.specs.Refusal.{Refusal, NotConsecutive}
use Rattle.send_model.specs.Command.{End}
use Rattle.send_model.specs.Spelling.{canonical}
use Rattle.send_model.specs.Reading.{Item, Verdict, Reading, Whole, Faulty, ended, joined, with_item, input, input_from}
use Rattle.send_model.specs.Store.{Head, head_of, Store}
use Rattle.send_model.specs.Receive.{verdict_of}
use Rattle.send_model.specs.Cells.{recelled_state}
use Rattle.send_model.specs.Order.{heads, last_item}
use Rattle.send_model.specs.Outside.{base_of, keys_outside, FindsSayable}
use Rattle.send_model.specs.Composed.{first_head, last_head, version_of}
use Rattle.send_model.specs.Lengths.{too_long}
use Rattle.send_model.specs.Due.{DoneWhole, RefusedAt, reading_due, compose_due_of}
use Rattle.send_model.specs.Headline.{IsComposedOf, IsStoppedOf, stream_front, whole_output_of}
use Rattle.send_model.specs.Overridden.{Override, Overrides, override_for, overridden_as, overridden_item, overridden_items, overridden}
use Rattle.send_model.specs.Laws.{IsWhole, ReadingsHold}
use Rattle.file_survey.specs.Ahead.{IsAhead}
use Rattle.send_model.proofs.Tracing.{byte_of}
use Rattle.composer.specs.OverBase.{Plan, plan_for, Composing, Halt, Refuses, halt_due, advance, composed_up_to, written_with, AreReady}
use Rattle.file_survey.proofs.AheadSteps.{ahead_input, ahead_whole, ahead_fault}
use Rattle.composer.proofs.OverBaseProgress.{Progress}
use Rattle.composer.proofs.OverBaseEnds.{due_halted, due_at_fault, due_without_parts, due_done_whole, written_is, composed}
use Rattle.composer.proofs.LastHeads.{last_known}
use Rattle.composer.proofs.OverBaseRefused.{none_after, none_from, refused_whole}
use Rattle.composer.proofs.OverBaseStops.{stopped, stopped_end}

-- The answer that is due to files of which none is too long is that of what is read.
pub due_fits : (base : Store ℕ) (given : Overrides) (files : List (List ℕ)) → too_long files ≡ None → compose_due_of (too_long files) base (overridden given (input files)) ≡ reading_due base (overridden given (input files))
due_fits base given files e = ap (λ (o : Option ℕ). compose_due_of o base (overridden given (input files))) e

-- ---- what is ahead

-- All items with their names, where these are followed by others.
all_named : (given : Overrides) (files : List (List ℕ)) (items more : List Item) → (input files).items ≡ items ++ more → (overridden given (input files)).items ≡ overridden_items given items ++ overridden_items given more
all_named given files items more is = ap (overridden_items given) is ∙ map-append (overridden_item given) items more

items_ahead : (given : Overrides) (files : List (List ℕ)) (items : List Item) (left : Reading) (number : ℕ) (after : List (List ℕ)) → IsAhead files items left number after → (more : List Item) × ((overridden given (input files)).items ≡ overridden_items given items ++ more)
items_ahead given files items left number after is =
    let rest : Reading = joined left (input_from (number + 1) after) in
    (overridden_items given rest.items, all_named given files items rest.items (ap (λ (r : Reading). r.items) is))

-- An item that is not taken gives the answer.
pub halted_ahead : (base : Store ℕ) (given : Overrides) (files : List (List ℕ)) (items : List Item) (item : Item) (left next : Reading) (number : ℕ) (after : List (List ℕ)) (now : Composing) (sent : List ℕ) (halt : Halt)
    → IsAhead files items left number after → left ≡ with_item item next → Progress (plan_for base given files) (overridden_items given items) now sent → advance (plan_for base given files) now (overridden_item given item) ≡ Err halt
    → reading_due base (overridden given (input files)) ≡ halt_due (overridden_item given item) halt
halted_ahead base given files items item left next number after now sent halt is e p h =
    let all = ahead_input files items item left next number after is e in
    due_halted base (overridden given (input files)) (overridden_items given items) (overridden_item given item) (overridden_items given all.0) now sent halt
    (all_named given files items (item ∷ all.0) (ap (λ (r : Reading). r.items) all.2)) p h

-- So does a fault of reading.
pub fault_ahead : (base : Store ℕ) (given : Overrides) (files : List (List ℕ)) (items : List Item) (left : Reading) (verdict : Verdict) (number : ℕ) (after : List (List ℕ)) (now : Composing) (sent : List ℕ)
    → IsAhead files items left number after → left ≡ record { items = []; end = Faulty verdict } → Progress (plan_for base given files) (overridden_items given items) now sent → reading_due base (overridden given (input files)) ≡ RefusedAt verdict
fault_ahead base given files items left verdict number after now sent is e p =
    let all = ahead_fault files items left verdict number after is e in
    let same : overridden_items given items ≡ (overridden given (input files)).items = ap (λ (r : Reading). overridden_items given r.items) (sym all) in
    due_at_fault base (overridden given (input files)) verdict now sent (subst (λ (xs : List Item). Progress (plan_for base given files) xs now sent) same p) (ap (λ (r : Reading). r.end) all)

-- ---- all that is written where something is refused

-- Where an item is refused, what stands for those before it is all that is due.
pub refused_ahead : (base : Store ℕ) (given : Overrides) (files : List (List ℕ)) (items : List Item) (item : Item) (left next : Reading) (number : ℕ) (after : List (List ℕ)) (now : Composing) (sent : List ℕ) (refusal : Refusal) → AreReady base given files
    → IsAhead files items left number after → left ≡ with_item item next → Progress (plan_for base given files) (overridden_items given items) now sent → advance (plan_for base given files) now (overridden_item given item) ≡ Err (Refuses refusal)
    → sent ++ now.pending ≡ whole_output_of base (overridden given (input files))
refused_ahead base given files items item left next number after now sent refusal ready is e p h =
    let all = ahead_input files items item left next number after is e in
    let read : Reading = overridden given (input files) in
    let front : read.items ≡ overridden_items given items ++ overridden_item given item ∷ overridden_items given all.0 = all_named given files items (item ∷ all.0) (ap (λ (r : Reading). r.items) all.2) in
    let foreseen : (head : Head) → head_of (overridden_item given item).command ≡ Some head → (last : Head) × (last_head (heads read.items) ≡ Some last) =
    λ head q. (let l = last_known (overridden_items given items) (overridden_item given item) (overridden_items given all.0) head q in (l.0, ap (λ (xs : List Item). last_head (heads xs)) front ∙ l.1)) in
    refused_whole base read (overridden_items given items) (overridden_item given item ∷ overridden_items given all.0) now sent (verdict_of (overridden_item given item) refusal) ready.none front p
    (none_from (plan_for base given files) (overridden_item given item) (overridden_items given all.0) now refusal foreseen h)
    (halted_ahead base given files items item left next number after now sent (Refuses refusal) is e p h)

-- The same where reading ended at a fault.
pub faulty_ahead : (base : Store ℕ) (given : Overrides) (files : List (List ℕ)) (items : List Item) (left : Reading) (verdict : Verdict) (number : ℕ) (after : List (List ℕ)) (now : Composing) (sent : List ℕ) → AreReady base given files
    → IsAhead files items left number after → left ≡ record { items = []; end = Faulty verdict } → Progress (plan_for base given files) (overridden_items given items) now sent → sent ++ now.pending ≡ whole_output_of base (overridden given (input files))
faulty_ahead base given files items left verdict number after now sent ready is e p =
    let all = ahead_fault files items left verdict number after is e in
    let read : Reading = overridden given (input files) in
    let same : read.items ≡ overridden_items given items ++ [] = ap (λ (r : Reading). overridden_items given r.items) all ∙ sym (append-nil (overridden_items given items)) in
    refused_whole base read (overridden_items given items) [] now sent verdict ready.none same p (none_after (recelled_state byte_of now.state) now.previous)
    (fault_ahead base given files items left verdict number after now sent is e p)

-- ---- the end of the last file

-- All items of the files are taken, and reading came to a whole end.
record AtEnd (base : Store ℕ) (given : Overrides) (files : List (List ℕ)) (items : List Item) (now : Composing) (sent : List ℕ) : Type 0 where
  whole : (input files).end ≡ Whole
  same : overridden_items given items ≡ (overridden given (input files)).items
  progress : Progress (plan_for base given files) (overridden given (input files)).items now sent

at_end : (base : Store ℕ) (given : Overrides) (files : List (List ℕ)) (items : List Item) (left : Reading) (number : ℕ) (now : Composing) (sent : List ℕ) → IsAhead files items left number [] → left ≡ ended
    → Progress (plan_for base given files) (overridden_items given items) now sent → AtEnd base given files items now sent
at_end base given files items left number now sent is e p =
    let all = ahead_whole files items left number is e in
    let same : overridden_items given items ≡ (overridden given (input files)).items = ap (λ (r : Reading). overridden_items given r.items) (sym all) in
    record { whole = ap (λ (r : Reading). r.end) all; same = same; progress = subst (λ (xs : List Item). Progress (plan_for base given files) xs now sent) same p }

-- The stream has begun where there is a head, and only there.
some_heads : (plan : Plan) (items : List Item) (now : Composing) (sent : List ℕ) → Progress plan items now sent → now.begun ≡ true → heads items ≢ []
some_heads plan items now sent p b none = false≢true (ap (λ (hs : List Head). is_some (first_head hs)) (sym none) ∙ sym p.begun ∙ b)

no_heads : (plan : Plan) (items : List Item) (now : Composing) (sent : List ℕ) → Progress plan items now sent → now.begun ≡ false → heads items ≡ []
no_heads plan items now sent p b = by_heads (heads items) (sym p.begun ∙ b)
  where
    by_heads : (hs : List Head) → is_some (first_head hs) ≡ false → hs ≡ []
    by_heads [] e = refl
    by_heads (h ∷ hs) e = cc

-- The last of items with their names.
last_named : (given : Overrides) (items : List Item) (item : Item) → last_item items ≡ Some item → last_item (overridden_items given items) ≡ Some (overridden_item given item)
last_named given [] item e = cc
last_named given (x ∷ []) item e = ap (option_map (overridden_item given)) e
last_named given (x ∷ y ∷ items) item e = last_named given (y ∷ items) item e

pub verdict_named : (override : Override) (item : Item) (refusal : Refusal) → verdict_of (overridden_as override item) refusal ≡ verdict_of item refusal
verdict_named override item refusal = refl

-- Where no part has begun, the last command gives the answer.
pub empty_ahead : (base : Store ℕ) (given : Overrides) (files : List (List ℕ)) (items : List Item) (item : Item) (left : Reading) (number : ℕ) (now : Composing) (sent : List ℕ) → IsAhead files items left number [] → left ≡ ended
    → Progress (plan_for base given files) (overridden_items given items) now sent → now.begun ≡ false → last_item items ≡ Some item → reading_due base (overridden given (input files)) ≡ RefusedAt (verdict_of item NotConsecutive)
empty_ahead base given files items item left number now sent is e p b last =
    let a = at_end base given files items left number now sent is e p in
    due_without_parts base (overridden given (input files)) (overridden_item given item) now sent a.progress a.whole (no_heads (plan_for base given files) (overridden given (input files)).items now sent a.progress b)
    (ap last_item (sym a.same) ∙ last_named given items item last)
    ∙ ap RefusedAt (verdict_named (override_for given item.file) item NotConsecutive)

-- And nothing is due to be written.
pub nothing_ahead : (base : Store ℕ) (given : Overrides) (files : List (List ℕ)) (items : List Item) (item : Item) (left : Reading) (number : ℕ) (now : Composing) (sent : List ℕ) → AreReady base given files → IsAhead files items left number [] → left ≡ ended
    → Progress (plan_for base given files) (overridden_items given items) now sent → now.begun ≡ false → last_item items ≡ Some item → sent ≡ whole_output_of base (overridden given (input files))
nothing_ahead base given files items item left number now sent ready is e p b last =
    let read : Reading = overridden given (input files) in
    let plan : Plan = plan_for base given files in
    let a = at_end base given files items left number now sent is e p in
    let none : heads read.items ≡ [] = no_heads plan read.items now sent a.progress b in
    let nothing : sent ++ now.pending ≡ [] = a.progress.bytes ∙ written_none plan read.items plan.last none in
    sym (first_empty sent now.pending nothing) ∙ sym nothing
    ∙ refused_whole base read read.items [] now sent (verdict_of item NotConsecutive) ready.none (sym (append-nil read.items)) a.progress (none_after (recelled_state byte_of now.state) now.previous)
    (empty_ahead base given files items item left number now sent is e p b last)
  where
    written_none : (plan : Plan) (items : List Item) (l : Option Head) → heads items ≡ [] → written_with plan l items ≡ []
    written_none plan items None none = refl
    written_none plan items (Some head) none = ap (λ (hs : List Head). stream_front plan.version (composed_up_to plan (first_head hs) head items)) none

    first_empty : (xs ys : List ℕ) → xs ++ ys ≡ [] → [] ≡ xs
    first_empty [] ys e = refl
    first_empty (x ∷ xs) ys e = cc

-- Where one has, all is done: what is written with END is all that is due.
pub done_ahead : (base : Store ℕ) (given : Overrides) (files : List (List ℕ)) (items : List Item) (left : Reading) (number : ℕ) (now : Composing) (sent : List ℕ) → IsAhead files items left number [] → left ≡ ended
    → Progress (plan_for base given files) (overridden_items given items) now sent → now.begun ≡ true
    → (reading_due base (overridden given (input files)) ≡ DoneWhole) × ((sent ++ now.pending) ++ canonical (version_of (overridden given (input files)).items) End ≡ whole_output_of base (overridden given (input files)))
done_ahead base given files items left number now sent is e p b =
    let a = at_end base given files items left number now sent is e p in
    let some = some_heads (plan_for base given files) (overridden given (input files)).items now sent a.progress b in
    (due_done_whole base (overridden given (input files)) now sent a.progress a.whole some, written_is base (overridden given (input files)) now sent a.progress a.whole some)

-- And the headline holds of it, by its law.
pub composed_ahead : ReadingsHold → (store : Store ℕ) (given : Overrides) (files : List (List ℕ)) (items : List Item) (left : Reading) (number : ℕ) (now : Composing) (sent : List ℕ)
    → let read = overridden given (input files) in
    IsWhole read → FindsSayable (base_of store read.items) (keys_outside read.items) → IsAhead files items left number [] → left ≡ ended
    → Progress (plan_for (base_of store read.items) given files) (overridden_items given items) now sent → now.begun ≡ true
    → IsComposedOf (base_of store read.items) read ((sent ++ now.pending) ++ canonical (version_of read.items) End)
composed_ahead law store given files items left number now sent whole sayable is e p b =
    let read : Reading = overridden given (input files) in
    let base : Store ℕ = base_of store read.items in
    let a = at_end base given files items left number now sent is e p in
    composed law store read now sent whole sayable (some_heads (plan_for base given files) read.items now sent a.progress b) a.progress

-- ---- where it stops

-- Wherever composing stops before END, what was written is no whole stream, and a front part of all
-- that is due.
pub stopped_ahead : (base : Store ℕ) (given : Overrides) (files : List (List ℕ)) (items : List Item) (left : Reading) (number : ℕ) (after : List (List ℕ)) (now : Composing) (sent : List ℕ) (count : ℕ) → AreReady base given files
    → IsAhead files items left number after → Progress (plan_for base given files) (overridden_items given items) now sent → count ≤ length (sent ++ now.pending) → IsStoppedOf base (overridden given (input files)) (take count (sent ++ now.pending))
stopped_ahead base given files items left number after now sent count ready is p within =
    let all = items_ahead given files items left number after is in
    stopped base (overridden given (input files)) (overridden_items given items) all.0 now sent count ready.none all.1 ready.version (ready.writable (overridden_items given items) all.0 now.state all.1 p.taken) p within

-- The same where END was to be written, and not all of it was.
pub stopped_end_ahead : (base : Store ℕ) (given : Overrides) (files : List (List ℕ)) (items : List Item) (left : Reading) (number : ℕ) (now : Composing) (sent : List ℕ) (count : ℕ) → AreReady base given files
    → IsAhead files items left number [] → left ≡ ended → Progress (plan_for base given files) (overridden_items given items) now sent → now.begun ≡ true
    → count < length ((sent ++ now.pending) ++ canonical (version_of (overridden given (input files)).items) End)
    → IsStoppedOf base (overridden given (input files)) (take count ((sent ++ now.pending) ++ canonical (version_of (overridden given (input files)).items) End))
stopped_end_ahead base given files items left number now sent count ready is e p b within =
    let read : Reading = overridden given (input files) in
    let a = at_end base given files items left number now sent is e p in
    stopped_end base read now sent count a.whole (some_heads (plan_for base given files) read.items now sent a.progress b) ready.version
    (ready.writable read.items [] now.state (sym (append-nil read.items)) a.progress.taken) a.progress within
