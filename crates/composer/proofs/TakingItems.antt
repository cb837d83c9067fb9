-- One item that the composer takes or does not take, from the step of its command, and from what it
-- adds.
use Rattle.std.specs.Prelude.{◌≡◌, ◌⊎◌, ◌<◌, ◌≤◌, ℕ, zero, suc, ◌+◌, ◌-◌, ◌||◌, ◌&&◌, not, Bool, true, false, map, List, [], ◌++◌, get_or, Option, None, Some, Result, Ok, Err, is_some, nat_lt, if◌then◌else◌}
use Rattle.std.specs.Option.{option_map}
use Rattle.std.specs.List.{AllByRecursion, range_with_len}
use Rattle.std.proofs.Common.{refl, sym, ap, ap₂, subst, ◌∙◌, arith, inl, inr, ⊎_elim, append-nil}
use Rattle.std.proofs.KnownBytes.{Appends-nil}
use Rattle.std.proofs.lemmas.Bool.{ltb-true, ltb-false}
use Rattle.send_model.specs.Refusal.{Refusal, NotConsecutive}
use Rattle.send_model.specs.Command.{Command, Subvol, Snapshot, Clone}
use Rattle.send_model.specs.Outside.{is_among}
use Rattle.send_model.specs.Reading.{Item}
use Rattle.send_model.specs.Store.{Key, Head, head_of, Store, Part, State, Stepped, step}
use Rattle.send_model.specs.Spelling.{canonical_all}
use Rattle.send_model.specs.Receive.{bytes_of, first_of, verdict_of}
use Rattle.send_model.specs.Composed.{commands_for}
use Rattle.send_model.specs.Order.{breaks_order, part_after}
use Rattle.send_model.specs.Provenance.{Traced, traced_step, uuid_after, is_own, is_redirected}
use Rattle.send_model.specs.Cells.{recelled_part, AllCells}
use Rattle.send_model.specs.Due.{most_literal, uncarried_of}
use Rattle.sx_base.specs.declared.stop.Stop.{Stop}
use Rattle.sx_base.specs.declared.outcome.Verdict.{Verdict}
use Rattle.sx_base.specs.declared.outcome.Outcome.{Outcome}
use Rattle.sx_base.specs.declared.outcome.Outcome.TheVariants as ended
use Rattle.sx_base.specs.Refusals.{verdict_meant}
use Rattle.extent_map.specs.Pieces.{run_cells}
use Rattle.clone_resolve.specs.Steps.{data_len, cells_put, Answers}
use Rattle.clone_resolve.proofs.TakenStates.{part_after_step, cells_after_step}
use Rattle.provenance.specs.declared.trace.Trace.{Trace}
use Rattle.provenance.specs.declared.trace.Trace.TheVariants.{Fresh}
use Rattle.provenance.specs.Traces.{advanced_by, place_of}
use Rattle.clone_pieces.specs.Origins.{byte_of_trace, IsHad, IsInInput}
use Rattle.clone_pieces.specs.Sending.{GoesOut, GoesPart, BreaksOff}
use Rattle.clone_pieces.proofs.Flow.{none_came, all_breaks, part_joined, breaks_joined}
use Rattle.file_survey.specs.Findings.{Surveyed}
use Rattle.clone_pieces.specs.Seen.{seen, seen_state}
use Rattle.composer.specs.OverBase.{Plan, Composing, Halt, Refuses, Exceeds, begin_bytes, added_with, after_item, is_unforeseen, then_kept, advance, unsent}
use Rattle.composer.specs.Kept.{Kept, composing_of}
use Rattle.composer.specs.Files.{plan_with}
use Rattle.composer.specs.Adding.{Led, stands_out, begun_with, uncarried_by}
use Rattle.composer.specs.Taking.{DataStand, ItemTaken, ItemWhy, LeftBy, ItemStops}
use Rattle.composer.proofs.Unpacked.{AddsCommand, AddEnd, ItemEnd, StopEnd}
use Rattle.composer.proofs.OverBaseAdds.{adds_head, sum_same}
use Rattle.composer.proofs.OverBaseSeen.{IsSeenAs, answers_seen, put_seen, data_there, goes_on, stops_there}

-- The trace of the first byte of an item's data.
abbrev pub origin_of : Item → Trace
origin_of item = Fresh (item.file - 1) item.data_at

-- The cells that an item puts are seen as the bytes that it writes.
data_seen : (files : List (List ℕ)) (base : Store ℕ) (item : Item) → DataStand files item → IsSeenAs (byte_of_trace files base) place_of advanced_by (origin_of item) item
data_seen files base item stand =
    put_seen (byte_of_trace files base) place_of advanced_by (origin_of item) item (λ k less.
    (data_there (get_or files (item.file - 1) []) (bytes_of item.command) item.data_at k stand.there less, refl))

-- What a step answers over traces, seen with the bytes of the files and of the base.
pub stepped_seen : {A : Type 0} (r : Result A Stop) (files : List (List ℕ)) (base : Store ℕ) (old new : State (Option Trace)) (item : Item) → DataStand files item
    → Answers r new (step None (cells_put advanced_by (origin_of item) item.command) old item.command)
    → Answers r (seen_state (byte_of_trace files base) place_of new) (traced_step (seen_state (byte_of_trace files base) place_of old) item)
stepped_seen r files base old new item stand a = answers_seen r (byte_of_trace files base) place_of advanced_by (origin_of item) old new item (data_seen files base item stand) a

-- ---- what is kept

abbrev seen_with : List (List ℕ) → Store ℕ → State (Option Trace) → State Traced
seen_with files base state = seen_state (byte_of_trace files base) place_of state

uuid_seen : (files : List (List ℕ)) (base : Store ℕ) (part : Option (Part (Option Trace)))
    → option_map (λ p. p.key.uuid) (option_map (recelled_part (seen (byte_of_trace files base) place_of)) part) ≡ option_map (λ p. p.key.uuid) part
uuid_seen files base None = refl
uuid_seen files base (Some part) = refl

previous_kept : (o latest : Option Head) → part_after (option_map (λ h. h.key) latest) o ≡ option_map (λ h. h.key) (first_of o latest)
previous_kept None latest = refl
previous_kept (Some head) latest = refl

begun_kept : (o latest : Option Head) → is_some latest || is_some o ≡ is_some (first_of o latest)
begun_kept None None = refl
begun_kept None (Some head) = refl
begun_kept (Some head) None = refl
begun_kept (Some head) (Some latest) = refl

-- The item's step was taken.
abbrev pub IsStepped : List (List ℕ) → Plan → Kept → Kept → Item → Type 0
IsStepped files plan old new item = traced_step (seen_with files plan.base old.state) item ≡ record { state = seen_with files plan.base new.state; refusal = None }

-- What is kept after the item, with the bytes that are sent of what is then to be written.
kept_after : (files : List (List ℕ)) (plan : Plan) (old new : Kept) (item : Item) (sent : List ℕ) → IsStepped files plan old new item → new.latest ≡ first_of (head_of item.command) old.latest
    → old.sum + uncarried_of plan.base plan.parts (seen_with files plan.base old.state) (option_map (λ p. p.key.uuid) old.state.part) item ≡ new.sum
    → old.pending ++ added_with plan (composing_of files plan.base old) plan.last item.command ≡ sent ++ new.pending
    → record (after_item plan (composing_of files plan.base old) item) { state = seen_with files plan.base new.state } ≡ unsent sent (composing_of files plan.base new)
kept_after files plan old new item sent stepped latest sum bytes =
    let now : State Traced = seen_with files plan.base old.state in
    let key_of : Head → Key = λ h. h.key in
    let previous : part_after (option_map key_of old.latest) (head_of item.command) ≡ option_map key_of new.latest =
    previous_kept (head_of item.command) old.latest ∙ ap (option_map key_of) (sym latest) in
    let begun : is_some old.latest || is_some (head_of item.command) ≡ is_some new.latest = begun_kept (head_of item.command) old.latest ∙ ap is_some (sym latest) in
    let current : uuid_after (option_map (λ p. p.key.uuid) old.state.part) item.command ≡ option_map (λ p. p.key.uuid) new.state.part =
    ap (λ (o : Option (List ℕ)). uuid_after o item.command) (sym (uuid_seen files plan.base old.state.part))
    ∙ sym (part_after_step _ _ now item.command (ap (λ (s : Stepped Traced). s.refusal) stepped))
    ∙ ap (λ (s : Stepped Traced). option_map (λ p. p.key.uuid) s.state.part) stepped
    ∙ uuid_seen files plan.base new.state.part in
    λ i. record { state = seen_with files plan.base new.state; previous = previous i; current = current i; begun = begun i; sum = sum i; pending = bytes i }

below : (n : ℕ) → n ≤ most_literal → nat_lt most_literal n ≡ false
below n low = by_test (nat_lt most_literal n) refl
  where
    by_test : (b : Bool) → nat_lt most_literal n ≡ b → nat_lt most_literal n ≡ false
    by_test false e = e
    by_test true e = absurd (let above = ltb-true most_literal n e in omega (arith, above, low))

above : (n : ℕ) → most_literal < n → nat_lt most_literal n ≡ true
above n high = by_test (nat_lt most_literal n) refl
  where
    by_test : (b : Bool) → nat_lt most_literal n ≡ b → nat_lt most_literal n ≡ true
    by_test true e = e
    by_test false e = absurd (let low = ltb-false most_literal n e in omega (arith, low, high))

-- The item's step was taken, and its head, if it is one, is in order.
pub record GoesOn (files : List (List ℕ)) (plan : Plan) (old new : Kept) (item : Item) : Type 0 where
  pub stepped : IsStepped files plan old new item
  pub ordered : breaks_order (option_map (λ h. h.key) old.latest) (head_of item.command) || is_unforeseen plan.last (head_of item.command) ≡ false
  pub latest : new.latest ≡ first_of (head_of item.command) old.latest

-- How many uncarried bytes it has, and what it adds.
abbrev pub more_of : List (List ℕ) → Plan → Kept → Item → ℕ
more_of files plan old item = uncarried_of plan.base plan.parts (seen_with files plan.base old.state) (option_map (λ p. p.key.uuid) old.state.part) item

abbrev pub bytes_added : List (List ℕ) → Plan → Kept → Item → List ℕ
bytes_added files plan old item = added_with plan (composing_of files plan.base old) plan.last item.command

advances : (files : List (List ℕ)) (plan : Plan) (old new : Kept) (item : Item) (sent : List ℕ) → GoesOn files plan old new item
    → old.sum + more_of files plan old item ≡ new.sum → old.pending ++ bytes_added files plan old item ≡ sent ++ new.pending
    → advance plan (composing_of files plan.base old) item ≡ (if nat_lt most_literal new.sum then Err (Exceeds new.sum) else Ok (unsent sent (composing_of files plan.base new)))
advances files plan old new item sent g sum bytes =
    goes_on plan (composing_of files plan.base old) (seen_with files plan.base new.state) item g.stepped
    ∙ ap₂ (λ (b : Bool) (x : Composing). then_kept None b x) g.ordered (kept_after files plan old new item sent g.stepped g.latest sum bytes)

either : (b : Bool) (x : Bool) (n : ℕ) (c : Composing) → b ≡ x → ◌≡◌ {A = Result Composing Halt} (if b then Err (Exceeds n) else Ok c) (if x then Err (Exceeds n) else Ok c)
either b x n c e = ap (λ (t : Bool). if t then Err (Exceeds n) else Ok c) e

advances_ok : (files : List (List ℕ)) (plan : Plan) (old new : Kept) (item : Item) (sent : List ℕ) → GoesOn files plan old new item
    → old.sum + more_of files plan old item ≡ new.sum → new.sum ≤ most_literal → old.pending ++ bytes_added files plan old item ≡ sent ++ new.pending
    → advance plan (composing_of files plan.base old) item ≡ Ok (unsent sent (composing_of files plan.base new))
advances_ok files plan old new item sent g sum low bytes =
    advances files plan old new item sent g sum bytes ∙ either (nat_lt most_literal new.sum) false new.sum (unsent sent (composing_of files plan.base new)) (below new.sum low)

-- The item is taken.
pub item_taken : (files : List (List ℕ)) (plan : Plan) (old new : Kept) (item : Item) (out_old out_new : Option (List ℕ)) → GoesOn files plan old new item
    → old.sum + more_of files plan old item ≡ new.sum → new.sum ≤ most_literal → GoesOut out_old out_new old.pending new.pending (bytes_added files plan old item)
    → ItemTaken plan (composing_of files plan.base old) (composing_of files plan.base new) item out_old out_new
item_taken files plan old new item out_old out_new g sum low bytes = record {
  next = unsent bytes.sent (composing_of files plan.base new);
  sent = bytes.sent;
  taken = advances_ok files plan old new item bytes.sent g sum low bytes.rest;
  rest = refl;
  appends = bytes.appends;
}

-- It would be taken, and something is so of the bytes that are then to be written.
pub item_cut : (files : List (List ℕ)) (plan : Plan) (old new : Kept) (item : Item) (P : List ℕ → Type 0) → GoesOn files plan old new item
    → old.sum + more_of files plan old item ≤ most_literal → P (old.pending ++ bytes_added files plan old item)
    → (next : Composing) × (advance plan (composing_of files plan.base old) item ≡ Ok next) × P next.pending
item_cut files plan old new item P g low so =
    let full : Kept = record new { sum = old.sum + more_of files plan old item; pending = old.pending ++ bytes_added files plan old item } in (
      unsent [] (composing_of files plan.base full),
      advances_ok files plan old full item [] (record { stepped = g.stepped; ordered = g.ordered; latest = g.latest }) refl low refl,
      so,
    )

-- With it there is too much.
pub item_exceeds : (files : List (List ℕ)) (plan : Plan) (old new : Kept) (item : Item) (sum : ℕ) → GoesOn files plan old new item
    → sum ≡ old.sum + more_of files plan old item → most_literal < sum → advance plan (composing_of files plan.base old) item ≡ Err (Exceeds sum)
item_exceeds files plan old new item sum g sum_is high =
    let full : Kept = record new { sum = sum; pending = old.pending ++ bytes_added files plan old item } in
    advances files plan old full item [] (record { stepped = g.stepped; ordered = g.ordered; latest = g.latest }) (sym sum_is) refl
    ∙ either (nat_lt most_literal sum) true sum (unsent [] (composing_of files plan.base full)) (above sum high)

-- ---- an item that is refused

-- What is pending is written first, and the output may fail at that.
pub refused_ends : (files : List (List ℕ)) (plan : Plan) (old new : Kept) (item : Item) (refusal : Refusal) (verdict : Verdict) (result : Outcome) (out_old out_new : Option (List ℕ)) (before now : ℕ)
    → advance plan (composing_of files plan.base old) item ≡ Err (Refuses refusal) → verdict_meant verdict ≡ verdict_of item refusal
    → StopEnd old.pending new.pending out_old out_new before now (ended.Refused verdict) result → ItemEnd files plan old new item out_old out_new (Err result)
refused_ends files plan old new item refusal verdict result out_old out_new before now refused verdict_is stop =
    ⊎_elim
    (λ sent. subst (λ (o : Outcome). ItemStops plan (composing_of files plan.base old) item o out_old out_new new.pending) (sym sent.0)
    (record { next = composing_of files plan.base old; why = (refl, record { refusal = refusal; refused = refused; verdict_is = verdict_is }); goes = (sent.1.appends, sent.1.none) }))
    (λ failed. subst (λ (o : Outcome). ItemStops plan (composing_of files plan.base old) item o out_old out_new new.pending) (sym failed.0)
    (record { next = composing_of files plan.base old; why = inl refl; goes = all_breaks out_old out_new [] new.pending old.pending failed.3 failed.1 }))
    (stop.sent (λ e. cc) (λ e. cc))

-- The step is refused.
pub step_refused : (files : List (List ℕ)) (plan : Plan) (old : Kept) (after : State (Option Trace)) (item : Item) (refusal : Refusal)
    → traced_step (seen_with files plan.base old.state) item ≡ record { state = seen_with files plan.base after; refusal = Some refusal }
    → advance plan (composing_of files plan.base old) item ≡ Err (Refuses refusal)
step_refused files plan old after item refusal e = stops_there plan (composing_of files plan.base old) (seen_with files plan.base after) item refusal e

-- A head that is taken stands out of order.
pub head_refused : (files : List (List ℕ)) (plan : Plan) (old : Kept) (after : State (Option Trace)) (item : Item)
    → traced_step (seen_with files plan.base old.state) item ≡ record { state = seen_with files plan.base after; refusal = None }
    → breaks_order (option_map (λ h. h.key) old.latest) (head_of item.command) || is_unforeseen plan.last (head_of item.command) ≡ true
    → advance plan (composing_of files plan.base old) item ≡ Err (Refuses NotConsecutive)
head_refused files plan old after item e out =
    goes_on plan (composing_of files plan.base old) (seen_with files plan.base after) item e
    ∙ ap (λ (b : Bool). then_kept None b (record (after_item plan (composing_of files plan.base old) item) { state = seen_with files plan.base after })) out

-- ---- memory

-- There is no memory before a byte is added.
pub no_memory : (files : List (List ℕ)) (plan : Plan) (old new : Kept) (item : Item) (out : Option (List ℕ)) → new.pending ≡ old.pending → ItemEnd files plan old new item out out (Err ended.NoMemory)
no_memory files plan old new item out same = record {
  next = composing_of files plan.base old;
  why = inl refl;
  goes = subst (GoesPart out out [] new.pending) (append-nil old.pending) (part_joined out out old.pending new.pending [] (none_came out out old.pending new.pending [] refl same));
}

-- ---- an edit or END

-- What an edit adds, where the last head is known.
edit_bytes : (plan : Plan) (now : Composing) (last : Head) (c : Command) → plan.last ≡ Some last → head_of c ≡ None
    → added_with plan now plan.last c ≡ canonical_all plan.version (commands_for plan.base plan.parts last.key now.state now.current c)
edit_bytes plan now last c known edit =
    ap (λ (o : Option Head). added_with plan now o c) known
    ∙ ap (λ (o : Option Head). begin_bytes plan.version now.begun last o ++ canonical_all plan.version (commands_for plan.base plan.parts last.key now.state now.current c)) edit

-- The item ends as what it adds does.
pub edit_ends : (files : List (List ℕ)) (base : Store ℕ) (survey : Surveyed) (last : Head) (old : Kept) (after : State (Option Trace)) (put : List (Option Trace)) (new : Kept) (item : Item) (out_old out_new : Option (List ℕ)) (result : Result (Unit {0}) Outcome)
    → survey.last ≡ Some last → head_of item.command ≡ None → Led old.state after put item.command
    → IsStepped files (plan_with base survey) old (record old { state = after }) item
    → AddEnd files base survey last.key (record old { state = after }) new item.command out_old out_new result
    → new.state ≡ after → new.latest ≡ old.latest
    → ItemEnd files (plan_with base survey) old new item out_old out_new result
edit_ends files base survey last old after put new item out_old out_new result known edit led stepped adds state latest = by_result result (adds old.state put led)
  where
    plan : Plan
    plan = plan_with base survey

    now : Composing
    now = composing_of files base old

    bytes : List ℕ
    bytes = canonical_all survey.version (commands_for base survey.parts last.key now.state now.current item.command)

    is_bytes : bytes_added files plan old item ≡ bytes
    is_bytes = edit_bytes plan now last item.command known edit

    goes : GoesOn files plan old new item
    goes = record {
      stepped = subst (λ (s : State (Option Trace)). traced_step (seen_with files base old.state) item ≡ record { state = seen_with files base s; refusal = None }) (sym state) stepped;
      ordered = ap (λ (o : Option Head). breaks_order (option_map (λ h. h.key) old.latest) o || is_unforeseen survey.last o) edit ∙ no_head (option_map (λ h. h.key) old.latest) survey.last;
      latest = latest ∙ sym (ap (λ (o : Option Head). first_of o old.latest) edit);
    }
      where
        no_head : (p : Option Key) (o : Option Head) → breaks_order p None || is_unforeseen o None ≡ false
        no_head None None = refl
        no_head None (Some h) = refl
        no_head (Some k) None = refl
        no_head (Some k) (Some h) = refl

    cut : (o : Outcome) → ((next : Composing) → ((next ≡ composing_of files base old) ⊎ (advance plan (composing_of files base old) item ≡ Ok next)) → ItemWhy plan (composing_of files base old) next item o)
        → LeftBy o out_old out_new new.pending (old.pending ++ []) ⊎ ((old.sum + uncarried_by base survey.parts now.state now.current item.command ≤ most_literal) × LeftBy o out_old out_new new.pending (old.pending ++ bytes))
        → ItemStops plan (composing_of files base old) item o out_old out_new new.pending
    cut o why ends = ⊎_elim
        (λ none. record { next = composing_of files base old; why = why (composing_of files base old) (inl refl); goes = subst (LeftBy o out_old out_new new.pending) (append-nil old.pending) none })
        (λ more. let c = item_cut files plan old new item (LeftBy o out_old out_new new.pending) goes more.0 (subst (λ (bs : List ℕ). LeftBy o out_old out_new new.pending (old.pending ++ bs)) (sym is_bytes) more.1) in
        record { next = c.0; why = why c.0 (inr c.1); goes = c.2 })
        ends

    parts : {L : Type 0} → GoesPart out_old out_new old.pending new.pending [] ⊎ (L × GoesPart out_old out_new old.pending new.pending bytes)
        → GoesPart out_old out_new [] new.pending (old.pending ++ []) ⊎ (L × GoesPart out_old out_new [] new.pending (old.pending ++ bytes))
    parts either = ⊎_elim (λ none. inl (part_joined out_old out_new old.pending new.pending [] none)) (λ more. inr (more.0, part_joined out_old out_new old.pending new.pending bytes more.1)) either

    breaks : {L : Type 0} → BreaksOff out_old out_new old.pending new.pending [] ⊎ (L × BreaksOff out_old out_new old.pending new.pending bytes)
        → BreaksOff out_old out_new [] new.pending (old.pending ++ []) ⊎ (L × BreaksOff out_old out_new [] new.pending (old.pending ++ bytes))
    breaks either = ⊎_elim (λ none. inl (breaks_joined out_old out_new old.pending new.pending [] none)) (λ more. inr (more.0, breaks_joined out_old out_new old.pending new.pending bytes more.1)) either

    by_result : (r : Result (Unit {0}) Outcome) → AddsCommand base survey last.key now item.command (record old { state = after }) new out_old out_new r → ItemEnd files plan old new item out_old out_new r
    by_result (Ok done) a = (
      item_taken files plan old new item out_old out_new goes (sym a.1.0) a.1.1 (subst (GoesOut out_old out_new old.pending new.pending) (sym is_bytes) a.0),
      goes.latest,
    )
    by_result (Err (ended.TooMuch sum)) a = record { next = composing_of files base old; why = (refl, item_exceeds files plan old new item sum goes a.0 a.1.0); goes = (a.1.1, a.1.2) }
    by_result (Err ended.OutputFault) a = cut ended.OutputFault (λ next w. w) (breaks a)
    by_result (Err ended.InputFault) a = cut ended.InputFault (λ next w. w) (parts a)
    by_result (Err ended.NoMemory) a = cut ended.NoMemory (λ next w. w) (parts a)
    by_result (Err (ended.InputChanged file place)) a = elim a [ ]
    by_result (Err ended.Done) a = elim a [ ]
    by_result (Err (ended.Refused verdict)) a = elim a [ ]
    by_result (Err (ended.InputTooLong file)) a = elim a [ ]

-- ---- a command before which no head was seen

none_among : (uuid : List ℕ) (parts : List (List ℕ)) → parts ≡ [] → is_among parts uuid ≡ false
none_among uuid parts e = ap (λ (ps : List (List ℕ)). is_among ps uuid) e

none_redirected : (parts : List (List ℕ)) (current : Option (List ℕ)) (c : Command) → parts ≡ [] → is_redirected parts current c ≡ false
none_redirected parts current (Clone path offset clone_uuid clone_ctransid clone_path clone_offset clone_len) e = ap (λ (b : Bool). b && not (is_own current clone_uuid)) (none_among clone_uuid parts e)
none_redirected parts current c e = refl

-- Nothing is added.
pub nothing_added : (files : List (List ℕ)) (base : Store ℕ) (survey : Surveyed) (old : Kept) (after : State (Option Trace)) (item : Item) (out : Option (List ℕ))
    → survey.last ≡ None → survey.parts ≡ [] → head_of item.command ≡ None → old.sum ≤ most_literal
    → IsStepped files (plan_with base survey) old (record old { state = after }) item
    → ItemEnd files (plan_with base survey) old (record old { state = after }) item out out (Ok tt)
nothing_added files base survey old after item out none parts edit low stepped =
    let plan : Plan = plan_with base survey in
    let now : Composing = composing_of files base old in
    let new : Kept = record old { state = after } in
    let latest : new.latest ≡ first_of (head_of item.command) old.latest = sym (ap (λ (o : Option Head). first_of o old.latest) edit) in
    let ordered : breaks_order (option_map (λ h. h.key) old.latest) (head_of item.command) || is_unforeseen survey.last (head_of item.command) ≡ false =
    ap₂ (λ (o l : Option Head). breaks_order (option_map (λ h. h.key) old.latest) o || is_unforeseen l o) edit none ∙ no_break (option_map (λ h. h.key) old.latest) in
    let more = sum_same plan now item (none_redirected survey.parts now.current item.command parts) in
    let bytes : bytes_added files plan old item ≡ [] = ap (λ (o : Option Head). added_with plan now o item.command) none in (
      item_taken files plan old new item out out (record { stepped = stepped; ordered = ordered; latest = latest }) (omega (arith, more)) low
          (record { sent = []; appends = Appends-nil out; rest = ap (λ (bs : List ℕ). old.pending ++ bs) bytes ∙ append-nil old.pending }),
      latest,
    )
  where
    no_break : (p : Option Key) → breaks_order p None || is_unforeseen None None ≡ false
    no_break None = refl
    no_break (Some k) = refl

-- ---- a head

head_not_redirected : (parts : List (List ℕ)) (current : Option (List ℕ)) (c : Command) (head : Head) → head_of c ≡ Some head → is_redirected parts current c ≡ false
head_not_redirected parts current (Subvol uuid ctransid path) head h = refl
head_not_redirected parts current (Snapshot uuid ctransid path clone_uuid clone_ctransid) head h = refl
head_not_redirected parts current c head h = cc

head_bytes : (plan : Plan) (now : Composing) (o : Option Head) (c : Command) (head : Head) → head_of c ≡ Some head → added_with plan now o c ≡ begun_with plan.version now.begun head o
head_bytes plan now None c head h = refl
head_bytes plan now (Some last) c head h = adds_head plan now last c head h

in_order_then : (previous : Option Key) (last : Option Head) (o : Option Head) (head : Head) (b : Bool) → o ≡ Some head → stands_out previous last head ≡ b → breaks_order previous o || is_unforeseen last o ≡ b
in_order_then previous last o head b e s = ap (λ (x : Option Head). breaks_order previous x || is_unforeseen last x) e ∙ s

-- A head that begins its part.
pub head_taken : (files : List (List ℕ)) (base : Store ℕ) (survey : Surveyed) (old new : Kept) (after : State (Option Trace)) (item : Item) (head : Head) (out : Option (List ℕ))
    → head_of item.command ≡ Some head → stands_out (option_map (λ h. h.key) old.latest) survey.last head ≡ false → old.sum ≤ most_literal
    → IsStepped files (plan_with base survey) old (record old { state = after }) item
    → new ≡ record old { state = after; latest = Some head; pending = old.pending ++ begun_with survey.version (is_some old.latest) head survey.last }
    → ItemEnd files (plan_with base survey) old new item out out (Ok tt)
head_taken files base survey old new after item head out is ordered low stepped new_is =
    let plan : Plan = plan_with base survey in
    let now : Composing = composing_of files base old in
    let made : Kept = record old { state = after; latest = Some head; pending = old.pending ++ begun_with survey.version (is_some old.latest) head survey.last } in
    let latest : made.latest ≡ first_of (head_of item.command) old.latest = sym (ap (λ (o : Option Head). first_of o old.latest) is) in
    let more = sum_same plan now item (head_not_redirected survey.parts now.current item.command head is) in
    let bytes : bytes_added files plan old item ≡ begun_with survey.version (is_some old.latest) head survey.last = head_bytes plan now survey.last item.command head is in
    subst (λ (k : Kept). ItemEnd files plan old k item out out (Ok tt)) (sym new_is) (
      item_taken files plan old made item out out (record { stepped = stepped; ordered = in_order_then (option_map (λ h. h.key) old.latest) survey.last (head_of item.command) head false is ordered; latest = latest }) (omega (arith, more)) low
          (record { sent = []; appends = Appends-nil out; rest = ap (λ (bs : List ℕ). old.pending ++ bs) bytes }),
      latest,
    )

-- One that stands out of order.
pub head_refuses : (files : List (List ℕ)) (plan : Plan) (old : Kept) (after : State (Option Trace)) (item : Item) (head : Head)
    → traced_step (seen_with files plan.base old.state) item ≡ record { state = seen_with files plan.base after; refusal = None }
    → head_of item.command ≡ Some head → stands_out (option_map (λ h. h.key) old.latest) plan.last head ≡ true
    → advance plan (composing_of files plan.base old) item ≡ Err (Refuses NotConsecutive)
head_refuses files plan old after item head e is out = head_refused files plan old after item e (in_order_then (option_map (λ h. h.key) old.latest) plan.last (head_of item.command) head true is out)

-- ---- the cells that are put

all_range : {X : Type 0} (P : X → Type 0) (f : ℕ → X) (start n : ℕ) → ((k : ℕ) → k < start + n → P (f k)) → AllByRecursion P (map f (range_with_len start n))
all_range P f start zero all = tt
all_range P f start (suc n) all = (all start (omega arith), all_range P f (start + 1) n (λ k less. all k (omega (arith, less))))

-- What a WRITE puts comes from an input file.
pub put_had : (count : ℕ) (base : Store ℕ) (file at : ℕ) (c : Command) → file < count → AllByRecursion (IsHad count base) (cells_put advanced_by (Fresh file at) c)
unfolding run_cells
put_had count base file at c less = all_range (IsHad count base) (λ k. Some (advanced_by (Fresh file at) k)) 0 (data_len c) (λ k l. less)

-- And stands there.
pub put_there : (files : List (List ℕ)) (item : Item) → DataStand files item → AllByRecursion (IsInInput files) (cells_put advanced_by (origin_of item) item.command)
unfolding run_cells
put_there files item stand = all_range (IsInInput files) (λ k. Some (advanced_by (origin_of item) k)) 0 (data_len item.command) (λ k l. (omega (arith, l, stand.within), stand.are_data k (omega (arith, l))))

-- So each property of the cells still holds after a step.
pub led_cells : (P : Option Trace → Type 0) (put : List (Option Trace)) (before after : State (Option Trace)) (c : Command) → P None → AllByRecursion P put → AllCells P before → Led before after put c → AllCells P after
led_cells P put before after c none all cells led = subst (AllCells P) (ap (λ s. s.state) led) (cells_after_step P None put before c none all cells (ap (λ s. s.refusal) led))
