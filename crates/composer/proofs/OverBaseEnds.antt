-- How composing over any base ends: with all items taken, the answer that is due and the composed
-- stream; and where an item is not taken, the answer that is due.
use Rattle.std.specs.Prelude.{◌≡◌, ◌≢◌, ℕ, ◌+◌, ◌≤◌, List, [], ◌∷◌, ◌++◌, map, Option, None, Some, Err}
use Rattle.std.proofs.Common.{refl, sym, ap, ap₂, subst, ◌∙◌, arith, append-nil}
use Rattle.send_model.specs.Refusal.{NotConsecutive}
use Rattle.send_model.specs.Command.{Command, End}
use Rattle.send_model.specs.Spelling.{stream_header, canonical, canonical_all}
use Rattle.send_model.specs.Reading.{Item, Verdict, Reading, Whole, Faulty}
use Rattle.send_model.specs.Store.{Key, Head, head_of, Store, State, Stepped, step}
use Rattle.send_model.specs.Receive.{Run, bytes_of, first_of, fault_of, start_of, verdict_of, receive_of, IsAccepted}
use Rattle.send_model.specs.Order.{heads, commands_of, last_item, without_parts, judge_of}
use Rattle.send_model.specs.Outside.{part_uuids, base_of, keys_outside, FindsSayable}
use Rattle.send_model.specs.Provenance.{Traced, fresh, traced_store, traced_step, ranges_from, uncarried_in}
use Rattle.send_model.specs.Composed.{last_head, head_command, version_of, composed_edits, composed_with}
use Rattle.send_model.specs.Cells.{recelled_state, recelled_step}
use Rattle.send_model.specs.Due.{Due, DoneWhole, RefusedAt, most_literal, come_to, due_from, refused_due, or_due, reading_due}
use Rattle.send_model.specs.Headline.{IsComposedOf, stream_front, output_of, whole_output_of}
use Rattle.send_model.specs.Laws.{IsWhole, ReadingsHold}
use Rattle.send_model.proofs.CellClones.{all_steps-cells}
use Rattle.send_model.proofs.Runs.{step_of, Takes}
use Rattle.send_model.proofs.Tracing.{byte_of, bytes_fresh, untraced_store}
use Rattle.send_model.proofs.Judging.{each_follows}
use Rattle.send_model.proofs.Dues.{is_judged_of}
use Rattle.send_model.proofs.Headlines.{received_all}
use Rattle.send_model.proofs.Composed.{first_there, last_of_some, items_with_heads}
use Rattle.send_model.proofs.Writing.{whole_parts}
use Rattle.composer.specs.OverBase.{plan_of, Composing, Halt, halt_due, advance, composed_up_to, written_with, current_after, AreTaken}
use Rattle.composer.proofs.LastHeads.{last_known}
use Rattle.composer.proofs.OneMore.{due_done}
use Rattle.composer.proofs.OverBaseProgress.{Progress, advance_err}

-- ---- the answer that is due

-- The items so far leave the answer to those after them.
due_after : (base : Store ℕ) (reading : Reading) (items more : List Item) (now : Composing) (sent : List ℕ) → reading.items ≡ items ++ more → Progress (plan_of base reading.items) items now sent
    → due_from base (part_uuids reading.items) (come_to (start_of (traced_store base)) None None 0) reading.items ≡ due_from base (part_uuids reading.items) (come_to now.state now.previous now.current now.sum) more
due_after base reading items more now sent is p =
    let parts : List (List ℕ) = part_uuids reading.items in
    let all : ℕ = uncarried_in base (ranges_from parts (start_of (traced_store base)) None items) in
    let sum_is : now.sum ≡ all = p.sum in
    let sum_from : now.sum ≡ 0 + all = omega (arith, sum_is) in
    let low : 0 + all ≤ most_literal = subst (λ (n : ℕ). n ≤ most_literal) sum_from p.low in
    ap (due_from base parts (come_to (start_of (traced_store base)) None None 0)) is
    ∙ due_done base parts items more (start_of (traced_store base)) now.state None None 0 p.taken p.ordered low
    ∙ ap (λ (k : Option Key). due_from base parts (come_to now.state k (current_after None items) (0 + all)) more) (sym p.previous)
    ∙ ap₂ (λ (c : Option (List ℕ)) (n : ℕ). due_from base parts (come_to now.state now.previous c n) more) (sym p.current) (sym sum_from)

-- The answer that is due where an item is not taken: its refusal, or that there is too much.
pub due_halted : (base : Store ℕ) (reading : Reading) (items : List Item) (item : Item) (more : List Item) (now : Composing) (sent : List ℕ) (halt : Halt) → reading.items ≡ items ++ item ∷ more
    → Progress (plan_of base reading.items) items now sent → advance (plan_of base reading.items) now item ≡ Err halt → reading_due base reading ≡ halt_due item halt
due_halted base reading items item more now sent halt is p e =
    let known : (head : Head) → head_of item.command ≡ Some head → (last : Head) × (last_head (heads reading.items) ≡ Some last) = λ head h. (let l = last_known items item more head h in (l.0, ap (λ (xs : List Item). last_head (heads xs)) is ∙ l.1)) in
    ap (λ (o : Option Due). or_due o (refused_due (first_of (fault_of reading.end) (without_parts reading.items (heads reading.items)))))
    (due_after base reading items (item ∷ more) now sent is p ∙ advance_err (plan_of base reading.items) item more now halt known e)

-- Where all items were taken: the fault that ended the reading, or that there is no part, or that
-- all was done.
pub due_at_end : (base : Store ℕ) (reading : Reading) (now : Composing) (sent : List ℕ) → Progress (plan_of base reading.items) reading.items now sent
    → reading_due base reading ≡ refused_due (first_of (fault_of reading.end) (without_parts reading.items (heads reading.items)))
unfolding due_from
due_at_end base reading now sent p =
    ap (λ (o : Option Due). or_due o (refused_due (first_of (fault_of reading.end) (without_parts reading.items (heads reading.items)))))
    (due_after base reading reading.items [] now sent (sym (append-nil reading.items)) p)

pub due_at_fault : (base : Store ℕ) (reading : Reading) (verdict : Verdict) (now : Composing) (sent : List ℕ) → Progress (plan_of base reading.items) reading.items now sent → reading.end ≡ Faulty verdict
    → reading_due base reading ≡ RefusedAt verdict
due_at_fault base reading verdict now sent p e =
    due_at_end base reading now sent p ∙ ap (λ x. refused_due (first_of (fault_of x) (without_parts reading.items (heads reading.items)))) e

pub due_without_parts : (base : Store ℕ) (reading : Reading) (item : Item) (now : Composing) (sent : List ℕ) → Progress (plan_of base reading.items) reading.items now sent → reading.end ≡ Whole
    → heads reading.items ≡ [] → last_item reading.items ≡ Some item → reading_due base reading ≡ RefusedAt (verdict_of item NotConsecutive)
due_without_parts base reading item now sent p e none last =
    due_at_end base reading now sent p ∙ ap (λ x. refused_due (first_of (fault_of x) (without_parts reading.items (heads reading.items)))) e
    ∙ ap (λ (hs : List Head). refused_due (without_parts reading.items hs)) none ∙ at_last (last_item reading.items) last
  where
    at_last : (o : Option Item) → o ≡ Some item → refused_due (elim o as (λ x. Option Verdict) [ None ↦ None | Some x ↦ Some (verdict_of x NotConsecutive) ]) ≡ RefusedAt (verdict_of item NotConsecutive)
    at_last None q = cc
    at_last (Some x) q = ap (λ (o : Option Item). refused_due (elim o as (λ x. Option Verdict) [ None ↦ None | Some y ↦ Some (verdict_of y NotConsecutive) ])) q

pub due_done_whole : (base : Store ℕ) (reading : Reading) (now : Composing) (sent : List ℕ) → Progress (plan_of base reading.items) reading.items now sent → reading.end ≡ Whole → heads reading.items ≢ []
    → reading_due base reading ≡ DoneWhole
due_done_whole base reading now sent p e some =
    due_at_end base reading now sent p ∙ ap (λ x. refused_due (first_of (fault_of x) (without_parts reading.items (heads reading.items)))) e ∙ with_parts (heads reading.items) some
  where
    with_parts : (hs : List Head) → hs ≢ [] → refused_due (without_parts reading.items hs) ≡ DoneWhole
    with_parts [] none = absurd (none refl)
    with_parts (head ∷ hs) none = refl

-- ---- the run without traces

-- A traced step is the plain one.
pub plain_step_is : (state : State Traced) (item : Item) → step_of (recelled_state byte_of state) item.command ≡ recelled_step byte_of (traced_step state item)
plain_step_is state item =
    ap (λ (put : List ℕ). step 0 put (recelled_state byte_of state) item.command) (sym (bytes_fresh (bytes_of item.command)))
    ∙ all_steps-cells byte_of item.command (fresh 0) (map fresh (bytes_of item.command)) state

-- Items that are taken with traces are taken without them.
pub taken_plain : (items : List Item) (state end : State Traced) → AreTaken state items end → Takes (recelled_state byte_of state) (commands_of items) (recelled_state byte_of end)
taken_plain [] state end t = ap (recelled_state byte_of) t
taken_plain (item ∷ items) state end t =
    subst (λ (x : Stepped ℕ). (x.refusal ≡ None) × Takes x.state (commands_of items) (recelled_state byte_of end)) (sym (plain_step_is state item)) (t.0, taken_plain items (traced_step state item).state end t.1)

-- The items so far are taken over the base's bytes.
pub taken_bytes : (base : Store ℕ) (items : List Item) (end : State Traced) → AreTaken (start_of (traced_store base)) items end → Takes (start_of base) (commands_of items) (recelled_state byte_of end)
taken_bytes base items end t = subst (λ (s : Store ℕ). Takes (start_of s) (commands_of items) (recelled_state byte_of end)) (untraced_store base) (taken_plain items (start_of (traced_store base)) end t)

-- ---- the whole stream

-- The bytes with END, after the last item.
pub written_whole : (base : Store ℕ) (items : List Item) (now : Composing) (sent : List ℕ) → Progress (plan_of base items) items now sent → heads items ≢ []
    → (sent ++ now.pending) ++ canonical (version_of items) End ≡ output_of None base items
unfolding composed_with composed_edits
written_whole base items now sent p some =
    let version : ℕ = version_of items in
    let first = first_there (heads items) some in
    let last = last_of_some (heads items) some in
    let cs : List Command = head_command last.0.name last.0.key first.0.parent ∷ composed_edits base last.0.key items in
    let bytes : sent ++ now.pending ≡ stream_header version ++ canonical_all version cs =
    p.bytes ∙ ap (λ (o : Option Head). written_with (plan_of base items) o items) last.1 ∙ ap (λ (o : Option Head). stream_front version (composed_up_to (plan_of base items) o last.0 items)) first.1 in
    ap (λ (b : List ℕ). b ++ canonical version End) bytes
    ∙ sym (whole_parts version (stream_header version) cs)
    ∙ ap (λ (ds : List Command). stream_header version ++ canonical_all version ds) (sym (items_with_heads base items first.0 last.0 first.1 last.1))

-- Nothing is refused where all items were taken to a whole end.
pub judged_whole : (base : Store ℕ) (reading : Reading) (now : Composing) (sent : List ℕ) → Progress (plan_of base reading.items) reading.items now sent → reading.end ≡ Whole → heads reading.items ≢ []
    → judge_of base reading ≡ None
judged_whole base reading now sent p e some = let d = (is_judged_of None base reading).done (due_done_whole base reading now sent p e some) in d.0

-- It is all that is due to be written.
pub written_is : (base : Store ℕ) (reading : Reading) (now : Composing) (sent : List ℕ) → Progress (plan_of base reading.items) reading.items now sent → reading.end ≡ Whole → heads reading.items ≢ []
    → (sent ++ now.pending) ++ canonical (version_of reading.items) End ≡ whole_output_of base reading
written_is base reading now sent p e some =
    written_whole base reading.items now sent p some ∙ ap (λ (o : Option Verdict). output_of o base reading.items) (sym (judged_whole base reading now sent p e some))

-- And the headline holds of it, by its law, over a base whose subvolumes the format can say.
pub composed : ReadingsHold → (store : Store ℕ) (reading : Reading) (now : Composing) (sent : List ℕ) → IsWhole reading → FindsSayable (base_of store reading.items) (keys_outside reading.items)
    → heads reading.items ≢ [] → Progress (plan_of (base_of store reading.items) reading.items) reading.items now sent
    → IsComposedOf (base_of store reading.items) reading ((sent ++ now.pending) ++ canonical (version_of reading.items) End)
composed law store reading now sent whole sayable some p =
    let base : Store ℕ = base_of store reading.items in
    let accepted : IsAccepted (receive_of base reading) = ap (λ (r : Run ℕ). r.refused) (received_all base reading (recelled_state byte_of now.state) whole.whole (taken_bytes base reading.items now.state p.taken)) in
    subst (λ (b : List ℕ). IsComposedOf base reading b) (sym (written_whole base reading.items now sent p some))
    (law store reading whole (some, each_follows reading.items p.ordered) accepted sayable)
