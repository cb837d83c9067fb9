-- Where an item is refused, or reading ends at a fault or with no part: what stands for the items
-- before that place is all that is due to be written.
use Rattle.std.specs.Prelude.{◌≡◌, ℕ, Bool, true, false, ◌||◌, List, [], ◌∷◌, ◌++◌, Option, None, Some, Ok, Err, nat_lt, if◌then◌else◌}
use Rattle.std.proofs.Common.{refl, sym, ap, ◌∙◌, append-nil}
use Rattle.send_model.specs.Refusal.{Refusal}
use Rattle.send_model.specs.Command.{Command}
use Rattle.send_model.specs.Reading.{Item, Verdict, Reading}
use Rattle.send_model.specs.Store.{Key, Head, head_of, Store, State, Stepped}
use Rattle.send_model.specs.Receive.{byte_cells, start_of}
use Rattle.send_model.specs.Order.{heads, commands_of, breaks_order, part_after, then_lawful, lawful_items, lawful_of, judge_of}
use Rattle.send_model.specs.Outside.{part_uuids}
use Rattle.send_model.specs.Provenance.{Traced, traced_store, traced_step}
use Rattle.send_model.specs.Composed.{first_head, last_head, head_command, version_of, composed_from, composed_edits, composed_part}
use Rattle.send_model.specs.Cells.{recelled_state}
use Rattle.send_model.specs.Due.{RefusedAt, most_literal, reading_due}
use Rattle.send_model.specs.Headline.{stream_front, output_of, whole_output_of}
use Rattle.send_model.proofs.Runs.{step_of, Takes}
use Rattle.send_model.proofs.Tracing.{byte_of}
use Rattle.send_model.proofs.Judging.{previous_after, AreOrdered}
use Rattle.send_model.proofs.Dues.{is_judged_of}
use Rattle.send_model.proofs.Fronts.{lawful_on}
use Rattle.composer.specs.OverBase.{Plan, plan_of, Composing, Refuses, Exceeds, is_unforeseen, then_kept, advance, after_item, composed_up_to, written_with, AreTaken, HasNone}
use Rattle.composer.proofs.OverBaseProgress.{Progress, err_is, foreseen}
use Rattle.composer.proofs.OverBaseEnds.{plain_step_is, taken_bytes}
use Rattle.composer.proofs.OverBaseStops.{front_uuids, each_both}
use Rattle.composer.proofs.PartsSoFar.{known_start, composed_alike}

-- ---- the items before the first unlawful one

-- Items that are taken in order, and then the lawful ones of those after them.
lawful_then : (items more : List Item) (previous : Option Key) (state end : State ℕ) → Takes state (commands_of items) end → AreOrdered previous items
    → lawful_items 0 byte_cells state previous (items ++ more) ≡ items ++ lawful_items 0 byte_cells end (previous_after previous items) more
unfolding lawful_items
lawful_then [] more previous state end t o = ap (λ (s : State ℕ). lawful_items 0 byte_cells s previous more) t
lawful_then (item ∷ items) more previous state end t o =
    let s = step_of state item.command in
    let next : Option Key = part_after previous (head_of item.command) in
    lawful_on item s.state s.refusal (breaks_order previous (head_of item.command)) (lawful_items 0 byte_cells s.state next (items ++ more)) t.0 o.0
    ∙ ap (λ (r : List Item). item ∷ r) (lawful_then items more next s.state end t.1 o.1)

-- None of no items.
pub none_after : (state : State ℕ) (previous : Option Key) → lawful_items 0 byte_cells state previous [] ≡ []
unfolding lawful_items
none_after state previous = refl

refused_by : (item : Item) (o : Option Refusal) (breaks unforeseen : Bool) (next : Composing) (refusal : Refusal) (state : State ℕ) (rest : List Item) → unforeseen ≡ false → then_kept o (breaks || unforeseen) next ≡ Err (Refuses refusal)
    → then_lawful item (record { state = state; refusal = o }) breaks rest ≡ []
refused_by item (Some r) breaks unforeseen next refusal state rest u e = refl
refused_by item None true unforeseen next refusal state rest u e = refl
refused_by item None false true next refusal state rest u e = cc
refused_by item None false false next refusal state rest u e = one (nat_lt most_literal next.sum) e
  where
    one : (b : Bool) → (if b then Err (Exceeds next.sum) else Ok next) ≡ Err (Refuses refusal) → then_lawful item (record { state = state; refusal = None }) false rest ≡ []
    one true q = absurd (let h : Exceeds next.sum ≡ Refuses refusal = err_is q in cc)
    one false q = cc

-- None where the first is refused, and its head was foreseen, if it is one.
pub none_from : (plan : Plan) (item : Item) (more : List Item) (now : Composing) (refusal : Refusal) → ((head : Head) → head_of item.command ≡ Some head → (last : Head) × (plan.last ≡ Some last))
    → advance plan now item ≡ Err (Refuses refusal) → lawful_items 0 byte_cells (recelled_state byte_of now.state) now.previous (item ∷ more) ≡ []
unfolding advance lawful_items
none_from plan item more now refusal known e =
    let breaks : Bool = breaks_order now.previous (head_of item.command) in
    let rest : State ℕ → List Item = λ s. lawful_items 0 byte_cells s (part_after now.previous (head_of item.command)) more in
    ap (λ (s : Stepped ℕ). then_lawful item s breaks (rest s.state)) (plain_step_is now.state item)
    ∙ refused_by item (traced_step now.state item).refusal breaks (is_unforeseen plan.last (head_of item.command)) (after_item plan now item) refusal
    (recelled_state byte_of (traced_step now.state item).state) (rest (recelled_state byte_of (traced_step now.state item).state)) (foreseen plan.last (head_of item.command) known) e

-- ---- what stands for them

module _ (base : Store ℕ) (all items more : List Item) (none : HasNone base (part_uuids all)) (is : all ≡ items ++ more) (state : State Traced) (taken : AreTaken (start_of (traced_store base)) items state) where
  -- Which clones are redirected is the same by the parts of the items and by those of all.
  edits_alike : (last : Key) → composed_edits base last items ≡ composed_from base (part_uuids all) last (start_of (traced_store base)) None items
  unfolding composed_edits
  edits_alike last =
      let so_far : List (List ℕ) = part_uuids items in
      let in_all = front_uuids items more all is in
      let none_so_far : HasNone base so_far = λ k e. none k (in_all k.uuid e) in
      let ours = each_both base so_far (part_uuids all) (heads items) (λ uuid e. (e, in_all uuid e)) in
      composed_alike base so_far (part_uuids all) last none_so_far none items (start_of (traced_store base)) state None ours (known_start base so_far (part_uuids all) None) taken

  before_is : (last : Option Head) → written_with (plan_of base all) last items ≡ stream_front (version_of all) (composed_part base (first_head (heads items)) last items)
  before_is None = by_first (first_head (heads items))
    where
      by_first : (first : Option Head) → [] ≡ stream_front (version_of all) (composed_part base first None items)
      by_first None = refl
      by_first (Some head) = refl
  before_is (Some last) = by_first (first_head (heads items))
    where
      by_first : (first : Option Head) → stream_front (version_of all) (composed_up_to (plan_of base all) first last items) ≡ stream_front (version_of all) (composed_part base first (Some last) items)
      by_first None = refl
      by_first (Some first) = ap (λ (edits : List Command). stream_front (version_of all) (head_command last.name last.key first.parent ∷ edits)) (sym (edits_alike last.key))

-- What was sent, with what is pending, is all that is due where something is refused, and nothing
-- lawful follows the items.
pub refused_whole : (base : Store ℕ) (reading : Reading) (items more : List Item) (now : Composing) (sent : List ℕ) (verdict : Verdict) → HasNone base (part_uuids reading.items) → reading.items ≡ items ++ more
    → Progress (plan_of base reading.items) items now sent → lawful_items 0 byte_cells (recelled_state byte_of now.state) now.previous more ≡ [] → reading_due base reading ≡ RefusedAt verdict
    → sent ++ now.pending ≡ whole_output_of base reading
refused_whole base reading items more now sent verdict none is p stops due =
    let all : List Item = reading.items in
    let judged : judge_of base reading ≡ Some verdict = (is_judged_of None base reading).refused verdict due in
    let lawful : lawful_of base all ≡ items =
    ap (lawful_items 0 byte_cells (start_of base) None) is
    ∙ lawful_then items more None (start_of base) (recelled_state byte_of now.state) (taken_bytes base items now.state p.taken) p.ordered
    ∙ ap (λ (k : Option Key). items ++ lawful_items 0 byte_cells (recelled_state byte_of now.state) k more) (sym p.previous)
    ∙ ap (λ (r : List Item). items ++ r) stops ∙ append-nil items in
    p.bytes ∙ before_is base all items more none is now.state p.taken (last_head (heads all))
    ∙ ap (λ (xs : List Item). stream_front (version_of all) (composed_part base (first_head (heads xs)) (last_head (heads all)) xs)) (sym lawful)
    ∙ ap (λ (o : Option Verdict). output_of o base all) (sym judged)
