-- Where composing over any base stops: what was written is a front part of all that is due to be
-- written, and not a whole stream.
use Rattle.std.specs.Prelude.{◌≡◌, ◌≢◌, ℕ, ◌<◌, ◌≤◌, Bool, true, false, ◌||◌, List, [], ◌∷◌, ◌++◌, map, length, take, Option, None, Some}
use Rattle.std.specs.List.{AllByRecursion}
use Rattle.std.specs.Str.{bytes_eq}
use Rattle.std.proofs.Common.{refl, sym, ap, ap₂, subst, ◌∙◌, arith, append_assoc, length-append}
use Rattle.std.proofs.lemmas.List.{map-append, take-append-le}
use Rattle.send_model.specs.Refusal.{Refusal}
use Rattle.send_model.specs.Command.{Command, End}
use Rattle.send_model.specs.Spelling.{stream_header, canonical, canonical_all}
use Rattle.send_model.specs.Reading.{Item, Verdict, Reading, Whole, is_version}
use Rattle.send_model.specs.Store.{Key, Head, head_of, Store, State}
use Rattle.send_model.specs.Receive.{byte_cells, start_of}
use Rattle.send_model.specs.Order.{heads, heads_of, commands_of, breaks_order, part_after, then_lawful, lawful_items, lawful_of, judge_of}
use Rattle.send_model.specs.Outside.{is_among, part_uuids}
use Rattle.send_model.specs.Provenance.{traced_store, ranges_from, uncarried_in}
use Rattle.send_model.specs.Composed.{first_head, last_head, head_command, version_of, composed_from, composed_edits, composed_with, composed_of, composed_part, composed_before_of}
use Rattle.send_model.specs.Due.{most_literal}
use Rattle.send_model.specs.Headline.{IsUnfinished, IsFrontOf, IsStoppedOf, stream_front, output_of, whole_output_of}
use Rattle.send_model.specs.Cells.{recelled_state}
use Rattle.send_model.proofs.Runs.{step_of}
use Rattle.send_model.proofs.Stores.{bytes_eq_same}
use Rattle.send_model.proofs.Composed.{first_there, last_of_some, items_with_heads}
use Rattle.send_model.proofs.Writing.{heads_of-append, nothing_unfinished, unfinished_part}
use Rattle.send_model.proofs.Streams.{canonical_long}
use Rattle.send_model.proofs.Fronts.{lawful_more, part_front, nothing_front}
use Rattle.composer.specs.OverBase.{Plan, plan_of, Composing, composed_up_to, written_with, current_after, AreWritable, HasNone}
use Rattle.composer.proofs.OneMore.{composed_from-append}
use Rattle.composer.proofs.OverBaseProgress.{base_start, Progress, front-append}
use Rattle.send_model.proofs.Tracing.{byte_of}
use Rattle.composer.proofs.OverBaseEnds.{taken_bytes, written_is}
use Rattle.composer.proofs.PartsSoFar.{InBoth, known_start, composed_alike}

-- ---- the items before the first unlawful one

lawful_step : (item : Item) (items lawful rest : List Item) (state : State ℕ) (o : Option Refusal) (breaks : Bool) → items ≡ lawful ++ rest
    → (left : List Item) × (item ∷ items ≡ then_lawful item (record { state = state; refusal = o }) breaks lawful ++ left)
lawful_step item items lawful rest state (Some r) breaks e = (item ∷ items, refl)
lawful_step item items lawful rest state None true e = (item ∷ items, refl)
lawful_step item items lawful rest state None false e = (rest, ap (λ (r : List Item). item ∷ r) e)

-- The lawful items stand in front of all.
lawful_front : (items : List Item) (previous : Option Key) (state : State ℕ) → (rest : List Item) × (items ≡ lawful_items 0 byte_cells state previous items ++ rest)
unfolding lawful_items
lawful_front [] previous state = ([], refl)
lawful_front (item ∷ items) previous state =
    let s = step_of state item.command in
    let on = lawful_front items (part_after previous (head_of item.command)) s.state in
    lawful_step item items (lawful_items 0 byte_cells s.state (part_after previous (head_of item.command)) items) on.0 s.state s.refusal (breaks_order previous (head_of item.command)) on.1

-- ---- the parts of items that stand in front of others

heads_append : (items more : List Item) → heads (items ++ more) ≡ heads items ++ heads more
heads_append items more = ap heads_of (map-append (λ (item : Item). item.command) items more) ∙ heads_of-append (commands_of items) (commands_of more)

uuid_of : Head → List ℕ
uuid_of head = head.key.uuid

among_front : (hs more : List Head) (uuid : List ℕ) → is_among (map (λ (h : Head). h.key.uuid) hs) uuid ≡ true → is_among (map (λ (h : Head). h.key.uuid) (hs ++ more)) uuid ≡ true
among_front [] more uuid e = cc
among_front (h ∷ hs) more uuid e = one (bytes_eq h.key.uuid uuid) e (among_front hs more uuid)
  where
    one : (b : Bool) → b || is_among (map (λ (h : Head). h.key.uuid) hs) uuid ≡ true → (is_among (map (λ (h : Head). h.key.uuid) hs) uuid ≡ true → is_among (map (λ (h : Head). h.key.uuid) (hs ++ more)) uuid ≡ true)
        → b || is_among (map (λ (h : Head). h.key.uuid) (hs ++ more)) uuid ≡ true
    one true q on = refl
    one false q on = on q

pub front_uuids : (items rest all : List Item) → all ≡ items ++ rest → (uuid : List ℕ) → is_among (part_uuids items) uuid ≡ true → is_among (part_uuids all) uuid ≡ true
front_uuids items rest all is uuid e =
    ap (λ (xs : List Item). is_among (part_uuids xs) uuid) is ∙ ap (λ (hs : List Head). is_among (map (λ (h : Head). h.key.uuid) hs) uuid) (heads_append items rest)
    ∙ among_front (heads items) (heads rest) uuid e

or_true : (b : Bool) → b || true ≡ true
or_true true = refl
or_true false = refl

pub each_both : (base : Store ℕ) (some others : List (List ℕ)) (hs : List Head) → ((uuid : List ℕ) → is_among (map (λ (h : Head). h.key.uuid) hs) uuid ≡ true → InBoth base some others uuid) → AllByRecursion (λ head. InBoth base some others head.key.uuid) hs
each_both base some others [] all = tt
each_both base some others (h ∷ hs) all =
    let rest : List (List ℕ) = map (λ (x : Head). x.key.uuid) hs in (
      all h.key.uuid (ap (λ (b : Bool). b || is_among rest h.key.uuid) (bytes_eq_same h.key.uuid)),
      each_both base some others hs (λ uuid e. all uuid (ap (λ (b : Bool). bytes_eq h.key.uuid uuid || b) e ∙ or_true (bytes_eq h.key.uuid uuid))),
    )

-- ---- a front part of all that is due to be written

first_stays : (hs more : List Head) (first : Head) → first_head hs ≡ Some first → first_head (hs ++ more) ≡ Some first
first_stays [] more first e = cc
first_stays (h ∷ hs) more first e = e

first_in_front : (items more all : List Item) (first : Head) → all ≡ items ++ more → first_head (heads items) ≡ Some first → first_head (heads all) ≡ Some first
first_in_front items more all first is e = ap (λ (xs : List Item). first_head (heads xs)) is ∙ ap first_head (heads_append items more) ∙ first_stays (heads items) (heads more) first e

-- What a head and the edits of some first items spell, in what they spell with more.
spelled_front : (version : ℕ) (head : Command) (edits extra : List Command) → stream_front version (head ∷ (edits ++ extra)) ≡ stream_front version (head ∷ edits) ++ canonical_all version extra
spelled_front version head edits extra = front-append version head edits extra

-- All of it, where all items are lawful.
front_whole : (base : Store ℕ) (all items more : List Item) (now : Composing) (sent : List ℕ) (first last : Head) (count : ℕ) → all ≡ items ++ more → Progress (plan_of base all) items now sent → first_head (heads items) ≡ Some first → last_head (heads all) ≡ Some last
    → IsFrontOf (output_of None base all) (take count (stream_front (version_of all) (composed_up_to (plan_of base all) (Some first) last items)))
unfolding composed_with composed_edits
front_whole base all items more now sent first last count is p f l =
    let version : ℕ = version_of all in
    let hc : Command = head_command last.name last.key first.parent in
    let es : List Command = composed_from base (part_uuids all) last.key (start_of (traced_store base)) None items in
    let extra : List Command = composed_from base (part_uuids all) last.key now.state (current_after None items) more in
    let edits : composed_edits base last.key all ≡ es ++ extra =
    ap (composed_from base (part_uuids all) last.key (start_of (traced_store base)) None) is ∙ composed_from-append base (part_uuids all) last.key items more (start_of (traced_store base)) now.state None p.taken in
    let list : composed_of base all ≡ hc ∷ (es ++ (extra ++ End ∷ [])) =
    items_with_heads base all first last (first_in_front items more all first is f) l
    ∙ ap (λ (ds : List Command). hc ∷ (ds ++ End ∷ [])) edits ∙ ap (λ (ds : List Command). hc ∷ ds) (append_assoc es extra (End ∷ [])) in
    part_front (output_of None base all) [] (stream_front version (hc ∷ es)) (canonical_all version (extra ++ End ∷ [])) count
    (ap (λ (ds : List Command). stream_header version ++ canonical_all version ds) list ∙ spelled_front version hc es (extra ++ End ∷ []))

-- The part of it before the first unlawful item.
front_before : (base : Store ℕ) (all items more : List Item) (now : Composing) (sent : List ℕ) (first last : Head) (count : ℕ) → HasNone base (part_uuids all) → all ≡ items ++ more → Progress (plan_of base all) items now sent → first_head (heads items) ≡ Some first → last_head (heads all) ≡ Some last
    → IsFrontOf (stream_front (version_of all) (composed_before_of base all)) (take count (stream_front (version_of all) (composed_up_to (plan_of base all) (Some first) last items)))
unfolding composed_edits
front_before base all items more now sent first last count none is p f l =
    let version : ℕ = version_of all in
    let start = start_of (traced_store base) in
    let hc : Command = head_command last.name last.key first.parent in
    let L : List Item = lawful_of base all in
    let parts : List (List ℕ) = part_uuids all in
    let so_far : List (List ℕ) = part_uuids L in
    let es : List Command = composed_from base parts last.key start None items in
    let on = lawful_more items more None (start_of base) (recelled_state byte_of now.state) (taken_bytes base items now.state p.taken) p.ordered in
    let lawful_is : L ≡ items ++ on.0 = ap (lawful_items 0 byte_cells (start_of base) None) is ∙ on.1 in
    let front = lawful_front all None (start_of base) in
    let none_so_far : HasNone base so_far = λ k e. none k (front_uuids L front.0 all front.1 k.uuid e) in
    let ours = each_both base so_far parts (heads items) (λ uuid e. (front_uuids items on.0 L lawful_is uuid e, front_uuids items more all is uuid e)) in
    let alike : composed_from base so_far last.key start None items ≡ es = composed_alike base so_far parts last.key none_so_far none items start now.state None ours (known_start base so_far parts None) p.taken in
    let extra : List Command = composed_from base so_far last.key now.state (current_after None items) on.0 in
    let edits : composed_edits base last.key L ≡ es ++ extra =
    ap (composed_from base so_far last.key start None) lawful_is ∙ composed_from-append base so_far last.key items on.0 start now.state None p.taken ∙ ap (λ (ds : List Command). ds ++ extra) alike in
    let list : composed_before_of base all ≡ hc ∷ (es ++ extra) =
    ap₂ (λ (a b : Option Head). composed_part base a b L) (first_in_front items on.0 L first lawful_is f) l ∙ ap (λ (ds : List Command). hc ∷ ds) edits in
    part_front (stream_front version (composed_before_of base all)) [] (stream_front version (hc ∷ es)) (canonical_all version extra) count
    (ap (stream_front version) list ∙ spelled_front version hc es extra)

by_verdict : (base : Store ℕ) (all : List Item) (written : List ℕ) (o : Option Verdict) → IsFrontOf (output_of None base all) written → IsFrontOf (stream_front (version_of all) (composed_before_of base all)) written → IsFrontOf (output_of o base all) written
by_verdict base all written None whole before = whole
by_verdict base all written (Some verdict) whole before = before

-- What was written for items that were taken is a front part of all that is due to be written, over
-- a base without the parts.
pub front : (base : Store ℕ) (reading : Reading) (items more : List Item) (now : Composing) (sent : List ℕ) (count : ℕ) → HasNone base (part_uuids reading.items) → reading.items ≡ items ++ more
    → Progress (plan_of base reading.items) items now sent → IsFrontOf (whole_output_of base reading) (take count (sent ++ now.pending))
front base reading items more now sent count none is p =
    subst (λ (b : List ℕ). IsFrontOf (whole_output_of base reading) (take count b)) (sym p.bytes) (by_last (last_head (heads reading.items)) refl (first_head (heads items)) refl)
  where
    by_last : (l : Option Head) → last_head (heads reading.items) ≡ l → (f : Option Head) → first_head (heads items) ≡ f → IsFrontOf (whole_output_of base reading) (take count (written_with (plan_of base reading.items) l items))
    by_last None l f e = nothing_front (whole_output_of base reading) count
    by_last (Some last) l f e = by_first f e
      where
        by_first : (f : Option Head) → first_head (heads items) ≡ f → IsFrontOf (whole_output_of base reading) (take count (stream_front (version_of reading.items) (composed_up_to (plan_of base reading.items) (first_head (heads items)) last items)))
        by_first None e = subst (λ (f : Option Head). IsFrontOf (whole_output_of base reading) (take count (stream_front (version_of reading.items) (composed_up_to (plan_of base reading.items) f last items)))) (sym e)
            (nothing_front (whole_output_of base reading) count)
        by_first (Some first) e = subst (λ (f : Option Head). IsFrontOf (whole_output_of base reading) (take count (stream_front (version_of reading.items) (composed_up_to (plan_of base reading.items) f last items)))) (sym e)
            (by_verdict base reading.items _ (judge_of base reading) (front_whole base reading.items items more now sent first last count is p e l) (front_before base reading.items items more now sent first last count none is p e l))

-- ---- no whole stream

-- No front part of what was written so far is read as whole, where each command that stands for the
-- items can be written.
pub unfinished : (plan : Plan) (items : List Item) (now : Composing) (sent : List ℕ) (count : ℕ) → is_version plan.version ≡ true → AreWritable plan items → Progress plan items now sent
    → count ≤ length (sent ++ now.pending) → IsUnfinished (take count (sent ++ now.pending))
unfinished plan items now sent count is writable p within =
    subst (λ (b : List ℕ). count ≤ length b → IsUnfinished (take count b)) (sym p.bytes) (by_last plan.last refl (first_head (heads items)) refl) within
  where
    at_head : (first last : Head) → first_head (heads items) ≡ Some first → plan.last ≡ Some last → count ≤ length (stream_front plan.version (composed_up_to plan (Some first) last items))
        → IsUnfinished (take count (stream_front plan.version (composed_up_to plan (Some first) last items)))
    at_head first last f l h =
        let cs : List Command = composed_up_to plan (Some first) last items in
        let bytes : List ℕ = stream_header plan.version ++ canonical_all plan.version cs in
        subst (λ (b : List ℕ). IsUnfinished b) (take-append-le count bytes (canonical plan.version End) h)
        (unfinished_part plan.version cs count is (writable first last f l) (omega (arith, h, length-append bytes (canonical plan.version End), canonical_long plan.version End)))

    by_last : (l : Option Head) → plan.last ≡ l → (f : Option Head) → first_head (heads items) ≡ f → count ≤ length (written_with plan l items) → IsUnfinished (take count (written_with plan l items))
    by_last None l f e = λ h. nothing_unfinished count
    by_last (Some last) l None e = subst (λ (f : Option Head). count ≤ length (stream_front plan.version (composed_up_to plan f last items)) → IsUnfinished (take count (stream_front plan.version (composed_up_to plan f last items)))) (sym e) (λ h. nothing_unfinished count)
    by_last (Some last) l (Some first) e = subst (λ (f : Option Head). count ≤ length (stream_front plan.version (composed_up_to plan f last items)) → IsUnfinished (take count (stream_front plan.version (composed_up_to plan f last items)))) (sym e) (at_head first last e l)

-- No proper front part of all that is written with END is read as whole.
pub unfinished_end : (plan : Plan) (items : List Item) (now : Composing) (sent : List ℕ) (first last : Head) (count : ℕ) → is_version plan.version ≡ true → AreWritable plan items → Progress plan items now sent
    → first_head (heads items) ≡ Some first → plan.last ≡ Some last → count < length ((sent ++ now.pending) ++ canonical plan.version End) → IsUnfinished (take count ((sent ++ now.pending) ++ canonical plan.version End))
unfinished_end plan items now sent first last count is writable p f l h =
    let bytes = p.bytes ∙ ap (λ (o : Option Head). written_with plan o items) l ∙ ap (λ (o : Option Head). stream_front plan.version (composed_up_to plan o last items)) f in
    subst (λ (b : List ℕ). count < length (b ++ canonical plan.version End) → IsUnfinished (take count (b ++ canonical plan.version End))) (sym bytes)
    (unfinished_part plan.version (composed_up_to plan (Some first) last items) count is (writable first last f l)) h

-- ---- where composing stops

-- Wherever it stops before END, whatever the reason, what was written is no whole stream, and a
-- front part of all that is due.
pub stopped : (base : Store ℕ) (reading : Reading) (items more : List Item) (now : Composing) (sent : List ℕ) (count : ℕ) → HasNone base (part_uuids reading.items) → reading.items ≡ items ++ more
    → is_version (version_of reading.items) ≡ true → AreWritable (plan_of base reading.items) items → Progress (plan_of base reading.items) items now sent → count ≤ length (sent ++ now.pending)
    → IsStoppedOf base reading (take count (sent ++ now.pending))
stopped base reading items more now sent count none is version writable p within =
    record { unfinished = unfinished (plan_of base reading.items) items now sent count version writable p within; front = front base reading items more now sent count none is p }

-- The same where END was to be written, and not all of it was.
pub stopped_end : (base : Store ℕ) (reading : Reading) (now : Composing) (sent : List ℕ) (count : ℕ) → reading.end ≡ Whole → heads reading.items ≢ []
    → is_version (version_of reading.items) ≡ true → AreWritable (plan_of base reading.items) reading.items → Progress (plan_of base reading.items) reading.items now sent
    → count < length ((sent ++ now.pending) ++ canonical (version_of reading.items) End) → IsStoppedOf base reading (take count ((sent ++ now.pending) ++ canonical (version_of reading.items) End))
stopped_end base reading now sent count whole some version writable p within =
    let first = first_there (heads reading.items) some in
    let last = last_of_some (heads reading.items) some in
    let all : List ℕ = (sent ++ now.pending) ++ canonical (version_of reading.items) End in
    let is = written_is base reading now sent p whole some in
    record {
      unfinished = unfinished_end (plan_of base reading.items) reading.items now sent first.0 last.0 count version writable p first.1 last.1 within;
      front = subst (λ (b : List ℕ). IsFrontOf b (take count all)) is (record { count = count; within = omega (arith, within); written_is = refl });
    }

-- ---- too much

-- What too many bytes are.
pub record IsTooMuch (plan : Plan) (items : List Item) (sum : ℕ) : Type 0 where
  pub sum_is : sum ≡ uncarried_in plan.base (ranges_from plan.parts (base_start plan) None items)
  pub above : most_literal < sum
