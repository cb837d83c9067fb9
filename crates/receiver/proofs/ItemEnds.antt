-- Receiving ends at an item: it is refused, there is no room for it, or something fails there.
use Rattle.std.specs.Prelude.{◌≡◌, ◌⊎◌, ℕ, ◌+◌, Bool, List, [], ◌∷◌, ◌++◌, length, take, drop, Option, None, Some, Err, is_some, if◌then◌else◌}
use Rattle.std.specs.Io.KnownBytes.{Appends}
use Rattle.std.proofs.Common.{inl, inr, refl, sym, ap, ◌∙◌, append_assoc, append-nil, arith, length-append}
use Rattle.std.proofs.lemmas.List.{take-append-drop, length-drop}
use Rattle.sx_base.specs.declared.outcome.Verdict.{Verdict}
use Rattle.sx_base.specs.declared.outcome.Outcome.TheVariants as ended
use Rattle.send_model.specs.Refusal as meant
use Rattle.send_model.specs.Spelling.{canonical}
use Rattle.send_model.specs.Reading as reading
use Rattle.send_model.specs.Reading.{Item}
use Rattle.send_model.specs.Store.{Head, Store, State, After, head_of, completed}
use Rattle.send_model.specs.Receive.{run_by, then_run}
use Rattle.send_model.specs.Guards.{Guard, Watched, guarded}
use Rattle.send_model.specs.Due.{Stop, RefusedAt, stop_due}
use Rattle.store_model.specs.States.{lines_behind}
use Rattle.store_model.specs.Dues as dues
use Rattle.store_model.specs.Dues.{Due, first_full, pieces_from, item_pieces, place_after, left_full, or_due}
use Rattle.store_model.proofs.PassedStates.{IsOn}
use Rattle.store_model.proofs.WrittenGroups.{head_fact}
use Rattle.auditor.specs.Following.{Followed, blank, beside, follow}
use Rattle.store_journal.specs.Shown.{StoreState}
use Rattle.receiver.specs.declared.opened.Opened.{Opened}
use Rattle.receiver.specs.declared.outcome.Received.{Received}
use Rattle.receiver.specs.declared.outcome.Received.TheVariants as how
use Rattle.receiver.specs.Standing.{line_due, line_by, behind_close, place_of, IsReady}
use Rattle.receiver.specs.Answers.{StepSays, PiecesSay, ItemWrites}
use Rattle.receiver.specs.Steps.{blank_of, line_under}
use Rattle.receiver.specs.Running.{byte_step, Spot, IsAt, IsLineFront}
use Rattle.receiver.proofs.Unpacked.{Stops}
use Rattle.receiver.proofs.Spots.{due_refused, due_full, left_refused, left_where_full}
use Rattle.receiver.proofs.PrintedLines.{completed_lines}
use Rattle.receiver.proofs.LeftItems.{not_guarded}
use Rattle.receiver.proofs.Leading.{the_guards, the_place, the_line, the_step, the_lines, the_rest}
use Rattle.receiver.proofs.Ends.{later_lines}

-- What was written of the line of an item at which receiving ends. Sure says that the group of its
-- part is there.
abbrev pub WrittenAs : Received → Type 0 → (line lines : List ℕ) → Type 0
WrittenAs (how.Files (ended.Refused verdict)) Sure line lines = lines ≡ line
WrittenAs (how.Files ended.NoMemory) Sure line lines = (lines ≡ line) × Sure
WrittenAs (how.Files ended.OutputFault) Sure line lines = (unwritten : List ℕ) × (line ≡ lines ++ unwritten)
WrittenAs (how.Files ended.InputFault) Sure line lines = ⊥
WrittenAs (how.Files ended.Done) Sure line lines = ⊥
WrittenAs (how.Files (ended.InputTooLong file)) Sure line lines = ⊥
WrittenAs (how.Files (ended.TooMuch sum)) Sure line lines = ⊥
WrittenAs (how.Files (ended.InputChanged file place)) Sure line lines = ⊥
WrittenAs how.StoreFault Sure line lines = (lines ≡ []) ⊎ ((lines ≡ line) × Sure)
WrittenAs (how.LogFull end wanted most) Sure line lines = lines ≡ line

-- What is printed of an item and all behind it.
run_lines : (base : Store ℕ) (w : Watched (State ℕ)) (item : Item) (extra : List Item) → IsOn base (byte_step w item).state.state.store (byte_step w item).state.state.part
    → (unwritten : List ℕ) × (lines_behind base (run_by byte_step w (item ∷ extra)).state.state.store ≡ lines_behind base (byte_step w item).state.state.store ++ unwritten)
unfolding run_by
run_lines base w item extra on = one (byte_step w item).refusal
  where
    next : Watched (State ℕ)
    next = (byte_step w item).state

    one : (o : Option meant.Refusal) → (unwritten : List ℕ) × (lines_behind base (then_run item (record { state = (byte_step w item).state; refusal = o }) (run_by byte_step (byte_step w item).state extra)).state.state.store ≡ lines_behind base (byte_step w item).state.state.store ++ unwritten)
    one None = later_lines base (byte_step w item).state extra on
    one (Some refusal) = ([], sym (append-nil (lines_behind base (byte_step w item).state.state.store)))

module _ (limit : ℕ) (base : Store ℕ) (old : Spot) (item : Item) (guards : List Guard) (len : ℕ) (store : StoreState) (current : Option Opened) (at : IsAt old guards store current) (on : IsOn base old.watched.state.store old.watched.state.part) (ready : IsReady len current store)
    (next_guards : List Guard) (next : StoreState) (next_current : Option Opened) where
  abbrev followed : After Followed
  followed = follow (beside guards (blank_of store current)) item

  abbrev said : Received → Type 0
  said why = StepSays (Err why) item (beside next_guards (blank_of next next_current)) (follow (beside guards (blank_of store current)) item)

  -- It is refused.
  refused_stops : (extra : List Item) (stop : Stop) (verdict : Verdict) → said (how.Files (ended.Refused verdict)) → Stops (how.Files (ended.Refused verdict)) limit base old (record { items = item ∷ extra; stop = stop }) (line_under guards current item.command) next.core
  refused_stops extra stop verdict says =
      let step_is = the_step limit base old item guards len store current at on ready (record { state = beside next_guards (blank_of next next_current); refusal = Some says.refusal }) says.after_is in
      let refusal : (byte_step old.watched item).refusal ≡ Some says.refusal = ap (λ (a : After Followed). a.refusal) step_is in (
        ap (λ (o : Option Due). or_due o (dues.Ends (stop_due stop))) (due_refused limit old.place old.watched item extra says.refusal refusal) ∙ ap (λ (v : reading.Verdict). dues.Ends (RefusedAt v)) (sym says.verdict_is),
        ap (lines_behind base) (left_refused limit old.place old.watched item extra says.refusal refusal) ∙ the_lines limit base old item guards len store current at on ready,
        sym (ap (λ (a : After Followed). a.state.state.store) step_is) ∙ ap blank (sym (left_refused limit old.place old.watched item extra says.refusal refusal)),
      )

  -- There is no room for it.
  full_lines : (byte_step old.watched item).refusal ≡ None → lines_behind base (left_full limit (place_after old.watched.state.part item.command old.place) item old.watched.state (byte_step old.watched item).state.state)
      ≡ lines_behind base old.watched.state.store ++ line_under guards current item.command
  full_lines none = by_head (head_of item.command) refl (first_full limit (pieces_from (place_after old.watched.state.part item.command old.place) (9 ∷ (1 + length (canonical 1 item.command)) ∷ [])))
    where
      after : Store ℕ
      after = (byte_step old.watched item).state.state.store

      here : lines_behind base (byte_step old.watched item).state.state.store ≡ lines_behind base old.watched.state.store ++ line_under guards current item.command
      here = the_lines limit base old item guards len store current at on ready

      free : guarded guards item.command ≡ None
      free = ap (λ (gs : List Guard). guarded gs item.command) (sym (the_guards limit base old item guards len store current at on ready)) ∙ not_guarded old.watched item none

      by_head : (o : Option Head) → head_of item.command ≡ o → (full : Option Due) → lines_behind base (if is_some o then (elim full as (λ x. Store ℕ) [ Some due ↦ completed old.watched.state | None ↦ (byte_step old.watched item).state.state.store ]) else (byte_step old.watched item).state.state.store)
          ≡ lines_behind base old.watched.state.store ++ line_under guards current item.command
      by_head None is full = here
      by_head (Some head) is None = here
      by_head (Some head) is (Some due) =
          completed_lines base old.watched.state.store old.watched.state.part (line_due current) on (the_line limit base old item guards len store current at on ready)
          ∙ ap (λ (b : Bool). lines_behind base old.watched.state.store ++ (if b then [] else line_due current)) (sym (head_fact item.command head is))
          ∙ ap (λ (o : Option meant.Refusal). lines_behind base old.watched.state.store ++ (elim o as (λ x. List ℕ) [ Some refusal ↦ [] | None ↦ line_by current item.command ])) (sym free)

  full_stops : (extra : List Item) (stop : Stop) (end wanted most : ℕ) → said (how.LogFull end wanted most) → first_full limit (item_pieces (behind_close current item.command (place_of store current)) item) ≡ Some (dues.LogFull end wanted most)
      → Stops (how.LogFull end wanted most) limit base old (record { items = item ∷ extra; stop = stop }) (line_under guards current item.command) next.core
  full_stops extra stop end wanted most none full =
      let refusal : (byte_step old.watched item).refusal ≡ None =
      ap (λ (a : After Followed). a.refusal) (the_step limit base old item guards len store current at on ready (follow (beside guards (blank_of store current)) item) refl) ∙ none in
      let room : first_full limit (item_pieces (place_after old.watched.state.part item.command old.place) item) ≡ Some (dues.LogFull end wanted most) =
      ap (λ (n : ℕ). first_full limit (item_pieces n item)) (the_place limit base old item guards len store current at on ready) ∙ full in (
        ap (λ (o : Option Due). or_due o (dues.Ends (stop_due stop))) (due_full limit old.place old.watched item extra (dues.LogFull end wanted most) refusal room),
        ap (lines_behind base) (left_where_full limit old.place old.watched item extra (dues.LogFull end wanted most) refusal room) ∙ full_lines refusal,
      )

  -- Its line was written, or a part of it, or it was not.
  line_front : (extra : List Item) (stop : Stop) → (unwritten : List ℕ) × IsLineFront base old (record { items = item ∷ extra; stop = stop }) (line_under guards current item.command) unwritten
  line_front extra stop =
      let rest = run_lines base old.watched item extra (the_rest limit base old item guards len store current at on ready) in
      let line : List ℕ = line_under guards current item.command in (
        rest.0,
        record { all = rest.1 ∙ ap (λ (l : List ℕ). l ++ rest.0) (the_lines limit base old item guards len store current at on ready) ∙ append_assoc (lines_behind base old.watched.state.store) line rest.0 },
      )

  part_front : (extra : List Item) (stop : Stop) (count : ℕ) → (unwritten : List ℕ) × IsLineFront base old (record { items = item ∷ extra; stop = stop }) (take count (line_under guards current item.command)) (drop count (line_under guards current item.command) ++ unwritten)
  part_front extra stop count =
      let line : List ℕ = line_under guards current item.command in
      let f = line_front extra stop in (
        f.0,
        record {
          all = f.1.all ∙ ap (λ (l : List ℕ). lines_behind base old.watched.state.store ++ l)
              (ap (λ (l : List ℕ). l ++ f.0) (sym (take-append-drop count line)) ∙ append_assoc (take count line) (drop count line) f.0);
        },
      )

  none_front : (extra : List Item) (stop : Stop) → (unwritten : List ℕ) × IsLineFront base old (record { items = item ∷ extra; stop = stop }) [] unwritten
  none_front extra stop = let f = line_front extra stop in (line_under guards current item.command ++ f.0, record { all = f.1.all })

  -- Whatever ended it there.
  pub item_stops : (Sure : Type 0) (why : Received) (old_out new_out : Option (List ℕ)) → said why → PiecesSay (Err why) limit (behind_close current item.command (place_of store current)) (place_of next next_current) item
      → ItemWrites (Err why) Sure (line_under guards current item.command) old_out new_out
      → (lines : List ℕ) × Appends old_out new_out lines × WrittenAs why Sure (line_under guards current item.command) lines
      × ((extra : List Item) (stop : Stop) → Stops why limit base old (record { items = item ∷ extra; stop = stop }) lines next.core)
  item_stops Sure (how.Files (ended.Refused verdict)) old_out new_out says pieces writes = (line_under guards current item.command, writes, refl, λ extra stop. refused_stops extra stop verdict says)
  item_stops Sure (how.Files ended.NoMemory) old_out new_out says pieces writes = (line_under guards current item.command, writes.0, (refl, writes.1), λ extra stop. line_front extra stop)
  item_stops Sure (how.Files ended.OutputFault) old_out new_out says pieces writes =
      let line : List ℕ = line_under guards current item.command in (
        take writes.0 line,
        writes.2,
        (drop writes.0 line, sym (take-append-drop writes.0 line)),
        λ extra stop. let f = part_front extra stop writes.0 in (
          drop writes.0 line ++ f.0,
          f.1,
          omega (arith, writes.1, length-append (drop writes.0 line) f.0, length-drop writes.0 line),
        ),
      )
  item_stops Sure (how.Files ended.InputFault) old_out new_out says pieces writes = absurd says
  item_stops Sure (how.Files ended.Done) old_out new_out says pieces writes = absurd says
  item_stops Sure (how.Files (ended.InputTooLong file)) old_out new_out says pieces writes = absurd says
  item_stops Sure (how.Files (ended.TooMuch sum)) old_out new_out says pieces writes = absurd says
  item_stops Sure (how.Files (ended.InputChanged file place)) old_out new_out says pieces writes = absurd says
  item_stops Sure how.StoreFault old_out new_out says pieces (inl none) = ([], none, inl refl, λ extra stop. none_front extra stop)
  item_stops Sure how.StoreFault old_out new_out says pieces (inr all) = (line_under guards current item.command, all.0, inr (refl, all.1), λ extra stop. line_front extra stop)
  item_stops Sure (how.LogFull end wanted most) old_out new_out says pieces writes = (line_under guards current item.command, writes, refl, λ extra stop. full_stops extra stop end wanted most says pieces)
