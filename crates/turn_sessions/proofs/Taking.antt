-- One command: a head, END or an edit; and under guards.
use Rattle.std.specs.Prelude.{◌≡◌, ℕ, Bool, true, false, ◌&&◌, ◌||◌, List, [], ◌∷◌, ◌++◌, Option, None, Some, Result, Ok, Err, IfErr, is_some, is_none, if◌then◌else◌}
use Rattle.std.proofs.Common.{refl, sym, ap, subst, ◌∙◌, append-nil}
use Rattle.sx_base.specs.declared.disk.Disk as keeping
use Rattle.sx_base.specs.Refusals.{refusal_of}
use Rattle.sx_base.specs.declared.refusal.Refusal as code
use Rattle.sx_base.specs.declared.outcome.Outcome.TheVariants as ended
use Rattle.send_model.specs.Refusal.{Refusal, NoSubvolume}
use Rattle.send_model.specs.Subvolume.{Subvolume}
use Rattle.send_model.specs.Command.{Command, End}
use Rattle.send_model.specs.Reading.{Item}
use Rattle.send_model.specs.Counts.{is_end}
use Rattle.send_model.specs.Store.{Head, Store, Part, Stepped, edit_part, edited, head_of, begun, entered, completed, step_head, step_edit, step}
use Rattle.send_model.proofs.Sorts.{head_step}
use Rattle.store_model.specs.Turns.{Receiving, Taken, Event, Begins, Completes, part_of, completions, beginnings, receiving_after}
use Rattle.store_model.proofs.Replay.{edit_step}
use Rattle.auditor.specs.Following.{blank}
use Rattle.store_journal.specs.Shown.{StoreState}
use Rattle.receiver.specs.declared.outcome.Received.{Received}
use Rattle.receiver.specs.declared.outcome.Received.TheVariants as how
use Rattle.turn_sessions.specs.declared.part.OpenPart.{OpenPart}
use Rattle.turn_sessions.specs.Standing.{Blank, blank_cells, AreParts}
use Rattle.turn_sessions.specs.Doing.{IsNoMemory}
use Rattle.turn_sessions.specs.Turning.{closing, step_at, events_at, EditSays, IfTaken}
use Rattle.turn_sessions.proofs.Unpacked.{HasDone, HasStopped, ItemSays, CloseSays, LookSays}
use Rattle.turn_sessions.proofs.Doings.{done_done, done_stopped, stopped_first}
use Rattle.turn_sessions.proofs.Nothings.{OnlyNow, nothing_done, nothing_stopped}

-- ---- events by the sort of a command

closes_events : (c : Command) (p : Option (Receiving Blank)) → (is_some (head_of c) || is_end c) ≡ true → completions c p ≡ closing p
closes_events c None e = refl
closes_events c (Some r) e = ap (λ (b : Bool). if b then Completes r.taken ∷ [] else []) e

no_events : (c : Command) (p : Option (Receiving Blank)) → (is_some (head_of c) || is_end c) ≡ false → completions c p ≡ []
no_events c None e = refl
no_events c (Some r) e = ap (λ (b : Bool). if b then Completes r.taken ∷ [] else []) e

is_end_of : (c : Command) → is_end c ≡ true → c ≡ End
is_end_of End e = refl
is_end_of c e = cc

no_head_begins : (item : Item) (o : Option Refusal) → head_of item.command ≡ None → beginnings item o ≡ []
no_head_begins item o e = ap (λ (h : Option Head). if is_some h && is_none o then Begins item ∷ [] else []) e

module _ {D : Type 0} (ghosts : keeping.Ghosts D) where
  -- ---- END

  module _ (old new : D) (was now : StoreState) (out next : Option (List ℕ)) (item : Item) (p : Option (Receiving Blank)) (ends : is_end item.command ≡ true) where
    command_is : item.command ≡ End
    command_is = is_end_of item.command ends

    end_step : step_at (blank was.core) item p ≡ record { state = record { store = completed (record { store = blank was.core; part = part_of p }); part = None }; refusal = None }
    unfolding step
    end_step = ap (λ (c : Command). step tt (blank_cells item) (record { store = blank was.core; part = part_of p }) c) command_is

    end_events : events_at (blank was.core) item p ≡ closing p
    end_events =
        (λ i. completions item.command p ++ beginnings item (end_step i).refusal)
        ∙ ap (λ (l : List Event). l ++ beginnings item None) (closes_events item.command p (subst (λ (c : Command). (is_some (head_of c) || is_end c) ≡ true) (sym command_is) refl))
        ∙ ap (λ (l : List Event). closing p ++ l) (no_head_begins item None (ap head_of command_is)) ∙ append-nil (closing p)

    pub end_taken : (current : Option OpenPart) → current ≡ None → CloseSays ghosts old new was now out next p (Ok tt)
        → ItemSays ghosts old new was now out next item p (step_at (blank was.core) item p) (events_at (blank was.core) item p) current (Ok None)
    end_taken current none c = record {
      refused = ap (λ (s : Stepped Blank). s.refusal) end_step;
      store = c.store ∙ sym (ap (λ (s : Stepped Blank). s.state.store) end_step);
      part = subst (λ (s : Stepped Blank). AreParts (receiving_after item p s.state.part) current) (sym end_step) (subst (λ (o : Option OpenPart). AreParts None o) (sym none) tt);
      done = subst (λ (l : List Event). HasDone ghosts old new was now out next l) (sym end_events) c.done;
    }

    pub end_stopped : (current : Option OpenPart) (why : Received) → CloseSays ghosts old new was now out next p (Err why)
        → ItemSays ghosts old new was now out next item p (step_at (blank was.core) item p) (events_at (blank was.core) item p) current (Err why)
    end_stopped current why s = subst (λ (l : List Event). HasStopped ghosts old new was now out next why l) (sym end_events) s

  -- ---- a head

  module _ (old middle new : D) (was during now : StoreState) (out mid next : Option (List ℕ)) (item : Item) (head : Head) (p : Option (Receiving Blank)) (is : head_of item.command ≡ Some head) where
    head_after : Stepped Blank
    head_after = step_at (blank was.core) item p

    head_closes : completions item.command p ≡ closing p
    head_closes = closes_events item.command p (ap (λ (o : Option Head). is_some o || is_end item.command) is)

    head_is : step_at (blank was.core) item p ≡ entered (completed (record { store = blank was.core; part = part_of p })) head (begun (completed (record { store = blank was.core; part = part_of p })) head)
    unfolding step_head
    head_is = head_step tt (blank_cells item) (record { store = blank was.core; part = part_of p }) item.command head is

    head_then : blank during.core ≡ completed (record { store = blank was.core; part = part_of p }) → step_at (blank was.core) item p ≡ entered (blank during.core) head (begun (blank during.core) head)
    head_then e = head_is ∙ ap (λ (s : Store Blank). entered s head (begun s head)) (sym e)

    after_same : (old_part : Option (Receiving Blank)) (part : Option (Part Blank)) → receiving_after item None part ≡ receiving_after item old_part part
    after_same None part = refl
    after_same (Some r) None = refl
    after_same (Some r) (Some part) = ap (λ (t : Taken). Some (record { taken = t; part = part })) (sym (ap (λ (o : Option Head). if is_some o then record { head = item; edits = [] } else record { head = r.taken.head; edits = r.taken.edits ++ item ∷ [] }) is))

    pub head_says : (current : Option OpenPart) (result : Result (Option code.Refusal) Received) → CloseSays ghosts old middle was during out mid p (Ok tt)
        → ItemSays ghosts middle new during now mid next item None (entered (blank during.core) head (begun (blank during.core) head)) (beginnings item (entered (blank during.core) head (begun (blank during.core) head)).refusal) current result
        → ItemSays ghosts old new was now out next item p (step_at (blank was.core) item p) (events_at (blank was.core) item p) current result
    head_says current result closed says =
        subst (λ (s : Stepped Blank). ItemSays ghosts old new was now out next item p s (completions item.command p ++ beginnings item s.refusal) current result) (sym (head_then closed.store))
        (subst (λ (l : List Event). ItemSays ghosts old new was now out next item p later (l ++ beginnings item later.refusal) current result) (sym head_closes) (by_result result says))
      where
        later : Stepped Blank
        later = entered (blank during.core) head (begun (blank during.core) head)

        taken : (refusal : Option code.Refusal) → IfTaken refusal (AreParts (receiving_after item None later.state.part) current) → IfTaken refusal (AreParts (receiving_after item p later.state.part) current)
        taken None a = subst (λ (q : Option (Receiving Blank)). AreParts q current) (after_same p later.state.part) a
        taken (Some r) a = tt

        by_result : (r : Result (Option code.Refusal) Received) → ItemSays ghosts middle new during now mid next item None later (beginnings item later.refusal) current r
            → ItemSays ghosts old new was now out next item p later (closing p ++ beginnings item later.refusal) current r
        by_result (Ok refusal) d = record {
          refused = d.refused;
          store = d.store;
          part = taken refusal d.part;
          done = done_done ghosts old middle new was during now out mid next (closing p) (beginnings item later.refusal) closed.done d.done;
        }
        by_result (Err why) s = done_stopped ghosts old middle new was during now out mid next why (closing p) (beginnings item later.refusal) closed.done s

    pub head_stopped : (current : Option OpenPart) (why : Received) → CloseSays ghosts old new was now out next p (Err why)
        → ItemSays ghosts old new was now out next item p (step_at (blank was.core) item p) (events_at (blank was.core) item p) current (Err why)
    head_stopped current why s =
        subst (λ (l : List Event). HasStopped ghosts old new was now out next why (l ++ beginnings item (step_at (blank was.core) item p).refusal)) (sym head_closes)
        (stopped_first ghosts old new was now out next why (closing p) (beginnings item (step_at (blank was.core) item p).refusal) s)

  -- ---- an edit

  module _ (disk : D) (store : StoreState) (out : Option (List ℕ)) (item : Item) (p : Option (Receiving Blank)) (head : head_of item.command ≡ None) (ends : is_end item.command ≡ false) (only : OnlyNow ghosts disk) where
    edit_is : step_at (blank store.core) item p ≡ step_edit tt (blank_cells item) (record { store = blank store.core; part = part_of p }) item.command
    edit_is = edit_step tt (blank_cells item) (record { store = blank store.core; part = part_of p }) item.command head ends

    edit_events : events_at (blank store.core) item p ≡ []
    edit_events =
        ap (λ (l : List Event). l ++ beginnings item (step_at (blank store.core) item p).refusal) (no_events item.command p (λ i. is_some (head i) || ends i))
        ∙ no_head_begins item (step_at (blank store.core) item p).refusal head

    store_kept : (step_edit tt (blank_cells item) (record { store = blank store.core; part = part_of p }) item.command).state.store ≡ blank store.core
    unfolding step_edit
    store_kept = one (part_of p)
      where
        two : (part : Part Blank) (r : Result (Subvolume Blank) Refusal) → (edited (blank store.core) part r).state.store ≡ blank store.core
        two part (Ok s) = refl
        two part (Err refusal) = refl

        one : (q : Option (Part Blank)) → (elim q as (λ x. Stepped Blank) [
          | None ↦ record { state = record { store = blank store.core; part = q }; refusal = Some NoSubvolume }
          | Some part ↦ edited (blank store.core) part (edit_part tt (blank_cells item) (blank store.core) part item.command)
        ]).state.store ≡ blank store.core
        one None = refl
        one (Some part) = two part (edit_part tt (blank_cells item) (blank store.core) part item.command)

    pub edit_says : (current : Option OpenPart) (result : Result (Option code.Refusal) Received) → EditSays item p (step_edit tt (blank_cells item) (record { store = blank store.core; part = part_of p }) item.command) current result
        → IfErr result IsNoMemory → ItemSays ghosts disk disk store store out out item p (step_at (blank store.core) item p) (events_at (blank store.core) item p) current result
    edit_says current (Ok refusal) e m =
        subst (λ (l : List Event). ItemSays ghosts disk disk store store out out item p (step_at (blank store.core) item p) l current (Ok refusal)) (sym edit_events)
        (subst (λ (s : Stepped Blank). ItemSays ghosts disk disk store store out out item p s [] current (Ok refusal)) (sym edit_is)
        (record { refused = e.refused; store = sym store_kept; part = e.part; done = nothing_done ghosts disk store out only }))
    edit_says current (Err why) e m =
        subst (λ (w : Received). HasStopped ghosts disk disk store store out out w (events_at (blank store.core) item p)) (sym m)
        (nothing_stopped ghosts disk store store out (how.Files ended.NoMemory) (events_at (blank store.core) item p) only (λ header groups h. h) tt)

-- ---- under guards

module _ {D : Type 0} (ghosts : keeping.Ghosts D) where
  pub look_refused : (disk : D) (store : StoreState) (out : Option (List ℕ)) (item : Item) (p : Option (Receiving Blank)) (looks : Option Refusal) (refusal : code.Refusal) (current : Option OpenPart) → OnlyNow ghosts disk
      → looks ≡ Some (refusal_of refusal) → LookSays ghosts disk disk store store out out item p looks current (Ok (Some refusal))
  look_refused disk store out item p looks refusal current only e =
      subst (λ (o : Option Refusal). LookSays ghosts disk disk store store out out item p o current (Ok (Some refusal))) (sym e) (refl, refl, nothing_done ghosts disk store out only)

  pub look_allowed : (old new : D) (was now : StoreState) (out next : Option (List ℕ)) (item : Item) (p : Option (Receiving Blank)) (looks : Option Refusal) (current : Option OpenPart) (result : Result (Option code.Refusal) Received) → looks ≡ None
      → ItemSays ghosts old new was now out next item p (step_at (blank was.core) item p) (events_at (blank was.core) item p) current result
      → LookSays ghosts old new was now out next item p looks current result
  look_allowed old new was now out next item p looks current result e says =
      subst (λ (o : Option Refusal). LookSays ghosts old new was now out next item p o current result) (sym e) says
