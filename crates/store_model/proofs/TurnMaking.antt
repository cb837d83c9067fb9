-- What the edits of a part make, one after the other.
use Rattle.std.specs.Prelude.{◌≡◌, ℕ, ◌+◌, Bool, true, false, is_none, if◌then◌else◌, List, [], ◌∷◌, length, map, Option, None, Some, Result, Ok, Err}
use Rattle.std.specs.Option.{option_map}
use Rattle.std.specs.Str.{bytes_eq}
use Rattle.std.proofs.lemmas.Bool.{and_parts}
use Rattle.std.proofs.Common.{refl, sym, ap, subst, ◌∙◌}
use Rattle.send_model.specs.Refusal.{Refusal}
use Rattle.send_model.specs.Command.{Command}
use Rattle.send_model.specs.Spelling.{attributes_of, canonical}
use Rattle.send_model.specs.Reading.{Item, data_place}
use Rattle.send_model.specs.Subvolume.{Subvolume}
use Rattle.send_model.specs.Store.{Key, Entry, Store, Part, State, with_contents, start_from, completed, edit_part, edited, step_edit}
use Rattle.send_model.specs.Receive.{bytes_of}
use Rattle.send_model.specs.Cells.{recelled_store}
use Rattle.send_model.proofs.Sorts.{same_inside}
use Rattle.send_model.proofs.Stores.{bytes_eq_true}
use Rattle.store_model.specs.Stored.{Body, Group, Putting, taken, is_unfinished, unfinished_at, started, resumed, edits_made, made, frames_at, body_at}
use Rattle.store_model.specs.Turns.{Receiving, Event, Completes, part_uuid, group_of_event}
use Rattle.store_model.specs.TurnLaws.{PutsCells}
use Rattle.store_model.proofs.CellRuns.{made-cells, all_put_same}
use Rattle.store_model.proofs.Moves.{Stands}
use Rattle.store_model.proofs.TurnGroups.{makes_body}
use Rattle.store_model.proofs.TurnHelds.{held_of_stands}

module _ {C : Type 0} (zero_cell : C) (put : Putting C) where
  abbrev over : Store C → Part C → State C
  over store part = record { store = store; part = Some part }

  -- What the next edit makes, and what the others make of it.
  pub record GoesOn (version place : ℕ) (store : Store C) (part : Part C) (c : Command) (commands : List Command) (end : State C) : Type 0 where
    pub middle : Subvolume C
    pub edit : edit_part zero_cell (put (data_place version place (attributes_of c)) (bytes_of c)) store part c ≡ Ok middle
    pub rest : edits_made zero_cell put version (place + length (canonical version c)) (over store (record { key = part.key; subvolume = middle })) commands ≡ Some end

  pub edits_go : (version place : ℕ) (store : Store C) (part : Part C) (c : Command) (commands : List Command) (end : State C)
      → edits_made zero_cell put version place (over store part) (c ∷ commands) ≡ Some end → GoesOn version place store part c commands end
  unfolding edits_made step_edit
  edits_go version place store part c commands end e = one (edit_part zero_cell (put (data_place version place (attributes_of c)) (bytes_of c)) store part c) refl e
    where
      one : (r : Result (Subvolume C) Refusal) → edit_part zero_cell (put (data_place version place (attributes_of c)) (bytes_of c)) store part c ≡ r
          → (elim (taken (edited store part r)) as (λ o. Option (State C)) [ None ↦ None | Some next ↦ edits_made zero_cell put version (place + length (canonical version c)) next commands ]) ≡ Some end
          → GoesOn version place store part c commands end
      one (Err refusal) is q = cc
      one (Ok s) is q = record { middle = s; edit = is; rest = q }

  -- Where no edits are left.
  pub edits_end : (version place : ℕ) (state end : State C) → edits_made zero_cell put version place state [] ≡ Some end → state ≡ end
  unfolding edits_made
  edits_end version place state end e = same_inside e

  -- What completes an unfinished entry.
  pub record IsCompletion (place : ℕ) (store : Store C) (uuid : List ℕ) (version : ℕ) (commands : List Command) (new : Store C) : Type 0 where
    pub part : Part C
    pub begins : resumed store uuid ≡ Some (over store part)
    pub end : State C
    pub becomes : edits_made zero_cell put version (frames_at place) (over store part) commands ≡ Some end
    pub ends : completed end ≡ new

  pub body_makes : (place : ℕ) (store : Store C) (uuid : List ℕ) (version : ℕ) (commands : List Command) (new : Store C) → made zero_cell put place store (Body uuid version commands) ≡ Some new
      → IsCompletion place store uuid version commands new
  unfolding made resumed
  body_makes place store uuid version commands new e = one (unfinished_at uuid store) refl e
    where
      three : (e : Entry (Subvolume C)) (s : Subvolume C) → resumed store uuid ≡ Some (over store (record { key = e.key; subvolume = s })) → (o : Option (State C))
          → edits_made zero_cell put version (frames_at place) (over store (record { key = e.key; subvolume = s })) commands ≡ o
          → option_map completed o ≡ Some new → IsCompletion place store uuid version commands new
      three e s begins None is q = cc
      three e s begins (Some end) is q = record { part = record { key = e.key; subvolume = s }; begins = begins; end = end; becomes = is; ends = same_inside q }

      two : (e : Entry (Subvolume C)) → unfinished_at uuid store ≡ Some e → (r : Result (Subvolume C) Refusal) → start_from store e.parent ≡ r
          → (elim (elim r as (λ x. Option (State C)) [
            | Err refusal ↦ None
            | Ok start ↦ Some (over store (record { key = e.key; subvolume = start }))
          ]) as (λ o. Option (Store C)) [ None ↦ None | Some state ↦ option_map completed (edits_made zero_cell put version (frames_at place) state commands) ]) ≡ Some new
          → IsCompletion place store uuid version commands new
      two e at (Err refusal) is q = cc
      two e at (Ok s) is q =
          three e s
          (ap (λ (o : Option (Entry (Subvolume C))). elim o as (λ x. Option (State C)) [ None ↦ None | Some x ↦ started store x ]) at
          ∙ ap (λ (r : Result (Subvolume C) Refusal). elim r as (λ x. Option (State C)) [
            | Err refusal ↦ None
            | Ok start ↦ Some (over store (record { key = e.key; subvolume = start }))
          ]) is)
          (edits_made zero_cell put version (frames_at place) (over store (record { key = e.key; subvolume = s })) commands) refl q

      one : (o : Option (Entry (Subvolume C))) → unfinished_at uuid store ≡ o
          → (elim (elim o as (λ x. Option (State C)) [ None ↦ None | Some e ↦ started store e ]) as (λ o. Option (Store C)) [ None ↦ None | Some state ↦ option_map completed (edits_made zero_cell put version (frames_at place) state commands) ]) ≡ Some new
          → IsCompletion place store uuid version commands new
      one None at q = cc
      one (Some e) at q = two e at (start_from store e.parent) refl q

-- What a group makes over other cells, it makes over these.
pub made_back : {C D : Type 0} (f : C → D) (zero_cell : C) (put : Putting C) (other : Putting D) → ((place : ℕ) (bytes : List ℕ) → map f (put place bytes) ≡ other place bytes)
    → (gate : ℕ) (store : Store C) (group : Group) (new : Store D) → made (f zero_cell) other (body_at gate) (recelled_store f store) group.content ≡ Some new
    → (real : Store C) × (made zero_cell put (body_at gate) store group.content ≡ Some real) × (recelled_store f real ≡ new)
made_back f zero_cell put other same gate store group new e =
    one (made zero_cell put (body_at gate) store group.content) refl (sym (made-cells f zero_cell put other (body_at gate) store group.content (all_put_same f zero_cell put other same gate (group ∷ [])).0) ∙ e)
  where
    one : (o : Option (Store _)) → made zero_cell put (body_at gate) store group.content ≡ o → option_map (recelled_store f) o ≡ Some new
        → (real : Store _) × (made zero_cell put (body_at gate) store group.content ≡ Some real) × (recelled_store f real ≡ new)
    one None is q = cc
    one (Some real) is q = (real, is, same_inside q)

-- The group of a part that a session receives makes of the store what its completion makes.
pub held_makes : {C : Type 0} (zero_cell : C) (cells : Item → List C) (put : Putting C) → PutsCells put cells → (base store alone : Store C) (events : List Event) (held : ℕ → Option (Receiving C)) (n : ℕ) (r : Receiving C)
    → Stands zero_cell cells base store alone events held → held n ≡ Some r
    → (place : ℕ) → made zero_cell put place store (group_of_event (Completes r.taken)).content ≡ Some (with_contents r.part.key.uuid r.part.subvolume store)
held_makes zero_cell cells put puts base store alone events held n r w at place =
    let h = held_of_stands zero_cell cells base store alone events held n r w at in
    let key : r.part.key.uuid ≡ h.built.head.key.uuid = ap (λ k. k.uuid) h.built.key_is in
    let own : part_uuid r.taken ≡ r.part.key.uuid = ap (λ o. elim o as (λ x. List ℕ) [ None ↦ [] | Some h ↦ h.key.uuid ]) h.built.is_head ∙ sym key in
    makes_body zero_cell cells put puts store r.taken r.part r.part.key.uuid own h.built h.distinct h.stands key place

-- A part that is taken up again has the uuid by which its entry was found.
found_uuid : {C : Type 0} (uuid : List ℕ) (store : Store C) (e : Entry (Subvolume C)) → unfinished_at uuid store ≡ Some e → e.key.uuid ≡ uuid
unfolding unfinished_at
found_uuid uuid [] e f = cc
found_uuid {C = C} uuid (x ∷ store) e f = one (is_unfinished uuid x) refl (found_uuid uuid store e) f
  where
    one : (b : Bool) → is_unfinished uuid x ≡ b → (unfinished_at uuid store ≡ Some e → e.key.uuid ≡ uuid) → (if b then Some x else unfinished_at uuid store) ≡ Some e → e.key.uuid ≡ uuid
    one true is more g = subst (λ (y : Entry (Subvolume C)). y.key.uuid ≡ uuid) (same_inside g) (bytes_eq_true x.key.uuid uuid (and_parts (bytes_eq x.key.uuid uuid) (is_none x.contents) is).0)
    one false is more g = more g

pub resumed_uuid : {C : Type 0} (uuid : List ℕ) (store : Store C) (part : Part C) → resumed store uuid ≡ Some (record { store = store; part = Some part }) → part.key.uuid ≡ uuid
unfolding resumed
resumed_uuid {C = C} uuid store part r = one (unfinished_at uuid store) refl r
  where
    key_of_state : Option (State C) → Option Key
    key_of_state None = None
    key_of_state (Some s) = option_map (λ p. p.key) s.part

    two : (e : Entry (Subvolume C)) → e.key.uuid ≡ uuid → (q : Result (Subvolume C) Refusal)
        → (elim q as (λ x. Option (State C)) [ Err refusal ↦ None | Ok start ↦ Some (record { store = store; part = Some (record { key = e.key; subvolume = start }) }) ]) ≡ Some (record { store = store; part = Some part })
        → part.key.uuid ≡ uuid
    two e u (Err refusal) h = cc
    two e u (Ok s) h = ap (λ (k : Key). k.uuid) (same_inside (sym (ap key_of_state h))) ∙ u

    one : (o : Option (Entry (Subvolume C))) → unfinished_at uuid store ≡ o
        → (elim o as (λ x. Option (State C)) [ None ↦ None | Some e ↦ started store e ]) ≡ Some (record { store = store; part = Some part }) → part.key.uuid ≡ uuid
    one None at h = cc
    one (Some e) at h = two e (found_uuid uuid store e at) (start_from store e.parent) h
