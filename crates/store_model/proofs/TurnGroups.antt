-- The groups that turns write make the store that the turns leave: a Body's edits find over the
-- store at its completion what they found when they came.
use Rattle.std.specs.Prelude.{◌≡◌, ℕ, ◌+◌, Bool, true, false, ◌&&◌, List, [], ◌∷◌, ◌++◌, length, map, Option, None, Some, Result, Ok, Err, is_none, if◌then◌else◌}
use Rattle.std.specs.Option.{option_map}
use Rattle.std.specs.Str.{bytes_eq}
use Rattle.std.proofs.Common.{refl, sym, ap, subst, ◌∙◌, inl, inr}
use Rattle.send_model.specs.Refusal.{Refusal}
use Rattle.send_model.specs.Command.{Command}
use Rattle.send_model.specs.Spelling.{attributes_of, canonical}
use Rattle.send_model.specs.Reading.{Item, data_place}
use Rattle.send_model.specs.Subvolume.{Subvolume}
use Rattle.send_model.specs.Store.{Key, Head, head_of, Entry, Store, IsStore, Part, State, with_contents, completed, unfinished, begun, entered, step_head, edit_part, edited, step_edit}
use Rattle.send_model.specs.Receive.{start_of}
use Rattle.send_model.proofs.Stores.{bytes_eq_same, bytes_eq_true}
use Rattle.store_model.specs.Stored.{Mark, Body, Group, Putting, taken, marked, is_unfinished, unfinished_at, started, resumed, edits_made, made, made_all, body_at, frames_at, body_bytes}
use Rattle.store_model.specs.Turns.{Taken, Event, part_uuid, group_of_event, turn_groups}
use Rattle.store_model.specs.TurnLaws.{IsIn, PutsCells}
use Rattle.store_model.proofs.Entries.{none_passes, differ}
use Rattle.store_model.proofs.Replay.{Edits, Built}

module _ {S : Type 0} where
  -- An unfinished entry is found by its uuid.
  unfinished_here : (store : List (Entry S)) (e : Entry S) (uuid : List ℕ) → IsStore store → IsIn e store → e.contents ≡ None → uuid ≡ e.key.uuid → unfinished_at uuid store ≡ Some e
  unfolding unfinished_at
  unfinished_here [] e uuid d h c u = absurd h
  unfinished_here (x ∷ store) e uuid d (inl p) c u =
      ap (λ (b : Bool). if b then Some x else unfinished_at uuid store) (own x (sym (ap (λ (y : Entry S). y.key.uuid) p) ∙ sym u) (ap (λ (y : Entry S). y.contents) (sym p) ∙ c)) ∙ ap (λ (y : Entry S). Some y) (sym p)
    where
      own : (y : Entry S) → y.key.uuid ≡ uuid → y.contents ≡ None → is_unfinished uuid y ≡ true
      own y k n = rw (k, bytes_eq_same uuid, n) refl
  unfinished_here (x ∷ store) e uuid d (inr p) c u = one (bytes_eq x.key.uuid uuid) refl (unfinished_here store e uuid d.2 p c u)
    where
      one : (b : Bool) → bytes_eq x.key.uuid uuid ≡ b → unfinished_at uuid store ≡ Some e → (if b && is_none x.contents then Some x else unfinished_at uuid store) ≡ Some e
      one true k more = absurd (differ e.key.uuid x.key.uuid (none_passes (λ y. bytes_eq y.key.uuid x.key.uuid) e store d.1 p) (sym u ∙ sym (bytes_eq_true x.key.uuid uuid k)))
      one false k more = more

module _ {C : Type 0} (zero_cell : C) where
  -- one group more
  made_more : (put : Putting C) (groups : List Group) (group : Group) (old middle new : Store C) (gate : ℕ) → made_all zero_cell put gate old groups ≡ Some middle
      → ((place : ℕ) → made zero_cell put place middle group.content ≡ Some new) → made_all zero_cell put gate old (groups ++ group ∷ []) ≡ Some new
  unfolding made_all
  made_more put [] group old middle new gate h m = last (made zero_cell put (body_at gate) old group.content) (subst (λ (s : Store C). made zero_cell put (body_at gate) s group.content ≡ Some new) (sym (same h)) (m (body_at gate)))
    where
      same : {s t : Store C} → ◌≡◌ {A = Option (Store C)} (Some s) (Some t) → s ≡ t
      same e = cc

      last : (o : Option (Store C)) → o ≡ Some new → (elim o as (λ o. Option (Store C)) [ None ↦ None | Some next ↦ Some next ]) ≡ Some new
      last None e = e
      last (Some s) e = e
  made_more put (g ∷ groups) group old middle new gate h m =
      one (made zero_cell put (body_at gate) old g.content) (λ next q. made_more put groups group next middle new (body_at gate + length (body_bytes g)) q m) h
    where
      one : (o : Option (Store C)) → ((next : Store C) → made_all zero_cell put (body_at gate + length (body_bytes g)) next groups ≡ Some middle
          → made_all zero_cell put (body_at gate + length (body_bytes g)) next (groups ++ group ∷ []) ≡ Some new)
          → (elim o as (λ o. Option (Store C)) [ None ↦ None | Some next ↦ made_all zero_cell put (body_at gate + length (body_bytes g)) next groups ]) ≡ Some middle
          → (elim o as (λ o. Option (Store C)) [ None ↦ None | Some next ↦ made_all zero_cell put (body_at gate + length (body_bytes g)) next (groups ++ group ∷ []) ]) ≡ Some new
      one None f q = cc
      one (Some next) f q = f next q

  groups_more : (events : List Event) (event : Event) → turn_groups (events ++ event ∷ []) ≡ turn_groups events ++ group_of_event event ∷ []
  unfolding turn_groups
  groups_more [] event = refl
  groups_more (e ∷ events) event = ap (λ (l : List Group). group_of_event e ∷ l) (groups_more events event)

  pub one_group_more : (put : Putting C) (events : List Event) (event : Event) (old middle new : Store C) (gate : ℕ) → ((gate : ℕ) → made_all zero_cell put gate old (turn_groups events) ≡ Some middle)
      → ((place : ℕ) → made zero_cell put place middle (group_of_event event).content ≡ Some new) → made_all zero_cell put gate old (turn_groups (events ++ event ∷ [])) ≡ Some new
  one_group_more put events event old middle new gate h m =
      ap (λ (l : List Group). made_all zero_cell put gate old l) (groups_more events event) ∙ made_more put (turn_groups events) (group_of_event event) old middle new gate (h gate) m

  -- ---- a Mark

  pub makes_mark : (put : Putting C) (place : ℕ) (store : Store C) (item : Item) (head : Head) (start : Subvolume C) → head_of item.command ≡ Some head → begun store head ≡ Ok start
      → made zero_cell put place store (Mark item.command) ≡ Some (store ++ unfinished head ∷ [])
  unfolding made marked step_head completed
  makes_mark put place store item head start h b =
      ap (λ (o : Option Head). elim o as (λ o. Option (Store C)) [
        | None ↦ None
        | Some head ↦ option_map (λ state. state.store) (taken (step_head (start_of store) head))
      ]) h ∙ ap (λ (r : Result (Subvolume C) Refusal). option_map (λ state. state.store) (taken (entered store head r))) b

  -- ---- a Body

  module _ (cells : Item → List C) (put : Putting C) (puts : PutsCells put cells) where
    edits_make : (store : Store C) (key : Key) (s t : Subvolume C) (version place : ℕ) (items : List Item) → Edits zero_cell cells store key s items t
        → edits_made zero_cell put version place (record { store = store; part = Some (record { key = key; subvolume = s }) }) (map (λ item. item.command) items)
        ≡ Some (record { store = store; part = Some (record { key = key; subvolume = t }) })
    unfolding edits_made step_edit
    edits_make store key s t version place [] e = ap (λ (x : Subvolume C). Some (record { store = store; part = Some (record { key = key; subvolume = x }) })) e
    edits_make store key s t version place (item ∷ items) e =
        let c : Command = item.command in
        let part : Part C = record { key = key; subvolume = s } in
        let more : Option (State C) → Option (State C) = λ o. elim o as (λ o. Option (State C)) [
          | None ↦ None
          | Some next ↦ edits_made zero_cell put version (place + length (canonical version c)) next (map (λ item. item.command) items)
        ] in
        ap (λ (l : List C). more (taken (edited store part (edit_part zero_cell l store part c)))) (puts (data_place version place (attributes_of c)) item)
        ∙ ap (λ (r : Result (Subvolume C) Refusal). more (taken (edited store part r))) e.3
        ∙ edits_make store key e.2 t version (place + length (canonical version c)) items e.4

    pub makes_body : (store : Store C) (part_taken : Taken) (part : Part C) (uuid : List ℕ) → part_uuid part_taken ≡ uuid → (b : Built zero_cell cells store part_taken part) → IsStore store
        → IsIn (unfinished b.head) store → uuid ≡ b.head.key.uuid → (place : ℕ)
        → made zero_cell put place store (Body (part_uuid part_taken) part_taken.head.version (map (λ item. item.command) part_taken.edits)) ≡ Some (with_contents uuid part.subvolume store)
    unfolding made resumed completed
    makes_body store part_taken part uuid own b d h k place =
        let head : Head = b.head in
        let version : ℕ = part_taken.head.version in
        let commands : List Command = map (λ item. item.command) part_taken.edits in
        let ends : Option (State C) → Option (Store C) = λ o. elim o as (λ o. Option (Store C)) [
          | None ↦ None
          | Some state ↦ option_map completed (edits_made zero_cell put version (frames_at place) state commands)
        ] in
        let opens : Option (Entry (Subvolume C)) → Option (State C) = λ o. elim o as (λ o. Option (State C)) [ None ↦ None | Some e ↦ started store e ] in
        ap (λ (o : Option (Entry (Subvolume C))). ends (opens o)) (unfinished_here store (unfinished head) (part_uuid part_taken) d h refl (own ∙ k))
        ∙ ap (λ (r : Result (Subvolume C) Refusal). ends (elim r as (λ r. Option (State C)) [
          | Err refusal ↦ None
          | Ok start ↦ Some (record { store = store; part = Some (record { key = head.key; subvolume = start }) })
        ])) b.from
        ∙ ap (option_map completed) (edits_make store head.key b.start part.subvolume version (frames_at place) part_taken.edits b.edits)
        ∙ ap (λ (u : List ℕ). Some (with_contents u part.subvolume store)) (sym k)
