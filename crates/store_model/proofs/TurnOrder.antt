-- Turns one after the other: each is one of the moves, so what stands before the first one stands
-- after any number of them.
use Rattle.std.specs.Prelude.{◌≡◌, ◌⊎◌, ◌↔◌, ℕ, zero, suc, Bool, true, false, ◌&&◌, ◌||◌, List, [], ◌∷◌, ◌++◌, Option, None, Some, Result, Ok, Err, is_some, is_none, if◌then◌else◌}
use Rattle.std.specs.List.{AllByRecursion, slice_get}
use Rattle.std.specs.Option.{option_map}
use Rattle.std.proofs.Common.{refl, sym, ap, subst, ◌∙◌, inl, inr, append_assoc, append-nil}
use Rattle.std.proofs.lemmas.Bool.{true≢false}
use Rattle.send_model.specs.Refusal.{Refusal, NoSubvolume}
use Rattle.send_model.specs.Command.{Command, Subvol, Snapshot, End}
use Rattle.send_model.specs.Reading.{Item}
use Rattle.send_model.specs.Subvolume.{Subvolume}
use Rattle.send_model.specs.Store.{Key, Head, head_of, Entry, Store, IsStore, Part, State, Stepped, with_contents, completed, begun, entered, step_head, edit_part, edited, step_edit, step}
use Rattle.send_model.specs.Receive.{start_of, verdict_of}
use Rattle.send_model.specs.Guards.{guarded, looked}
use Rattle.send_model.specs.Counts.{is_end}
use Rattle.send_model.proofs.Sorts.{head_step, same_inside}
use Rattle.store_model.specs.Turns.{Taken, Receiving, Session, Event, Begins, Completes, Turn, part_of, completions, beginnings, turned, next_turn, session_turn, Turns, with_at, after_turn, one_turn, after_turns, at_entry, halfway_of, halfway, IsHalfway, completed_parts, begun_entries, uuids_of, turn_groups, left_open, one_by_one}
use Rattle.store_model.specs.Stored.{made_all}
use Rattle.store_model.specs.TurnLaws.{IsIn, IsComplete, AreOneByOne, TurnsAreOneByOne, FrontsAreStates, FrontStatesAreStates, StatesAreOneByOne}
use Rattle.store_model.proofs.Entries.{in_left, in_right, in_either}
use Rattle.store_model.proofs.Replay.{goes_run, edit_step, edits_more, edit_again}
use Rattle.store_model.proofs.Moves.{Open, Stands, finds_alone, edits_stand, completes_stand, begins_stand}

-- ---- the parts that sessions receive

module _ {C : Type 0} where
  abbrev pub held_of : Session C → Option (Receiving C)
  held_of s = if s.is_over then None else s.part

  unfoldable pub held_at : List (Session C) → ℕ → Option (Receiving C)
  held_at [] n = None
  held_at (s ∷ sessions) zero = held_of s
  held_at (s ∷ sessions) (suc n) = held_at sessions n

  pub held_here : (sessions : List (Session C)) (n : ℕ) (s : Session C) → slice_get sessions n ≡ Some s → held_at sessions n ≡ held_of s
  unfolding held_at
  held_here [] n s e = cc
  held_here (x ∷ sessions) zero s e = ap held_of (same_inside e)
  held_here (x ∷ sessions) (suc n) s e = held_here sessions n s e

  pub held_other : (sessions : List (Session C)) (n m : ℕ) (s : Session C) → (m ≡ n → ⊥) → held_at (with_at n s sessions) m ≡ held_at sessions m
  unfolding held_at with_at
  held_other [] n m s other = refl
  held_other (x ∷ sessions) zero zero s other = absurd (other refl)
  held_other (x ∷ sessions) zero (suc m) s other = refl
  held_other (x ∷ sessions) (suc n) zero s other = refl
  held_other (x ∷ sessions) (suc n) (suc m) s other = held_other sessions n m s (λ e. other (ap suc e))

  -- the part of the session that took a turn, or that of another one
  which_held : (sessions : List (Session C)) (n m : ℕ) (s : Session C) (r : Receiving C) → held_at (with_at n s sessions) m ≡ Some r
      → ((m ≡ n) × (held_of s ≡ Some r)) ⊎ ((m ≡ n → ⊥) × (held_at sessions m ≡ Some r))
  unfolding held_at with_at
  which_held [] n m s r e = cc
  which_held (x ∷ sessions) zero zero s r e = inl (refl, e)
  which_held (x ∷ sessions) zero (suc m) s r e = inr (λ q. cc, e)
  which_held (x ∷ sessions) (suc n) zero s r e = inr (λ q. cc, e)
  which_held (x ∷ sessions) (suc n) (suc m) s r e = elim (which_held sessions n m s r e) [
    | inl q ↦ inl (ap suc q.0, q.1)
    | inr q ↦ inr (λ p. q.0 (suc_same p), q.1)
  ]
    where
      suc_same : {a b : ℕ} → suc a ≡ suc b → a ≡ b
      suc_same p = cc

-- A command is a head, END or an edit.
pub three_sorts : (c : Command) → ((head : Head) × (head_of c ≡ Some head)) ⊎ ((c ≡ End) ⊎ ((head_of c ≡ None) × (is_end c ≡ false)))
three_sorts (Subvol uuid ctransid path) = inl (_, refl)
three_sorts (Snapshot uuid ctransid path clone_uuid clone_ctransid) = inl (_, refl)
three_sorts End = inr (inl refl)
three_sorts c = inr (inr (refl, refl))

-- What follows a step, by the head that the command is and whether it is END.
abbrev pub taken_by : {C : Type 0} → Option Head → Item → Option (Receiving C) → Taken
taken_by o item None = record { head = item; edits = [] }
taken_by o item (Some r) = if is_some o then record { head = item; edits = [] } else record { head = r.taken.head; edits = r.taken.edits ++ item ∷ [] }

abbrev pub receiving_by : {C : Type 0} → Option Head → Item → Option (Receiving C) → Option (Part C) → Option (Receiving C)
receiving_by o item old None = None
receiving_by o item old (Some part) = Some (record { taken = taken_by o item old; part = part })

abbrev pub completions_by : {C : Type 0} → Option Head → Bool → Option (Receiving C) → List Event
completions_by o b None = []
completions_by o b (Some r) = if is_some o || b then Completes r.taken ∷ [] else []

abbrev pub turned_by : {C : Type 0} → Option Head → Bool → Option (Receiving C) → Session C → Item → List Item → Stepped C → Turn C
turned_by o b p s item items after = record {
  store = after.state.store;
  session = record {
    items = items;
    end = s.end;
    guards = looked s.guards item.command;
    part = receiving_by o item p after.state.part;
    is_over = is_some after.refusal;
  };
  refused = option_map (verdict_of item) after.refusal;
  events = completions_by o b p ++ (if is_some o && is_none after.refusal then Begins item ∷ [] else []);
}

module _ {C : Type 0} (zero_cell : C) (cells : Item → List C) (base : Store C) where
  abbrev Good : List Event → List (Session C) → ℕ → Turn C → Type 0
  Good events sessions n t = (alone : Store C) × Stands zero_cell cells base t.store alone (events ++ t.events) (held_at (with_at n t.session sessions))

  -- A session that has no part afterwards, and did nothing to the store.
  drops : (store alone : Store C) (events : List Event) (sessions : List (Session C)) (n : ℕ) (s : Session C) → Stands zero_cell cells base store alone events (held_at sessions)
      → held_of s ≡ None → Stands zero_cell cells base store alone (events ++ []) (held_at (with_at n s sessions))
  drops store alone events sessions n s w none =
      subst (λ (l : List Event). Stands zero_cell cells base store alone l (held_at (with_at n s sessions))) (sym (append-nil events))
      (edits_stand zero_cell cells base store alone events (held_at sessions) (held_at (with_at n s sessions)) w (λ m r e. elim (which_held sessions n m s r e) [
        | inl q ↦ absurd (nothing r (sym none ∙ q.1))
        | inr q ↦ (w.parts m r q.1, (r, q.1, refl))
      ]))
    where
      nothing : (r : Receiving C) → ◌≡◌ {A = Option (Receiving C)} None (Some r) → ⊥
      nothing r e = cc

  -- One whose part is as it was.
  stays : (store alone : Store C) (events : List Event) (sessions : List (Session C)) (n : ℕ) (s now : Session C) → Stands zero_cell cells base store alone events (held_at sessions)
      → slice_get sessions n ≡ Some s → held_of now ≡ held_of s → Stands zero_cell cells base store alone (events ++ []) (held_at (with_at n now sessions))
  stays store alone events sessions n s now w at same =
      subst (λ (l : List Event). Stands zero_cell cells base store alone l (held_at (with_at n now sessions))) (sym (append-nil events))
      (edits_stand zero_cell cells base store alone events (held_at sessions) (held_at (with_at n now sessions)) w (λ m r e. elim (which_held sessions n m now r e) [
        | inl q ↦ let was : held_at sessions m ≡ Some r = ap (held_at sessions) q.0 ∙ held_here sessions n s at ∙ sym same ∙ q.1 in (w.parts m r was, (r, was, refl))
        | inr q ↦ (w.parts m r q.1, (r, q.1, refl))
      ]))

  -- One whose part is complete.
  completes : (store alone : Store C) (events : List Event) (sessions : List (Session C)) (n : ℕ) (s now : Session C) (r : Receiving C) → Stands zero_cell cells base store alone events (held_at sessions)
      → slice_get sessions n ≡ Some s → held_of s ≡ Some r → held_of now ≡ None
      → (more : Store C) × Stands zero_cell cells base (with_contents r.part.key.uuid r.part.subvolume store) more (events ++ Completes r.taken ∷ []) (held_at (with_at n now sessions))
  completes store alone events sessions n s now r w at own none =
      completes_stand zero_cell cells base store alone events (held_at sessions) (held_at (with_at n now sessions)) n r w (held_here sessions n s at ∙ own)
      (λ m q e. elim (which_held sessions n m now q e) [ inl x ↦ absurd (nothing q (sym none ∙ x.1)) | inr x ↦ (x.1, x.0) ])
    where
      nothing : (r : Receiving C) → ◌≡◌ {A = Option (Receiving C)} None (Some r) → ⊥
      nothing r e = cc

  -- ---- a head

  taken_head : (head : Head) (item : Item) (p : Option (Receiving C)) → taken_by (Some head) item p ≡ record { head = item; edits = [] }
  taken_head head item None = refl
  taken_head head item (Some r) = refl

  head_turn : (store alone : Store C) (events : List Event) (sessions old : List (Session C)) (n : ℕ) (now : Session C) (item : Item) (head : Head) (r : Result (Subvolume C) Refusal) (p : Option (Receiving C))
      → ((m : ℕ) → (m ≡ n → ⊥) → held_at old m ≡ held_at sessions m)
      → Stands zero_cell cells base store alone events (held_at old) → head_of item.command ≡ Some head → begun store head ≡ r
      → held_of now ≡ (if is_some (entered store head r).refusal then None else receiving_by (Some head) item p (entered store head r).state.part)
      → Stands zero_cell cells base (entered store head r).state.store alone (events ++ (if is_none (entered store head r).refusal then Begins item ∷ [] else [])) (held_at (with_at n now sessions))
  head_turn store alone events sessions old n now item head (Err refusal) p same w h b own =
      subst (λ (l : List Event). Stands zero_cell cells base store alone l (held_at (with_at n now sessions))) (sym (append-nil events))
      (edits_stand zero_cell cells base store alone events (held_at old) (held_at (with_at n now sessions)) w (λ m r e. elim (which_held sessions n m now r e) [
        | inl q ↦ absurd (nothing r (sym own ∙ q.1))
        | inr q ↦ (w.parts m r (same m q.0 ∙ q.1), (r, same m q.0 ∙ q.1, refl))
      ]))
    where
      nothing : (r : Receiving C) → ◌≡◌ {A = Option (Receiving C)} None (Some r) → ⊥
      nothing r e = cc
  head_turn store alone events sessions old n now item head (Ok start) p same w h b own =
      begins_stand zero_cell cells base store alone events (held_at old) (held_at (with_at n now sessions)) n item head start w h b
      (λ m q e. elim (which_held sessions n m now q e) [
        | inl x ↦ inl (x.0, sym (same_inside (sym (own ∙ ap (λ (y : Taken). Some (record { taken = y; part = record { key = head.key; subvolume = start } })) (taken_head head item p)) ∙ x.1)))
        | inr x ↦ inr (same m x.0 ∙ x.1)
      ])

  -- ---- one item

  module _ (store alone : Store C) (events : List Event) (sessions : List (Session C)) (n : ℕ) (s : Session C) (w : Stands zero_cell cells base store alone events (held_at sessions))
      (at : slice_get sessions n ≡ Some s) (item : Item) (items : List Item) where
    head_good : (head : Head) (b : Bool) (p : Option (Receiving C)) → held_of s ≡ p → head_of item.command ≡ Some head
        → Good events sessions n (turned_by (Some head) b p s item items (step_head (record { store = store; part = part_of p }) head))
    unfolding step_head completed
    head_good head b None own h =
        let after : Stepped C = entered store head (begun store head) in
        (alone, head_turn store alone events sessions sessions n (turned_by (Some head) b None s item items after).session item head (begun store head) None (λ m other. refl) w h refl refl)
    head_good head b (Some r) own h =
        let over : Session C = record s { is_over = true } in
        let now : Store C = with_contents r.part.key.uuid r.part.subvolume store in
        let after : Stepped C = entered now head (begun now head) in
        let c = completes store alone events sessions n s over r w at own refl in
        let v = head_turn now c.0 (events ++ Completes r.taken ∷ []) sessions (with_at n over sessions) n (turned_by (Some head) b (Some r) s item items after).session item head (begun now head) (Some r)
        (λ m other. held_other sessions n m over other) c.1 h refl refl in (
          c.0,
          subst (λ (l : List Event). Stands zero_cell cells base after.state.store c.0 l (held_at (with_at n (turned_by (Some head) b (Some r) s item items after).session sessions)))
              (append_assoc events (Completes r.taken ∷ []) (if is_none after.refusal then Begins item ∷ [] else [])) v,
        )

    end_good : (p : Option (Receiving C)) → held_of s ≡ p → Good events sessions n (turned_by None true p s item items (step zero_cell (cells item) (record { store = store; part = part_of p }) End))
    unfolding step completed
    end_good None own = (alone, drops store alone events sessions n (turned_by None true None s item items (record { state = start_of store; refusal = None })).session w refl)
    end_good (Some r) own =
        let now : Store C = with_contents r.part.key.uuid r.part.subvolume store in
        completes store alone events sessions n s (turned_by None true (Some r) s item items (record { state = start_of now; refusal = None })).session r w at own refl

    edited_good : (r : Receiving C) (made : Result (Subvolume C) Refusal) → held_of s ≡ Some r → head_of item.command ≡ None → is_end item.command ≡ false
        → edit_part zero_cell (cells item) store r.part item.command ≡ made
        → Good events sessions n (turned_by None false (Some r) s item items (edited store r.part made))
    edited_good r (Err refusal) own h e m = (alone, drops store alone events sessions n (turned_by None false (Some r) s item items (edited store r.part (Err refusal))).session w refl)
    edited_good r (Ok t) own h e m =
        let now : Session C = (turned_by None false (Some r) s item items (edited store r.part (Ok t))).session in
        let part : Part C = record { key = r.part.key; subvolume = t } in
        let next : Receiving C = record { taken = record { head = r.taken.head; edits = r.taken.edits ++ item ∷ [] }; part = part } in
        let held : held_at sessions n ≡ Some r = held_here sessions n s at ∙ own in
        let o = w.parts n r held in
        let mine : Open zero_cell cells store alone next = record {
          built = record {
            head = o.built.head;
            is_head = o.built.is_head;
            key_is = o.built.key_is;
            named = o.built.named;
            start = o.built.start;
            from = o.built.from;
            edits = edits_more zero_cell cells alone o.built.head.key o.built.start r.part.subvolume t r.taken.edits item o.built.edits h e
                (subst (λ (k : Key). edit_part zero_cell (cells item) alone (record { key = k; subvolume = r.part.subvolume }) item.command ≡ Ok t) o.built.key_is
                (edit_again zero_cell (cells item) store alone r.part item.command t (finds_alone zero_cell cells base store alone events (held_at sessions) w) m));
          };
          stands = o.stands;
          new_name = o.new_name;
          new_uuid = o.new_uuid;
        } in (
          alone,
          subst (λ (l : List Event). Stands zero_cell cells base store alone l (held_at (with_at n now sessions))) (sym (append-nil events))
              (edits_stand zero_cell cells base store alone events (held_at sessions) (held_at (with_at n now sessions)) w (λ m q d. elim (which_held sessions n m now q d) [
                | inl x ↦ subst (λ (y : Receiving C). Open zero_cell cells store alone y × ((z : Receiving C) × (held_at sessions m ≡ Some z) × (z.part.key.uuid ≡ y.part.key.uuid))) (same_inside x.1) (mine, (r, ap (held_at sessions) x.0 ∙ held, refl))
                | inr x ↦ (w.parts m q x.1, (q, x.1, refl))
              ])),
        )

    edit_good : (p : Option (Receiving C)) → held_of s ≡ p → head_of item.command ≡ None → is_end item.command ≡ false
        → Good events sessions n (turned_by None false p s item items (step_edit zero_cell (cells item) (record { store = store; part = part_of p }) item.command))
    unfolding step_edit
    edit_good None own h e = (alone, drops store alone events sessions n (turned_by None false None s item items (record { state = start_of store; refusal = Some NoSubvolume })).session w refl)
    edit_good (Some r) own h e = edited_good r (edit_part zero_cell (cells item) store r.part item.command) own h e refl

    item_good : s.is_over ≡ false → Good events sessions n (turned s item items (step zero_cell (cells item) (record { store = store; part = part_of s.part }) item.command))
    item_good going =
        let own : held_of s ≡ s.part = ap (λ (b : Bool). if b then None else s.part) going in
        let state : State C = record { store = store; part = part_of s.part } in
        let command : Command = item.command in
        let put : List C = cells item in
        elim (three_sorts command) as (λ x. Good events sessions n (turned_by (head_of command) (is_end command) s.part s item items (step zero_cell put state command))) [
          | inl h ↦ subst (λ (o : Option Head). Good events sessions n (turned_by o (is_end command) s.part s item items (step zero_cell put state command))) (sym h.1)
              (subst (λ (x : Stepped C). Good events sessions n (turned_by (Some h.0) (is_end command) s.part s item items x)) (sym (head_step zero_cell put state command h.0 h.1)) (head_good h.0 (is_end command) s.part own h.1))
          | inr (inl e) ↦ subst (λ (c : Command). Good events sessions n (turned_by (head_of c) (is_end c) s.part s item items (step zero_cell put state c))) (sym e) (end_good s.part own)
          | inr (inr e) ↦ subst (λ (o : Option Head). Good events sessions n (turned_by o (is_end command) s.part s item items (step zero_cell put state command))) (sym e.0)
              (subst (λ (b : Bool). Good events sessions n (turned_by None b s.part s item items (step zero_cell put state command))) (sym e.1)
              (subst (λ (x : Stepped C). Good events sessions n (turned_by None false s.part s item items x)) (sym (edit_step zero_cell put state command e.0 e.1)) (edit_good s.part own e.0 e.1)))
        ]

  -- ---- one turn

  next_good : (store alone : Store C) (events : List Event) (sessions : List (Session C)) (n : ℕ) (s : Session C) (items : List Item) → Stands zero_cell cells base store alone events (held_at sessions)
      → slice_get sessions n ≡ Some s → s.is_over ≡ false → Good events sessions n (next_turn zero_cell cells store s items)
  next_good store alone events sessions n s [] w at going = (alone, drops store alone events sessions n (record s { is_over = true }) w refl)
  next_good store alone events sessions n s (item ∷ items) w at going = one (guarded s.guards item.command) (item_good store alone events sessions n s w at item items going)
    where
      one : (o : Option Refusal) → Good events sessions n (turned s item items (step zero_cell (cells item) (record { store = store; part = part_of s.part }) item.command))
          → Good events sessions n (elim o as (λ o. Turn C) [
            | Some refusal ↦ record {
              store = store;
              session = record s { items = items; guards = looked s.guards item.command; is_over = true };
              refused = Some (verdict_of item refusal);
              events = [];
            }
            | None ↦ turned s item items (step zero_cell (cells item) (record { store = store; part = part_of s.part }) item.command)
          ])
      one None good = good
      one (Some refusal) good = (alone, drops store alone events sessions n (record s { items = items; guards = looked s.guards item.command; is_over = true }) w refl)

  session_good : (store alone : Store C) (events : List Event) (sessions : List (Session C)) (n : ℕ) (s : Session C) → Stands zero_cell cells base store alone events (held_at sessions)
      → slice_get sessions n ≡ Some s → Good events sessions n (session_turn zero_cell cells store s)
  unfolding session_turn
  session_good store alone events sessions n s w at = one s.is_over refl
    where
      one : (b : Bool) → s.is_over ≡ b → Good events sessions n (if b then record { store = store; session = s; refused = None; events = [] } else next_turn zero_cell cells store s s.items)
      one true e = (alone, stays store alone events sessions n s s w at refl)
      one false e = next_good store alone events sessions n s s.items w at e

  -- After turns there is what receiving the completed parts one after the other leaves.
  abbrev pub Kept : Turns C → Type 0
  Kept w = (alone : Store C) × Stands zero_cell cells base w.store alone w.events (held_at w.sessions)

  pub turn_kept : (w : Turns C) (n : ℕ) → Kept w → Kept (one_turn zero_cell cells w n)
  unfolding one_turn
  turn_kept w n k = one (slice_get w.sessions n) refl
    where
      one : (o : Option (Session C)) → slice_get w.sessions n ≡ o → Kept (elim o as (λ o. Turns C) [ None ↦ w | Some s ↦ after_turn w n (session_turn zero_cell cells w.store s) ])
      one None e = k
      one (Some s) e = session_good w.store k.0 w.events w.sessions n s k.1 e

  pub turns_kept : (turns : List ℕ) (w : Turns C) → Kept w → Kept (after_turns zero_cell cells w turns)
  unfolding after_turns
  turns_kept [] w k = k
  turns_kept (n ∷ turns) w k = turns_kept turns (one_turn zero_cell cells w n) (turn_kept w n k)

module _ {C : Type 0} where
  held_none : (sessions : List (Session C)) (n : ℕ) → AllByRecursion (λ s. s.part ≡ None) sessions → held_at sessions n ≡ None
  unfolding held_at
  held_none [] n a = refl
  held_none (s ∷ sessions) zero a = one s.is_over a.0
    where
      one : (b : Bool) → s.part ≡ None → (if b then None else s.part) ≡ None
      one true e = refl
      one false e = e
  held_none (s ∷ sessions) (suc n) a = held_none sessions n a.1

  pub entry_kept : (zero_cell : C) (cells : Item → List C) (store : Store C) (sessions : List (Session C)) → IsStore store → AllByRecursion (λ s. s.part ≡ None) sessions
      → Stands zero_cell cells store store store [] (held_at sessions)
  unfolding left_open completed_parts begun_entries uuids_of turn_groups made_all
  entry_kept zero_cell cells store sessions d a = record {
    distinct = d;
    alone_distinct = d;
    goes = refl;
    inside = λ e h. h;
    back = λ e c h. h;
    parts = λ n r e. absurd (nothing r (sym (held_none sessions n a) ∙ e));
    apart = λ n m r q e d other same. nothing r (sym (held_none sessions n a) ∙ e);
    new = [];
    alone_is = sym (append-nil store);
    entries = tt;
    shaped = tt;
    groups = λ put puts gate. refl;
    left = λ e c h. inl h;
    left_back = λ e c h. absurd h;
    known = λ u h. absurd (true≢false (sym h));
  }
    where
      nothing : (r : Receiving C) → ◌≡◌ {A = Option (Receiving C)} None (Some r) → ⊥
      nothing r e = cc

  stand_one_by_one : (zero_cell : C) (cells : Item → List C) (base store alone : Store C) (events : List Event) (held : ℕ → Option (Receiving C))
      → Stands zero_cell cells base store alone events held → AreOneByOne zero_cell cells base events store
  unfolding one_by_one
  stand_one_by_one zero_cell cells base store alone events held w = record {
    new = w.new;
    accepted = goes_run zero_cell cells _ (start_of base) (start_of alone) w.goes ∙ ap (λ (l : Store C). record { state = start_of l; refused = None }) w.alone_is;
    parts = w.entries;
    complete = subst (λ (l : Store C). (e : Entry (Subvolume C)) → IsComplete e → IsIn e store ↔ IsIn e l) w.alone_is (λ e c. (w.back e c, w.inside e));
    unfinished = λ e c. (
      λ h. elim (w.left e c h) [ inl q ↦ in_left e base (left_open events) q | inr q ↦ in_right e base (left_open events) q ],
      λ h. elim (in_either e base (left_open events) h) [
        | inl q ↦ w.inside e (subst (λ (l : Store C). IsIn e l) (sym w.alone_is) (in_left e base w.new q))
        | inr q ↦ w.left_back e c q
      ],
    );
    shaped = w.shaped;
    groups = w.groups;
    distinct = (w.distinct, subst (λ (l : Store C). IsStore l) w.alone_is w.alone_distinct);
  }

  kept_after : (zero_cell : C) (cells : Item → List C) (store : Store C) (sessions : List (Session C)) (turns : List ℕ) → IsStore store → AllByRecursion (λ s. s.part ≡ None) sessions
      → Kept zero_cell cells store (after_turns zero_cell cells (at_entry store sessions) turns)
  kept_after zero_cell cells store sessions turns d a = turns_kept zero_cell cells store turns (at_entry store sessions) (store, entry_kept zero_cell cells store sessions d a)

  pub turns_are_one_by_one : TurnsAreOneByOne C
  turns_are_one_by_one zero_cell cells store sessions turns d a =
      let end : Turns C = after_turns zero_cell cells (at_entry store sessions) turns in
      let k = kept_after zero_cell cells store sessions turns d a in
      stand_one_by_one zero_cell cells store end.store k.0 end.events (held_at end.sessions) k.1

-- ---- what a crash may leave

module _ {C : Type 0} where
  pub turns_joined : (zero_cell : C) (cells : Item → List C) (w : Turns C) (first rest : List ℕ)
      → after_turns zero_cell cells w (first ++ rest) ≡ after_turns zero_cell cells (after_turns zero_cell cells w first) rest
  unfolding after_turns
  turns_joined zero_cell cells w [] rest = refl
  turns_joined zero_cell cells w (n ∷ first) rest = turns_joined zero_cell cells (one_turn zero_cell cells w n) first rest

  -- Events come behind those before them.
  abbrev pub Behind : Turns C → Turns C → Type 0
  Behind w v = (more : List Event) × (v.events ≡ w.events ++ more)

  turn_behind : (zero_cell : C) (cells : Item → List C) (w : Turns C) (n : ℕ) → Behind w (one_turn zero_cell cells w n)
  unfolding one_turn
  turn_behind zero_cell cells w n = one (slice_get w.sessions n)
    where
      one : (o : Option (Session C)) → Behind w (elim o as (λ o. Turns C) [ None ↦ w | Some s ↦ after_turn w n (session_turn zero_cell cells w.store s) ])
      one None = ([], sym (append-nil w.events))
      one (Some s) = ((session_turn zero_cell cells w.store s).events, refl)

  behind_twice : (u v w : Turns C) → Behind u v → Behind v w → Behind u w
  behind_twice u v w a b = (a.0 ++ b.0, b.1 ∙ ap (λ (l : List Event). l ++ b.0) a.1 ∙ append_assoc u.events a.0 b.0)

  pub turns_behind : (zero_cell : C) (cells : Item → List C) (w : Turns C) (turns : List ℕ) → Behind w (after_turns zero_cell cells w turns)
  unfolding after_turns
  turns_behind zero_cell cells w [] = ([], sym (append-nil w.events))
  turns_behind zero_cell cells w (n ∷ turns) =
      let next : Turns C = one_turn zero_cell cells w n in
      behind_twice w next (after_turns zero_cell cells next turns) (turn_behind zero_cell cells w n) (turns_behind zero_cell cells next turns)

  pub fronts_are_states : FrontsAreStates C
  fronts_are_states zero_cell cells w first rest = record { first = first; rest = rest; turns_are = refl; is = inl refl }

  pub front_states_are_states : FrontStatesAreStates C
  front_states_are_states zero_cell cells w first rest now s = record {
    first = s.first;
    rest = s.rest ++ rest;
    turns_are = ap (λ (l : List ℕ). l ++ rest) s.turns_are ∙ append_assoc s.first s.rest rest;
    is = elim s.is [ inl e ↦ inl e | inr e ↦ inr (further (after_turns zero_cell cells w s.first) s.rest e) ];
  }
    where
      further : (v : Turns C) (turns : List ℕ) → IsHalfway v turns now → IsHalfway v (turns ++ rest) now
      further v [] h = absurd h
      further v (n ∷ turns) h = h

-- A list of one element or of none.
abbrev pub AtMostOne : {A : Type 0} → List A → Type 0
AtMostOne [] = Unit {0}
AtMostOne (x ∷ []) = Unit {0}
AtMostOne (x ∷ y ∷ xs) = ⊥

begs_one : (item : Item) (o : Option Refusal) → AtMostOne (beginnings item o)
begs_one item o = one (is_some (head_of item.command) && is_none o)
  where
    one : (b : Bool) → AtMostOne (if b then Begins item ∷ [] else [])
    one true = tt
    one false = tt

no_completions : {C : Type 0} (c : Command) (p : Option (Receiving C)) → (is_some (head_of c) || is_end c) ≡ false → completions c p ≡ []
no_completions c None e = refl
no_completions c (Some r) e = ap (λ (b : Bool). if b then Completes r.taken ∷ [] else []) e

module _ {C : Type 0} (zero_cell : C) (cells : Item → List C) (base : Store C) (w : Turns C) (n : ℕ) (k : Kept zero_cell cells base w) where
  -- What stands between a completion and a head is what the first of at most two events of a turn
  -- made.
  abbrev pub Done : Turns C → Store C → Type 0
  Done v now = (extra more : List Event) × (v.events ≡ (w.events ++ extra) ++ more) × AtMostOne extra × AtMostOne more × AreOneByOne zero_cell cells base (w.events ++ extra) now

  pub before_is : AreOneByOne zero_cell cells base w.events w.store
  before_is = stand_one_by_one zero_cell cells base w.store k.0 w.events (held_at w.sessions) k.1

  before_turn : (v : Turns C) (more : List Event) → v.events ≡ w.events ++ more → AtMostOne more → Done v w.store
  before_turn v more is one =
      ([], more, is ∙ ap (λ (l : List Event). l ++ more) (sym (append-nil w.events)), tt, one, subst (λ (l : List Event). AreOneByOne zero_cell cells base l w.store) (sym (append-nil w.events)) before_is)

  module _ (s : Session C) (at : slice_get w.sessions n ≡ Some s) (going : s.is_over ≡ false) (item : Item) (items : List Item) where
    abbrev after_step : Stepped C
    after_step = step zero_cell (cells item) (record { store = w.store; part = part_of s.part }) item.command

    abbrev begs : List Event
    begs = beginnings item after_step.refusal

    nothing_ends : completions item.command s.part ≡ [] → Done (after_turn w n (turned s item items after_step)) w.store
    nothing_ends none = before_turn (after_turn w n (turned s item items after_step)) begs (ap (λ (l : List Event). w.events ++ (l ++ begs)) none) (begs_one item after_step.refusal)

    part_done : (p : Option (Receiving C)) → s.part ≡ p → (is_some (head_of item.command) || is_end item.command) ≡ true
        → Done (after_turn w n (turned s item items after_step)) (completed (record { store = w.store; part = part_of p }))
    unfolding completed
    part_done None own ends = nothing_ends (ap (completions item.command) own)
    part_done (Some r) own ends =
        let over : Session C = record s { is_over = true } in
        let c = completes zero_cell cells base w.store k.0 w.events w.sessions n s over r k.1 at (ap (λ (b : Bool). if b then None else s.part) going ∙ own) refl in
        let is : completions item.command s.part ≡ Completes r.taken ∷ [] = ap (completions item.command) own ∙ ap (λ (b : Bool). if b then Completes r.taken ∷ [] else []) ends in (
          Completes r.taken ∷ [],
          begs,
          ap (λ (l : List Event). w.events ++ (l ++ begs)) is ∙ sym (append_assoc w.events (Completes r.taken ∷ []) begs),
          tt,
          begs_one item after_step.refusal,
          stand_one_by_one zero_cell cells base (with_contents r.part.key.uuid r.part.subvolume w.store) c.0 (w.events ++ Completes r.taken ∷ []) (held_at (with_at n over w.sessions)) c.1,
        )

    taken_done : (b : Bool) → (is_some (head_of item.command) || is_end item.command) ≡ b
        → Done (after_turn w n (turned s item items after_step)) (if b then completed (record { store = w.store; part = part_of s.part }) else w.store)
    taken_done true ends = part_done s.part refl ends
    taken_done false ends = nothing_ends (no_completions item.command s.part ends)

    item_done : (g : Option Refusal)
        → Done (after_turn w n (elim g as (λ o. Turn C) [
          | Some refusal ↦ record {
            store = w.store;
            session = record s { items = items; guards = looked s.guards item.command; is_over = true };
            refused = Some (verdict_of item refusal);
            events = [];
          }
          | None ↦ turned s item items after_step
        ])) (if is_none g && (is_some (head_of item.command) || is_end item.command) then completed (record { store = w.store; part = part_of s.part }) else w.store)
    item_done (Some refusal) = before_turn (after_turn w n (record {
      store = w.store;
      session = record s { items = items; guards = looked s.guards item.command; is_over = true };
      refused = Some (verdict_of item refusal);
      events = [];
    })) [] refl tt
    item_done None = taken_done (is_some (head_of item.command) || is_end item.command) refl

  next_done : (s : Session C) → slice_get w.sessions n ≡ Some s → s.is_over ≡ false → (items : List Item)
      → Done (after_turn w n (next_turn zero_cell cells w.store s items)) (halfway_of w.store s items)
  next_done s at going [] = before_turn (after_turn w n (next_turn zero_cell cells w.store s [])) [] refl tt
  next_done s at going (item ∷ items) = item_done s at going item items (guarded s.guards item.command)

  session_done : (s : Session C) → slice_get w.sessions n ≡ Some s → (b : Bool) → s.is_over ≡ b
      → Done (after_turn w n (if b then record { store = w.store; session = s; refused = None; events = [] } else next_turn zero_cell cells w.store s s.items)) (if b then w.store else halfway_of w.store s s.items)
  session_done s at true e = before_turn (after_turn w n (record { store = w.store; session = s; refused = None; events = [] })) [] refl tt
  session_done s at false e = next_done s at e s.items

  pub halfway_done : Done (one_turn zero_cell cells w n) (halfway w n)
  unfolding one_turn session_turn
  halfway_done = one (slice_get w.sessions n) refl
    where
      one : (o : Option (Session C)) → slice_get w.sessions n ≡ o → Done (elim o as (λ o. Turns C) [ None ↦ w | Some s ↦ after_turn w n (session_turn zero_cell cells w.store s) ])
          (elim o as (λ o. Store C) [ None ↦ w.store | Some s ↦ if s.is_over then w.store else halfway_of w.store s s.items ])
      one None e = before_turn w [] (sym (append-nil w.events)) tt
      one (Some s) e = session_done s e s.is_over refl

module _ {C : Type 0} where
  pub states_are_one_by_one : StatesAreOneByOne C
  unfolding after_turns
  states_are_one_by_one zero_cell cells store sessions turns now d a state =
      let start : Turns C = at_entry store sessions in
      let v : Turns C = after_turns zero_cell cells start state.first in
      let k = kept_after zero_cell cells store sessions state.first d a in
      let whole : after_turns zero_cell cells start turns ≡ after_turns zero_cell cells v state.rest = ap (after_turns zero_cell cells start) state.turns_are ∙ turns_joined zero_cell cells start state.first state.rest in
      let events_are : (after_turns zero_cell cells start turns).events ≡ (after_turns zero_cell cells v state.rest).events = ap (λ (w : Turns C). w.events) whole in
      elim state.is [
        | inl e ↦
            let b = turns_behind zero_cell cells v state.rest in
            (v.events, b.0, events_are ∙ b.1, subst (λ (l : Store C). AreOneByOne zero_cell cells store v.events l) (sym e) (stand_one_by_one zero_cell cells store v.store k.0 v.events (held_at v.sessions) k.1))
        | inr e ↦ one v k state.rest ((after_turns zero_cell cells start turns).events) events_are e
      ]
    where
      one : (v : Turns C) → Kept zero_cell cells store v → (rest : List ℕ) (all : List Event) → all ≡ (after_turns zero_cell cells v rest).events → IsHalfway v rest now
          → (events more : List Event) × (all ≡ events ++ more) × AreOneByOne zero_cell cells store events now
      one v k [] all is h = absurd h
      one v k (n ∷ rest) all is h =
          let half = halfway_done zero_cell cells store v n k in
          let b = turns_behind zero_cell cells (one_turn zero_cell cells v n) rest in (
            v.events ++ half.0,
            half.1 ++ b.0,
            is ∙ b.1 ∙ ap (λ (l : List Event). l ++ b.0) half.2 ∙ append_assoc (v.events ++ half.0) half.1 b.0,
            subst (λ (l : Store C). AreOneByOne zero_cell cells store (v.events ++ half.0) l) (sym h) half.5,
          )
