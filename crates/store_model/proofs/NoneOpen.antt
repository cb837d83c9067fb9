-- Where no session is refused each part that began is complete: what is not complete is the current
-- part of a session.
use Rattle.std.specs.Prelude.{◌≡◌, ◌⊎◌, ℕ, zero, suc, ◌+◌, Bool, true, false, ◌||◌, List, [], ◌∷◌, ◌++◌, length, drop, Option, None, Some, Result, Ok, Err, is_some, if◌then◌else◌}
use Rattle.std.specs.List.{AllByRecursion, slice_get}
use Rattle.std.specs.Option.{option_map}
use Rattle.std.specs.Str.{bytes_eq}
use Rattle.std.proofs.Common.{refl, sym, ap, subst, ◌∙◌, inl, inr}
use Rattle.std.proofs.lemmas.Bool.{true≢false}
use Rattle.std.proofs.lemmas.Bool.Decides.{eqb_tells}
use Rattle.send_model.specs.Refusal.{Refusal}
use Rattle.send_model.specs.Command.{Command, End}
use Rattle.send_model.specs.Reading.{Item, Verdict, Ending, Whole, Faulty, HeaderDue, reads}
use Rattle.send_model.specs.Subvolume.{Subvolume}
use Rattle.send_model.specs.Store.{Key, Head, head_of, Entry, Store, Part, State, Stepped, unfinished, completed, begun, entered, step_head, edit_part, edited, step_edit, step}
use Rattle.send_model.specs.Receive.{verdict_of, fault_of, first_of, byte_cells, start_of}
use Rattle.send_model.specs.Guards.{Guard, guarded, looked}
use Rattle.send_model.specs.Order.{commands_of}
use Rattle.send_model.specs.Outside.{is_among}
use Rattle.send_model.specs.Counts.{is_end}
use Rattle.send_model.proofs.Sorts.{head_step, same_inside}
use Rattle.send_model.proofs.Stores.{bytes_eq_same}
use Rattle.send_model.proofs.Endings.{ends_from}
use Rattle.store_model.specs.Turns.{Taken, Receiving, Session, Event, Begins, Completes, Turn, part_of, turned, next_turn, session_turn, Turns, with_at, after_turn, one_turn, after_turns, at_entry, to_the_end, interleaved, sessions_from, turns_of, completed_parts, begun_entries, part_uuid, uuids_of, left_open}
use Rattle.store_model.specs.TurnLaws.{IsIn, LastIsEnd, NoneIsLeftOpen, FilesLeaveNoneOpen}
use Rattle.store_model.proofs.Entries.{in_left, in_right, in_either, none_passes, all_fail, passes}
use Rattle.store_model.proofs.Replay.{edit_step}
use Rattle.store_model.proofs.Moves.{done, is_left, was_left}
use Rattle.store_model.proofs.TurnOrder.{held_of, held_at, held_here, held_other, three_sorts, taken_by, receiving_by, completions_by, turned_by, Kept, turn_kept, entry_kept, turns_are_one_by_one}
use Rattle.store_model.proofs.Origins.{parts_joined, get_same, which_at}
use Rattle.store_model.proofs.AllOver.{all_are_over}
use Rattle.store_model.proofs.FilesInTurn.{all_new}

uuids_joined : (xs ys : List Taken) → uuids_of (xs ++ ys) ≡ uuids_of xs ++ uuids_of ys
unfolding uuids_of
uuids_joined [] ys = refl
uuids_joined (x ∷ xs) ys = ap (λ (l : List (List ℕ)). part_uuid x ∷ l) (uuids_joined xs ys)

done_joined : (xs ys : List Event) → done (xs ++ ys) ≡ done xs ++ done ys
done_joined xs ys = ap (λ (l : List Taken). uuids_of l) (parts_joined xs ys) ∙ uuids_joined (completed_parts xs) (completed_parts ys)

begun_joined : {S : Type 0} (xs ys : List Event) → begun_entries {S = S} (xs ++ ys) ≡ begun_entries xs ++ begun_entries ys
unfolding begun_entries
begun_joined [] ys = refl
begun_joined {S} (Begins head ∷ xs) ys =
    ap (λ (l : List (Entry S)). elim (head_of head.command) as (λ o. List (Entry S)) [ None ↦ l | Some h ↦ unfinished h ∷ l ]) (begun_joined xs ys) ∙ one (head_of head.command)
  where
    one : (o : Option Head) → ◌≡◌ {A = List (Entry S)} (elim o as (λ o. List (Entry S)) [ None ↦ begun_entries xs ++ begun_entries ys | Some h ↦ unfinished h ∷ (begun_entries xs ++ begun_entries ys) ])
        ((elim o as (λ o. List (Entry S)) [ None ↦ begun_entries xs | Some h ↦ unfinished h ∷ begun_entries xs ]) ++ begun_entries ys)
    one None = refl
    one (Some h) = refl
begun_joined (Completes part ∷ xs) ys = begun_joined xs ys

among_parts : (xs ys : List (List ℕ)) (u : List ℕ) → is_among (xs ++ ys) u ≡ false → (is_among xs u ≡ false) × (is_among ys u ≡ false)
among_parts xs ys u n =
    let test : List ℕ → Bool = λ x. bytes_eq x u in (
      all_fail test xs (λ x h. none_passes test x (xs ++ ys) n (in_left x xs ys h)),
      all_fail test ys (λ x h. none_passes test x (xs ++ ys) n (in_right x xs ys h)),
    )

-- What is left to read ends with END, or nothing is left and there is no part.
abbrev EndsBy : {C : Type 0} → List Item → Option (Receiving C) → Type 0
EndsBy [] part = part ≡ None
EndsBy (item ∷ items) part = LastIsEnd (item ∷ items)

ends_any : {C : Type 0} (item : Item) (items : List Item) (p : Option (Receiving C)) → LastIsEnd (item ∷ items) → (items ≡ [] → (item.command ≡ End) → p ≡ None) → EndsBy items p
ends_any item [] p l f = f refl l
ends_any item (next ∷ items) p l f = l

fault_none : (end : Ending) → fault_of end ≡ None → end ≡ Whole
fault_none Whole e = refl
fault_none (Faulty v) e = cc

verdict_none : (item : Item) (o : Option Refusal) → option_map (verdict_of item) o ≡ None → o ≡ None
verdict_none item None e = refl
verdict_none item (Some r) e = cc

both_none : (a b : Option Verdict) → first_of a b ≡ None → (a ≡ None) × (b ≡ None)
both_none None b e = (refl, e)
both_none (Some v) b e = cc

none_some : {A : Type 0} {x : A} → ◌≡◌ {A = Option A} None (Some x) → ⊥
none_some e = cc

module _ {C : Type 0} where
  -- What a turn that is not refused does of parts: each that it began is the session's, and the
  -- session's part before it is complete, or still the session's.
  record Handles (s : Session C) (t : Turn C) : Type 0 where
    mine : (e : Entry (Subvolume C)) → IsIn e (begun_entries t.events) → (r : Receiving C) × (held_of t.session ≡ Some r) × (r.part.key.uuid ≡ e.key.uuid)
    before : (r : Receiving C) → held_of s ≡ Some r → (is_among (done t.events) r.part.key.uuid ≡ true) ⊎ ((q : Receiving C) × (held_of t.session ≡ Some q) × (q.part.key.uuid ≡ r.part.key.uuid))
    ends : t.session.is_over ≡ false → t.session.end ≡ Whole → EndsBy t.session.items t.session.part

  abbrev EndsSo : Session C → Type 0
  EndsSo s = s.is_over ≡ false → s.end ≡ Whole → EndsBy s.items s.part

  -- a completion among the events
  completion_among : (o : Option Head) (b : Bool) (p : Option (Receiving C)) (r : Receiving C) (begs : List Event) → p ≡ Some r → (is_some o || b) ≡ true → part_uuid r.taken ≡ r.part.key.uuid
      → is_among (done (completions_by o b p ++ begs)) r.part.key.uuid ≡ true
  unfolding completed_parts uuids_of
  completion_among o b None r begs e ends own = cc
  completion_among o b (Some q) r begs e ends own =
      let is : completions_by o b (Some q) ≡ Completes r.taken ∷ [] = ap (λ (x : Bool). if x then Completes q.taken ∷ [] else []) ends ∙ ap (λ (x : Receiving C). Completes x.taken ∷ []) (same_inside e) in
      ap (λ (l : List Event). is_among (done (l ++ begs)) r.part.key.uuid) is ∙ passes (λ x. bytes_eq x r.part.key.uuid) (part_uuid r.taken) (part_uuid r.taken ∷ done begs) (inl refl) (ap (λ (u : List ℕ). bytes_eq u r.part.key.uuid) own ∙ bytes_eq_same r.part.key.uuid)

  no_begun : (o : Option Head) (b : Bool) (p : Option (Receiving C)) → begun_entries {S = Subvolume C} (completions_by o b p) ≡ []
  unfolding begun_entries
  no_begun o b None = refl
  no_begun o b (Some r) = one (is_some o || b)
    where
      one : (x : Bool) → begun_entries {S = Subvolume C} (if x then Completes r.taken ∷ [] else []) ≡ []
      one true = refl
      one false = refl

module _ {C : Type 0} (zero_cell : C) (cells : Item → List C) (store : Store C) (s : Session C) (going : s.is_over ≡ false) (own : (r : Receiving C) → s.part ≡ Some r → part_uuid r.taken ≡ r.part.key.uuid)
    (item : Item) (items : List Item) (last : s.end ≡ Whole → LastIsEnd (item ∷ items)) where
  held_is : held_of s ≡ s.part
  held_is = ap (λ (b : Bool). if b then None else s.part) going

  head_handles : (h : Head) (b : Bool) (p : Option (Receiving C)) → s.part ≡ p → head_of item.command ≡ Some h → (r : Result (Subvolume C) Refusal) (now : Store C)
      → (entered now h r).refusal ≡ None → Handles s (turned_by (Some h) b p s item items (entered now h r))
  unfolding begun_entries
  head_handles h b p is e (Err refusal) now ok = cc
  head_handles h b p is e (Ok start) now ok =
      let t : Turn C = turned_by (Some h) b p s item items (entered now h (Ok start)) in
      let begun_is : begun_entries t.events ≡ unfinished {S = Subvolume C} h ∷ [] =
      begun_joined (completions_by (Some h) b p) (Begins item ∷ []) ∙ ap (λ (l : List (Entry (Subvolume C))). l ++ begun_entries (Begins item ∷ [])) (no_begun (Some h) b p)
      ∙ ap (λ (o : Option Head). elim o as (λ o. List (Entry (Subvolume C))) [ None ↦ [] | Some h ↦ unfinished h ∷ [] ]) e in
      record {
        mine = λ x q. elim (subst (λ (l : List (Entry (Subvolume C))). IsIn x l) begun_is q) [
          | inl y ↦ (record { taken = taken_by (Some h) item p; part = record { key = h.key; subvolume = start } }, refl, ap (λ (z : Entry (Subvolume C)). z.key.uuid) (sym y))
          | inr y ↦ absurd y
        ];
        before = λ r q. inl (completion_among (Some h) b p r (Begins item ∷ []) (sym is ∙ sym held_is ∙ q) refl (own r (sym held_is ∙ q)));
        ends = λ over whole. ends_any item items t.session.part (last whole) (λ none c. absurd (no_head (ap head_of (sym c) ∙ e)));
      }
    where
      no_head : ◌≡◌ {A = Option Head} None (Some h) → ⊥
      no_head q = cc

  end_handles : (p : Option (Receiving C)) → s.part ≡ p → (now : Store C) → Handles s (turned_by None true p s item items (record { state = start_of now; refusal = None }))
  unfolding begun_entries
  end_handles p is now = record {
    mine = λ x q. absurd (subst (λ (l : List (Entry (Subvolume C))). IsIn x l) (begun_joined (completions_by None true p) [] ∙ ap (λ (l : List (Entry (Subvolume C))). l ++ []) (no_begun None true p)) q);
    before = λ r q. inl (completion_among None true p r [] (sym is ∙ sym held_is ∙ q) refl (own r (sym held_is ∙ q)));
    ends = λ over whole. ends_any item items None (last whole) (λ none c. refl);
  }

  edit_handles : (p : Option (Receiving C)) → s.part ≡ p → is_end item.command ≡ false → (after : Stepped C)
      → ((r : Receiving C) → p ≡ Some r → (t : Subvolume C) × (after.state.part ≡ Some (record { key = r.part.key; subvolume = t }))) → after.refusal ≡ None
      → Handles s (turned_by None false p s item items after)
  unfolding begun_entries
  edit_handles p is e after f ok = record {
    mine = λ x q. absurd (subst (λ (l : List (Entry (Subvolume C))). IsIn x l) (begun_joined (completions_by None false p) [] ∙ ap (λ (l : List (Entry (Subvolume C))). l ++ begun_entries []) (no_begun None false p) ∙ nothing) q);
    before = λ r q. let g = f r (sym is ∙ sym held_is ∙ q) in inr (
      record { taken = taken_by None item p; part = record { key = r.part.key; subvolume = g.0 } },
      ap (λ (o : Option Refusal). if is_some o then None else receiving_by None item p after.state.part) ok ∙ ap (receiving_by None item p) g.1,
      refl,
    );
    ends = λ over whole. ends_any item items (receiving_by None item p after.state.part) (last whole) (λ none c. absurd (true≢false (ap is_end (sym c) ∙ e)));
  }
    where
      nothing : begun_entries {S = Subvolume C} [] ≡ []
      nothing = refl

  edited_part : (q : Part C) (made : Result (Subvolume C) Refusal) → (edited store q made).refusal ≡ None → (t : Subvolume C) × ((edited store q made).state.part ≡ Some (record { key = q.key; subvolume = t }))
  edited_part q (Err refusal) e = cc
  edited_part q (Ok t) e = (t, refl)

  edit_part_is : (p : Option (Receiving C)) (r : Receiving C) → p ≡ Some r → (step_edit zero_cell (cells item) (record { store = store; part = part_of p }) item.command).refusal ≡ None
      → (t : Subvolume C) × ((step_edit zero_cell (cells item) (record { store = store; part = part_of p }) item.command).state.part ≡ Some (record { key = r.part.key; subvolume = t }))
  unfolding step_edit
  edit_part_is None r e ok = cc
  edit_part_is (Some q) r e ok =
      let g = edited_part q.part (edit_part zero_cell (cells item) store q.part item.command) ok in
      (g.0, g.1 ∙ ap (λ (x : Receiving C). Some (record { key = x.part.key; subvolume = g.0 })) (same_inside e))

  item_handles : (step zero_cell (cells item) (record { store = store; part = part_of s.part }) item.command).refusal ≡ None
      → Handles s (turned s item items (step zero_cell (cells item) (record { store = store; part = part_of s.part }) item.command))
  unfolding step step_head
  item_handles ok =
      let state : State C = record { store = store; part = part_of s.part } in
      let command : Command = item.command in
      let put : List C = cells item in
      elim (three_sorts command) as (λ x. Handles s (turned_by (head_of command) (is_end command) s.part s item items (step zero_cell put state command))) [
        | inl h ↦
            let is : step zero_cell put state command ≡ step_head state h.0 = head_step zero_cell put state command h.0 h.1 in
            subst (λ (o : Option Head). Handles s (turned_by o (is_end command) s.part s item items (step zero_cell put state command))) (sym h.1)
            (subst (λ (x : Stepped C). Handles s (turned_by (Some h.0) (is_end command) s.part s item items x)) (sym is)
            (head_handles h.0 (is_end command) s.part refl h.1 (begun (completed state) h.0) (completed state) (sym (ap (λ (x : Stepped C). x.refusal) is) ∙ ok)))
        | inr (inl e) ↦ subst (λ (c : Command). Handles s (turned_by (head_of c) (is_end c) s.part s item items (step zero_cell put state c))) (sym e) (end_handles s.part refl (completed state))
        | inr (inr e) ↦
            let is : step zero_cell put state command ≡ step_edit zero_cell put state command = edit_step zero_cell put state command e.0 e.1 in
            let fine : (step_edit zero_cell put state command).refusal ≡ None = sym (ap (λ (x : Stepped C). x.refusal) is) ∙ ok in
            subst (λ (o : Option Head). Handles s (turned_by o (is_end command) s.part s item items (step zero_cell put state command))) (sym e.0)
            (subst (λ (b : Bool). Handles s (turned_by None b s.part s item items (step zero_cell put state command))) (sym e.1)
            (subst (λ (x : Stepped C). Handles s (turned_by None false s.part s item items x)) (sym is)
            (edit_handles s.part refl e.1 (step_edit zero_cell put state command) (λ r q. edit_part_is s.part r q fine) fine)))
      ]

module _ {C : Type 0} (zero_cell : C) (cells : Item → List C) where
  next_handles : (store : Store C) (s : Session C) (items : List Item) → s.items ≡ items → s.is_over ≡ false → ((r : Receiving C) → s.part ≡ Some r → part_uuid r.taken ≡ r.part.key.uuid) → EndsSo s
      → (next_turn zero_cell cells store s items).refused ≡ None → Handles s (next_turn zero_cell cells store s items)
  unfolding begun_entries
  next_handles store s [] at going own ends ok =
      let none : s.part ≡ None = subst (λ (l : List Item). EndsBy l s.part) at (ends going (fault_none s.end ok)) in
      record {
        mine = λ x q. absurd q;
        before = λ r q. absurd (none_some (sym none ∙ (sym (ap (λ (b : Bool). if b then None else s.part) going) ∙ q)));
        ends = λ over whole. absurd (true≢false over);
      }
  next_handles store s (item ∷ items) at going own ends ok =
      one (guarded s.guards item.command) ok (λ e. item_handles zero_cell cells store s going own item items (λ whole. subst (λ (l : List Item). EndsBy l s.part) at (ends going whole)) (verdict_none item _ e))
    where
      one : (g : Option Refusal) → (elim g as (λ o. Turn C) [
        | Some refusal ↦ record {
          store = store;
          session = record s { items = items; guards = looked s.guards item.command; is_over = true };
          refused = Some (verdict_of item refusal);
          events = [];
        }
        | None ↦ turned s item items (step zero_cell (cells item) (record { store = store; part = part_of s.part }) item.command)
      ]).refused ≡ None
          → (option_map (verdict_of item) (step zero_cell (cells item) (record { store = store; part = part_of s.part }) item.command).refusal ≡ None
          → Handles s (turned s item items (step zero_cell (cells item) (record { store = store; part = part_of s.part }) item.command)))
          → Handles s (elim g as (λ o. Turn C) [
            | Some refusal ↦ record {
              store = store;
              session = record s { items = items; guards = looked s.guards item.command; is_over = true };
              refused = Some (verdict_of item refusal);
              events = [];
            }
            | None ↦ turned s item items (step zero_cell (cells item) (record { store = store; part = part_of s.part }) item.command)
          ])
      one None e f = f e
      one (Some refusal) e f = cc

  session_handles : (store : Store C) (s : Session C) → (s.is_over ≡ false → (r : Receiving C) → s.part ≡ Some r → part_uuid r.taken ≡ r.part.key.uuid) → EndsSo s
      → (session_turn zero_cell cells store s).refused ≡ None → Handles s (session_turn zero_cell cells store s)
  unfolding session_turn begun_entries
  session_handles store s own ends ok = one s.is_over refl ok
    where
      one : (b : Bool) → s.is_over ≡ b → (if b then record { store = store; session = s; refused = None; events = [] } else next_turn zero_cell cells store s s.items).refused ≡ None
          → Handles s (if b then record { store = store; session = s; refused = None; events = [] } else next_turn zero_cell cells store s s.items)
      one true e q = record {
        mine = λ x h. absurd h;
        before = λ r h. absurd (none_some (sym (ap (λ (b : Bool). if b then None else s.part) e) ∙ h));
        ends = ends;
      }
      one false e q = next_handles store s s.items refl e (own e) ends q

  -- ---- all sessions

  record Clean (w : Turns C) : Type 0 where
    open_is : (e : Entry (Subvolume C)) → IsIn e (left_open w.events) → (n : ℕ) × (r : Receiving C) × (held_at w.sessions n ≡ Some r) × (r.part.key.uuid ≡ e.key.uuid)
    ends : (n : ℕ) (s : Session C) → slice_get w.sessions n ≡ Some s → EndsSo s

  turn_clean : (base : Store C) (w : Turns C) (n : ℕ) → Kept zero_cell cells base w → (w.refused ≡ None → Clean w) → (one_turn zero_cell cells w n).refused ≡ None → Clean (one_turn zero_cell cells w n)
  unfolding one_turn
  turn_clean base w n k clean ok = one (slice_get w.sessions n) refl ok
    where
      one : (o : Option (Session C)) → slice_get w.sessions n ≡ o → (elim o as (λ o. Turns C) [ None ↦ w | Some s ↦ after_turn w n (session_turn zero_cell cells w.store s) ]).refused ≡ None
          → Clean (elim o as (λ o. Turns C) [ None ↦ w | Some s ↦ after_turn w n (session_turn zero_cell cells w.store s) ])
      one None at q = clean q
      one (Some s) at q =
          let t : Turn C = session_turn zero_cell cells w.store s in
          let both = both_none w.refused t.refused q in
          let was = clean both.0 in
          let own : s.is_over ≡ false → (r : Receiving C) → s.part ≡ Some r → part_uuid r.taken ≡ r.part.key.uuid = λ going r is.
          let o = k.1.parts n r (held_here w.sessions n s at ∙ ap (λ (b : Bool). if b then None else s.part) going ∙ is) in
          ap (λ (x : Option Head). elim x as (λ x. List ℕ) [ None ↦ [] | Some h ↦ h.key.uuid ]) o.built.is_head ∙ sym (ap (λ (key : Key). key.uuid) o.built.key_is) in
          let h = session_handles w.store s own (was.ends n s at) both.1 in
          let now_at : (r : Receiving C) → held_of t.session ≡ Some r → held_at (with_at n t.session w.sessions) n ≡ Some r =
          λ r e. held_here (with_at n t.session w.sessions) n t.session (get_same w.sessions n s t.session at) ∙ e in
          record {
            open_is = λ e l.
                let x = was_left (w.events ++ t.events) e l in
                let free = among_parts (done w.events) (done t.events) e.key.uuid (ap (λ (us : List (List ℕ)). is_among us e.key.uuid) (sym (done_joined w.events t.events)) ∙ x.1) in
                elim (in_either e (begun_entries w.events) (begun_entries t.events) (subst (λ (es : List (Entry (Subvolume C))). IsIn e es) (begun_joined w.events t.events) x.0)) [
                  | inl y ↦
                      let z = was.open_is e (is_left w.events e y free.0) in
                      elim (eqb_tells z.0 n) [
                        | inl same ↦ elim (h.before z.1 (sym (held_here w.sessions n s at) ∙ ap (held_at w.sessions) (sym same.1) ∙ z.2)) [
                          | inl d ↦ absurd (true≢false (sym d ∙ ap (is_among (done t.events)) z.3 ∙ free.1))
                          | inr d ↦ (n, d.0, now_at d.0 d.1, d.2 ∙ z.3)
                        ]
                        | inr other ↦ (z.0, z.1, held_other w.sessions n z.0 t.session other.1 ∙ z.2, z.3)
                      ]
                  | inr y ↦ let z = h.mine e y in (n, z.0, now_at z.0 z.1, z.2)
                ];
            ends = λ m z e. elim (which_at w.sessions n m s t.session z at e) [ inl x ↦ subst (λ (y : Session C). EndsSo y) (sym x.1) h.ends | inr x ↦ was.ends m z x ];
          }

  turns_clean : (base : Store C) (turns : List ℕ) (w : Turns C) → Kept zero_cell cells base w → (w.refused ≡ None → Clean w)
      → (after_turns zero_cell cells w turns).refused ≡ None → Clean (after_turns zero_cell cells w turns)
  unfolding after_turns
  turns_clean base [] w k clean ok = clean ok
  turns_clean base (n ∷ turns) w k clean ok = turns_clean base turns (one_turn zero_cell cells w n) (turn_kept zero_cell cells base w n k) (turn_clean base w n k clean) ok

module _ {C : Type 0} where
  over_holds_nothing : (sessions : List (Session C)) (n : ℕ) → AllByRecursion (λ s. s.is_over ≡ true) sessions → held_at sessions n ≡ None
  unfolding held_at
  over_holds_nothing [] n a = refl
  over_holds_nothing (s ∷ sessions) zero a = ap (λ (b : Bool). if b then None else s.part) a.0
  over_holds_nothing (s ∷ sessions) (suc n) a = over_holds_nothing sessions n a.1

  first_ends : (sessions : List (Session C)) (n : ℕ) (s : Session C) → AllByRecursion (λ s. s.end ≡ Whole → LastIsEnd s.items) sessions → slice_get sessions n ≡ Some s → EndsSo s
  first_ends [] n s a e = cc
  first_ends (x ∷ sessions) zero s a e = subst (λ (y : Session C). EndsSo y) (same_inside e) (λ going whole. one x.items (a.0 whole))
    where
      one : (items : List Item) → LastIsEnd items → EndsBy items x.part
      one [] h = absurd h
      one (item ∷ items) h = h
  first_ends (x ∷ sessions) (suc n) s a e = first_ends sessions n s a.1 e

  pub none_is_left_open : NoneIsLeftOpen C
  unfolding interleaved left_open begun_entries
  none_is_left_open zero_cell cells store schedule sessions d new ends ok e h =
      let start : Turns C = at_entry store sessions in
      let turns : List ℕ = schedule ++ to_the_end 0 sessions in
      let clean = turns_clean zero_cell cells store turns start (store, entry_kept zero_cell cells store sessions d new)
      (λ q. record { open_is = λ x l. absurd l; ends = λ n s at. first_ends sessions n s ends at }) ok in
      let found = clean.open_is e h in
      none_some (sym (over_holds_nothing (after_turns zero_cell cells start turns).sessions found.0 (all_are_over zero_cell cells store schedule sessions)) ∙ found.2)

-- ---- files

last_from : (items : List Item) (others : List Command) → commands_of items ≡ others ++ End ∷ [] → LastIsEnd items
last_from [] [] e = cc
last_from [] (c ∷ others) e = cc
last_from (x ∷ []) [] e = cc
last_from (x ∷ []) (c ∷ []) e = cc
last_from (x ∷ []) (c ∷ b ∷ others) e = cc
last_from (x ∷ y ∷ items) [] e = cc
last_from (x ∷ y ∷ items) (c ∷ others) e = last_from (y ∷ items) others (tails e)
  where
    tails : {A : Type 0} {a b : A} {xs ys : List A} → a ∷ xs ≡ b ∷ ys → xs ≡ ys
    tails e = cc

file_ends : (n : ℕ) (bytes : List ℕ) → (reads n bytes).end ≡ Whole → LastIsEnd (reads n bytes).items
unfolding reads
file_ends n bytes whole = let r = ends_from (suc (length bytes)) n HeaderDue 1 0 bytes whole in last_from (reads n bytes).items r.0 r.1

files_end : (n : ℕ) (files : List (List ℕ)) (guards : List Guard) (shares : List ℕ) → AllByRecursion (λ s. s.end ≡ Whole → LastIsEnd s.items) (sessions_from n files guards shares)
unfolding sessions_from
files_end n [] guards shares = tt
files_end n (file ∷ files) guards [] = (file_ends n file, files_end (n + 1) files guards [])
files_end n (file ∷ files) guards (share ∷ shares) = (file_ends n file, files_end (n + 1) files (drop share guards) shares)

pub files_leave_none_open : FilesLeaveNoneOpen
unfolding turns_of interleaved
files_leave_none_open store schedule files guards shares d ok e c =
    let sessions : List (Session ℕ) = sessions_from 1 files guards shares in
    let new = all_new 1 files guards shares in
    let turns : List ℕ = schedule ++ to_the_end 0 sessions in
    let end : Turns ℕ = after_turns 0 byte_cells (at_entry store sessions) turns in
    let is = (turns_are_one_by_one 0 byte_cells store sessions turns d new).unfinished e c in (
      λ h. elim (in_either e store (left_open end.events) (is.0 h)) [
        | inl q ↦ q
        | inr q ↦ absurd (none_is_left_open 0 byte_cells store schedule sessions d new (files_end 1 files guards shares) ok e q)
      ],
      λ h. is.1 (in_left e store (left_open end.events) h),
    )
