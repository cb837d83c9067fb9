-- Where completed parts come from: each stands in what its session read.
use Rattle.std.specs.Prelude.{◌≡◌, ◌⊎◌, ℕ, zero, suc, Bool, true, false, ◌&&◌, ◌||◌, List, [], ◌∷◌, ◌++◌, Option, None, Some, is_some, is_none, if◌then◌else◌}
use Rattle.std.specs.List.{AllByRecursion, slice_get}
use Rattle.std.proofs.Common.{refl, sym, ap, subst, ◌∙◌, inl, inr, append_assoc}
use Rattle.send_model.specs.Refusal.{Refusal}
use Rattle.send_model.specs.Command.{Command, End}
use Rattle.send_model.specs.Reading.{Item}
use Rattle.send_model.specs.Store.{Head, head_of, Store, Part, State, Stepped, step_edit, step}
use Rattle.send_model.specs.Receive.{verdict_of}
use Rattle.send_model.specs.Guards.{guarded, looked}
use Rattle.send_model.specs.Counts.{is_end}
use Rattle.send_model.proofs.Sorts.{same_inside}
use Rattle.store_model.specs.Turns.{Taken, Receiving, Session, Event, Begins, Completes, Turn, part_of, turned, next_turn, session_turn, Turns, with_at, after_turn, one_turn, after_turns, at_entry, completed_parts}
use Rattle.store_model.specs.TurnLaws.{IsIn, IsReadBy, IsHeadOf, PartsAreRead}
use Rattle.store_model.proofs.Entries.{in_right, in_either}
use Rattle.store_model.proofs.Replay.{edit_step}
use Rattle.store_model.proofs.TurnOrder.{held_of, three_sorts, taken_by, receiving_by, completions_by, turned_by}

pub parts_joined : (xs ys : List Event) → completed_parts (xs ++ ys) ≡ completed_parts xs ++ completed_parts ys
unfolding completed_parts
parts_joined [] ys = refl
parts_joined (Begins head ∷ xs) ys = parts_joined xs ys
parts_joined (Completes part ∷ xs) ys = ap (λ (l : List Taken). part ∷ l) (parts_joined xs ys)

no_head : {head : Item} {part : Taken} → Begins head ≡ Completes part → ⊥
no_head q = cc

and_true : (a b : Bool) → a && b ≡ true → (a ≡ true) × (b ≡ true)
and_true true b e = (refl, e)
and_true false b e = cc

no_parts : (b : Bool) (item : Item) → completed_parts (if b then Begins item ∷ [] else []) ≡ []
unfolding completed_parts
no_parts true item = refl
no_parts false item = refl

module _ {A : Type 0} where
  pub get_same : (xs : List A) (n : ℕ) (x y : A) → slice_get xs n ≡ Some x → slice_get (with_at n y xs) n ≡ Some y
  unfolding with_at
  get_same [] n x y e = cc
  get_same (a ∷ xs) zero x y e = refl
  get_same (a ∷ xs) (suc n) x y e = get_same xs n x y e

  -- the element at a place, or another one as it was
  pub which_at : (xs : List A) (n m : ℕ) (x y z : A) → slice_get xs n ≡ Some x → slice_get (with_at n y xs) m ≡ Some z → ((m ≡ n) × (z ≡ y)) ⊎ (slice_get xs m ≡ Some z)
  unfolding with_at
  which_at [] n m x y z h e = inr e
  which_at (a ∷ xs) zero zero x y z h e = inl (refl, sym (same_inside e))
  which_at (a ∷ xs) zero (suc m) x y z h e = inr e
  which_at (a ∷ xs) (suc n) zero x y z h e = inr e
  which_at (a ∷ xs) (suc n) (suc m) x y z h e = elim (which_at xs n m x y z h e) [ inl q ↦ inl (ap suc q.0, q.1) | inr q ↦ inr q ]

module _ {C : Type 0} where
  -- What a session read of its items, and that its current part ends there.
  record Reads (start s : Session C) : Type 0 where
    read : List Item
    items_are : start.items ≡ read ++ s.items
    part : (r : Receiving C) → held_of s ≡ Some r → (before : List Item) × (read ≡ before ++ (r.taken.head ∷ r.taken.edits))

  held_taken : (o : Option Head) (item : Item) (p : Option (Receiving C)) (refusal : Option Refusal) (part : Option (Part C)) (r : Receiving C)
      → (if is_some refusal then None else receiving_by o item p part) ≡ Some r → taken_by o item p ≡ r.taken
  held_taken o item p (Some x) part r e = cc
  held_taken o item p None None r e = cc
  held_taken o item p None (Some part) r e = ap (λ (q : Receiving C). q.taken) (same_inside e)

  head_taken : (o : Option Head) (item : Item) (p : Option (Receiving C)) → is_some o ≡ true → taken_by o item p ≡ record { head = item; edits = [] }
  head_taken o item None h = refl
  head_taken o item (Some r) h = rw h refl

module _ {C : Type 0} (zero_cell : C) (cells : Item → List C) (entry : List (Session C)) where
  abbrev AllRead : List Event → Type 0
  AllRead events = ((part : Taken) → IsIn part (completed_parts events) → IsReadBy entry part) × ((head : Item) → IsIn (Begins head) events → IsHeadOf entry head)

  all_joined : (xs ys : List Event) → AllRead xs → AllRead ys → AllRead (xs ++ ys)
  all_joined xs ys f g = (
    λ part h. elim (in_either part (completed_parts xs) (completed_parts ys) (subst (λ (l : List Taken). IsIn part l) (parts_joined xs ys) h)) [ inl q ↦ f.0 part q | inr q ↦ g.0 part q ],
    λ head h. elim (in_either (Begins head) xs ys h) [ inl q ↦ f.1 head q | inr q ↦ g.1 head q ],
  )

  none_read : AllRead []
  unfolding completed_parts
  none_read = (λ part h. absurd h, λ head h. absurd h)

  same_head : {a b : Item} → Begins a ≡ Begins b → a ≡ b
  same_head e = cc

  begs_read : (b : Bool) (item : Item) → (b ≡ true → IsHeadOf entry item) → AllRead (if b then Begins item ∷ [] else [])
  begs_read b item f = (λ part h. absurd (subst (λ (l : List Taken). IsIn part l) (no_parts b item) h), λ head h. one b refl head h)
    where
      one : (x : Bool) → b ≡ x → (head : Item) → IsIn (Begins head) (if x then Begins item ∷ [] else []) → IsHeadOf entry head
      one true e head (inl q) = subst (λ (i : Item). IsHeadOf entry i) (sym (same_head q)) (f e)
      one true e head (inr q) = absurd q
      one false e head h = absurd h

  module _ (n : ℕ) (start s : Session C) (there : slice_get entry n ≡ Some start) (reads : Reads start s) where
    abbrev Good : Turn C → Type 0
    Good t = Reads start t.session × AllRead t.events

    module _ (going : s.is_over ≡ false) (item : Item) (items : List Item) (own : s.items ≡ item ∷ items) where
      now_read : start.items ≡ (reads.read ++ item ∷ []) ++ items
      now_read = reads.items_are ∙ ap (λ (l : List Item). reads.read ++ l) own ∙ sym (append_assoc reads.read (item ∷ []) items)

      held_is : held_of s ≡ s.part
      held_is = ap (λ (b : Bool). if b then None else s.part) going

      -- a part that ends at this item
      completed_read : (o : Option Head) (b : Bool) (p : Option (Receiving C)) → s.part ≡ p → (is_some o || b) ≡ (is_some (head_of item.command) || is_end item.command) → AllRead (completions_by o b p)
      unfolding completed_parts
      completed_read o b None is same = none_read
      completed_read o b (Some r) is same = one (is_some o || b) (sym same)
        where
          one : (x : Bool) → (is_some (head_of item.command) || is_end item.command) ≡ x → AllRead (if x then Completes r.taken ∷ [] else [])
          one false e = none_read
          one true e = let was = reads.part r (held_is ∙ is) in (
            λ part h. elim h [
              | inl q ↦ record {
                number = n;
                session = start;
                there = there;
                before = was.0;
                next = item;
                after = items;
                items = reads.items_are ∙ (λ i. was.1 i ++ own i) ∙ append_assoc was.0 (r.taken.head ∷ r.taken.edits) (item ∷ items) ∙ ap (λ (t : Taken). was.0 ++ ((t.head ∷ t.edits) ++ item ∷ items)) (sym q);
                ends = e;
              }
              | inr q ↦ absurd q
            ],
            λ head h. elim h [ inl q ↦ absurd (no_head q) | inr q ↦ absurd q ],
          )

      -- the current part after the item
      turn_good : (o : Option Head) (b : Bool) (p : Option (Receiving C)) (after : Stepped C) → s.part ≡ p → is_some o ≡ is_some (head_of item.command) → (is_some o || b) ≡ (is_some (head_of item.command) || is_end item.command)
          → ((r : Receiving C) → held_of (turned_by o b p s item items after).session ≡ Some r → (before : List Item) × (reads.read ++ item ∷ [] ≡ before ++ (r.taken.head ∷ r.taken.edits)))
          → Good (turned_by o b p s item items after)
      turn_good o b p after is head_is same part = (
        record { read = reads.read ++ item ∷ []; items_are = now_read; part = part },
        all_joined (completions_by o b p) (if is_some o && is_none after.refusal then Begins item ∷ [] else []) (completed_read o b p is same) (begs_read (is_some o && is_none after.refusal) item (λ e. record {
          number = n;
          session = start;
          there = there;
          stands = subst (λ (l : List Item). IsIn item l) (sym (reads.items_are ∙ ap (λ (l : List Item). reads.read ++ l) own)) (in_right item reads.read (item ∷ items) (inl refl));
          is_head = sym head_is ∙ (and_true (is_some o) (is_none after.refusal) e).0;
        })),
      )

      ended : (store : Store C) (r : Receiving C) (c : Command) → c ≡ End
          → held_of (turned_by (head_of c) (is_end c) s.part s item items (step zero_cell (cells item) (record { store = store; part = part_of s.part }) c)).session ≡ Some r → ⊥
      unfolding step
      ended store r c e held = nothing (subst (λ (d : Command). held_of (turned_by (head_of d) (is_end d) s.part s item items (step zero_cell (cells item) (record { store = store; part = part_of s.part }) d)).session ≡ Some r) e held)
        where
          nothing : ◌≡◌ {A = Option (Receiving C)} None (Some r) → ⊥
          nothing e = cc

      without_part : (store : Store C) (p : Option (Receiving C)) → p ≡ None → is_some (step_edit zero_cell (cells item) (record { store = store; part = part_of p }) item.command).refusal ≡ true
      unfolding step_edit
      without_part store None e = refl
      without_part store (Some r) e = cc

      edit_read : (r : Receiving C) (o : Option Head) → o ≡ None → (b : Bool) (p : Option (Receiving C)) → s.part ≡ p → (after : Stepped C) → (s.part ≡ None → is_some after.refusal ≡ true)
          → held_of (turned_by o b p s item items after).session ≡ Some r → (before : List Item) × (reads.read ++ item ∷ [] ≡ before ++ (r.taken.head ∷ r.taken.edits))
      edit_read r o n b None is after f h = absurd (nothing (subst (λ (x : Bool). (if x then None else receiving_by o item None after.state.part) ≡ Some r) (f is) h))
        where
          nothing : ◌≡◌ {A = Option (Receiving C)} None (Some r) → ⊥
          nothing e = cc
      edit_read r o n b (Some q) is after f h =
          let was = reads.part q (held_is ∙ is) in
          let taken_is : record { head = q.taken.head; edits = q.taken.edits ++ item ∷ [] } ≡ r.taken =
          ap (λ (x : Option Head). taken_by x item (Some q)) (sym n) ∙ held_taken o item (Some q) after.refusal after.state.part r h in
          (was.0, ap (λ (l : List Item). l ++ item ∷ []) was.1 ∙ append_assoc was.0 (q.taken.head ∷ q.taken.edits) (item ∷ []) ∙ ap (λ (t : Taken). was.0 ++ (t.head ∷ t.edits)) taken_is)

      item_good : (store : Store C) → Good (turned s item items (step zero_cell (cells item) (record { store = store; part = part_of s.part }) item.command))
      item_good store =
          let state : State C = record { store = store; part = part_of s.part } in
          let command : Command = item.command in
          let after : Stepped C = step zero_cell (cells item) state command in
          turn_good (head_of command) (is_end command) s.part after refl refl refl (λ r held. elim (three_sorts command) [
            | inl h ↦ (reads.read, ap (λ (t : Taken). reads.read ++ (t.head ∷ t.edits)) (sym (head_taken (head_of command) item s.part (ap is_some h.1)) ∙ held_taken (head_of command) item s.part after.refusal after.state.part r held))
            | inr (inl e) ↦ absurd (ended store r command e held)
            | inr (inr e) ↦ edit_read r (head_of command) e.0 (is_end command) s.part refl after
                (subst (λ (x : Stepped C). s.part ≡ None → is_some x.refusal ≡ true) (sym (edit_step zero_cell (cells item) state command e.0 e.1)) (without_part store s.part)) held
          ])

    nothing_held : (r : Receiving C) → ◌≡◌ {A = Option (Receiving C)} None (Some r) → ⊥
    nothing_held r e = cc

    next_good : (store : Store C) → s.is_over ≡ false → (items : List Item) → s.items ≡ items → Good (next_turn zero_cell cells store s items)
    next_good store going [] own = (record { read = reads.read; items_are = reads.items_are; part = λ r e. absurd (nothing_held r e) }, none_read)
    next_good store going (item ∷ items) own = one (guarded s.guards item.command) (item_good going item items own store) (now_read going item items own)
      where
        one : (g : Option Refusal) → Good (turned s item items (step zero_cell (cells item) (record { store = store; part = part_of s.part }) item.command))
            → start.items ≡ (reads.read ++ item ∷ []) ++ items
            → Good (elim g as (λ o. Turn C) [
              | Some refusal ↦ record {
                store = store;
                session = record s { items = items; guards = looked s.guards item.command; is_over = true };
                refused = Some (verdict_of item refusal);
                events = [];
              }
              | None ↦ turned s item items (step zero_cell (cells item) (record { store = store; part = part_of s.part }) item.command)
            ])
        one None good now = good
        one (Some refusal) good now = (record { read = reads.read ++ item ∷ []; items_are = now; part = λ r e. absurd (nothing_held r e) }, none_read)

    session_good : (store : Store C) → Good (session_turn zero_cell cells store s)
    unfolding session_turn
    session_good store = one s.is_over refl
      where
        one : (b : Bool) → s.is_over ≡ b → Good (if b then record { store = store; session = s; refused = None; events = [] } else next_turn zero_cell cells store s s.items)
        one true e = (reads, none_read)
        one false e = next_good store e s.items refl

  -- What all sessions have read after some turns, and where the completed parts come from.
  record Reading (w : Turns C) : Type 0 where
    sessions : (n : ℕ) (s : Session C) → slice_get w.sessions n ≡ Some s → (start : Session C) × (slice_get entry n ≡ Some start) × Reads start s
    parts : AllRead w.events

  turn_reads : (w : Turns C) (n : ℕ) → Reading w → Reading (one_turn zero_cell cells w n)
  unfolding one_turn
  turn_reads w n reading = one (slice_get w.sessions n) refl
    where
      one : (o : Option (Session C)) → slice_get w.sessions n ≡ o → Reading (elim o as (λ o. Turns C) [ None ↦ w | Some s ↦ after_turn w n (session_turn zero_cell cells w.store s) ])
      one None e = reading
      one (Some s) e =
          let was = reading.sessions n s e in
          let good = session_good n was.0 s was.1 was.2 w.store in
          record {
            sessions = λ m z at. elim (which_at w.sessions n m s (session_turn zero_cell cells w.store s).session z e at) [
              | inl q ↦ (was.0, ap (slice_get entry) q.0 ∙ was.1, subst (λ (x : Session C). Reads was.0 x) (sym q.1) good.0)
              | inr q ↦ reading.sessions m z q
            ];
            parts = all_joined w.events (session_turn zero_cell cells w.store s).events reading.parts good.1;
          }

  turns_read : (turns : List ℕ) (w : Turns C) → Reading w → Reading (after_turns zero_cell cells w turns)
  unfolding after_turns
  turns_read [] w reading = reading
  turns_read (n ∷ turns) w reading = turns_read turns (one_turn zero_cell cells w n) (turn_reads w n reading)

module _ {C : Type 0} where
  none_at : (sessions : List (Session C)) (n : ℕ) (s : Session C) (r : Receiving C) → AllByRecursion (λ s. s.part ≡ None) sessions → slice_get sessions n ≡ Some s → held_of s ≡ Some r → ⊥
  none_at [] n s r a e h = cc
  none_at (x ∷ sessions) zero s r a e h = one s.is_over (ap (λ (y : Session C). y.part) (sym (same_inside e)) ∙ a.0) h
    where
      one : (b : Bool) → s.part ≡ None → (if b then None else s.part) ≡ Some r → ⊥
      one true n h = cc
      one false n h = cc
  none_at (x ∷ sessions) (suc n) s r a e h = none_at sessions n s r a.1 e h

  pub parts_are_read : PartsAreRead C
  parts_are_read zero_cell cells store sessions turns a =
      let start : Turns C = at_entry store sessions in
      (turns_read zero_cell cells sessions turns start (record {
        sessions = λ n s e. (s, e, record { read = []; items_are = refl; part = λ r held. absurd (none_at sessions n s r a e held) });
        parts = none_read zero_cell cells sessions;
      })).parts
