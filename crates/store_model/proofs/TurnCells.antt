-- Turns do not look at cells.
use Rattle.std.specs.Prelude.{◌≡◌, ℕ, zero, suc, ◌+◌, Bool, true, false, not, ◌&&◌, List, [], ◌∷◌, ◌++◌, length, map, replicate, Option, None, Some, is_some, if◌then◌else◌}
use Rattle.std.specs.List.{slice_get}
use Rattle.std.specs.Option.{option_map}
use Rattle.std.proofs.Common.{refl, sym, ap, ◌∙◌}
use Rattle.send_model.specs.Refusal.{Refusal}
use Rattle.send_model.specs.Command.{Command}
use Rattle.send_model.specs.Reading.{Item}
use Rattle.send_model.specs.Store.{Store, Part, Stepped, step}
use Rattle.send_model.specs.Receive.{verdict_of, first_of}
use Rattle.send_model.specs.Guards.{guarded, looked}
use Rattle.send_model.specs.Cells.{recelled_store, recelled_part, recelled_step}
use Rattle.send_model.proofs.CellClones.{all_steps-cells}
use Rattle.store_model.specs.Dues.{Due}
use Rattle.store_model.specs.Turns.{Receiving, Session, Event, Turn, part_of, receiving_after, completions, beginnings, turned, next_turn, session_turn, Turns, with_at, after_turn, one_turn, after_turns, to_the_end}
use Rattle.store_model.specs.TurnCells.{recelled_receiving, recelled_session, recelled_turn, recelled_turns}
use Rattle.store_model.specs.TurnDues.{is_long, is_empty, at_limit, fitting, gate_after, room_of, TurnsEnd, turn_events, turns_end}
use Rattle.store_model.proofs.TurnEnds.{by_limit, end_next}

module _ {A B : Type 0} (f : A → B) where
  pub get_mapped : (xs : List A) (n : ℕ) → slice_get (map f xs) n ≡ option_map f (slice_get xs n)
  get_mapped [] n = refl
  get_mapped (x ∷ xs) zero = refl
  get_mapped (x ∷ xs) (suc n) = get_mapped xs n

  pub put_mapped : (n : ℕ) (x : A) (xs : List A) → with_at n (f x) (map f xs) ≡ map f (with_at n x xs)
  unfolding with_at
  put_mapped n x [] = refl
  put_mapped zero x (y ∷ xs) = refl
  put_mapped (suc n) x (y ∷ xs) = ap (λ (l : List B). f y ∷ l) (put_mapped n x xs)

module _ {C D : Type 0} (f : C → D) where
  part_cells : (p : Option (Receiving C)) → part_of (option_map (recelled_receiving f) p) ≡ option_map (recelled_part f) (part_of p)
  part_cells None = refl
  part_cells (Some r) = refl

  after_cells : (item : Item) (old : Option (Receiving C)) (new : Option (Part C))
      → receiving_after item (option_map (recelled_receiving f) old) (option_map (recelled_part f) new) ≡ option_map (recelled_receiving f) (receiving_after item old new)
  after_cells item None None = refl
  after_cells item None (Some part) = refl
  after_cells item (Some r) None = refl
  after_cells item (Some r) (Some part) = refl

  done_cells : (c : Command) (p : Option (Receiving C)) → completions c (option_map (recelled_receiving f) p) ≡ completions c p
  done_cells c None = refl
  done_cells c (Some r) = refl

  turned_cells : (s : Session C) (item : Item) (items : List Item) (after : Stepped C) → turned (recelled_session f s) item items (recelled_step f after) ≡ recelled_turn f (turned s item items after)
  turned_cells s item items after = λ i. record {
    store = recelled_store f after.state.store;
    session = record {
      items = items;
      end = s.end;
      guards = looked s.guards item.command;
      part = after_cells item s.part after.state.part i;
      is_over = is_some after.refusal;
    };
    refused = option_map (verdict_of item) after.refusal;
    events = done_cells item.command s.part i ++ beginnings item after.refusal;
  }

module _ {C D : Type 0} (f : C → D) (zero_cell : C) (cells : Item → List C) where
  abbrev mapped : Item → List D
  mapped item = map f (cells item)

  stepped_cells : (store : Store C) (s : Session C) (item : Item) → step (f zero_cell) (mapped item) (record { store = recelled_store f store; part = part_of (recelled_session f s).part }) item.command
      ≡ recelled_step f (step zero_cell (cells item) (record { store = store; part = part_of s.part }) item.command)
  stepped_cells store s item =
      ap (λ (p : Option (Part D)). step (f zero_cell) (mapped item) (record { store = recelled_store f store; part = p }) item.command) (part_cells f s.part)
      ∙ all_steps-cells f item.command zero_cell (cells item) (record { store = store; part = part_of s.part })

  next_cells : (store : Store C) (s : Session C) (items : List Item) → next_turn (f zero_cell) mapped (recelled_store f store) (recelled_session f s) items ≡ recelled_turn f (next_turn zero_cell cells store s items)
  next_cells store s [] = refl
  next_cells store s (item ∷ items) = one (guarded s.guards item.command)
    where
      one : (o : Option Refusal) → (elim o as (λ x. Turn D) [
        | Some refusal ↦ record {
          store = recelled_store f store;
          session = record (recelled_session f s) { items = items; guards = looked s.guards item.command; is_over = true };
          refused = Some (verdict_of item refusal);
          events = [];
        }
        | None ↦ turned (recelled_session f s) item items (step (f zero_cell) (mapped item) (record { store = recelled_store f store; part = part_of (recelled_session f s).part }) item.command)
      ]) ≡ recelled_turn f (elim o as (λ x. Turn C) [
        | Some refusal ↦ record {
          store = store;
          session = record s { items = items; guards = looked s.guards item.command; is_over = true };
          refused = Some (verdict_of item refusal);
          events = [];
        }
        | None ↦ turned s item items (step zero_cell (cells item) (record { store = store; part = part_of s.part }) item.command)
      ])
      one (Some refusal) = refl
      one None = ap (turned (recelled_session f s) item items) (stepped_cells store s item) ∙ turned_cells f s item items (step zero_cell (cells item) (record { store = store; part = part_of s.part }) item.command)

  pub session_cells : (store : Store C) (s : Session C) → session_turn (f zero_cell) mapped (recelled_store f store) (recelled_session f s) ≡ recelled_turn f (session_turn zero_cell cells store s)
  unfolding session_turn
  session_cells store s = one s.is_over
    where
      one : (b : Bool) → (if b then record { store = recelled_store f store; session = recelled_session f s; refused = None; events = [] } else next_turn (f zero_cell) mapped (recelled_store f store) (recelled_session f s) s.items)
          ≡ recelled_turn f (if b then record { store = store; session = s; refused = None; events = [] } else next_turn zero_cell cells store s s.items)
      one true = refl
      one false = next_cells store s s.items

  pub turn_cells : (w : Turns C) (n : ℕ) → one_turn (f zero_cell) mapped (recelled_turns f w) n ≡ recelled_turns f (one_turn zero_cell cells w n)
  unfolding one_turn
  turn_cells w n =
      ap (λ (o : Option (Session D)). elim o as (λ x. Turns D) [ None ↦ recelled_turns f w | Some s ↦ after_turn (recelled_turns f w) n (session_turn (f zero_cell) mapped (recelled_store f w.store) s) ]) (get_mapped (recelled_session f) w.sessions n)
      ∙ one (slice_get w.sessions n)
    where
      one : (o : Option (Session C)) → (elim (option_map (recelled_session f) o) as (λ x. Turns D) [ None ↦ recelled_turns f w | Some s ↦ after_turn (recelled_turns f w) n (session_turn (f zero_cell) mapped (recelled_store f w.store) s) ])
          ≡ recelled_turns f (elim o as (λ x. Turns C) [ None ↦ w | Some s ↦ after_turn w n (session_turn zero_cell cells w.store s) ])
      one None = refl
      one (Some s) =
          let t : Turn C = session_turn zero_cell cells w.store s in
          ap (after_turn (recelled_turns f w) n) (session_cells w.store s)
          ∙ ap (λ (l : List (Session D)). record { store = recelled_store f t.store; sessions = l; refused = first_of w.refused t.refused; events = w.events ++ t.events }) (put_mapped (recelled_session f) n t.session w.sessions)

  pub turns_cells : (turns : List ℕ) (w : Turns C) → after_turns (f zero_cell) mapped (recelled_turns f w) turns ≡ recelled_turns f (after_turns zero_cell cells w turns)
  unfolding after_turns
  turns_cells [] w = refl
  turns_cells (n ∷ turns) w = ap (λ (v : Turns D). after_turns (f zero_cell) mapped v turns) (turn_cells w n) ∙ turns_cells turns (one_turn zero_cell cells w n)

  events_cells : (w : Turns C) (n : ℕ) → turn_events (f zero_cell) mapped (recelled_turns f w) n ≡ turn_events zero_cell cells w n
  events_cells w n =
      ap (λ (o : Option (Session D)). elim o as (λ x. List Event) [ None ↦ [] | Some s ↦ (session_turn (f zero_cell) mapped (recelled_store f w.store) s).events ]) (get_mapped (recelled_session f) w.sessions n)
      ∙ one (slice_get w.sessions n)
    where
      one : (o : Option (Session C)) → (elim (option_map (recelled_session f) o) as (λ x. List Event) [ None ↦ [] | Some s ↦ (session_turn (f zero_cell) mapped (recelled_store f w.store) s).events ])
          ≡ (elim o as (λ x. List Event) [ None ↦ [] | Some s ↦ (session_turn zero_cell cells w.store s).events ])
      one None = refl
      one (Some s) = ap (λ (t : Turn D). t.events) (session_cells w.store s)

  limit_cells : (long : List Bool) (w : Turns C) (n : ℕ) → at_limit long (recelled_turns f w) n ≡ at_limit long w n
  limit_cells long w n =
      ap (λ (o : Option (Session D)). elim o as (λ x. Bool) [ None ↦ false | Some s ↦ is_long (slice_get long n) && (not s.is_over && is_empty s.items) ]) (get_mapped (recelled_session f) w.sessions n)
      ∙ one (slice_get w.sessions n)
    where
      one : (o : Option (Session C)) → (elim (option_map (recelled_session f) o) as (λ x. Bool) [ None ↦ false | Some s ↦ is_long (slice_get long n) && (not s.is_over && is_empty s.items) ])
          ≡ (elim o as (λ x. Bool) [ None ↦ false | Some s ↦ is_long (slice_get long n) && (not s.is_over && is_empty s.items) ])
      one None = refl
      one (Some s) = refl

  -- So the end that is due does not depend on them.
  pub end_cells : (most : ℕ) (long : List Bool) (turns : List ℕ) (gate : ℕ) (w : Turns C) → turns_end (f zero_cell) mapped (room_of most gate) long (recelled_turns f w) turns ≡ turns_end zero_cell cells (room_of most gate) long w turns
  unfolding turns_end
  end_cells most long [] gate w = refl
  end_cells most long (n ∷ turns) gate w =
      let v : Turns D = recelled_turns f w in
      let new : List Event = turn_events zero_cell cells w n in
      let next : TurnsEnd = turns_end zero_cell cells (room_of most (gate_after gate new)) long (one_turn zero_cell cells w n) turns in
      end_next (f zero_cell) mapped most long gate v n turns
      ∙ (λ i. by_limit (f zero_cell) mapped most long (limit_cells long w n i) (fitting most gate (events_cells w n i)).full gate v n (turns_end (f zero_cell) mapped (room_of most (gate_after gate (events_cells w n i))) long (turn_cells w n i) turns))
      ∙ ap (by_limit (f zero_cell) mapped most long (at_limit long w n) (fitting most gate new).full gate v n) (end_cells most long turns (gate_after gate new) (one_turn zero_cell cells w n))
      ∙ one (at_limit long w n) (fitting most gate new).full next
      ∙ sym (end_next zero_cell cells most long gate w n turns)
    where
      one : (b : Bool) (o : Option Due) (next : TurnsEnd) → by_limit (f zero_cell) mapped most long b o gate (recelled_turns f w) n next ≡ by_limit zero_cell cells most long b o gate w n next
      one true o next = refl
      one false None next = refl
      one false (Some full) next = ap (λ (l : List Event). record { due = full; events = w.events ++ (fitting most gate l).events }) (events_cells w n)

pub ends_cells : {C D : Type 0} (f : C → D) (k : ℕ) (sessions : List (Session C)) → to_the_end k (map (recelled_session f) sessions) ≡ to_the_end k sessions
unfolding to_the_end
ends_cells f k [] = refl
ends_cells f k (s ∷ sessions) = ap (λ (l : List ℕ). replicate (suc (length s.items)) k ++ l) (ends_cells f (k + 1) sessions)
