-- One session that takes turns alone is receiving under its guards.
use Rattle.std.specs.Prelude.{◌≡◌, ◌<◌, ℕ, zero, suc, ◌+◌, Bool, true, false, List, [], ◌∷◌, ◌++◌, length, replicate, Option, None, Some, if◌then◌else◌}
use Rattle.std.proofs.Common.{refl, sym, ap, subst, ◌∙◌, arith, append-nil}
use Rattle.send_model.specs.Refusal.{Refusal}
use Rattle.send_model.specs.Reading.{Item, Verdict, Ending}
use Rattle.send_model.specs.Store.{Store, Part, State, After, step}
use Rattle.send_model.specs.Receive.{Ran, run_by, then_run, first_of, fault_of, with_fault, verdict_of}
use Rattle.send_model.specs.Guards.{Guard, Watched, watched, watched_step, guarded, looked, receive_watched}
use Rattle.store_model.specs.Turns.{Receiving, Session, Event, Turn, part_of, receiving_after, turned, next_turn, session_turn, Turns, with_at, after_turn, one_turn, after_turns, new_session, at_entry, to_the_end, interleaved}
use Rattle.store_model.specs.TurnLaws.{OneIsReceiving}

first_none : (o : Option Verdict) → first_of o None ≡ o
first_none None = refl
first_none (Some v) = refl

module _ {C : Type 0} (zero_cell : C) (cells : Item → List C) where
  abbrev alone : Store C → Session C → Option Verdict → List Event → Turns C
  alone store s refused events = record { store = store; sessions = s ∷ []; refused = refused; events = events }

  abbrev Ends : Turns C → Store C → Option Verdict → Type 0
  Ends w store refused = (w.store ≡ store) × (w.refused ≡ refused)

  one_alone : (store : Store C) (s : Session C) (refused : Option Verdict) (events : List Event)
      → one_turn zero_cell cells (alone store s refused events) 0 ≡ after_turn (alone store s refused events) 0 (session_turn zero_cell cells store s)
  unfolding one_turn
  one_alone store s refused events = refl

  -- a session that is over does nothing
  over_turn : (store : Store C) (s : Session C) → s.is_over ≡ true → session_turn zero_cell cells store s ≡ record { store = store; session = s; refused = None; events = [] }
  unfolding session_turn
  over_turn store s e = ap (λ (b : Bool). if b then record { store = store; session = s; refused = None; events = [] } else next_turn zero_cell cells store s s.items) e

  going_turn : (store : Store C) (s : Session C) → s.is_over ≡ false → session_turn zero_cell cells store s ≡ next_turn zero_cell cells store s s.items
  unfolding session_turn
  going_turn store s e = ap (λ (b : Bool). if b then record { store = store; session = s; refused = None; events = [] } else next_turn zero_cell cells store s s.items) e

  over_stays : (k : ℕ) (store : Store C) (s : Session C) (refused : Option Verdict) (events : List Event) → s.is_over ≡ true → Ends (after_turns zero_cell cells (alone store s refused events) (replicate k 0)) store refused
  unfolding after_turns with_at
  over_stays zero store s refused events e = (refl, refl)
  over_stays (suc k) store s refused events e =
      let next = over_stays k store s (first_of refused None) (events ++ []) e in
      subst (λ (w : Turns C). Ends (after_turns zero_cell cells w (replicate k 0)) store refused)
      (sym (one_alone store s refused events ∙ ap (λ (t : Turn C). after_turn (alone store s refused events) 0 t) (over_turn store s e)))
      (next.0, next.1 ∙ first_none refused)

  part_back : (item : Item) (old : Option (Receiving C)) (part : Option (Part C)) → part_of (receiving_after item old part) ≡ part
  part_back item old None = refl
  part_back item old (Some part) = refl

  abbrev does : State C → Item → After (State C)
  does s item = step zero_cell (cells item) s item.command

  abbrev run_from : Store C → List Guard → Option (Part C) → List Item → Ending → Ran (Watched (State C))
  run_from store guards part items end = with_fault (run_by (watched_step does) (record { guards = guards; state = record { store = store; part = part } }) items) end

  abbrev EndsAs : Turns C → Ran (Watched (State C)) → Type 0
  EndsAs w r = Ends w r.state.state.store r.refused

  abbrev Follows : ℕ → List Item → Type 0
  Follows k items = (store : Store C) (s : Session C) (events : List Event) → s.is_over ≡ false → s.items ≡ items
      → EndsAs (after_turns zero_cell cells (alone store s None events) (replicate k 0)) (run_from store s.guards (part_of s.part) items s.end)

  -- behind a step that was taken or refused
  after_step : (k : ℕ) (store : Store C) (s : Session C) (events : List Event) (item : Item) (items : List Item) (state : State C) (o : Option Refusal) → Follows k items
      → EndsAs (after_turns zero_cell cells (after_turn (alone store s None events) 0 (turned s item items (record { state = state; refusal = o }))) (replicate k 0))
      (with_fault (then_run item (watched (looked s.guards item.command) (record { state = state; refusal = o })) (run_by (watched_step does) (record { guards = looked s.guards item.command; state = state }) items)) s.end)
  unfolding with_at
  after_step k store s events item items state (Some refusal) f =
      let t : Turn C = turned s item items (record { state = state; refusal = Some refusal }) in
      over_stays k state.store t.session (Some (verdict_of item refusal)) (events ++ t.events) refl
  after_step k store s events item items state None f =
      let t : Turn C = turned s item items (record { state = state; refusal = None }) in
      subst (λ (p : Option (Part C)). EndsAs (after_turns zero_cell cells (alone state.store t.session None (events ++ t.events)) (replicate k 0)) (run_from state.store (looked s.guards item.command) p items s.end))
      (part_back item s.part state.part) (f state.store t.session (events ++ t.events) refl refl)

  follows : (k : ℕ) (items : List Item) → length items < k → Follows k items
  unfolding after_turns with_at run_by
  follows zero items fits store s events going own = absurd (omega arith)
  follows (suc k) [] fits store s events going own =
      subst (λ (w : Turns C). Ends (after_turns zero_cell cells w (replicate k 0)) store (first_of None (fault_of s.end)))
      (sym (one_alone store s None events ∙ ap (λ (t : Turn C). after_turn (alone store s None events) 0 t) (going_turn store s going ∙ ap (next_turn zero_cell cells store s) own)))
      (over_stays k store (record s { is_over = true }) (fault_of s.end) (events ++ []) refl)
  follows (suc k) (item ∷ items) fits store s events going own =
      subst (λ (w : Turns C). EndsAs (after_turns zero_cell cells w (replicate k 0)) (run_from store s.guards (part_of s.part) (item ∷ items) s.end))
      (sym (one_alone store s None events ∙ ap (λ (t : Turn C). after_turn (alone store s None events) 0 t) (going_turn store s going ∙ ap (next_turn zero_cell cells store s) own)))
      (looks (guarded s.guards item.command)
      (after_step k store s events item items (does (record { store = store; part = part_of s.part }) item).state (does (record { store = store; part = part_of s.part }) item).refusal (follows k items (omega arith))))
    where
      state : State C
      state = record { store = store; part = part_of s.part }

      looks : (g : Option Refusal)
          → EndsAs (after_turns zero_cell cells (after_turn (alone store s None events) 0 (turned s item items (step zero_cell (cells item) (record { store = store; part = part_of s.part }) item.command))) (replicate k 0))
          (with_fault (then_run item (watched (looked s.guards item.command) (does (record { store = store; part = part_of s.part }) item)) (run_by (watched_step does) (record { guards = looked s.guards item.command; state = (does (record { store = store; part = part_of s.part }) item).state }) items)) s.end)
          → EndsAs (after_turns zero_cell cells (after_turn (alone store s None events) 0 (elim g as (λ o. Turn C) [
            | Some refusal ↦ record {
              store = store;
              session = record s { items = items; guards = looked s.guards item.command; is_over = true };
              refused = Some (verdict_of item refusal);
              events = [];
            }
            | None ↦ turned s item items (step zero_cell (cells item) (record { store = store; part = part_of s.part }) item.command)
          ])) (replicate k 0))
          (with_fault (then_run item (elim g as (λ o. After (Watched (State C))) [
            | Some refusal ↦ record { state = record { guards = looked s.guards item.command; state = record { store = store; part = part_of s.part } }; refusal = Some refusal }
            | None ↦ watched (looked s.guards item.command) (does (record { store = store; part = part_of s.part }) item)
          ]) (run_by (watched_step does) (elim g as (λ o. After (Watched (State C))) [
            | Some refusal ↦ record { state = record { guards = looked s.guards item.command; state = record { store = store; part = part_of s.part } }; refusal = Some refusal }
            | None ↦ watched (looked s.guards item.command) (does (record { store = store; part = part_of s.part }) item)
          ]).state items)) s.end)
      looks None h = h
      looks (Some refusal) h = over_stays k store (record s { items = items; guards = looked s.guards item.command; is_over = true }) (Some (verdict_of item refusal)) (events ++ []) refl

replicate_more : (a b n : ℕ) → replicate a n ++ replicate b n ≡ replicate (a + b) n
replicate_more zero b n = let e : b ≡ 0 + b = omega arith in ap (λ (k : ℕ). replicate k n) e
replicate_more (suc a) b n = let e : suc (a + b) ≡ suc a + b = omega arith in ap (λ (l : List ℕ). n ∷ l) (replicate_more a b n) ∙ ap (λ (k : ℕ). replicate k n) e

pub one_is_receiving : {C : Type 0} → OneIsReceiving C
unfolding interleaved to_the_end receive_watched
one_is_receiving {C} zero_cell cells store guards reading turns =
    let s : Session C = new_session reading guards in
    let all : ℕ = turns + suc (length reading.items) in
    let fits : length reading.items < all = omega arith in
    let is : replicate turns 0 ++ (replicate (suc (length reading.items)) 0 ++ []) ≡ replicate all 0 =
    ap (λ (l : List ℕ). replicate turns 0 ++ l) (append-nil (replicate (suc (length reading.items)) 0)) ∙ replicate_more turns (suc (length reading.items)) 0 in
    subst (λ (ns : List ℕ). EndsAs zero_cell cells (after_turns zero_cell cells (at_entry store (s ∷ [])) ns) (run_from zero_cell cells store guards None reading.items reading.end)) (sym is)
    (follows zero_cell cells all reading.items fits store s [] refl refl)
