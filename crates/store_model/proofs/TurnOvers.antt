-- Turns of a session that is over, and how many turns a session still needs.
use Rattle.std.specs.Prelude.{◌≡◌, ℕ, zero, suc, Bool, true, false, not, ◌&&◌, List, [], ◌∷◌, ◌++◌, replicate, Option, None, Some, if◌then◌else◌}
use Rattle.std.specs.List.{slice_get}
use Rattle.std.proofs.Common.{refl, ap, ◌∙◌, append-nil}
use Rattle.send_model.specs.Reading.{Item, Verdict}
use Rattle.send_model.specs.Receive.{first_of}
use Rattle.send_model.specs.Store.{Store}
use Rattle.store_model.specs.Turns.{Session, Event, Turn, session_turn, Turns, with_at, next_turn, after_turn, one_turn, after_turns}
use Rattle.store_model.specs.TurnDues.{is_long, is_empty, at_limit, fitting, gate_after, room_of, turn_events, turns_end}
use Rattle.store_model.proofs.TurnEnds.{end_goes}

pub same_at : {A : Type 0} (xs : List A) (n : ℕ) (x : A) → slice_get xs n ≡ Some x → with_at n x xs ≡ xs
unfolding with_at
same_at [] n x e = refl
same_at (y ∷ xs) zero x e = (λ i. inside e i ∷ xs)
  where
    inside : {A : Type 0} {a b : A} → ◌≡◌ {A = Option A} (Some a) (Some b) → b ≡ a
    inside q = cc
same_at (y ∷ xs) (suc n) x e = ap (λ (l : List _). y ∷ l) (same_at xs n x e)

first_still : (o : Option Verdict) → first_of o None ≡ o
first_still None = refl
first_still (Some v) = refl

module _ {C : Type 0} (zero_cell : C) (cells : Item → List C) where
  pub over_does : (store : Store C) (s : Session C) → s.is_over ≡ true → session_turn zero_cell cells store s ≡ record { store = store; session = s; refused = None; events = [] }
  unfolding session_turn
  over_does store s e = ap (λ (b : Bool). if b then record { store = store; session = s; refused = None; events = [] } else next_turn zero_cell cells store s s.items) e

  pub going_does : (store : Store C) (s : Session C) → s.is_over ≡ false → session_turn zero_cell cells store s ≡ next_turn zero_cell cells store s s.items
  unfolding session_turn
  going_does store s e = ap (λ (b : Bool). if b then record { store = store; session = s; refused = None; events = [] } else next_turn zero_cell cells store s s.items) e

  pub turn_at : (w : Turns C) (n : ℕ) (s : Session C) → slice_get w.sessions n ≡ Some s → one_turn zero_cell cells w n ≡ after_turn w n (session_turn zero_cell cells w.store s)
  unfolding one_turn
  turn_at w n s at = ap (λ (o : Option (Session C)). elim o as (λ o. Turns C) [ None ↦ w | Some s ↦ after_turn w n (session_turn zero_cell cells w.store s) ]) at

  pub events_at : (w : Turns C) (n : ℕ) (s : Session C) → slice_get w.sessions n ≡ Some s → turn_events zero_cell cells w n ≡ (session_turn zero_cell cells w.store s).events
  events_at w n s at = ap (λ (o : Option (Session C)). elim o as (λ o. List Event) [ None ↦ [] | Some s ↦ (session_turn zero_cell cells w.store s).events ]) at

  pub over_stays : (w : Turns C) (n : ℕ) (s : Session C) → slice_get w.sessions n ≡ Some s → s.is_over ≡ true → one_turn zero_cell cells w n ≡ w
  over_stays w n s at over =
      turn_at w n s at ∙ ap (after_turn w n) (over_does w.store s over)
      ∙ (λ i. record { store = w.store; sessions = same_at w.sessions n s at i; refused = first_still w.refused i; events = append-nil w.events i })

  over_no_limit : (long : List Bool) (w : Turns C) (n : ℕ) (s : Session C) → slice_get w.sessions n ≡ Some s → s.is_over ≡ true → at_limit long w n ≡ false
  over_no_limit long w n s at over =
      ap (λ (o : Option (Session C)). elim o as (λ o. Bool) [ None ↦ false | Some s ↦ is_long (slice_get long n) && (not s.is_over && is_empty s.items) ]) at
      ∙ ap (λ (b : Bool). is_long (slice_get long n) && (not b && is_empty s.items)) over ∙ one (is_long (slice_get long n))
    where
      one : (b : Bool) → b && false ≡ false
      one true = refl
      one false = refl

  -- the turns of a session that is over do nothing
  pub over_rests : (m : ℕ) (w : Turns C) (n : ℕ) (s : Session C) (turns : List ℕ) → slice_get w.sessions n ≡ Some s → s.is_over ≡ true
      → after_turns zero_cell cells w (replicate m n ++ turns) ≡ after_turns zero_cell cells w turns
  unfolding after_turns
  over_rests zero w n s turns at over = refl
  over_rests (suc m) w n s turns at over = ap (λ (v : Turns C). after_turns zero_cell cells v (replicate m n ++ turns)) (over_stays w n s at over) ∙ over_rests m w n s turns at over

  pub over_ends : (most : ℕ) (long : List Bool) (m gate : ℕ) (w : Turns C) (n : ℕ) (s : Session C) (turns : List ℕ) → slice_get w.sessions n ≡ Some s → s.is_over ≡ true
      → turns_end zero_cell cells (room_of most gate) long w (replicate m n ++ turns) ≡ turns_end zero_cell cells (room_of most gate) long w turns
  unfolding fitting
  over_ends most long zero gate w n s turns at over = refl
  over_ends most long (suc m) gate w n s turns at over =
      let none : turn_events zero_cell cells w n ≡ [] = events_at w n s at ∙ ap (λ (t : Turn C). t.events) (over_does w.store s over) in
      end_goes zero_cell cells most long gate w n (replicate m n ++ turns) (over_no_limit long w n s at over) (ap (λ (l : List Event). (fitting most gate l).full) none)
      ∙ (λ i. turns_end zero_cell cells (room_of most (gate_after gate (none i))) long (over_stays w n s at over i) (replicate m n ++ turns))
      ∙ over_ends most long m gate w n s turns at over
