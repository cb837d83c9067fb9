-- The end that is due to turns, turn by turn.
use Rattle.std.specs.Prelude.{◌≡◌, ◌⊎◌, ◌<◌, ℕ, ◌+◌, Bool, true, false, List, [], ◌∷◌, ◌++◌, take, Option, None, Some, nat_lt, if◌then◌else◌}
use Rattle.std.specs.List.{slice_get}
use Rattle.std.proofs.Common.{refl, sym, ap, subst, ◌∙◌, inl, inr, append_assoc, append-nil, arith}
use Rattle.std.proofs.lemmas.Bool.{ltb-true}
use Rattle.send_model.specs.Reading.{Item}
use Rattle.send_model.specs.Lengths.{is_too_long, limit}
use Rattle.send_model.specs.Due as files_due
use Rattle.send_model.specs.Due.{TooLong, refused_due}
use Rattle.send_model.specs.Store.{Store}
use Rattle.send_model.specs.Receive.{byte_cells}
use Rattle.store_model.specs.Dues.{Due, Ends, LogFull, first_full}
use Rattle.store_model.specs.Image.{reserve}
use Rattle.store_model.specs.Turns.{Event, Session, session_turn, Turns, after_turn, one_turn, after_turns, interleaved, turns_of}
use Rattle.store_model.proofs.TurnOrder.{turns_behind}
use Rattle.store_model.specs.TurnDues.{bytes_read, files_read, which_long, at_limit, event_pieces, gate_behind, gate_after, Fitting, fitting, InTurns, Room, room_of, TurnsEnd, turn_events, turns_end, interleave_end}
use Rattle.store_model.specs.TurnDueLaws.{EndIsFront, EndIsTaken, ShortAreRead}

-- ---- room

abbrev pub by_full : Option Due → Event → Fitting → Fitting
by_full (Some full) event rest = record { events = []; full = Some full }
by_full None event rest = record { events = event ∷ rest.events; full = rest.full }

pub fitting_next : (most gate : ℕ) (event : Event) (events : List Event) → fitting most gate (event ∷ events) ≡ by_full (first_full most (event_pieces gate event)) event (fitting most (gate_behind gate event) events)
unfolding fitting
fitting_next most gate event events = one (first_full most (event_pieces gate event))
  where
    one : (o : Option Due) → (elim o as (λ x. Fitting) [
      | Some full ↦ record { events = []; full = Some full }
      | None ↦ record { events = event ∷ (fitting most (gate_behind gate event) events).events; full = (fitting most (gate_behind gate event) events).full }
    ]) ≡ by_full o event (fitting most (gate_behind gate event) events)
    one (Some full) = refl
    one None = refl

-- what has room stands in front
pub fits_front : (most gate : ℕ) (events : List Event) → (rest : List Event) × (events ≡ (fitting most gate events).events ++ rest)
unfolding fitting
fits_front most gate [] = ([], refl)
fits_front most gate (event ∷ events) =
    let more = fits_front most (gate_behind gate event) events in
    subst (λ (f : Fitting). (rest : List Event) × (event ∷ events ≡ f.events ++ rest)) (sym (fitting_next most gate event events)) (one (first_full most (event_pieces gate event)) more.0 more.1)
  where
    one : (o : Option Due) (rest : List Event) → events ≡ (fitting most (gate_behind gate event) events).events ++ rest
        → (all : List Event) × (event ∷ events ≡ (by_full o event (fitting most (gate_behind gate event) events)).events ++ all)
    one (Some full) rest e = (event ∷ events, refl)
    one None rest e = (rest, ap (λ (l : List Event). event ∷ l) e)

-- where none lacks room, all have it
pub fits_all : (most gate : ℕ) (events : List Event) → (fitting most gate events).full ≡ None → (fitting most gate events).events ≡ events
unfolding fitting
fits_all most gate [] e = refl
fits_all most gate (event ∷ events) e =
    ap (λ (f : Fitting). f.events) (fitting_next most gate event events)
    ∙ one (first_full most (event_pieces gate event)) (sym (ap (λ (f : Fitting). f.full) (fitting_next most gate event events)) ∙ e) (fits_all most (gate_behind gate event) events)
  where
    one : (o : Option Due) → (by_full o event (fitting most (gate_behind gate event) events)).full ≡ None → ((fitting most (gate_behind gate event) events).full ≡ None → (fitting most (gate_behind gate event) events).events ≡ events)
        → (by_full o event (fitting most (gate_behind gate event) events)).events ≡ event ∷ events
    one (Some full) q f = cc
    one None q f = ap (λ (l : List Event). event ∷ l) (f q)

abbrev IsFull : ℕ → Due → Type 0
IsFull most due = (place : ℕ) × (wanted : ℕ) × (due ≡ LogFull place wanted most) × (most < place + wanted + reserve)

full_first : (most : ℕ) (pieces : List (ℕ × ℕ)) (due : Due) → first_full most pieces ≡ Some due → IsFull most due
unfolding first_full
full_first most [] due e = cc
full_first most (piece ∷ pieces) due e = one (nat_lt most (piece.0 + piece.1 + reserve)) refl (λ q. full_first most pieces due q) e
  where
    one : (b : Bool) → nat_lt most (piece.0 + piece.1 + reserve) ≡ b → (first_full most pieces ≡ Some due → IsFull most due)
        → (if b then Some (LogFull piece.0 piece.1 most) else first_full most pieces) ≡ Some due → IsFull most due
    one true less more q = (piece.0, piece.1, cc, ltb-true most (piece.0 + piece.1 + reserve) less)
    one false less more q = more q

full_fits : (most gate : ℕ) (events : List Event) (due : Due) → (fitting most gate events).full ≡ Some due → IsFull most due
unfolding fitting
full_fits most gate [] due e = cc
full_fits most gate (event ∷ events) due e =
    one (first_full most (event_pieces gate event)) (λ q. full_fits most (gate_behind gate event) events due q) refl (sym (ap (λ (f : Fitting). f.full) (fitting_next most gate event events)) ∙ e)
  where
    one : (o : Option Due) → ((fitting most (gate_behind gate event) events).full ≡ Some due → IsFull most due) → first_full most (event_pieces gate event) ≡ o → (by_full o event (fitting most (gate_behind gate event) events)).full ≡ Some due → IsFull most due
    one (Some full) more f q = full_first most (event_pieces gate event) due (f ∙ q)
    one None more f q = more q

-- ---- one turn

module _ {C : Type 0} (zero_cell : C) (cells : Item → List C) where
  pub turn_adds : (w : Turns C) (n : ℕ) → (one_turn zero_cell cells w n).events ≡ w.events ++ turn_events zero_cell cells w n
  unfolding one_turn
  turn_adds w n = one (slice_get w.sessions n)
    where
      one : (o : Option (Session C)) → (elim o as (λ o. Turns C) [ None ↦ w | Some s ↦ after_turn w n (session_turn zero_cell cells w.store s) ]).events
          ≡ w.events ++ (elim o as (λ o. List Event) [ None ↦ [] | Some s ↦ (session_turn zero_cell cells w.store s).events ])
      one None = sym (append-nil w.events)
      one (Some s) = refl

  module _ (most : ℕ) (long : List Bool) where
    abbrev pub by_limit : Bool → Option Due → ℕ → Turns C → ℕ → TurnsEnd → TurnsEnd
    by_limit true full gate w n rest = record { due = Ends (TooLong (n + 1)); events = w.events }
    by_limit false (Some full) gate w n rest = record { due = full; events = w.events ++ (fitting most gate (turn_events zero_cell cells w n)).events }
    by_limit false None gate w n rest = rest

    pub end_next : (gate : ℕ) (w : Turns C) (n : ℕ) (turns : List ℕ) → turns_end zero_cell cells (room_of most gate) long w (n ∷ turns)
        ≡ by_limit (at_limit long w n) (fitting most gate (turn_events zero_cell cells w n)).full gate w n
        (turns_end zero_cell cells (room_of most (gate_after gate (turn_events zero_cell cells w n))) long (one_turn zero_cell cells w n) turns)
    unfolding turns_end
    end_next gate w n turns = one (at_limit long w n) (fitting most gate (turn_events zero_cell cells w n)).full
      where
        next : TurnsEnd
        next = turns_end zero_cell cells (room_of most (gate_after gate (turn_events zero_cell cells w n))) long (one_turn zero_cell cells w n) turns

        one : (b : Bool) (o : Option Due) → (if b then record { due = Ends (TooLong (n + 1)); events = w.events } else elim o as (λ x. TurnsEnd) [
          | Some full ↦ record { due = full; events = w.events ++ (fitting most gate (turn_events zero_cell cells w n)).events }
          | None ↦ next
        ]) ≡ by_limit b o gate w n next
        one true o = refl
        one false (Some full) = refl
        one false None = refl

    -- a turn that has room and comes to no limit
    pub end_goes : (gate : ℕ) (w : Turns C) (n : ℕ) (turns : List ℕ) → at_limit long w n ≡ false → (fitting most gate (turn_events zero_cell cells w n)).full ≡ None
        → turns_end zero_cell cells (room_of most gate) long w (n ∷ turns) ≡ turns_end zero_cell cells (room_of most (gate_after gate (turn_events zero_cell cells w n))) long (one_turn zero_cell cells w n) turns
    end_goes gate w n turns no_limit room = end_next gate w n turns ∙ (λ i. by_limit (no_limit i) (room i) gate w n (turns_end zero_cell cells (room_of most (gate_after gate (turn_events zero_cell cells w n))) long (one_turn zero_cell cells w n) turns))

    -- one that has none
    pub end_full : (gate : ℕ) (w : Turns C) (n : ℕ) (turns : List ℕ) (due : Due) → at_limit long w n ≡ false → (fitting most gate (turn_events zero_cell cells w n)).full ≡ Some due
        → turns_end zero_cell cells (room_of most gate) long w (n ∷ turns) ≡ record { due = due; events = w.events ++ (fitting most gate (turn_events zero_cell cells w n)).events }
    end_full gate w n turns due no_limit full = end_next gate w n turns ∙ (λ i. by_limit (no_limit i) (full i) gate w n (turns_end zero_cell cells (room_of most (gate_after gate (turn_events zero_cell cells w n))) long (one_turn zero_cell cells w n) turns))

    -- one that comes to a limit
    pub end_long : (gate : ℕ) (w : Turns C) (n : ℕ) (turns : List ℕ) → at_limit long w n ≡ true → turns_end zero_cell cells (room_of most gate) long w (n ∷ turns) ≡ record { due = Ends (TooLong (n + 1)); events = w.events }
    end_long gate w n turns limit =
        end_next gate w n turns ∙ ap (λ (b : Bool). by_limit b (fitting most gate (turn_events zero_cell cells w n)).full gate w n (turns_end zero_cell cells (room_of most (gate_after gate (turn_events zero_cell cells w n))) long (one_turn zero_cell cells w n) turns)) limit

    -- ---- all turns

    abbrev IsFront : Turns C → TurnsEnd → Type 0
    IsFront end e = (more : List Event) × (end.events ≡ e.events ++ more)

    pub end_front : (turns : List ℕ) (gate : ℕ) (w : Turns C) → IsFront (after_turns zero_cell cells w turns) (turns_end zero_cell cells (room_of most gate) long w turns)
    unfolding turns_end after_turns
    end_front [] gate w = ([], sym (append-nil w.events))
    end_front (n ∷ turns) gate w =
        let next : Turns C = one_turn zero_cell cells w n in
        let all = turns_behind zero_cell cells next turns in
        let new : List Event = turn_events zero_cell cells w n in
        let whole : (after_turns zero_cell cells next turns).events ≡ w.events ++ (new ++ all.0) = all.1 ∙ ap (λ (l : List Event). l ++ all.0) (turn_adds w n) ∙ append_assoc w.events new all.0 in
        let rest = end_front turns (gate_after gate new) next in
        subst (λ (e : TurnsEnd). IsFront (after_turns zero_cell cells next turns) e) (sym (end_next gate w n turns))
        (one (at_limit long w n) (fitting most gate new).full (after_turns zero_cell cells next turns) (new ++ all.0) all.0 refl whole rest)
      where
        one : (b : Bool) (o : Option Due) (end : Turns C) (behind more : List Event) → behind ≡ turn_events zero_cell cells w n ++ more → end.events ≡ w.events ++ behind
            → IsFront end (turns_end zero_cell cells (room_of most (gate_after gate (turn_events zero_cell cells w n))) long (one_turn zero_cell cells w n) turns)
            → IsFront end (by_limit b o gate w n (turns_end zero_cell cells (room_of most (gate_after gate (turn_events zero_cell cells w n))) long (one_turn zero_cell cells w n) turns))
        one true o end behind more e whole rest = (behind, whole)
        one false None end behind more e whole rest = rest
        one false (Some full) end behind more e whole rest =
            let fit = fits_front most gate (turn_events zero_cell cells w n) in
            let has : List Event = (fitting most gate (turn_events zero_cell cells w n)).events in
            (fit.0 ++ more, whole ∙ ap (λ (l : List Event). w.events ++ l) (e ∙ ap (λ (l : List Event). l ++ more) fit.1 ∙ append_assoc has fit.0 more) ∙ sym (append_assoc w.events has (fit.0 ++ more)))

    abbrev IsTaken : Turns C → TurnsEnd → Type 0
    IsTaken end e = ((e.due ≡ Ends (refused_due end.refused)) × (e.events ≡ end.events)) ⊎ (((file : ℕ) × (e.due ≡ Ends (TooLong file))) ⊎ IsFull most e.due)

    pub end_taken : (turns : List ℕ) (gate : ℕ) (w : Turns C) → IsTaken (after_turns zero_cell cells w turns) (turns_end zero_cell cells (room_of most gate) long w turns)
    unfolding turns_end after_turns
    end_taken [] gate w = inl (refl, refl)
    end_taken (n ∷ turns) gate w =
        let next : Turns C = one_turn zero_cell cells w n in
        let new : List Event = turn_events zero_cell cells w n in
        subst (λ (e : TurnsEnd). IsTaken (after_turns zero_cell cells next turns) e) (sym (end_next gate w n turns))
        (one (at_limit long w n) (fitting most gate new).full refl (end_taken turns (gate_after gate new) next))
      where
        one : (b : Bool) (o : Option Due) → (fitting most gate (turn_events zero_cell cells w n)).full ≡ o
            → IsTaken (after_turns zero_cell cells (one_turn zero_cell cells w n) turns) (turns_end zero_cell cells (room_of most (gate_after gate (turn_events zero_cell cells w n))) long (one_turn zero_cell cells w n) turns)
            → IsTaken (after_turns zero_cell cells (one_turn zero_cell cells w n) turns) (by_limit b o gate w n (turns_end zero_cell cells (room_of most (gate_after gate (turn_events zero_cell cells w n))) long (one_turn zero_cell cells w n) turns))
        one true o e rest = inr (inl (n + 1, refl))
        one false None e rest = rest
        one false (Some full) e rest = inr (inr (full_fits most gate (turn_events zero_cell cells w n) full e))

pub end_is_front : EndIsFront
unfolding interleave_end turns_of interleaved
end_is_front room store turns = end_front 0 _ room.most (which_long 1 turns.files) _ room.gate _

-- All turns, from the first one on.
turns_taken : (room : Room) (store : Store ℕ) (turns : InTurns)
    → IsTaken 0 byte_cells room.most (which_long 1 turns.files) (turns_of store turns.schedule (files_read 1 turns.files) turns.guards turns.shares) (interleave_end room store turns)
unfolding interleave_end turns_of interleaved
turns_taken room store turns = end_taken 0 _ room.most (which_long 1 turns.files) _ room.gate _

pub end_is_taken : EndIsTaken
end_is_taken room store turns = elim (turns_taken room store turns) [
  | inl taken ↦ inl taken
  | inr (inl long) ↦ inr (inl long)
  | inr (inr full) ↦ inr (inr (full.0, full.1, full.2))
]

-- What has no room goes past the limit.
pub end_is_full : (room : Room) (store : Store ℕ) (turns : InTurns) (place wanted most : ℕ) → LogFull place wanted most ≡ (interleave_end room store turns).due
    → (most ≡ room.most) × (most < place + wanted + reserve)
end_is_full room store turns place wanted most e = elim (turns_taken room store turns) [
  | inl taken ↦ absurd (ends_apart (e ∙ taken.0))
  | inr (inl long) ↦ absurd (ends_apart (e ∙ long.1))
  | inr (inr full) ↦
      let q : LogFull place wanted most ≡ LogFull full.0 full.1 room.most = e ∙ full.2 in
      let same : most ≡ room.most = cc in
      let at : place ≡ full.0 = cc in
      let asked : wanted ≡ full.1 = cc in
      (same, omega (arith, same, at, asked, full.3))
]
  where
    ends_apart : {due : files_due.Due} → LogFull place wanted most ≡ Ends due → ⊥
    ends_apart q = cc

short_read : (number : ℕ) (file : List ℕ) → is_too_long number file ≡ false → bytes_read number file ≡ file
short_read number file e = ap (λ (b : Bool). if b then take limit file else file) e

pub short_are_read : ShortAreRead
unfolding files_read which_long
short_are_read number [] a = refl
short_are_read number (file ∷ files) a = (λ i. short_read number file a.0 i ∷ short_are_read (number + 1) files a.1 i)
