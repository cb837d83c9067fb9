-- A turn of the session at a place.
use Rattle.std.specs.Prelude.{◌≡◌, ℕ, zero, suc, ◌<◌, ◌≤◌, false, List, [], ◌∷◌, length, get_or, Option, None, Some, Result, Ok, Err, OnOk, slice_get, slice_set}
use Rattle.std.proofs.Common.{refl, sym, ap, subst, ◌∙◌}
use Rattle.std.proofs.lemmas.Option.{slice_get-get_or}
use Rattle.sx_base.specs.declared.disk.Disk as keeping
use Rattle.sx_base.specs.declared.outcome.Verdict.{Verdict}
use Rattle.send_model.specs.Lengths.{limit}
use Rattle.send_model.specs.Reading.{Whole, Faulty}
use Rattle.send_model.specs.Store.{Store}
use Rattle.send_model.specs.Guards.{Guard}
use Rattle.store_model.specs.Turns as meant
use Rattle.store_model.specs.Turns.{Receiving, Turns, with_at, one_turn, session_turn}
use Rattle.store_model.proofs.TurnOrder.{Kept, held_of, held_at, held_here, turn_kept}
use Rattle.store_model.proofs.Moves.{Stands}
use Rattle.store_model.proofs.TurnMaking.{held_makes}
use Rattle.store_model.proofs.TurnOvers.{turn_at}
use Rattle.cmd_reader.specs.Places.{IfTold}
use Rattle.cmd_reader.specs.Left.{HasAhead}
use Rattle.auditor.specs.Following.{blank}
use Rattle.store_journal.specs.Shown.{StoreState}
use Rattle.receiver.specs.declared.outcome.Received.{Received}
use Rattle.turn_sessions.specs.declared.session.Session.{Session}
use Rattle.turn_sessions.specs.Standing.{Blank, blank_put, blank_cells, IsSession, AreSessions, IsHeld, AreHeld}
use Rattle.turn_sessions.specs.Reading.{Next, Command, AtEnd, AtFault, AtLimit, Nothing, HasNext}
use Rattle.turn_sessions.specs.Turning.{HasVersion, bytes_left}
use Rattle.turn_sessions.specs.Going.{AreReading, AreTaking, FewerLeft}
use Rattle.turn_sessions.proofs.Unpacked.{IsTurn, TakesTurn}
use Rattle.turn_sessions.proofs.Sessions.{session_at, sessions_with, reading_at, reading_with}

pub there : {A : Type 0} (xs : List A) (n : ℕ) (d : A) → n < length xs → slice_get xs n ≡ Some (get_or xs n d)
there xs n d within = slice_get-get_or xs n d within

-- What a session needs for its turn.
module _ {G : Type 0} (kept : G → List Guard) (sessions : List (Session G)) (n : ℕ) (session : Session G) (at : slice_get sessions n ≡ Some session) (core : Store Blank) (w : Turns Blank) (t : AreTaking kept sessions core w) where
  pub session_held : (s : meant.Session Blank) → slice_get w.sessions n ≡ Some s → AreHeld core (held_of s)
  session_held s is = one (held_of s) refl
    where
      one : (o : Option (Receiving Blank)) → held_of s ≡ o → AreHeld core o
      one None e = tt
      one (Some r) e = subst (λ (k : Store Blank). IsHeld k r) (sym t.store_is)
          (held_makes tt blank_cells blank_put (λ place item. refl) t.base w.store t.kept_are.0 w.events (held_at w.sessions) n r t.kept_are.1 (held_here w.sessions n s is ∙ e))

  pub turn_held : (s : meant.Session Blank) × IsSession kept s session × AreHeld core (held_of s)
  turn_held = let a = session_at kept w.sessions sessions n session t.sessions_are at in (a.0, a.2, session_held a.0 a.1)

-- ---- the session's part does not change where its file is another one

same_held : (ss : List (meant.Session Blank)) (n : ℕ) (s now : meant.Session Blank) → slice_get ss n ≡ Some s → held_of now ≡ held_of s → (m : ℕ) → held_at (with_at n now ss) m ≡ held_at ss m
unfolding held_at with_at
same_held [] n s now e h m = refl
same_held (x ∷ ss) zero s now e h zero = h ∙ ap held_of (inside e)
  where
    inside : {A : Type 0} {x y : A} → Some x ≡ Some y → y ≡ x
    inside q = cc
same_held (x ∷ ss) zero s now e h (suc m) = refl
same_held (x ∷ ss) (suc n) s now e h zero = refl
same_held (x ∷ ss) (suc n) s now e h (suc m) = same_held ss n s now e h m

-- A session with this to read next.
pub with_next : meant.Session Blank → Next → meant.Session Blank
with_next s (Command item) = record { items = item ∷ []; end = s.end; guards = s.guards; part = s.part; is_over = s.is_over }
with_next s AtEnd = record { items = []; end = Whole; guards = s.guards; part = s.part; is_over = s.is_over }
with_next s (AtFault verdict) = record { items = []; end = Faulty verdict; guards = s.guards; part = s.part; is_over = s.is_over }
with_next s AtLimit = s
with_next s Nothing = s

next_held : (s : meant.Session Blank) (next : Next) → held_of (with_next s next) ≡ held_of s
unfolding with_next
next_held s (Command item) = refl
next_held s AtEnd = refl
next_held s (AtFault verdict) = refl
next_held s AtLimit = refl
next_held s Nothing = refl

next_is : {G : Type 0} (kept : G → List Guard) (s : meant.Session Blank) (next : Next) (session : Session G) → IsSession kept s session → IsSession kept (with_next s next) session
unfolding with_next
next_is kept s (Command item) session of = record { guards = of.guards; over = of.over; part = of.part }
next_is kept s AtEnd session of = record { guards = of.guards; over = of.over; part = of.part }
next_is kept s (AtFault verdict) session of = record { guards = of.guards; over = of.over; part = of.part }
next_is kept s AtLimit session of = of
next_is kept s Nothing session of = of

next_has : (s : meant.Session Blank) (next : Next) → HasNext (with_next s next) next
unfolding with_next
next_has s (Command item) = ([], refl)
next_has s AtEnd = (refl, refl)
next_has s (AtFault verdict) = (refl, refl)
next_has s AtLimit = tt
next_has s Nothing = tt

pub get_with : {A : Type 0} (xs : List A) (n : ℕ) (x y : A) → slice_get xs n ≡ Some x → slice_get (with_at n y xs) n ≡ Some y
unfolding with_at
get_with [] n x y e = cc
get_with (z ∷ xs) zero x y e = refl
get_with (z ∷ xs) (suc n) x y e = get_with xs n x y e

with_with : {A : Type 0} (xs : List A) (n : ℕ) (x y : A) → with_at n y (with_at n x xs) ≡ with_at n y xs
unfolding with_at
with_with [] n x y = refl
with_with (z ∷ xs) zero x y = refl
with_with (z ∷ xs) (suc n) x y = ap (λ (l : List _). z ∷ l) (with_with xs n x y)

-- ---- after its turn

module _ {D : Type 0} (ghosts : keeping.Ghosts D)
    (old new : D) (was now : StoreState) (out next_out : Option (List ℕ)) {G : Type 0} (kept : G → List Guard) (told : Option (List (List ℕ × List ℕ))) where
  pub taking_with : (sessions : List (Session G)) (n : ℕ) (session after : Session G) (result : Result (Option Verdict) Received) (w : Turns Blank) → slice_get sessions n ≡ Some session → AreTaking kept sessions (blank was.core) w
      → TakesTurn ghosts old new was now out next_out kept told session after result
      → OnOk result ((v : Turns Blank) × AreTaking kept (slice_set sessions n after) (blank now.core) v)
  taking_with sessions n session after (Err why) w at t takes = tt
  taking_with sessions n session after (Ok refused) w at t takes =
      let a = session_at kept w.sessions sessions n session t.sessions_are at in
      let s : meant.Session Blank = a.0 in
      let x : meant.Session Blank = with_next s takes.next in
      let v : Turns Blank = record { store = w.store; sessions = with_at n x w.sessions; refused = w.refused; events = w.events } in
      let same : (m : ℕ) → held_at (with_at n x w.sessions) m ≡ held_at w.sessions m = same_held w.sessions n s x a.1 (next_held s takes.next) in
      let hold : AreHeld (blank was.core) (held_of x) = subst (λ (o : Option (Receiving Blank)). AreHeld (blank was.core) o) (sym (next_held s takes.next)) (session_held kept sessions n session at (blank was.core) w t s a.1) in
      let is : IsTurn ghosts old new was now out next_out kept (session_turn tt blank_cells (blank was.core) x) after refused = takes.says x (next_is kept s takes.next session a.2) hold (λ going. next_has s takes.next) in
      let good : Kept tt blank_cells t.base v = subst (λ (h : ℕ → Option (Receiving Blank)). (alone : Store Blank) × Stands tt blank_cells t.base w.store alone w.events h) (λ i m. sym (same m) i) t.kept_are in
      let turned = turn_at tt blank_cells v n x (get_with w.sessions n s x a.1) in (
        one_turn tt blank_cells v n,
        record {
          store_is = is.store ∙ ap (λ (k : Store Blank). (session_turn tt blank_cells k x).store) t.store_is ∙ sym (ap (λ (y : Turns Blank). y.store) turned);
          sessions_are = subst (λ (l : List (meant.Session Blank)). AreSessions kept l (slice_set sessions n after)) (sym (ap (λ (y : Turns Blank). y.sessions) turned ∙ with_with w.sessions n x (session_turn tt blank_cells w.store x).session))
              (sessions_with kept w.sessions sessions n (session_turn tt blank_cells w.store x).session after t.sessions_are (subst (λ (k : Store Blank). IsSession kept (session_turn tt blank_cells k x).session after) t.store_is is.session_is));
          base = t.base;
          kept_are = turn_kept tt blank_cells t.base v n good;
        },
      )

-- It still reads its file.
module _ {G : Type 0} (told new_told : Option (List (List ℕ × List ℕ))) (same : new_told ≡ told) where
  pub still_reading : {T : Type 0} (result : Result T Received) (names : List (List ℕ)) (sessions : List (Session G)) (n : ℕ) (session after : Session G) → slice_get sessions n ≡ Some session → AreReading told 1 names sessions
      → after.file ≡ session.file → after.reader.file ≡ session.reader.file → after.reader.name ≡ session.reader.name
      → OnOk result (IfTold new_told after.reader.name (λ bytes. after.is_over ≡ false → HasAhead after.reader bytes)) → OnOk result (HasVersion after.reader after.current) → OnOk result (after.is_over ≡ false → after.reader.offset ≤ limit)
      → OnOk result (AreReading new_told 1 names (slice_set sessions n after))
  still_reading (Err why) names sessions n session after at are file own name ahead version within = tt
  still_reading (Ok x) names sessions n session after at are file own name ahead version within =
      let r = reading_at told 1 names sessions n session are at in
      subst (λ (t : Option (List (List ℕ × List ℕ))). AreReading t 1 names (slice_set sessions n after)) (sym same)
      (reading_with told 1 names sessions n r.name after are r.there (record {
        file = file ∙ r.reading.file;
        own = own ∙ r.reading.own;
        named = name ∙ r.reading.named;
        same = version;
        within = within;
        ahead = subst (λ (l : List ℕ). IfTold told l (λ bytes. after.is_over ≡ false → HasAhead after.reader bytes)) (name ∙ r.reading.named)
            (subst (λ (t : Option (List (List ℕ × List ℕ))). IfTold t after.reader.name (λ bytes. after.is_over ≡ false → HasAhead after.reader bytes)) same ahead);
      }))

set_there : {A : Type 0} (xs : List A) (n : ℕ) (x y : A) → slice_get xs n ≡ Some x → slice_get (slice_set xs n y) n ≡ Some y
set_there [] n x y e = cc
set_there (z ∷ xs) zero x y e = refl
set_there (z ∷ xs) (suc n) x y e = set_there xs n x y e

pub fewer_left : {G T : Type 0} (result : Result T Received) (sessions : List (Session G)) (n : ℕ) (session after : Session G) → slice_get sessions n ≡ Some session → (session.is_over ≡ false → OnOk result (bytes_left after < bytes_left session))
    → OnOk result (FewerLeft n sessions (slice_set sessions n after))
fewer_left (Err why) sessions n session after at fewer = tt
fewer_left (Ok x) sessions n session after at fewer = λ c is going.
    let same : c ≡ session = inside (sym is ∙ at) in
    (after, set_there sessions n session after at, subst (λ (y : Session _). bytes_left after < bytes_left y) (sym same) (fewer (ap (λ (y : Session _). y.is_over) (sym same) ∙ going)))
  where
    inside : {A : Type 0} {x y : A} → Some x ≡ Some y → x ≡ y
    inside q = cc
