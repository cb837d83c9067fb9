-- Runs under guards, item by item.
use Rattle.std.specs.Prelude.{◌≡◌, ℕ, List, [], ◌∷◌, Option, None, Some}
use Rattle.std.proofs.Common.{refl, sym, ap, subst, ◌∙◌}
use Rattle.send_model.specs.Refusal.{Refusal}
use Rattle.send_model.specs.Reading.{Item, Verdict, input}
use Rattle.send_model.specs.Store.{After, State, step}
use Rattle.send_model.specs.Receive.{Ran, run_by, run_items, then_run, byte_cells, first_of, fault_of, with_fault, start_of, receive_items}
use Rattle.send_model.specs.Guards.{Guard, Watched, watched, guarded, looked, refused_from, watched_step, receive_watched, receive_under}
use Rattle.send_model.specs.GuardLaws.{watched_run, NoGuardsOnReadings, NoGuardsChangeNothing, AllowedReadingIsAccepted, AllowedIsAccepted}

-- What follows an item without guards.
then_watched : {S : Type 0} (item : Item) (after : After S) (rest : Ran S) → then_run item (watched [] after) (watched_run [] rest) ≡ watched_run [] (then_run item after rest)
then_watched item after rest = one after.refusal
  where
    one : (o : Option Refusal) → then_run item (record { state = record { guards = []; state = after.state }; refusal = o }) (watched_run [] rest) ≡ watched_run [] (then_run item (record { state = after.state; refusal = o }) rest)
    one None = refl
    one (Some refusal) = refl

no_guards_run : (S : Type 0) (does : S → Item → After S) (state : S) (items : List Item) → run_by (watched_step does) (record { guards = []; state = state }) items ≡ watched_run [] (run_by does state items)
unfolding run_by refused_from looked
no_guards_run S does state [] = refl
no_guards_run S does state (item ∷ items) =
    ap (λ (r : Ran (Watched S)). then_run item (watched [] (does state item)) r) (no_guards_run S does (does state item).state items)
    ∙ then_watched item (does state item) (run_by does (does state item).state items)

-- What a watched run that is accepted says of the plain one.
abbrev Allowed : (S : Type 0) → (S → Item → After S) → Watched S → List Item → Type 0
Allowed S does w items = (run_by (watched_step does) w items).refused ≡ None → run_by does w.state items ≡ record { state = (run_by (watched_step does) w items).state.state; refused = None }

-- What an item that no guard refuses does.
after_item : (S : Type 0) (does : S → Item → After S) (item : Item) (items : List Item) (guards : List Guard) (state : S) (o : Option Refusal) → Allowed S does (record { guards = guards; state = state }) items
    → (then_run item (record { state = record { guards = guards; state = state }; refusal = o }) (run_by (watched_step does) (record { guards = guards; state = state }) items)).refused ≡ None
    → then_run item (record { state = state; refusal = o }) (run_by does state items)
    ≡ record { state = (then_run item (record { state = record { guards = guards; state = state }; refusal = o }) (run_by (watched_step does) (record { guards = guards; state = state }) items)).state.state; refused = None }
after_item S does item items guards state None more t = more t
after_item S does item items guards state (Some refusal) more t = cc

-- An item under guards, by what the guards answer.
abbrev pub after_looks : (S : Type 0) → (S → Item → After S) → Watched S → Item → Option Refusal → After (Watched S)
after_looks S does w item (Some r) = record { state = record { guards = looked w.guards item.command; state = w.state }; refusal = Some r }
after_looks S does w item None = watched (looked w.guards item.command) (does w.state item)

pub looks_are : (S : Type 0) (does : S → Item → After S) (w : Watched S) (item : Item) → watched_step does w item ≡ after_looks S does w item (guarded w.guards item.command)
looks_are S does w item = one (guarded w.guards item.command)
  where
    one : (o : Option Refusal) → (elim o as (λ x. After (Watched S)) [
      | Some refusal ↦ record { state = record { guards = looked w.guards item.command; state = w.state }; refusal = Some refusal }
      | None ↦ watched (looked w.guards item.command) (does w.state item)
    ]) ≡ after_looks S does w item o
    one None = refl
    one (Some r) = refl

-- An item that is accepted under guards.
then_allowed : (S : Type 0) (does : S → Item → After S) (w : Watched S) (item : Item) (items : List Item) (o : Option Refusal)
    → Allowed S does (record { guards = looked w.guards item.command; state = (does w.state item).state }) items
    → (then_run item (after_looks S does w item o) (run_by (watched_step does) (after_looks S does w item o).state items)).refused ≡ None
    → then_run item (does w.state item) (run_by does (does w.state item).state items) ≡ record { state = (then_run item (after_looks S does w item o) (run_by (watched_step does) (after_looks S does w item o).state items)).state.state; refused = None }
then_allowed S does w item items None more t = let after = does w.state item in after_item S does item items (looked w.guards item.command) after.state after.refusal more t
then_allowed S does w item items (Some refusal) more t = cc

allowed_run : (S : Type 0) (does : S → Item → After S) (w : Watched S) (items : List Item) → Allowed S does w items
unfolding run_by
allowed_run S does w [] t = refl
allowed_run S does w (item ∷ items) t =
    subst (λ (a : After (Watched S)). (then_run item a (run_by (watched_step does) a.state items)).refused ≡ None
    → then_run item (does w.state item) (run_by does (does w.state item).state items) ≡ record { state = (then_run item a (run_by (watched_step does) a.state items)).state.state; refused = None })
    (sym (looks_are S does w item))
    (then_allowed S does w item items (guarded w.guards item.command) (allowed_run S does (record { guards = looked w.guards item.command; state = (does w.state item).state }) items)) t

-- ---- receiving

-- What an item does to a store of bytes and a part.
abbrev pub does_step : State ℕ → Item → After (State ℕ)
does_step s item = step 0 (byte_cells item) s item.command

pub no_guards_on_readings : NoGuardsOnReadings
unfolding receive_watched receive_items run_items
no_guards_on_readings store reading = ap (λ (r : Ran (Watched (State ℕ))). with_fault r reading.end) (no_guards_run (State ℕ) does_step (start_of store) reading.items)

pub no_guards_change_nothing : NoGuardsChangeNothing
unfolding receive_under
no_guards_change_nothing store files = no_guards_on_readings store (input files)

pub no_fault : (a b : Option Verdict) → first_of a b ≡ None → (a ≡ None) × (b ≡ None)
no_fault None b e = (refl, e)
no_fault (Some v) b e = cc

pub allowed_reading_is_accepted : AllowedReadingIsAccepted
unfolding receive_watched receive_items run_items
allowed_reading_is_accepted store guards reading t =
    let w : Watched (State ℕ) = record { guards = guards; state = start_of store } in
    let ran : Ran (Watched (State ℕ)) = run_by (watched_step does_step) w reading.items in
    let none = no_fault ran.refused (fault_of reading.end) t in
    ap (λ (r : Ran (State ℕ)). with_fault r reading.end) (allowed_run (State ℕ) does_step w reading.items none.0)
    ∙ ap (λ (o : Option Verdict). record { state = ran.state.state; refused = o }) none.1

pub allowed_is_accepted : AllowedIsAccepted
unfolding receive_under
allowed_is_accepted store guards files t = allowed_reading_is_accepted store guards (input files) t
