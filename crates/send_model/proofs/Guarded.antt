-- What is accepted under guards is within the limits of each.
use Rattle.std.specs.Prelude.{◌≡◌, ℕ, ◌+◌, ◌≤◌, Bool, true, false, List, [], ◌∷◌, map, length, Option, None, Some, if◌then◌else◌}
use Rattle.std.specs.List.{AllByRecursion}
use Rattle.std.proofs.Common.{refl, ap, subst, arith, zero-le}
use Rattle.std.proofs.lemmas.Bool.{ltb-false}
use Rattle.std.proofs.lemmas.List.Sums.{sum_by-cons}
use Rattle.send_model.specs.Refusal.{Refusal, Guarded}
use Rattle.send_model.specs.Command.{Command, Write}
use Rattle.send_model.specs.Reading.{Item, input}
use Rattle.send_model.specs.Store.{After, State}
use Rattle.send_model.specs.Receive.{Ran, run_by, then_run, bytes_of, start_of, fault_of}
use Rattle.send_model.specs.Order.{commands_of}
use Rattle.send_model.specs.Counts.{literal}
use Rattle.send_model.specs.Guards.{GuardSpec, MostBytes, MostCommands, NoDevices, MostEnd, Guard, new_guard, guard_refuses, guard_after, refused_from, guarded, looked, Watched, watched_step, receive_watched, receive_under}
use Rattle.send_model.specs.GuardLaws.{IsWithin, AcceptedReadingIsWithin, AcceptedIsWithin}
use Rattle.send_model.proofs.Guarding.{after_looks, looks_are, no_fault, does_step}

-- ---- one guard

-- A guard allows commands, one after the other.
abbrev Allows : Guard → List Command → Type 0
Allows guard [] = Unit {0}
Allows guard (c ∷ cs) = (guard_refuses guard c ≡ false) × Allows (guard_after guard c) cs

within_bytes : (cs : List Command) (most used : ℕ) → used ≤ most → Allows (record { spec = MostBytes most; used = used }) cs → used + literal cs ≤ most
unfolding literal guard_refuses guard_after
within_bytes [] most used low a = omega (arith, low)
within_bytes (c ∷ cs) most used low a = one c a (λ n l b. within_bytes cs most n l b)
  where
    more : (d : Command) → literal (d ∷ cs) ≡ length (bytes_of d) + literal cs
    more d = sum_by-cons (λ (x : Command). length (bytes_of x)) d cs

    one : (d : Command) → Allows (record { spec = MostBytes most; used = used }) (d ∷ cs) → ((n : ℕ) → n ≤ most → Allows (record { spec = MostBytes most; used = n }) cs → n + literal cs ≤ most) → used + literal (d ∷ cs) ≤ most
    one (Write path offset bytes) b rest =
        let low' = ltb-false most (used + length bytes) b.0 in
        let r = rest (used + length bytes) low' b.1 in
        let m = more (Write path offset bytes) in omega (arith, r, m)
    one d b rest = let r = rest used low b.1 in let m = more d in omega (arith, r, m)

within_commands : (cs : List Command) (most used : ℕ) → used ≤ most → Allows (record { spec = MostCommands most; used = used }) cs → used + length cs ≤ most
unfolding guard_refuses guard_after
within_commands [] most used low a = omega (arith, low)
within_commands (c ∷ cs) most used low a =
    let low' = ltb-false most (used + 1) a.0 in
    let r = within_commands cs most (used + 1) low' a.1 in omega (arith, r)

within_devices : (cs : List Command) (used : ℕ) → Allows (record { spec = NoDevices; used = used }) cs → IsWithin NoDevices cs
unfolding guard_refuses guard_after
within_devices [] used a = tt
within_devices (c ∷ cs) used a = (a.0, within_devices cs 0 a.1)

within_ends : (cs : List Command) (most used : ℕ) → Allows (record { spec = MostEnd most; used = used }) cs → IsWithin (MostEnd most) cs
unfolding guard_refuses guard_after
within_ends [] most used a = tt
within_ends (c ∷ cs) most used a = (a.0, within_ends cs most _ a.1)

within_limits : (spec : GuardSpec) (cs : List Command) → Allows (new_guard spec) cs → IsWithin spec cs
within_limits (MostBytes most) cs a = let r = within_bytes cs most 0 zero-le a in omega (arith, r)
within_limits (MostCommands most) cs a = let r = within_commands cs most 0 zero-le a in omega (arith, r)
within_limits NoDevices cs a = within_devices cs 0 a
within_limits (MostEnd most) cs a = within_ends cs most 0 a

-- ---- guards in order

-- Where none refuses, each allows the command and goes on.
abbrev on : Command → List Guard → List Guard
on c guards = map (λ g. guard_after g c) guards

none_refuses : (place : ℕ) (guards : List Guard) (c : Command) → refused_from place guards c ≡ None → AllByRecursion (λ g. guard_refuses g c ≡ false) guards × (looked guards c ≡ on c guards)
unfolding refused_from looked
none_refuses place [] c e = (tt, refl)
none_refuses place (g ∷ guards) c e = one (guard_refuses g c) refl e (λ q. none_refuses (place + 1) guards c q)
  where
    one : (b : Bool) → guard_refuses g c ≡ b → (if b then Some (Guarded place g.used) else refused_from (place + 1) guards c) ≡ None
        → (refused_from (place + 1) guards c ≡ None → AllByRecursion (λ g. guard_refuses g c ≡ false) guards × (looked guards c ≡ on c guards))
        → AllByRecursion (λ g. guard_refuses g c ≡ false) (g ∷ guards) × ((if b then g ∷ guards else guard_after g c ∷ looked guards c) ≡ on c (g ∷ guards))
    one true q f more = cc
    one false q f more = let m = more f in ((q, m.0), ap (λ (gs : List Guard). guard_after g c ∷ gs) m.1)

all_allow : (c : Command) (cs : List Command) (guards : List Guard) → AllByRecursion (λ g. guard_refuses g c ≡ false) guards → AllByRecursion (λ g. Allows g cs) (on c guards) → AllByRecursion (λ g. Allows g (c ∷ cs)) guards
all_allow c cs [] a b = tt
all_allow c cs (g ∷ guards) a b = ((a.0, b.0), all_allow c cs guards a.1 b.1)

all_none : (guards : List Guard) → AllByRecursion (λ g. Allows g []) guards
all_none [] = tt
all_none (g ∷ guards) = (tt, all_none guards)

abbrev Runs : Watched (State ℕ) → List Item → Ran (Watched (State ℕ))
Runs w items = run_by (watched_step does_step) w items

-- What a run that goes on says of the guards' answer to its first item.
goes_on : (w : Watched (State ℕ)) (item : Item) (items : List Item) (o : Option Refusal)
    → (then_run item (after_looks (State ℕ) does_step w item o) (Runs (after_looks (State ℕ) does_step w item o).state items)).refused ≡ None
    → (o ≡ None) × ((Runs (record { guards = looked w.guards item.command; state = (does_step w.state item).state }) items).refused ≡ None)
goes_on w item items (Some refusal) t = cc
goes_on w item items None t = (refl, one (does_step w.state item).refusal t)
  where
    next : Ran (Watched (State ℕ))
    next = Runs (record { guards = looked w.guards item.command; state = (does_step w.state item).state }) items

    one : (o : Option Refusal) → (then_run item (record { state = record { guards = looked w.guards item.command; state = (does_step w.state item).state }; refusal = o }) (Runs (record { guards = looked w.guards item.command; state = (does_step w.state item).state }) items)).refused ≡ None
        → (Runs (record { guards = looked w.guards item.command; state = (does_step w.state item).state }) items).refused ≡ None
    one None e = e
    one (Some refusal) e = cc

allowed : (items : List Item) (w : Watched (State ℕ)) → (Runs w items).refused ≡ None → AllByRecursion (λ g. Allows g (commands_of items)) w.guards
unfolding run_by
allowed [] w t = all_none w.guards
allowed (item ∷ items) w t =
    let at = subst (λ (a : After (Watched (State ℕ))). (then_run item a (Runs a.state items)).refused ≡ None) (looks_are (State ℕ) does_step w item) t in
    let k = goes_on w item items (guarded w.guards item.command) at in
    let n = none_refuses 0 w.guards item.command k.0 in
    let more = allowed items (record { guards = looked w.guards item.command; state = (does_step w.state item).state }) k.1 in
    all_allow item.command (commands_of items) w.guards n.0 (subst (λ (gs : List Guard). AllByRecursion (λ g. Allows g (commands_of items)) gs) n.1 more)

all_within : (specs : List GuardSpec) (cs : List Command) → AllByRecursion (λ g. Allows g cs) (map new_guard specs) → AllByRecursion (λ spec. IsWithin spec cs) specs
all_within [] cs a = tt
all_within (spec ∷ specs) cs a = (within_limits spec cs a.0, all_within specs cs a.1)

pub accepted_reading_is_within : AcceptedReadingIsWithin
unfolding receive_watched
accepted_reading_is_within store specs reading t =
    let w : Watched (State ℕ) = record { guards = map new_guard specs; state = start_of store } in
    let none = no_fault (Runs w reading.items).refused (fault_of reading.end) t in
    all_within specs (commands_of reading.items) (allowed reading.items w none.0)

pub accepted_is_within : AcceptedIsWithin
unfolding receive_under
accepted_is_within store specs files t = accepted_reading_is_within store specs (input files) t
