-- What groups make of a lawful store is lawful: so is all that an image stands for.
use Rattle.std.specs.Prelude.{◌≡◌, ℕ, ◌+◌, Bool, true, false, ◌||◌, not, cond, List, [], ◌∷◌, length, Option, None, Some, Result, Ok, Err, if◌then◌else◌}
use Rattle.std.specs.List.{AllByRecursion, filter, list_any}
use Rattle.std.specs.Option.{option_map}
use Rattle.std.specs.Str.{bytes_eq}
use Rattle.std.proofs.Common.{refl, ap, subst, ◌∙◌}
use Rattle.std.proofs.lemmas.Bool.{false≢true}
use Rattle.send_model.specs.Refusal.{Refusal}
use Rattle.send_model.specs.Command.{Command, Subvol, Snapshot, End}
use Rattle.send_model.specs.Spelling.{canonical, IsSpellable}
use Rattle.send_model.specs.Subvolume.{Subvolume}
use Rattle.send_model.specs.Store.{Head, Entry, Store, State, Stepped, IsStore, has_name, start_from, completed, head_of, step_head, step_edit, step}
use Rattle.send_model.specs.Receive.{bytes_of, start_of}
use Rattle.send_model.specs.Lawful.{IsLawfulEntry, IsLawfulStore}
use Rattle.store_model.specs.Stored.{Content, Mark, Body, Drop, Group, body_bytes, is_edit, IsEdit, IsContent, IsGroup, as_bytes, taken, marked, unfinished_at, started, resumed, edits_made, dropped, frames_at, made, body_at, made_all, first_gate, StandsFor}
use Rattle.send_model.proofs.Sorts.{same_inside, head_step}
use Rattle.send_model.proofs.Stores.{or_parts}
use Rattle.send_model.proofs.Keeping.{all_filtered}
use Rattle.send_model.proofs.LawfulStores.{IsLawfulState, started as started_sayable, step_lawful, completed_lawful}

-- ---- entries less

none_filtered : {S : Type 0} (test keep : Entry S → Bool) (store : List (Entry S)) → list_any test store ≡ false → list_any test (filter keep store) ≡ false
none_filtered test keep [] none = refl
none_filtered test keep (e ∷ store) none =
    let p = or_parts (test e) (list_any test store) none in
    one (keep e) p.0 (none_filtered test keep store p.1)
  where
    one : (b : Bool) → test e ≡ false → list_any test (filter keep store) ≡ false → list_any test (cond b (e ∷ filter keep store) (filter keep store)) ≡ false
    one true own more = ap (λ (b : Bool). b || list_any test (filter keep store)) own ∙ more
    one false own more = more

pub distinct_filtered : {S : Type 0} (keep : Entry S → Bool) (store : List (Entry S)) → IsStore store → IsStore (filter keep store)
distinct_filtered keep [] h = tt
distinct_filtered keep (e ∷ store) h = one (keep e) (distinct_filtered keep store h.2)
  where
    one : (b : Bool) → IsStore (filter keep store) → IsStore (cond b (e ∷ filter keep store) (filter keep store))
    one true more = (none_filtered (λ x. bytes_eq x.name e.name) keep store h.0, none_filtered (λ x. bytes_eq x.key.uuid e.key.uuid) keep store h.1, more)
    one false more = more

-- ---- one group

-- an edit, which is neither a head nor END
pub edit_step : {C : Type 0} (zero_cell : C) (put : List C) (state : State C) (c : Command) → is_edit c ≡ true → step zero_cell put state c ≡ step_edit zero_cell put state c
unfolding step
edit_step zero_cell put state (Subvol uuid ctransid path) h = absurd (false≢true h)
edit_step zero_cell put state (Snapshot uuid ctransid path clone_uuid clone_ctransid) h = absurd (false≢true h)
edit_step zero_cell put state End h = absurd (false≢true h)
edit_step zero_cell put state c h = refl

taken_lawful : (s : Stepped ℕ) (state : State ℕ) → taken s ≡ Some state → IsLawfulState s.state → IsLawfulState state
taken_lawful s state is h = one s.refusal is
  where
    one : (o : Option Refusal) → (elim o as (λ x. Option (State ℕ)) [ None ↦ Some s.state | Some refusal ↦ None ]) ≡ Some state → IsLawfulState state
    one None q = subst (λ (x : State ℕ). IsLawfulState x) (same_inside q) h
    one (Some refusal) q = cc

marked_lawful : (store next : Store ℕ) (command : Command) → IsSpellable 1 command → IsLawfulStore store → marked store command ≡ Some next → IsLawfulStore next
unfolding marked
marked_lawful store next command s h is = one (head_of command) refl is
  where
    two : (head : Head) → head_of command ≡ Some head → (o : Option (State ℕ)) → taken (step_head (start_of store) head) ≡ o → option_map (λ state. state.store) o ≡ Some next → IsLawfulStore next
    two head of None t q = cc
    two head of (Some state) t q =
        let after = step_lawful command 1 store None s h tt in
        let stepped : IsLawfulState (step_head (start_of store) head).state = subst (λ (x : Stepped ℕ). IsLawfulState x.state) (head_step 0 (bytes_of command) (start_of store) command head of) after in
        subst (λ (x : Store ℕ). IsLawfulStore x) (same_inside q) (taken_lawful (step_head (start_of store) head) state t stepped).store

    one : (o : Option Head) → head_of command ≡ o → (elim o as (λ x. Option (Store ℕ)) [ None ↦ None | Some head ↦ option_map (λ state. state.store) (taken (step_head (start_of store) head)) ]) ≡ Some next → IsLawfulStore next
    one None of q = cc
    one (Some head) of q = two head of (taken (step_head (start_of store) head)) refl q

resumed_lawful : (store : Store ℕ) (uuid : List ℕ) (state : State ℕ) → IsLawfulStore store → resumed store uuid ≡ Some state → IsLawfulState state
unfolding resumed
resumed_lawful store uuid state h is = one (unfinished_at uuid store) is
  where
    two : (e : Entry (Subvolume ℕ)) (r : Result (Subvolume ℕ) Refusal) → start_from store e.parent ≡ r
        → (elim r as (λ x. Option (State ℕ)) [ Err refusal ↦ None | Ok start ↦ Some (record { store = store; part = Some (record { key = e.key; subvolume = start }) }) ]) ≡ Some state → IsLawfulState state
    two e (Err refusal) f q = cc
    two e (Ok start) f q = subst (λ (x : State ℕ). IsLawfulState x) (same_inside q) (record { store = h; part = started_sayable store e.parent start h f })

    one : (o : Option (Entry (Subvolume ℕ))) → (elim o as (λ x. Option (State ℕ)) [ None ↦ None | Some e ↦ started store e ]) ≡ Some state → IsLawfulState state
    one None q = cc
    one (Some e) q = two e (start_from store e.parent) refl q

edits_lawful : (version place : ℕ) (state end : State ℕ) (cs : List Command) → AllByRecursion (IsEdit version) cs → IsLawfulState state → edits_made 0 as_bytes version place state cs ≡ Some end → IsLawfulState end
unfolding edits_made
edits_lawful version place state end [] are h is = subst (λ (x : State ℕ). IsLawfulState x) (same_inside is) h
edits_lawful version place state end (c ∷ cs) are h is =
    let after : Stepped ℕ = step_edit 0 (bytes_of c) state c in
    let stepped : IsLawfulState after.state =
    subst (λ (x : Stepped ℕ). IsLawfulState x.state) (edit_step 0 (bytes_of c) state c are.0.0) (step_lawful c version state.store state.part are.0.1 h.store h.part) in
    one after stepped (taken after) refl (λ next lawful q. edits_lawful version (place + length (canonical version c)) next end cs are.1 lawful q) is
  where
    one : (after : Stepped ℕ) → IsLawfulState after.state → (o : Option (State ℕ)) → taken after ≡ o
        → ((next : State ℕ) → IsLawfulState next → edits_made 0 as_bytes version (place + length (canonical version c)) next cs ≡ Some end → IsLawfulState end)
        → (elim o as (λ x. Option (State ℕ)) [ None ↦ None | Some next ↦ edits_made 0 as_bytes version (place + length (canonical version c)) next cs ]) ≡ Some end → IsLawfulState end
    one after lawful None t more q = cc
    one after lawful (Some next) t more q = more next (taken_lawful after next t lawful) q

body_lawful : (place : ℕ) (store next : Store ℕ) (uuid : List ℕ) (version : ℕ) (cs : List Command) → AllByRecursion (IsEdit version) cs → IsLawfulStore store → made 0 as_bytes place store (Body uuid version cs) ≡ Some next → IsLawfulStore next
unfolding made
body_lawful place store next uuid version cs are h is = one (resumed store uuid) refl is
  where
    two : (state : State ℕ) → IsLawfulState state → (o : Option (State ℕ)) → edits_made 0 as_bytes version (frames_at place) state cs ≡ o → option_map completed o ≡ Some next → IsLawfulStore next
    two state lawful None e q = cc
    two state lawful (Some end) e q =
        let after = edits_lawful version (frames_at place) state end cs are lawful e in
        subst (λ (x : Store ℕ). IsLawfulStore x) (same_inside q) (completed_lawful end.store end.part after.store after.part)

    one : (o : Option (State ℕ)) → resumed store uuid ≡ o → (elim o as (λ x. Option (Store ℕ)) [ None ↦ None | Some state ↦ option_map completed (edits_made 0 as_bytes version (frames_at place) state cs) ]) ≡ Some next → IsLawfulStore next
    one None r q = cc
    one (Some state) r q = two state (resumed_lawful store uuid state h r) (edits_made 0 as_bytes version (frames_at place) state cs) refl q

dropped_lawful : (store next : Store ℕ) (name : List ℕ) → IsLawfulStore store → dropped store name ≡ Some next → IsLawfulStore next
unfolding dropped
dropped_lawful store next name h is = one (has_name name store) is
  where
    one : (b : Bool) → (if b then Some (filter (λ e. not (bytes_eq e.name name)) store) else None) ≡ Some next → IsLawfulStore next
    one true q = subst (λ (x : Store ℕ). IsLawfulStore x) (same_inside q) (record { distinct = distinct_filtered (λ e. not (bytes_eq e.name name)) store h.distinct; entries = all_filtered IsLawfulEntry (λ e. not (bytes_eq e.name name)) store h.entries })
    one false q = cc

pub made_lawful : (place : ℕ) (store next : Store ℕ) (content : Content) → IsContent content → IsLawfulStore store → made 0 as_bytes place store content ≡ Some next → IsLawfulStore next
unfolding made
made_lawful place store next (Mark head) said h is = marked_lawful store next head said h is
made_lawful place store next (Body uuid version cs) said h is = body_lawful place store next uuid version cs said.2 h is
made_lawful place store next (Drop name) said h is = dropped_lawful store next name h is

-- ---- groups

pub made_all_lawful : (format gate : ℕ) (store end : Store ℕ) (groups : List Group) → AllByRecursion (IsGroup format) groups → IsLawfulStore store → made_all 0 as_bytes gate store groups ≡ Some end → IsLawfulStore end
unfolding made_all
made_all_lawful format gate store end [] are h is = subst (λ (x : Store ℕ). IsLawfulStore x) (same_inside is) h
made_all_lawful format gate store end (g ∷ groups) are h is =
    one (made 0 as_bytes (body_at gate) store g.content) refl (λ next lawful q. made_all_lawful format (body_at gate + length (body_bytes g)) next end groups are.1 lawful q) is
  where
    one : (o : Option (Store ℕ)) → made 0 as_bytes (body_at gate) store g.content ≡ o
        → ((next : Store ℕ) → IsLawfulStore next → made_all 0 as_bytes (body_at gate + length (body_bytes g)) next groups ≡ Some end → IsLawfulStore end)
        → (elim o as (λ x. Option (Store ℕ)) [ None ↦ None | Some next ↦ made_all 0 as_bytes (body_at gate + length (body_bytes g)) next groups ]) ≡ Some end → IsLawfulStore end
    one None m more q = cc
    one (Some next) m more q = more next (made_lawful (body_at gate) store next g.content are.0.content h m) q

pub stands_lawful : (image : List ℕ) (store : Store ℕ) → StandsFor image store → IsLawfulStore store
stands_lawful image store stands = made_all_lawful stands.header.format first_gate [] store stands.groups stands.makes.lawful (record { distinct = tt; entries = tt }) stands.makes.made
