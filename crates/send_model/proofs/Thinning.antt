-- A step looks at no contents but those of the keys that its command names.
use Rattle.std.specs.Prelude.{◌≡◌, ℕ, Bool, true, false, ◌||◌, List, [], ◌∷◌, ◌++◌, map, Option, None, Some, Result, Ok, Err, if◌then◌else◌}
use Rattle.std.specs.List.{AllByRecursion}
use Rattle.std.specs.Str.{bytes_eq}
use Rattle.std.proofs.Common.{refl, sym, ap, ap₂, subst, ◌∙◌}
use Rattle.std.proofs.lemmas.Bool.{false≢true}
use Rattle.std.proofs.lemmas.List.{map-append}
use Rattle.send_model.specs.Refusal.{Refusal, NoSubvolume, BadName, NameThere, UuidThere, NoParent}
use Rattle.send_model.specs.Chain.{require, refuse_if, found, ◌>>◌}
use Rattle.send_model.specs.Path.{is_name}
use Rattle.send_model.specs.Command.{Command, Subvol, Snapshot, Clone, End}
use Rattle.send_model.specs.Subvolume.{Subvolume}
use Rattle.send_model.specs.Store.{Key, same_key, Head, head_of, Entry, Store, Part, State, Stepped, has_name, has_uuid, find, with_contents, completed, start_from, begun, unfinished, entered, step_head, clone_source, edit_part, edited, step_edit, step}
use Rattle.send_model.specs.Clone.{clone, clone_values}
use Rattle.send_model.specs.Outside.{keys_named}
use Rattle.send_model.specs.Counts.{is_clone}
use Rattle.send_model.proofs.Sorts.{by_sort, head_step, plain_edit_part, plain_step_edit, same_inside}
use Rattle.send_model.proofs.Stores.{same_key_true}
use Rattle.send_model.specs.Thinned.{thinned_entry, thinned, head_in, LeavesOutContents}

-- A state with fewer contents, and what a step leads to.
abbrev pub thinned_state : {C : Type 0} → (Key → Bool) → State C → State C
thinned_state keep state = record { store = thinned keep state.store; part = state.part }

abbrev pub thinned_step : {C : Type 0} → (Key → Bool) → Stepped C → Stepped C
thinned_step keep stepped = record { state = thinned_state keep stepped.state; refusal = stepped.refusal }

module _ (keep : Key → Bool) where
  module _ {S : Type 0} where
    kept_twice : (b : Bool) (o : Option S) → ◌≡◌ {A = Option S} (if b then (if b then o else None) else None) (if b then o else None)
    kept_twice true o = refl
    kept_twice false o = refl

    entry_twice : (e : Entry S) → thinned_entry keep (thinned_entry keep e) ≡ thinned_entry keep e
    entry_twice e = let at : Option S → Entry S = λ o. record { name = e.name; key = e.key; parent = e.parent; contents = o } in ap at (kept_twice (keep e.key) e.contents)

    pub thinned_twice : (store : List (Entry S)) → thinned keep (thinned keep store) ≡ thinned keep store
    thinned_twice [] = refl
    thinned_twice (e ∷ store) = ap₂ (λ (a : Entry S) (r : List (Entry S)). a ∷ r) (entry_twice e) (thinned_twice store)

    pub has_name-thinned : (name : List ℕ) (store : List (Entry S)) → has_name name (thinned keep store) ≡ has_name name store
    has_name-thinned name [] = refl
    has_name-thinned name (e ∷ store) = ap (λ (b : Bool). bytes_eq e.name name || b) (has_name-thinned name store)

    pub has_uuid-thinned : (uuid : List ℕ) (store : List (Entry S)) → has_uuid uuid (thinned keep store) ≡ has_uuid uuid store
    has_uuid-thinned uuid [] = refl
    has_uuid-thinned uuid (e ∷ store) = ap (λ (b : Bool). bytes_eq e.key.uuid uuid || b) (has_uuid-thinned uuid store)

    -- A key finds what it found, where the test keeps it, and else nothing.
    pub find-thinned : (store : List (Entry S)) (key : Key) → find (thinned keep store) key ≡ (if keep key then find store key else None)
    unfolding find
    find-thinned [] key = one (keep key)
      where
        one : (b : Bool) → ◌≡◌ {A = Option S} None (if b then None else None)
        one true = refl
        one false = refl
    find-thinned (e ∷ store) key = one (same_key e.key key) refl (keep key) refl (find-thinned store key)
      where
        found_kept : (k : Bool) (o : Option S) (rest' rest : Option S) → rest' ≡ (if k then rest else None)
            → (elim (if k then o else None) as (λ x. Option S) [ None ↦ rest' | Some s ↦ Some s ]) ≡ (if k then (elim o as (λ x. Option S) [ None ↦ rest | Some s ↦ Some s ]) else None)
        found_kept true None rest' rest more = more
        found_kept true (Some s) rest' rest more = refl
        found_kept false o rest' rest more = more

        one : (b : Bool) → same_key e.key key ≡ b → (k : Bool) → keep key ≡ k → find (thinned keep store) key ≡ (if k then find store key else None)
            → (if b then (elim (if keep e.key then e.contents else None) as (λ x. Option S) [ None ↦ find (thinned keep store) key | Some s ↦ Some s ]) else find (thinned keep store) key)
            ≡ (if k then (if b then (elim e.contents as (λ x. Option S) [ None ↦ find store key | Some s ↦ Some s ]) else find store key) else None)
        one true same k kept more =
            let t : keep e.key ≡ k = ap keep (same_key_true e.key key same) ∙ kept in
            ap (λ (b : Bool). elim (if b then e.contents else None) as (λ x. Option S) [ None ↦ find (thinned keep store) key | Some s ↦ Some s ]) t
            ∙ found_kept k e.contents (find (thinned keep store) key) (find store key) more
        one false same k kept more = more

    pub find-kept : (store : List (Entry S)) (key : Key) → keep key ≡ true → find (thinned keep store) key ≡ find store key
    find-kept store key kept = find-thinned store key ∙ ap (λ (b : Bool). if b then find store key else None) kept

    pub with_contents-thinned : (uuid : List ℕ) (s : S) (store : List (Entry S)) → thinned keep (with_contents uuid s (thinned keep store)) ≡ thinned keep (with_contents uuid s store)
    unfolding with_contents
    with_contents-thinned uuid s [] = refl
    with_contents-thinned uuid s (e ∷ store) = one (bytes_eq e.key.uuid uuid) (with_contents-thinned uuid s store)
      where
        one : (b : Bool) → thinned keep (with_contents uuid s (thinned keep store)) ≡ thinned keep (with_contents uuid s store)
            → thinned keep (if b then record (thinned_entry keep e) { contents = Some s } ∷ thinned keep store else thinned_entry keep e ∷ with_contents uuid s (thinned keep store))
            ≡ thinned keep (if b then record e { contents = Some s } ∷ store else e ∷ with_contents uuid s store)
        one true more = ap (λ (r : List (Entry S)). thinned_entry keep (record e { contents = Some s }) ∷ r) (thinned_twice store)
        one false more = ap₂ (λ (a : Entry S) (r : List (Entry S)). a ∷ r) (entry_twice e) more

    unfinished_thinned : (head : Head) → thinned_entry keep (unfinished {S = S} head) ≡ unfinished head
    unfinished_thinned head = one (keep head.key)
      where
        one : (b : Bool) → ◌≡◌ {A = Entry S} (record { name = head.name; key = head.key; parent = head.parent; contents = if b then None else None }) (unfinished head)
        one true = refl
        one false = refl

  -- The parent of a head is kept.
  abbrev KeepsParent : Option Key → Type 0
  KeepsParent None = Unit {0}
  KeepsParent (Some key) = keep key ≡ true

  abbrev pub Keeps : Command → Type 0
  Keeps c = AllByRecursion (λ key. keep key ≡ true) (keys_named c)

  keeps_parent : (c : Command) (head : Head) → head_of c ≡ Some head → Keeps c → KeepsParent head.parent
  keeps_parent (Subvol uuid ctransid path) head h kept = subst (λ (x : Head). KeepsParent x.parent) (same_inside h) tt
  keeps_parent (Snapshot uuid ctransid path clone_uuid clone_ctransid) head h kept = subst (λ (x : Head). KeepsParent x.parent) (same_inside h) kept.0
  keeps_parent c head h kept = cc

  abbrev SameStep : Type 0 → Command → Type 0
  SameStep C c = Keeps c → (x : C) (put : List C) (state : State C) → thinned_step keep (step x put (thinned_state keep state) c) ≡ thinned_step keep (step x put state c)

  module _ {C : Type 0} where
    pub completed-thinned : (state : State C) → thinned keep (completed (thinned_state keep state)) ≡ thinned keep (completed state)
    unfolding completed
    completed-thinned state = one state.part
      where
        one : (o : Option (Part C)) → thinned keep (elim o as (λ x. Store C) [ None ↦ thinned keep state.store | Some part ↦ with_contents part.key.uuid part.subvolume (thinned keep state.store) ])
            ≡ thinned keep (elim o as (λ x. Store C) [ None ↦ state.store | Some part ↦ with_contents part.key.uuid part.subvolume state.store ])
        one None = thinned_twice state.store
        one (Some part) = with_contents-thinned part.key.uuid part.subvolume state.store

    start_thinned : (store : Store C) (parent : Option Key) → KeepsParent parent → start_from (thinned keep store) parent ≡ start_from store parent
    start_thinned store None kept = refl
    start_thinned store (Some key) kept = ap (λ (o : Option (Subvolume C)). found o NoParent) (find-kept store key kept)

    pub begun-thinned : (store : Store C) (head : Head) → KeepsParent head.parent → begun (thinned keep store) head ≡ begun store head
    unfolding begun
    begun-thinned store head kept =
        ap₂ (λ (a b : Bool). require (is_name head.name) BadName >> (refuse_if a NameThere >> (refuse_if b UuidThere >> start_from (thinned keep store) head.parent))) (has_name-thinned head.name store) (has_uuid-thinned head.key.uuid store)
        ∙ ap (λ (r : Result (Subvolume C) Refusal). require (is_name head.name) BadName >> (refuse_if (has_name head.name store) NameThere >> (refuse_if (has_uuid head.key.uuid store) UuidThere >> r))) (start_thinned store head.parent kept)

    entered-thinned : (store : Store C) (head : Head) (r : Result (Subvolume C) Refusal) → thinned_step keep (entered store head r) ≡ entered (thinned keep store) head r
    entered-thinned store head (Ok start) =
        let at : Store C → Stepped C = λ st. record { state = record { store = st; part = Some (record { key = head.key; subvolume = start }) }; refusal = None } in
        ap at (map-append (thinned_entry keep) store (unfinished head ∷ []) ∙ ap (λ (e : Entry (Subvolume C)). thinned keep store ++ e ∷ []) (unfinished_thinned head))
    entered-thinned store head (Err refusal) = refl

    edited-thinned : (store : Store C) (part : Part C) (r : Result (Subvolume C) Refusal) → thinned_step keep (edited store part r) ≡ edited (thinned keep store) part r
    edited-thinned store part (Ok s) = refl
    edited-thinned store part (Err refusal) = refl

    -- What a head begins over a store, seen without what the test does not keep.
    abbrev head_after : Store C → Head → Stepped C
    head_after store head = entered store head (begun store head)

    head_thinned : (store : Store C) (head : Head) → KeepsParent head.parent → thinned_step keep (head_after store head) ≡ head_after (thinned keep store) head
    head_thinned store head kept = entered-thinned store head (begun store head) ∙ ap (entered (thinned keep store) head) (sym (begun-thinned store head kept))

    step_head-thinned : (state : State C) (head : Head) → KeepsParent head.parent → thinned_step keep (step_head (thinned_state keep state) head) ≡ thinned_step keep (step_head state head)
    unfolding step_head
    step_head-thinned state head kept =
        head_thinned (completed (thinned_state keep state)) head kept
        ∙ ap (λ (s : Store C). head_after s head) (completed-thinned state)
        ∙ sym (head_thinned (completed state) head kept)

    step_edit-thinned : (x : C) (put : List C) (state : State C) (c : Command)
        → ((part : Part C) → edit_part x put (thinned keep state.store) part c ≡ edit_part x put state.store part c)
        → thinned_step keep (step_edit x put (thinned_state keep state) c) ≡ thinned_step keep (step_edit x put state c)
    unfolding step_edit
    step_edit-thinned x put state c same = one state.part
      where
        one : (o : Option (Part C)) → thinned_step keep (elim o as (λ y. Stepped C) [ None ↦ record { state = record { store = thinned keep state.store; part = state.part }; refusal = Some NoSubvolume } | Some part ↦ edited (thinned keep state.store) part (edit_part x put (thinned keep state.store) part c) ])
            ≡ thinned_step keep (elim o as (λ y. Stepped C) [ None ↦ record { state = state; refusal = Some NoSubvolume } | Some part ↦ edited state.store part (edit_part x put state.store part c) ])
        one None = let at : Store C → Stepped C = λ st. record { state = record { store = st; part = state.part }; refusal = Some NoSubvolume } in ap at (thinned_twice state.store)
        one (Some part) =
            ap (λ (r : Result (Subvolume C) Refusal). thinned_step keep (edited (thinned keep state.store) part r)) (same part)
            ∙ edited-thinned (thinned keep state.store) part (edit_part x put state.store part c)
            ∙ ap (λ (s : Store C). edited s part (edit_part x put state.store part c)) (thinned_twice state.store)
            ∙ sym (edited-thinned state.store part (edit_part x put state.store part c))

    pub source-thinned : (store : Store C) (part : Part C) (key : Key) → keep key ≡ true → clone_source (thinned keep store) part key ≡ clone_source store part key
    source-thinned store part key kept = ap (λ (o : Option (Subvolume C)). if bytes_eq key.uuid part.key.uuid then Some part.subvolume else o) (find-kept store key kept)

    end_thinned : SameStep C End
    unfolding step
    end_thinned kept x put state = let at : Store C → Stepped C = λ st. record { state = record { store = st; part = None }; refusal = None } in ap at (completed-thinned state)

    clone_thinned : (c : Command) → is_clone c ≡ true → SameStep C c
    unfolding step edit_part
    clone_thinned (Clone path offset uuid ctransid clone_path from len) h kept x put state =
        step_edit-thinned x put state (Clone path offset uuid ctransid clone_path from len) (λ part.
        ap (λ (o : Option (Subvolume C)). clone x part.subvolume o (bytes_eq uuid part.key.uuid) (clone_values path offset clone_path from len)) (source-thinned state.store part (record { uuid = uuid; ctransid = ctransid }) kept.0))
    clone_thinned c h kept x put state = absurd (false≢true h)

    pub step-thinned : (c : Command) → SameStep C c
    step-thinned c = by_sort {P = SameStep C}
        (λ c head h kept x put state. ap (thinned_step keep) (head_step x put (thinned_state keep state) c head h) ∙ step_head-thinned state head (keeps_parent c head h kept) ∙ ap (thinned_step keep) (sym (head_step x put state c head h)))
        end_thinned clone_thinned
        (λ c h kept x put state. ap (thinned_step keep) (plain_step_edit x put (thinned_state keep state) c h)
        ∙ step_edit-thinned x put state c (λ part. plain_edit_part x put (thinned keep state.store) part c h ∙ sym (plain_edit_part x put state.store part c h))
        ∙ ap (thinned_step keep) (sym (plain_step_edit x put state c h))) c

    -- Two states that are the same without what the test does not keep stay so, and the same is
    -- refused.
    pub steps_alike : (c : Command) → Keeps c → (x : C) (put : List C) (a b : State C) → thinned_state keep a ≡ thinned_state keep b
        → thinned_step keep (step x put a c) ≡ thinned_step keep (step x put b c)
    steps_alike c kept x put a b same =
        sym (step-thinned c kept x put a) ∙ ap (λ (s : State C). thinned_step keep (step x put s c)) same ∙ step-thinned c kept x put b

entries_stay : {S : Type 0} (keep : Key → Bool) (store : List (Entry S)) → map head_in (thinned keep store) ≡ map head_in store
entries_stay keep [] = refl
entries_stay keep (e ∷ store) = ap (λ (r : List Head). head_in e ∷ r) (entries_stay keep store)

pub leaves_out_contents : {S : Type 0} (keep : Key → Bool) (store : List (Entry S)) → LeavesOutContents keep store
leaves_out_contents keep store = record {
  entries = entries_stay keep store;
  names = λ name. has_name-thinned keep name store;
  uuids = λ uuid. has_uuid-thinned keep uuid store;
  finds = λ key. find-thinned keep store key;
}
