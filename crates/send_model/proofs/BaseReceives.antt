-- A base that takes items has neither the name nor the uuid of their last part: no step takes an
-- entry away, and the last head was taken where neither was there. So it can itself receive what is
-- composed from them.
use Rattle.std.specs.Prelude.{◌≡◌, ℕ, Bool, true, false, ◌||◌, List, [], ◌∷◌, ◌++◌, Option, None, Some, Result, Ok, Err}
use Rattle.std.specs.List.{list_any}
use Rattle.std.specs.Str.{bytes_eq}
use Rattle.std.proofs.Common.{refl, sym, ap, subst, ◌∙◌}
use Rattle.std.proofs.lemmas.Bool.{true≢false}
use Rattle.send_model.specs.Refusal.{Refusal}
use Rattle.send_model.specs.Command.{Command, Clone, End}
use Rattle.send_model.specs.Subvolume.{Subvolume}
use Rattle.send_model.specs.Store.{Key, Head, head_of, Entry, Store, has_name, has_uuid, Part, State, Stepped, completed, unfinished, begun, entered, step_head, edit_part, edited, step_edit, step}
use Rattle.send_model.specs.Receive.{Run, run_items, receive_items, byte_cells, bytes_of, start_of, fault_of}
use Rattle.send_model.specs.Order.{onto_heads, heads_of, commands_of}
use Rattle.send_model.specs.Outside.{SameOn}
use Rattle.send_model.specs.Counts.{is_clone}
use Rattle.send_model.specs.Composed.{last_head}
use Rattle.send_model.specs.Laws.{BaseCanReceive, BaseReceives}
use Rattle.send_model.proofs.Sorts.{by_sort, is_plain, same_inside, head_step, plain_step_edit}
use Rattle.send_model.proofs.Stores.{or_parts}
use Rattle.send_model.proofs.Runs.{Takes, step_of, takes_run}
use Rattle.send_model.proofs.Merging.{begun_begins, entered_taken}
use Rattle.send_model.proofs.Headlines.{first_none}
use Rattle.send_model.proofs.LawfulStores.{same_entries}

-- ---- no step takes an entry away

-- A test of an entry that does not look at its contents.
module _ (test : Entry (Subvolume ℕ) → Bool) (same : (e : Entry (Subvolume ℕ)) (o : Option (Subvolume ℕ)) → test (record e { contents = o }) ≡ test e) where
  any_completed : (store : Store ℕ) (part : Option (Part ℕ)) → list_any test (completed (record { store = store; part = part })) ≡ list_any test store
  unfolding completed
  any_completed store None = refl
  any_completed store (Some part) = same_entries test same part.key.uuid part.subvolume store

  none_in_front : (store : Store ℕ) (last : Entry (Subvolume ℕ)) → list_any test (store ++ last ∷ []) ≡ false → list_any test store ≡ false
  none_in_front [] last h = refl
  none_in_front (e ∷ store) last h =
      let p = or_parts (test e) (list_any test (store ++ last ∷ [])) h in
      ap (λ (b : Bool). b || list_any test store) p.0 ∙ none_in_front store last p.1

  before_head : (store : Store ℕ) (head : Head) (r : Result (Subvolume ℕ) Refusal) → list_any test (entered store head r).state.store ≡ false → list_any test store ≡ false
  before_head store head (Err refusal) h = h
  before_head store head (Ok s) h = none_in_front store (unfinished head) h

  before_edited : (store : Store ℕ) (part : Part ℕ) (r : Result (Subvolume ℕ) Refusal) → list_any test (edited store part r).state.store ≡ false → list_any test store ≡ false
  before_edited store part (Err refusal) h = h
  before_edited store part (Ok s) h = h

  before_edit : (put : List ℕ) (store : Store ℕ) (part : Option (Part ℕ)) (c : Command) → list_any test (step_edit 0 put (record { store = store; part = part }) c).state.store ≡ false → list_any test store ≡ false
  unfolding step_edit
  before_edit put store None c h = h
  before_edit put store (Some part) c h = before_edited store part (edit_part 0 put store part c) h

  abbrev NoneBefore : Command → Type 0
  NoneBefore c = (put : List ℕ) (store : Store ℕ) (part : Option (Part ℕ)) → list_any test (step 0 put (record { store = store; part = part }) c).state.store ≡ false → list_any test store ≡ false

  by_head : (c : Command) (head : Head) → head_of c ≡ Some head → NoneBefore c
  unfolding step_head
  by_head c head e put store part h =
      let state : State ℕ = record { store = store; part = part } in
      sym (any_completed store part) ∙ before_head (completed state) head (begun (completed state) head) (subst (λ (x : Stepped ℕ). list_any test x.state.store ≡ false) (head_step 0 put state c head e) h)

  by_end : NoneBefore End
  unfolding step
  by_end put store part h = sym (any_completed store part) ∙ h

  by_clone : (c : Command) → is_clone c ≡ true → NoneBefore c
  unfolding step
  by_clone (Clone path offset uuid ctransid clone_path from len) e put store part h = before_edit put store part (Clone path offset uuid ctransid clone_path from len) h
  by_clone c e put store part h = absurd (true≢false (sym e))

  by_plain : (c : Command) → is_plain c ≡ true → NoneBefore c
  by_plain c e put store part h =
      let state : State ℕ = record { store = store; part = part } in
      before_edit put store part c (subst (λ (x : Stepped ℕ). list_any test x.state.store ≡ false) (plain_step_edit 0 put state c e) h)

  none_before : (c : Command) → NoneBefore c
  none_before c = by_sort {P = λ c. NoneBefore c} by_head by_end by_clone by_plain c

-- ---- the last head

-- A store has neither the name nor the uuid of a head.
abbrev IsFree : Head → Store ℕ → Type 0
IsFree head store = (has_name head.name store ≡ false) × (has_uuid head.key.uuid store ≡ false)

free_before : (head : Head) (c : Command) (store : Store ℕ) (part : Option (Part ℕ)) → IsFree head (step_of (record { store = store; part = part }) c).state.store → IsFree head store
free_before head c store part f = (
  none_before (λ e. bytes_eq e.name head.name) (λ e o. refl) c (bytes_of c) store part f.0,
  none_before (λ e. bytes_eq e.key.uuid head.key.uuid) (λ e o. refl) c (bytes_of c) store part f.1,
)

-- A head that is taken was free.
free_taken : (c : Command) (head : Head) → head_of c ≡ Some head → (store : Store ℕ) (part : Option (Part ℕ)) → (step_of (record { store = store; part = part }) c).refusal ≡ None → IsFree head store
unfolding step_head
free_taken c head e store part h =
    let state : State ℕ = record { store = store; part = part } in
    let taken = entered_taken (completed state) head (begun (completed state) head) (subst (λ (x : Stepped ℕ). x.refusal ≡ None) (head_step 0 (bytes_of c) state c head e) h) in
    let b = begun_begins (completed state) head taken.0 taken.1 in (
      sym (any_completed (λ x. bytes_eq x.name head.name) (λ x o. refl) store part) ∙ b.new_name,
      sym (any_completed (λ x. bytes_eq x.key.uuid head.key.uuid) (λ x o. refl) store part) ∙ b.new_uuid,
    )

free_last : (cs : List Command) (store : Store ℕ) (part : Option (Part ℕ)) (end : State ℕ) (last : Head) → Takes (record { store = store; part = part }) cs end → last_head (heads_of cs) ≡ Some last → IsFree last store
unfolding heads_of
free_last [] store part end last t e = cc
free_last (c ∷ cs) store part end last (h, t) e =
    let after : State ℕ = (step_of (record { store = store; part = part }) c).state in
    one (head_of c) refl (heads_of cs) refl (λ q. free_before last c store part (free_last cs after.store after.part end last t q)) e
  where
    one : (o : Option Head) → head_of c ≡ o → (hs : List Head) → heads_of cs ≡ hs → (last_head (heads_of cs) ≡ Some last → IsFree last store)
        → last_head (onto_heads o hs) ≡ Some last → IsFree last store
    one None is hs rest later q = later (ap last_head rest ∙ q)
    one (Some head) is [] rest later q = subst (λ (x : Head). IsFree x store) (same_inside q) (free_taken c head is store part h)
    one (Some head) is (next ∷ hs) rest later q = later (ap last_head rest ∙ q)

-- ---- the laws

same_on_itself : (store : Store ℕ) (keys : List Key) → SameOn store store keys
same_on_itself store [] = tt
same_on_itself store (key ∷ keys) = (refl, same_on_itself store keys)

pub base_can_receive : BaseCanReceive
base_can_receive base items last lawful accepted last_is =
    let free = free_last (commands_of items) base None (run_items 0 byte_cells (start_of base) items).state last (takes_run items (start_of base) accepted) last_is in
    record { lawful = lawful; same = same_on_itself base _; no_name = free.0; no_uuid = free.1 }

pub base_receives : BaseReceives
unfolding receive_items
base_receives base reading written c lawful =
    let ran : Run ℕ = run_items 0 byte_cells (start_of base) reading.items in
    let can = base_can_receive base reading.items c.last lawful (first_none ran.refused (fault_of reading.end) c.accepted) c.last_is in
    (c.accepted_by base can, c.gets base can)
