-- Steps and runs over other cells are the same steps and runs: what is accepted, and where a
-- refusal stands, does not depend on what stands in the cells.
use Rattle.std.specs.Prelude.{◌≡◌, ℕ, Bool, true, false, ◌||◌, List, [], ◌∷◌, map, Option, None, Some, Result, Ok, Err, if◌then◌else◌}
use Rattle.std.specs.Option.{option_map}
use Rattle.std.specs.Str.{bytes_eq}
use Rattle.std.proofs.Common.{refl, sym, ap, ◌∙◌}
use Rattle.std.proofs.lemmas.List.{map-append}
use Rattle.std.proofs.lemmas.Bool.{true≢false}
use Rattle.send_model.specs.Refusal.{Refusal, NoSubvolume, NameThere, UuidThere, NoParent}
use Rattle.send_model.specs.Chain.{refuse_if, found}
use Rattle.send_model.specs.Command.{Command, End}
use Rattle.send_model.specs.Subvolume.{Subvolume, root_alone}
use Rattle.send_model.specs.Store.{Key, same_key, Head, Entry, Store, Part, State, Stepped, has_name, has_uuid, find, with_contents, completed, begun, start_from, unfinished, entered, step_head, edit_part, edited, step_edit, step}
use Rattle.send_model.specs.Counts.{is_clone}
use Rattle.send_model.specs.Cells.{recelled, recelled_result, recelled_entry, recelled_store, recelled_part, recelled_state, recelled_step}
use Rattle.send_model.proofs.CellEdits.{then_cells, edit-cells}
use Rattle.send_model.proofs.Sorts.{by_sort, is_plain, head_step, plain_edit_part, plain_step_edit}

module _ {C D : Type 0} (f : C → D) where
  -- ---- stores

  pub has_name-cells : (name : List ℕ) (store : Store C) → has_name name (recelled_store f store) ≡ has_name name store
  has_name-cells name [] = refl
  has_name-cells name (e ∷ store) = ap (λ (b : Bool). bytes_eq e.name name || b) (has_name-cells name store)

  pub has_uuid-cells : (uuid : List ℕ) (store : Store C) → has_uuid uuid (recelled_store f store) ≡ has_uuid uuid store
  has_uuid-cells uuid [] = refl
  has_uuid-cells uuid (e ∷ store) = ap (λ (b : Bool). bytes_eq e.key.uuid uuid || b) (has_uuid-cells uuid store)

  find_one : (b : Bool) (contents : Option (Subvolume C)) (rest' : Option (Subvolume D)) (rest : Option (Subvolume C)) → rest' ≡ option_map (recelled f) rest
      → (if b then (elim (option_map (recelled f) contents) as (λ x. Option (Subvolume D)) [ None ↦ rest' | Some s ↦ Some s ]) else rest') ≡ option_map (recelled f) (if b then (elim contents as (λ x. Option (Subvolume C)) [ None ↦ rest | Some s ↦ Some s ]) else rest)
  find_one true None rest' rest more = more
  find_one true (Some s) rest' rest more = refl
  find_one false contents rest' rest more = more

  pub find-cells : (store : Store C) (key : Key) → find (recelled_store f store) key ≡ option_map (recelled f) (find store key)
  unfolding find
  find-cells [] key = refl
  find-cells (e ∷ store) key = find_one (same_key e.key key) e.contents _ _ (find-cells store key)

  with_one : (b : Bool) (e : Entry (Subvolume C)) (s : Subvolume C) (rest' : Store D) (rest : Store C) (store : Store C) → rest' ≡ recelled_store f rest
      → (if b then record (recelled_entry f e) { contents = Some (recelled f s) } ∷ recelled_store f store else recelled_entry f e ∷ rest') ≡ recelled_store f (if b then record e { contents = Some s } ∷ store else e ∷ rest)
  with_one true e s rest' rest store more = refl
  with_one false e s rest' rest store more = ap (λ (r : Store D). recelled_entry f e ∷ r) more

  pub with_contents-cells : (uuid : List ℕ) (s : Subvolume C) (store : Store C) → with_contents uuid (recelled f s) (recelled_store f store) ≡ recelled_store f (with_contents uuid s store)
  unfolding with_contents
  with_contents-cells uuid s [] = refl
  with_contents-cells uuid s (e ∷ store) = with_one (bytes_eq e.key.uuid uuid) e s _ _ store (with_contents-cells uuid s store)

  pub completed-cells : (state : State C) → completed (recelled_state f state) ≡ recelled_store f (completed state)
  unfolding completed
  completed-cells state = one state.part
    where
      one : (o : Option (Part C)) → (elim (option_map (recelled_part f) o) as (λ x. Store D) [ None ↦ recelled_store f state.store | Some part ↦ with_contents part.key.uuid part.subvolume (recelled_store f state.store) ])
          ≡ recelled_store f (elim o as (λ x. Store C) [ None ↦ state.store | Some part ↦ with_contents part.key.uuid part.subvolume state.store ])
      one None = refl
      one (Some part) = with_contents-cells part.key.uuid part.subvolume state.store

  found_cells : (o' : Option (Subvolume D)) (o : Option (Subvolume C)) (refusal : Refusal) → o' ≡ option_map (recelled f) o → found o' refusal ≡ recelled_result f (found o refusal)
  found_cells o' o refusal e = ap (λ (x : Option (Subvolume D)). found x refusal) e ∙ one o
    where
      one : (x : Option (Subvolume C)) → found (option_map (recelled f) x) refusal ≡ recelled_result f (found x refusal)
      one None = refl
      one (Some s) = refl

  pub start_cells : (store : Store C) (parent : Option Key) → start_from (recelled_store f store) parent ≡ recelled_result f (start_from store parent)
  unfolding root_alone
  start_cells store None = refl
  start_cells store (Some key) = found_cells _ (find store key) NoParent (find-cells store key)

  pub begun-cells : (store : Store C) (head : Head) → begun (recelled_store f store) head ≡ recelled_result f (begun store head)
  unfolding begun
  begun-cells store head =
      then_cells f _ _ _ _ refl (then_cells f _ _ _ _ (ap (λ (b : Bool). refuse_if b NameThere) (has_name-cells head.name store)) (then_cells f _ _ _ _ (ap (λ (b : Bool). refuse_if b UuidThere) (has_uuid-cells head.key.uuid store)) (start_cells store head.parent)))

  entered-cells : (store : Store C) (head : Head) (r : Result (Subvolume C) Refusal) → entered (recelled_store f store) head (recelled_result f r) ≡ recelled_step f (entered store head r)
  entered-cells store head (Ok start) = let at : Store D → Stepped D = λ st. record { state = record { store = st; part = Some (record { key = head.key; subvolume = recelled f start }) }; refusal = None } in
      ap at (sym (map-append (recelled_entry f) store (unfinished head ∷ [])))
  entered-cells store head (Err refusal) = refl

  pub step_head-cells : (state : State C) (head : Head) → step_head (recelled_state f state) head ≡ recelled_step f (step_head state head)
  unfolding step_head
  step_head-cells state head =
      ap (λ (st : Store D). entered st head (begun st head)) (completed-cells state)
      ∙ ap (entered (recelled_store f (completed state)) head) (begun-cells (completed state) head)
      ∙ entered-cells (completed state) head (begun (completed state) head)

  pub edited-cells : (store : Store C) (part : Part C) (r : Result (Subvolume C) Refusal) → edited (recelled_store f store) (recelled_part f part) (recelled_result f r) ≡ recelled_step f (edited store part r)
  edited-cells store part (Ok s) = refl
  edited-cells store part (Err refusal) = refl

  -- ---- the step, but for clones

  step_edit-cells : (x : C) (put : List C) (state : State C) (c : Command) → is_plain c ≡ true → step_edit (f x) (map f put) (recelled_state f state) c ≡ recelled_step f (step_edit x put state c)
  unfolding step_edit
  step_edit-cells x put state c h = one state.part
    where
      one : (o : Option (Part C)) → (elim (option_map (recelled_part f) o) as (λ y. Stepped D) [ None ↦ record { state = record { store = recelled_store f state.store; part = option_map (recelled_part f) state.part }; refusal = Some NoSubvolume } | Some part ↦ edited (recelled_store f state.store) part (edit_part (f x) (map f put) (recelled_store f state.store) part c) ])
          ≡ recelled_step f (elim o as (λ y. Stepped C) [ None ↦ record { state = state; refusal = Some NoSubvolume } | Some part ↦ edited state.store part (edit_part x put state.store part c) ])
      one None = refl
      one (Some part) =
          ap (edited (recelled_store f state.store) (recelled_part f part)) (plain_edit_part (f x) (map f put) (recelled_store f state.store) (recelled_part f part) c h ∙ edit-cells f x put c part.subvolume ∙ ap (recelled_result f) (sym (plain_edit_part x put state.store part c h)))
          ∙ edited-cells state.store part (edit_part x put state.store part c)

  SameStep : Command → Type 0
  SameStep c = (x : C) (put : List C) (state : State C) → step (f x) (map f put) (recelled_state f state) c ≡ recelled_step f (step x put state c)

  end_cells : (x : C) (put : List C) (state : State C) → step (f x) (map f put) (recelled_state f state) End ≡ recelled_step f (step x put state End)
  unfolding step
  end_cells x put state = let at : Store D → Stepped D = λ st. record { state = record { store = st; part = None }; refusal = None } in ap at (completed-cells state)

  pub step-cells : (c : Command) → is_clone c ≡ false → (x : C) (put : List C) (state : State C) → step (f x) (map f put) (recelled_state f state) c ≡ recelled_step f (step x put state c)
  unfolding SameStep
  step-cells c = by_sort {P = λ c. is_clone c ≡ false → SameStep c}
      (λ c head h no x put state. head_step (f x) (map f put) (recelled_state f state) c head h ∙ step_head-cells state head ∙ ap (recelled_step f) (sym (head_step x put state c head h)))
      (λ no. end_cells)
      (λ c h no. absurd (true≢false (sym h ∙ no)))
      (λ c h no x put state. plain_step_edit (f x) (map f put) (recelled_state f state) c h ∙ step_edit-cells x put state c h ∙ ap (recelled_step f) (sym (plain_step_edit x put state c h))) c
