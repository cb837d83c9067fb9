-- Where what a store finds is lawful, all parts are, and so their inodes are in order.
use Rattle.std.specs.Prelude.{◌≡◌, ℕ, false, List, [], ◌∷◌, ◌++◌, Option, None, Some, Result, Ok}
use Rattle.std.specs.Str.{bytes_eq}
use Rattle.std.proofs.Common.{refl, sym, ap, subst, ◌∙◌, inl, inr}
use Rattle.send_model.specs.Refusal.{Refusal, NoSubvolume, NoParent}
use Rattle.send_model.specs.Chain.{found}
use Rattle.send_model.specs.Command.{Command, Subvol, Snapshot, Clone, End}
use Rattle.send_model.specs.Subvolume.{Subvolume, IsLawful}
use Rattle.send_model.specs.Store.{Key, Head, head_of, Store, Part, State, Stepped, completed, find, begun, start_from, entered, step_head, clone_source, edit_part, edited, step, step_edit, key_of}
use Rattle.send_model.specs.Receive.{bytes_of, start_of}
use Rattle.send_model.specs.Outside.{IsAmong, FindsLawful, keys_named, all_keys_named}
use Rattle.send_model.specs.Counts.{is_end}
use Rattle.send_model.specs.Separated.{LeadTo}
use Rattle.send_model.proofs.Sorts.{same_inside, head_step}
use Rattle.send_model.proofs.Fuel.{ok_same}
use Rattle.send_model.proofs.Stores.{finds_one_of, finds_unfinished}
use Rattle.send_model.proofs.Merging.{begun_begins, entered_taken, edited_taken}
use Rattle.send_model.proofs.SeparatedCounts.{inner_step}
use Rattle.send_model.proofs.LawfulEdits.{edit_keeps_lawful, clone_keeps_lawful, root_alone_is_lawful}
use Rattle.squash_model.proofs.SquashedRuns.{IsOrderedPart, KeepsOrder}

-- A key that a command names is among those of all; so is one that a later command names.
pub first_among : (k : Key) (c : Command) (cs : List Command) → IsAmong k (keys_named c) → IsAmong k (all_keys_named (c ∷ cs))
first_among k c cs m = one (keys_named c) m
  where
    one : (ks : List Key) → IsAmong k ks → IsAmong k (ks ++ all_keys_named cs)
    one [] a = absurd a
    one (q ∷ ks) (inl e) = inl e
    one (q ∷ ks) (inr more) = inr (one ks more)

pub rest_among : (k : Key) (c : Command) (cs : List Command) → IsAmong k (all_keys_named cs) → IsAmong k (all_keys_named (c ∷ cs))
rest_among k c cs m = one (keys_named c)
  where
    one : (ks : List Key) → IsAmong k (ks ++ all_keys_named cs)
    one [] = m
    one (q ∷ ks) = inr (one ks)

pub parent_named : (c : Command) (head : Head) → head_of c ≡ Some head → (k : Key) → head.parent ≡ Some k → IsAmong k (keys_named c)
parent_named (Subvol uuid ctransid path) head h k e = let x = ap (λ (q : Head). q.parent) (same_inside h) ∙ e in cc
parent_named (Snapshot uuid ctransid path clone_uuid clone_ctransid) head h k e = inl (same_inside (ap (λ (q : Head). q.parent) (same_inside h) ∙ e))
parent_named c head h k e = cc

module _ (keys : List Key) where
  abbrev LawfulPart : Option (Part ℕ) → Type 0
  LawfulPart None = Unit {0}
  LawfulPart (Some part) = IsLawful part.subvolume

  record Stands (state : State ℕ) : Type 0 where
    finds : FindsLawful state.store keys
    part : LawfulPart state.part

  completed_lawful : (store : Store ℕ) (o : Option (Part ℕ)) → FindsLawful store keys → LawfulPart o → FindsLawful (completed (record { store = store; part = o })) keys
  unfolding completed
  completed_lawful store None f p = f
  completed_lawful store (Some part) f p = λ k s m e. elim (finds_one_of part.key.uuid part.subvolume store k s e) [
    | inl same ↦ subst (λ (t : Subvolume ℕ). IsLawful t) (sym same) p
    | inr other ↦ f k s m other
  ]

  head_stands : (store : Store ℕ) (head : Head) → FindsLawful store keys → ((k : Key) → head.parent ≡ Some k → IsAmong k keys) → (entered store head (begun store head)).refusal ≡ None
      → Stands (entered store head (begun store head)).state
  head_stands store head f n taken =
      let ok = entered_taken store head (begun store head) taken in
      let b = begun_begins store head ok.0 ok.1 in
      subst (λ (r : Result (Subvolume ℕ) Refusal). Stands (entered store head r).state) (sym ok.1)
      (record { finds = λ k s m e. f k s m (sym (finds_unfinished head store k) ∙ e); part = started head.parent refl ok.0 b.from })
    where
      taken_from : (k : Key) (o : Option (Subvolume ℕ)) (s : Subvolume ℕ) → find store k ≡ o → IsAmong k keys → found o NoParent ≡ Ok s → IsLawful s
      taken_from k None s e m q = cc
      taken_from k (Some t) s e m q = f k s m (e ∙ ap (λ (x : Subvolume ℕ). Some x) (ok_same q))

      started : (o : Option Key) → head.parent ≡ o → (s : Subvolume ℕ) → start_from store head.parent ≡ Ok s → IsLawful s
      started None e s q = subst (λ (x : Subvolume ℕ). IsLawful x) (ok_same (sym (ap (start_from store) e) ∙ q)) root_alone_is_lawful
      started (Some k) e s q = taken_from k (find store k) s refl (n k e) (sym (ap (start_from store) e) ∙ q)

  edit_lawful : (put : List ℕ) (store : Store ℕ) (part : Part ℕ) (c : Command) (t : Subvolume ℕ) → IsLawful part.subvolume → edit_part 0 put store part c ≡ Ok t → IsLawful t
  unfolding edit_part
  edit_lawful put store part (Clone path offset clone_uuid clone_ctransid clone_path from len) t h e =
      clone_keeps_lawful 0 (clone_source store part (key_of clone_uuid clone_ctransid)) (bytes_eq clone_uuid part.key.uuid) path offset clone_path from len part.subvolume t h e
  edit_lawful put store part c t h e = edit_keeps_lawful 0 put c part.subvolume t h e

  refused_without : (c : Command) (store : Store ℕ) → is_end c ≡ false → head_of c ≡ None → (step 0 (bytes_of c) (record { store = store; part = None }) c).refusal ≡ Some NoSubvolume
  unfolding step step_edit
  refused_without (Subvol uuid ctransid path) store e h = cc
  refused_without (Snapshot uuid ctransid path clone_uuid clone_ctransid) store e h = cc
  refused_without End store e h = cc
  refused_without c store e h = refl

  Steps : Command → Type 0
  Steps c = (store : Store ℕ) (o : Option (Part ℕ)) → ((k : Key) → IsAmong k (keys_named c) → IsAmong k keys) → FindsLawful store keys → LawfulPart o
      → (step 0 (bytes_of c) (record { store = store; part = o }) c).refusal ≡ None → Stands (step 0 (bytes_of c) (record { store = store; part = o }) c).state

  end_steps : Steps End
  unfolding Steps step
  end_steps store o n f p taken = record { finds = completed_lawful store o f p; part = tt }

  head_steps : (c : Command) (head : Head) → head_of c ≡ Some head → Steps c
  unfolding Steps step_head
  head_steps c head h store o n f p taken =
      let state : State ℕ = record { store = store; part = o } in
      let is = head_step 0 (bytes_of c) state c head h in
      subst (λ (x : Stepped ℕ). Stands x.state) (sym is)
      (head_stands (completed state) head (completed_lawful store o f p) (λ k e. n k (parent_named c head h k e)) (ap (λ (x : Stepped ℕ). x.refusal) (sym is) ∙ taken))

  inner_steps : (c : Command) → is_end c ≡ false → head_of c ≡ None → Steps c
  unfolding Steps
  inner_steps c e h store None n f p taken = let x = sym (refused_without c store e h) ∙ taken in cc
  inner_steps c e h store (Some part) n f p taken =
      let is = inner_step (bytes_of c) store part c e h in
      let ok = edited_taken store part (edit_part 0 (bytes_of c) store part c) (ap (λ (x : Stepped ℕ). x.refusal) (sym is) ∙ taken) in
      subst (λ (x : Stepped ℕ). Stands x.state) (sym (is ∙ ap (edited store part) ok.1))
      (record { finds = f; part = edit_lawful (bytes_of c) store part c ok.0 p ok.1 })

  by_head : (c : Command) → is_end c ≡ false → (o : Option Head) → head_of c ≡ o → Steps c
  by_head c e (Some head) h = head_steps c head h
  by_head c e None h = inner_steps c e h

  steps : (c : Command) → Steps c
  steps End = end_steps
  steps c = by_head c refl (head_of c) refl

  part_ordered : (o : Option (Part ℕ)) → LawfulPart o → IsOrderedPart o
  part_ordered None p = tt
  part_ordered (Some part) p = p.sound.inodes_in_order

  keeps : (cs : List Command) (state end : State ℕ) → ((k : Key) → IsAmong k (all_keys_named cs) → IsAmong k keys) → Stands state → LeadTo state cs end → KeepsOrder state cs
  unfolding Steps
  keeps [] state end n s t = tt
  keeps (c ∷ cs) state end n s (taken, t) = (
    part_ordered state.part s.part,
    keeps cs (step 0 (bytes_of c) state c).state end (λ k m. n k (rest_among k c cs m)) (steps c state.store state.part (λ k m. n k (first_among k c cs m)) s.finds s.part taken) t,
  )

pub keeps_order : (store : Store ℕ) (cs : List Command) (end : State ℕ) → FindsLawful store (all_keys_named cs) → LeadTo (start_of store) cs end → KeepsOrder (start_of store) cs
keeps_order store cs end f t = keeps (all_keys_named cs) cs (start_of store) end (λ k m. m) (record { finds = f; part = tt }) t
