-- Heads and edits, and what they leave.
use Rattle.std.proofs.Common.{◌≡◌, Bool, true, false, ◌||◌, List, [], ◌∷◌, ◌++◌, Some, None, Option, Ok, Err, IsTrue, refl, sym, ap, ◌∙◌}
use Rattle.std.specs.List.{list_any}
use Rattle.std.specs.Option.{option_map}
use Rattle.send_model.specs.Refusal.{Refusal, NoSubvolume}
use Rattle.send_model.specs.Command as meant
use Rattle.send_model.specs.Store.{Key, Head, Store, Part, State, begun, completed, entered, edited, edit_part, head_of, step, step_edit, step_head, unfinished}
use Rattle.send_model.proofs.Stores.{same_key_same}
use Rattle.sx_base.specs.declared.stop.Stop.{Stop}
use Rattle.sx_base.specs.declared.stop.Stop.TheVariants as stop
use Rattle.sx_base.specs.Refusals.{refusal_of}
use Rattle.send_commands.specs.declared.command.Command as code
use Rattle.send_commands.specs.declared.command.Command.TheVariants as made
use Rattle.send_commands.specs.Meaning.{meaning_of}
use Rattle.clone_resolve.specs.declared.done.Done.TheVariants as done
use Rattle.sx_base.specs.Answers.{MayChange}
use Rattle.clone_resolve.specs.Heads.{Begins}
use Rattle.clone_resolve.specs.Steps.{is_open, Fits, Answers, done_by}

either : (a b : Bool) → IsTrue b → IsTrue (a || b)
either true b t = refl
either false b t = t

-- ---- a head

module _ {C : Type 0} where
  pub enter_taken : (state : State C) (store new : Store C) (head : Head) (part : Part C) → store ≡ completed state → begun store head ≡ Ok part.subvolume → part.key ≡ head.key → new ≡ store ++ unfinished head ∷ []
      → step_head state head ≡ record { state = record { store = new; part = Some part }; refusal = None }
  unfolding step_head
  enter_taken state store new head part e b k n =
      ap (λ (s : Store C). entered s head (begun s head)) (sym e) ∙ ap (entered store head) b
      ∙ (λ i. record { state = record { store = sym n i; part = Some (record { key = sym k i; subvolume = part.subvolume }) }; refusal = None })

  enter_refused : (state : State C) (store new : Store C) (head : Head) (refusal : Refusal) → store ≡ completed state → begun store head ≡ Err refusal → new ≡ store
      → step_head state head ≡ record { state = record { store = new; part = None }; refusal = Some refusal }
  unfolding step_head
  enter_refused state store new head refusal e b n =
      ap (λ (s : Store C). entered s head (begun s head)) (sym e) ∙ ap (entered store head) b
      ∙ (λ i. record { state = record { store = sym n i; part = None }; refusal = Some refusal })

  pub enter_stops : (A : Type 0) (why : Stop) (state : State C) (store new : Store C) (head : Head) → store ≡ completed state → Begins (Err why) head store new → Answers {A = A} (Err why) (record { store = new; part = None }) (step_head state head)
  enter_stops A (stop.Refused refusal) state store new head e b = enter_refused state store new head (refusal_of refusal) e b.0 b.1
  enter_stops A stop.NoMemory state store new head e b = tt

  new_open : (key : Key) (head : Head) (store : Store C) → key ≡ head.key → IsTrue (list_any (is_open key) (store ++ unfinished head ∷ []))
  new_open key head [] k = rw (k, same_key_same head.key) refl
  new_open key head (e ∷ store) k = either (is_open key e) _ (new_open key head store k)

  pub enter_fits : (store new : Store C) (head : Head) (part : Part C) → part.key ≡ head.key → new ≡ store ++ unfinished head ∷ [] → Fits new (Some part)
  enter_fits store new head part k n = rw n (new_open part.key head store k)

  -- ---- an edit

  pub fits_kept : (store : Store C) (old new : Option (Part C)) → option_map (λ p. p.key) new ≡ option_map (λ p. p.key) old → Fits store old → Fits store new
  fits_kept store None None k f = tt
  fits_kept store None (Some new) k f = cc
  fits_kept store (Some old) None k f = tt
  fits_kept store (Some old) (Some new) k f = let same : new.key ≡ old.key = cc in rw same f

  module _ (zero_cell : C) (put : List C) (store : Store C) where
    pub no_part : (c : meant.Command) → step_edit zero_cell put (record { store = store; part = None }) c ≡ record { state = record { store = store; part = None }; refusal = Some NoSubvolume }
    unfolding step_edit
    no_part c = refl

    module _ (old new : Part C) (c : meant.Command) (same : new.key ≡ old.key) where
      pub edit_taken : edit_part zero_cell put store old c ≡ Ok new.subvolume
          → step_edit zero_cell put (record { store = store; part = Some old }) c ≡ record { state = record { store = store; part = Some new }; refusal = None }
      unfolding step_edit
      edit_taken e =
          ap (edited store old) e ∙ (λ i. record { state = record { store = store; part = Some (record { key = sym same i; subvolume = new.subvolume }) }; refusal = None })

      edit_refused : (refusal : Refusal) → edit_part zero_cell put store old c ≡ Err refusal → new.subvolume ≡ old.subvolume
          → step_edit zero_cell put (record { store = store; part = Some old }) c ≡ record { state = record { store = store; part = Some new }; refusal = Some refusal }
      unfolding step_edit
      edit_refused refusal e s =
          ap (edited store old) e ∙ (λ i. record { state = record { store = store; part = Some (record { key = sym same i; subvolume = sym s i }) }; refusal = Some refusal })

      pub edit_stops : (A B : Type 0) (why : Stop) → MayChange {A = A} (Err why) old.subvolume new.subvolume (edit_part zero_cell put store old c)
          → Answers {A = B} (Err why) (record { store = store; part = Some new }) (step_edit zero_cell put (record { store = store; part = Some old }) c)
      edit_stops A B (stop.Refused refusal) e = edit_refused (refusal_of refusal) e.0 e.1
      edit_stops A B stop.NoMemory e = tt

  -- ---- the three ways of a step

  module _ (zero_cell : C) (put : List C) (state : State C) where
    -- A command that has a head begins a part.
    pub head_step : (c : meant.Command) (head : Head) → head_of c ≡ Some head → (step zero_cell put state c ≡ step_head state head) × (done_by c ≡ done.Began)
    unfolding step
    head_step (meant.Subvol uuid ctransid path) head e = (ap (λ o. elim o [ Some h ↦ step_head state h | None ↦ step_edit zero_cell put state (meant.Subvol uuid ctransid path) ]) e, refl)
    head_step (meant.Snapshot uuid ctransid path clone_uuid clone_ctransid) head e = (ap (λ o. elim o [ Some h ↦ step_head state h | None ↦ step_edit zero_cell put state (meant.Snapshot uuid ctransid path clone_uuid clone_ctransid) ]) e, refl)
    head_step c head e = cc

    -- A command that has none, and is not END, edits one.
    pub edit_step : (c : code.Command) → head_of (meaning_of c) ≡ None → (c ≡ made.End → ⊥) → (step zero_cell put state (meaning_of c) ≡ step_edit zero_cell put state (meaning_of c)) × (done_by (meaning_of c) ≡ done.Edited)
    unfolding step
    edit_step (made.Subvol uuid ctransid path) e n = cc
    edit_step (made.Snapshot uuid ctransid path clone_uuid clone_ctransid) e n = cc
    edit_step made.End e n = absurd (n refl)
    edit_step c e n = (refl, refl)
