-- What one item makes of all that is due from a spot on, where it is taken, refused, or has no
-- room; and what it prints.
use Rattle.std.specs.Prelude.{◌≡◌, ℕ, List, [], ◌∷◌, ◌++◌, Option, None, Some}
use Rattle.std.proofs.Common.{refl, sym, ap, ◌∙◌, append_assoc, append-nil}
use Rattle.send_model.specs.Refusal as meant
use Rattle.send_model.specs.Reading.{Item}
use Rattle.send_model.specs.Store.{Store, State, After, begun}
use Rattle.send_model.specs.Receive.{Ran, run_by, then_run, verdict_of}
use Rattle.send_model.specs.Guards.{Watched}
use Rattle.send_model.specs.Due.{RefusedAt}
use Rattle.store_model.specs.Stored.{Group}
use Rattle.store_model.specs.Dues.{Due, Ends, first_full, item_pieces, place_after, end_behind, left_full, receive_from, left_from}
use Rattle.store_model.specs.Written.{Begun, closed_by, begun_by, begun_after, groups_from}
use Rattle.receiver.specs.Steps.{begun_if}
use Rattle.receiver.specs.Running.{byte_step}

module _ (limit place : ℕ) (w : Watched (State ℕ)) (item : Item) where
  abbrev at_place : ℕ
  at_place = place_after w.state.part item.command place

  abbrev after_item : After (Watched (State ℕ))
  after_item = byte_step w item

  -- ---- the answer that is due

  due_by : List Item → Option meant.Refusal → Option Due → Option Due
  due_by rest (Some refusal) full = Some (Ends (RefusedAt (verdict_of item refusal)))
  due_by rest None (Some full) = Some full
  due_by rest None None = receive_from limit (end_behind (place_after w.state.part item.command place) (item_pieces (place_after w.state.part item.command place) item)) (byte_step w item).state rest

  due_is : (rest : List Item) → receive_from limit place w (item ∷ rest) ≡ due_by rest (byte_step w item).refusal (first_full limit (item_pieces (place_after w.state.part item.command place) item))
  unfolding receive_from due_by
  due_is rest = one (byte_step w item).refusal (first_full limit (item_pieces (place_after w.state.part item.command place) item))
    where
      one : (o : Option meant.Refusal) (full : Option Due) → (elim o as (λ x. Option Due) [
        | Some refusal ↦ Some (Ends (RefusedAt (verdict_of item refusal)))
        | None ↦ elim full as (λ x. Option Due) [
          | Some due ↦ Some due
          | None ↦ receive_from limit (end_behind (place_after w.state.part item.command place) (item_pieces (place_after w.state.part item.command place) item)) (byte_step w item).state rest
        ]
      ]) ≡ due_by rest o full
      one (Some refusal) full = refl
      one None (Some due) = refl
      one None None = refl

  pub due_taken : (rest : List Item) → (byte_step w item).refusal ≡ None → first_full limit (item_pieces (place_after w.state.part item.command place) item) ≡ None
      → receive_from limit place w (item ∷ rest) ≡ receive_from limit (end_behind (place_after w.state.part item.command place) (item_pieces (place_after w.state.part item.command place) item)) (byte_step w item).state rest
  unfolding due_by
  due_taken rest taken room = due_is rest ∙ (λ i. due_by rest (taken i) (room i))

  pub due_refused : (rest : List Item) (refusal : meant.Refusal) → (byte_step w item).refusal ≡ Some refusal → receive_from limit place w (item ∷ rest) ≡ Some (Ends (RefusedAt (verdict_of item refusal)))
  unfolding due_by
  due_refused rest refusal taken = due_is rest ∙ ap (λ (o : Option meant.Refusal). due_by rest o (first_full limit (item_pieces (place_after w.state.part item.command place) item))) taken

  pub due_full : (rest : List Item) (full : Due) → (byte_step w item).refusal ≡ None → first_full limit (item_pieces (place_after w.state.part item.command place) item) ≡ Some full → receive_from limit place w (item ∷ rest) ≡ Some full
  unfolding due_by
  due_full rest full taken room = due_is rest ∙ (λ i. due_by rest (taken i) (room i))

  -- ---- the store that is left

  left_by : List Item → Option meant.Refusal → Option Due → Store ℕ
  left_by rest (Some refusal) full = (byte_step w item).state.state.store
  left_by rest None (Some full) = left_full limit (place_after w.state.part item.command place) item w.state (byte_step w item).state.state
  left_by rest None None = left_from limit (end_behind (place_after w.state.part item.command place) (item_pieces (place_after w.state.part item.command place) item)) (byte_step w item).state rest

  left_is : (rest : List Item) → left_from limit place w (item ∷ rest) ≡ left_by rest (byte_step w item).refusal (first_full limit (item_pieces (place_after w.state.part item.command place) item))
  unfolding left_from left_by
  left_is rest = one (byte_step w item).refusal (first_full limit (item_pieces (place_after w.state.part item.command place) item))
    where
      one : (o : Option meant.Refusal) (full : Option Due) → (elim o as (λ x. Store ℕ) [
        | Some refusal ↦ (byte_step w item).state.state.store
        | None ↦ elim full as (λ x. Store ℕ) [
          | Some due ↦ left_full limit (place_after w.state.part item.command place) item w.state (byte_step w item).state.state
          | None ↦ left_from limit (end_behind (place_after w.state.part item.command place) (item_pieces (place_after w.state.part item.command place) item)) (byte_step w item).state rest
        ]
      ]) ≡ left_by rest o full
      one (Some refusal) full = refl
      one None (Some due) = refl
      one None None = refl

  pub left_taken : (rest : List Item) → (byte_step w item).refusal ≡ None → first_full limit (item_pieces (place_after w.state.part item.command place) item) ≡ None
      → left_from limit place w (item ∷ rest) ≡ left_from limit (end_behind (place_after w.state.part item.command place) (item_pieces (place_after w.state.part item.command place) item)) (byte_step w item).state rest
  unfolding left_by
  left_taken rest taken room = left_is rest ∙ (λ i. left_by rest (taken i) (room i))

  pub left_refused : (rest : List Item) (refusal : meant.Refusal) → (byte_step w item).refusal ≡ Some refusal → left_from limit place w (item ∷ rest) ≡ (byte_step w item).state.state.store
  unfolding left_by
  left_refused rest refusal taken = left_is rest ∙ ap (λ (o : Option meant.Refusal). left_by rest o (first_full limit (item_pieces (place_after w.state.part item.command place) item))) taken

  pub left_where_full : (rest : List Item) (full : Due) → (byte_step w item).refusal ≡ None → first_full limit (item_pieces (place_after w.state.part item.command place) item) ≡ Some full
      → left_from limit place w (item ∷ rest) ≡ left_full limit (place_after w.state.part item.command place) item w.state (byte_step w item).state.state
  unfolding left_by
  left_where_full rest full taken room = left_is rest ∙ (λ i. left_by rest (taken i) (room i))

module _ (w : Watched (State ℕ)) (item : Item) where
  -- ---- where it leads

  run_then : (rest : List Item) → run_by byte_step w (item ∷ rest) ≡ then_run item (byte_step w item) (run_by byte_step (byte_step w item).state rest)
  unfolding run_by
  run_then rest = refl

  pub run_taken : (rest : List Item) → (byte_step w item).refusal ≡ None → run_by byte_step w (item ∷ rest) ≡ run_by byte_step (byte_step w item).state rest
  run_taken rest taken = run_then rest ∙ one (byte_step w item).state (byte_step w item).refusal taken (run_by byte_step (byte_step w item).state rest)
    where
      one : (s : Watched (State ℕ)) (o : Option meant.Refusal) → o ≡ None → (r : Ran (Watched (State ℕ))) → then_run item (record { state = s; refusal = o }) r ≡ r
      one s None e r = refl
      one s (Some refusal) e r = cc

  -- ---- the groups

  pub groups_taken : (begun : Option Begun) (rest : List Item) → (byte_step w item).refusal ≡ None
      → groups_from w begun (item ∷ rest) ≡ (closed_by w.guards item.command begun ++ begun_by item.command) ++ groups_from (byte_step w item).state (begun_after begun item) rest
  unfolding groups_from
  groups_taken begun rest taken =
      ap (λ (o : Option meant.Refusal). closed_by w.guards item.command begun ++ (elim o as (λ x. List Group) [
        | Some refusal ↦ []
        | None ↦ begun_by item.command ++ groups_from (byte_step w item).state (begun_after begun item) rest
      ])) taken
      ∙ sym (append_assoc (closed_by w.guards item.command begun) (begun_by item.command) (groups_from (byte_step w item).state (begun_after begun item) rest))

  -- Whatever becomes of it, the groups that it brings stand first.
  pub groups_first : (begun : Option Begun) (rest : List Item) → (more : List Group) × (groups_from w begun (item ∷ rest) ≡ (closed_by w.guards item.command begun ++ begun_if (byte_step w item) item.command) ++ more)
  unfolding groups_from
  groups_first begun rest = one (byte_step w item).refusal
    where
      closes : List Group
      closes = closed_by w.guards item.command begun

      behind : List Group
      behind = groups_from (byte_step w item).state (begun_after begun item) rest

      one : (o : Option meant.Refusal) → (more : List Group) × (closed_by w.guards item.command begun ++ (elim o as (λ x. List Group) [
        | Some refusal ↦ []
        | None ↦ begun_by item.command ++ groups_from (byte_step w item).state (begun_after begun item) rest
      ]) ≡ (closed_by w.guards item.command begun ++ (elim o as (λ x. List Group) [ Some refusal ↦ [] | None ↦ begun_by item.command ])) ++ more)
      one None = (groups_from (byte_step w item).state (begun_after begun item) rest, sym (append_assoc (closed_by w.guards item.command begun) (begun_by item.command) (groups_from (byte_step w item).state (begun_after begun item) rest)))
      one (Some refusal) = ([], sym (append-nil (closed_by w.guards item.command begun ++ [])))
