-- The store that is left where receiving ends is one that it passes through; where there was room,
-- it is what receiving leaves.
use Rattle.std.specs.Prelude.{◌≡◌, ℕ, ◌+◌, List, [], ◌∷◌, length, Option, None, Some, is_some, if◌then◌else◌}
use Rattle.std.proofs.Common.{refl, sym, ap, subst, ◌∙◌}
use Rattle.send_model.specs.Refusal.{Refusal}
use Rattle.send_model.specs.Spelling.{canonical}
use Rattle.send_model.specs.Reading.{Item}
use Rattle.send_model.specs.Store.{Head, Store, State, After, head_of, completed}
use Rattle.send_model.specs.Receive.{run_by, then_run, verdict_of, byte_cells, start_of}
use Rattle.send_model.specs.Guards.{Watched, guarded, looked, watched_step, receive_watched}
use Rattle.send_model.specs.Due.{RefusedAt, stop_due}
use Rattle.store_model.specs.NamedFiles.{read_of}
use Rattle.store_model.specs.States.{IsBetween, complete_behind, received}
use Rattle.store_model.specs.Dues.{Due, Ends, LogFull, first_full, pieces_from, end_behind, item_pieces, place_after, left_full, left_from, receive_from, or_due, receive_due, receive_left}
use Rattle.store_model.specs.Requests.{LeftIsPassed, LeftIsState, LeftIsReceived}
use Rattle.send_model.proofs.Sorts.{same_inside}
use Rattle.send_model.proofs.Guarding.{after_looks, looks_are}
use Rattle.store_model.proofs.WrittenGroups.{does, run_from, head_fact}
use Rattle.store_model.proofs.StoreAnswers.{full_is}
use Rattle.store_model.proofs.PassedStates.{Goes, IsOn, goes_twice, between_goes, own_between, IsPassed, on_way, completed_on, completes, step_on, run_on, start_closed, more_states}
use Rattle.store_model.proofs.ReadFronts.{limited_is_front}

module _ (limit : ℕ) (start : Store ℕ) where
  -- where there is no room for an item that no guard refuses
  full_passed : (place : ℕ) (w : Watched (State ℕ)) (item : Item) (end : Store ℕ) → IsOn start w.state.store w.state.part → Goes start (does w.state item).state.store end
      → IsPassed start end (left_full limit place item w.state (does w.state item).state)
  full_passed place w item end on goes = one (head_of item.command) refl (first_full limit (pieces_from place (9 ∷ (1 + length (canonical 1 item.command)) ∷ [])))
    where
      after : Store ℕ
      after = (does w.state item).state.store

      whole : Store ℕ
      whole = completed w.state

      own : IsPassed start end after
      own =
          let next = step_on 0 (byte_cells item) start w.state.store w.state.part item.command on in
          on_way start after (does w.state item).state.part end next.0 goes

      one : (o : Option Head) → head_of item.command ≡ o → (full : Option Due) → IsPassed start end (if is_some o then (elim full as (λ x. Store ℕ) [ Some due ↦ whole | None ↦ after ]) else after)
      one None is full = own
      one (Some head) is None = own
      one (Some head) is (Some due) =
          let done = completed_on start w.state.store w.state.part on in
          between_goes (complete_behind start whole) start whole end whole
          (goes_twice start whole after end (completes 0 (byte_cells item) start w.state.store w.state.part item.command (head_fact item.command head is) on) goes)
          (own_between start whole None done.0)

  left_passed : (place : ℕ) (w : Watched (State ℕ)) (items : List Item) → IsOn start w.state.store w.state.part → IsPassed start (run_from w items).state.state.store (left_from limit place w items)
  unfolding left_from run_by
  left_passed place w [] on = own_between start w.state.store w.state.part on
  left_passed place w (item ∷ items) on =
      let at : ℕ = place_after w.state.part item.command place in
      let pieces : List (ℕ × ℕ) = item_pieces at item in
      subst (λ (a : After (Watched (State ℕ))). IsPassed start (then_run item a (run_from a.state items)).state.state.store (left_after a)) (sym (looks_are (State ℕ) does w item))
      (by_guard (guarded w.guards item.command) (λ next more. left_passed (end_behind at pieces) next items more))
    where
      at : ℕ
      at = place_after w.state.part item.command place

      left_after : After (Watched (State ℕ)) → Store ℕ
      left_after a = elim a.refusal as (λ x. Store ℕ) [
        | Some refusal ↦ a.state.state.store
        | None ↦ elim (first_full limit (item_pieces at item)) as (λ x. Store ℕ) [
          | Some full ↦ left_full limit at item w.state a.state.state
          | None ↦ left_from limit (end_behind at (item_pieces at item)) a.state items
        ]
      ]

      taken : (o : Option Refusal) → (does w.state item).refusal ≡ o → (full : Option Due) → (rest : Store ℕ)
          → IsPassed start (run_from (record { guards = looked w.guards item.command; state = (does w.state item).state }) items).state.state.store rest
          → IsPassed start (then_run item (record { state = record { guards = looked w.guards item.command; state = (does w.state item).state }; refusal = o }) (run_from (record { guards = looked w.guards item.command; state = (does w.state item).state }) items)).state.state.store
          (elim o as (λ x. Store ℕ) [
            | Some refusal ↦ (does w.state item).state.store
            | None ↦ elim full as (λ x. Store ℕ) [ Some due ↦ left_full limit at item w.state (does w.state item).state | None ↦ rest ]
          ])
      taken (Some refusal) e full rest more =
          let next = step_on 0 (byte_cells item) start w.state.store w.state.part item.command on in
          own_between start (does w.state item).state.store (does w.state item).state.part next.0
      taken None e (Some due) rest more =
          let next = step_on 0 (byte_cells item) start w.state.store w.state.part item.command on in
          let now : Watched (State ℕ) = record { guards = looked w.guards item.command; state = (does w.state item).state } in
          full_passed at w item (run_from now items).state.state.store on (run_on 0 byte_cells start now items next.0).1
      taken None e None rest more = more

      by_guard : (o : Option Refusal) → ((next : Watched (State ℕ)) → IsOn start next.state.store next.state.part → IsPassed start (run_from next items).state.state.store (left_from limit (end_behind at (item_pieces at item)) next items))
          → IsPassed start (then_run item (after_looks (State ℕ) does w item o) (run_from (after_looks (State ℕ) does w item o).state items)).state.state.store (left_after (after_looks (State ℕ) does w item o))
      by_guard (Some refusal) rest = own_between start w.state.store w.state.part on
      by_guard None rest =
          let next = step_on 0 (byte_cells item) start w.state.store w.state.part item.command on in
          let now : Watched (State ℕ) = record { guards = looked w.guards item.command; state = (does w.state item).state } in
          taken (does w.state item).refusal refl (first_full limit (item_pieces at item)) (left_from limit (end_behind at (item_pieces at item)) now items) (rest now next.0)

pub left_is_passed : LeftIsPassed
unfolding receive_left received
left_is_passed limit gate store guards files =
    left_passed limit store gate (record { guards = guards; state = start_of store }) (read_of files).limited.items (start_closed 0 byte_cells store)

-- ---- where there was room

abbrev HasRoom : ℕ → Option Due → Type 0
HasRoom limit ended = (end wanted : ℕ) → ended ≡ Some (LogFull end wanted limit) → ⊥

left_received : (limit place : ℕ) (w : Watched (State ℕ)) (items : List Item) → HasRoom limit (receive_from limit place w items) → left_from limit place w items ≡ (run_from w items).state.state.store
unfolding left_from receive_from run_by
left_received limit place w [] room = refl
left_received limit place w (item ∷ items) room =
    let after : After (Watched (State ℕ)) = watched_step does w item in
    let at : ℕ = place_after w.state.part item.command place in
    let pieces : List (ℕ × ℕ) = item_pieces at item in
    one after.refusal after.state (first_full limit pieces) refl room (λ more. left_received limit (end_behind at pieces) after.state items more)
  where
    at : ℕ
    at = place_after w.state.part item.command place

    one : (o : Option Refusal) (next : Watched (State ℕ)) (full : Option Due) → first_full limit (item_pieces (place_after w.state.part item.command place) item) ≡ full
        → HasRoom limit (elim o as (λ x. Option Due) [
          | Some refusal ↦ Some (Ends (RefusedAt (verdict_of item refusal)))
          | None ↦ elim full as (λ x. Option Due) [ Some due ↦ Some due | None ↦ receive_from limit (end_behind (place_after w.state.part item.command place) (item_pieces (place_after w.state.part item.command place) item)) next items ]
        ])
        → (HasRoom limit (receive_from limit (end_behind (place_after w.state.part item.command place) (item_pieces (place_after w.state.part item.command place) item)) next items)
        → left_from limit (end_behind (place_after w.state.part item.command place) (item_pieces (place_after w.state.part item.command place) item)) next items ≡ (run_from next items).state.state.store)
        → (elim o as (λ x. Store ℕ) [
          | Some refusal ↦ next.state.store
          | None ↦ elim full as (λ x. Store ℕ) [
            | Some due ↦ left_full limit (place_after w.state.part item.command place) item w.state next.state
            | None ↦ left_from limit (end_behind (place_after w.state.part item.command place) (item_pieces (place_after w.state.part item.command place) item)) next items
          ]
        ]) ≡ (then_run item (record { state = next; refusal = o }) (run_from next items)).state.state.store
    one (Some refusal) next full e h more = refl
    one None next (Some due) e h more = let f = full_is limit (item_pieces (place_after w.state.part item.command place) item) due e in absurd (h f.0 f.1 (ap Some f.2))
    one None next None e h more = more h

pub left_is_received : LeftIsReceived
unfolding receive_left received receive_due
left_is_received limit gate store guards files due is =
    let w : Watched (State ℕ) = record { guards = guards; state = start_of store } in
    left_received limit gate w (read_of files).limited.items (one (receive_from limit gate w (read_of files).limited.items) is)
  where
    one : (ended : Option Due) → or_due ended (Ends (stop_due (read_of files).limited.stop)) ≡ Ends due → HasRoom limit ended
    one None q end wanted e = cc
    one (Some d) q end wanted e = not_both (sym (same_inside e) ∙ q)
      where
        not_both : LogFull end wanted limit ≡ Ends due → ⊥
        not_both p = cc

-- What is read up to the limit of lengths stands in front of all, so receiving all passes through
-- what it leaves.
pub left_is_state : LeftIsState
unfolding receive_watched received
left_is_state limit gate store guards files are =
    let left : Store ℕ = receive_left limit gate store guards files in
    let front = limited_is_front files are in
    let read : List Item = (read_of files).limited.items in
    subst (λ (l : List Item). IsBetween (complete_behind store left) store (received 0 byte_cells store guards l).state.state.store left) (sym front.1)
    (more_states 0 byte_cells (complete_behind store left) store guards read front.0 left (left_is_passed limit gate store guards files))
