-- One item of composing over any base, from its step over cells that are an origin or zero, and
-- from what follows the step.
use Rattle.std.specs.Prelude.{◌≡◌, ◌<◌, ℕ, ◌+◌, ◌||◌, List, map, length, take, drop, get_or, Option, None, Some, Result, Ok, Err}
use Rattle.std.specs.List.{range_with_len}
use Rattle.std.proofs.Common.{sym, ap, ap₂, subst, ◌∙◌, arith}
use Rattle.std.proofs.lemmas.List.{length-map, get_or-map, get_or-drop, get_or-take, ext_get_or}
use Rattle.std.proofs.lemmas.List.FromFn.{length-map-range_with_len, get_or-map-range_with_len}
use Rattle.send_model.specs.Receive.{bytes_of}
use Rattle.extent_map.specs.Pieces.{run_cells}
use Rattle.send_model.specs.Reading.{Item}
use Rattle.send_model.specs.Refusal.{Refusal}
use Rattle.send_model.specs.Store.{State, Stepped, head_of, step}
use Rattle.send_model.specs.Order.{breaks_order}
use Rattle.send_model.specs.Provenance.{Place, Traced, fresh, fresh_cells, traced_step}
use Rattle.send_model.specs.Cells.{recelled_step}
use Rattle.send_model.proofs.CellClones.{all_steps-cells}
use Rattle.sx_base.specs.declared.stop.Stop.{Stop}
use Rattle.sx_base.specs.declared.stop.Stop.TheVariants as stop
use Rattle.clone_resolve.specs.Steps.{cells_put, Answers}
use Rattle.composer.specs.OverBase.{Plan, Composing, Refuses, after_item, is_unforeseen, then_kept, advance}
use Rattle.clone_pieces.specs.Seen.{seen, seen_state}

-- The bytes that an item writes are what the cells of its origin are seen as.
abbrev pub IsSeenAs : {O : Type 0} → (O → ℕ) → (O → Option Place) → (O → ℕ → O) → O → Item → Type 0
IsSeenAs byte place advanced origin item = ◌≡◌ {A = List Traced} (map (seen byte place) (cells_put advanced origin item.command)) (fresh_cells item)

-- Then the traced step of what is seen is what is seen of the step.
pub step_seen : {O : Type 0} (byte : O → ℕ) (place : O → Option Place) (advanced : O → ℕ → O) (origin : O) (state : State (Option O)) (item : Item) → IsSeenAs byte place advanced origin item
    → traced_step (seen_state byte place state) item ≡ recelled_step (seen byte place) (step None (cells_put advanced origin item.command) state item.command)
step_seen {O} byte place advanced origin state item e =
    ap (λ (put : List Traced). step (fresh 0) put (seen_state byte place state) item.command) (sym e)
    ∙ all_steps-cells (seen byte place) item.command None (cells_put advanced origin item.command) state

-- So is what it answers.
pub answers_seen : {A O : Type 0} (r : Result A Stop) (byte : O → ℕ) (place : O → Option Place) (advanced : O → ℕ → O) (origin : O) (old new : State (Option O)) (item : Item) → IsSeenAs byte place advanced origin item
    → Answers r new (step None (cells_put advanced origin item.command) old item.command) → Answers r (seen_state byte place new) (traced_step (seen_state byte place old) item)
answers_seen {A} {O} r byte place advanced origin old new item e a =
    subst (λ (s : Stepped Traced). Answers r (seen_state byte place new) s) (sym (step_seen byte place advanced origin old item e)) (by_result r a)
  where
    by_result : (r : Result A Stop) → Answers r new (step None (cells_put advanced origin item.command) old item.command)
        → Answers r (seen_state byte place new) (recelled_step (seen byte place) (step None (cells_put advanced origin item.command) old item.command))
    by_result (Ok x) q = ap (recelled_step (seen byte place)) q
    by_result (Err (stop.Refused refusal)) q = ap (recelled_step (seen byte place)) q
    by_result (Err stop.NoMemory) q = tt

-- ---- what follows a step

-- A step that is taken: what follows it.
pub goes_on : (plan : Plan) (now : Composing) (state : State Traced) (item : Item) → traced_step now.state item ≡ record { state = state; refusal = None }
    → advance plan now item ≡ then_kept None (breaks_order now.previous (head_of item.command) || is_unforeseen plan.last (head_of item.command)) (record (after_item plan now item) { state = state })
unfolding advance
goes_on plan now state item e =
    ap (λ (s : Stepped Traced). then_kept s.refusal (breaks_order now.previous (head_of item.command) || is_unforeseen plan.last (head_of item.command)) (record (after_item plan now item) { state = s.state })) e

-- A step that is refused.
pub stops_there : (plan : Plan) (now : Composing) (state : State Traced) (item : Item) (refusal : Refusal) → traced_step now.state item ≡ record { state = state; refusal = Some refusal }
    → advance plan now item ≡ Err (Refuses refusal)
unfolding advance
stops_there plan now state item refusal e =
    ap (λ (s : Stepped Traced). then_kept s.refusal (breaks_order now.previous (head_of item.command) || is_unforeseen plan.last (head_of item.command)) (record (after_item plan now item) { state = s.state })) e

-- ---- data

-- A run of cells from an origin is seen as the bytes that are written, where each cell is seen as
-- the byte at its place among them.
pub put_seen : {O : Type 0} (byte : O → ℕ) (place : O → Option Place) (advanced : O → ℕ → O) (origin : O) (item : Item)
    → ((k : ℕ) → k < length (bytes_of item.command) → (byte (advanced origin k) ≡ get_or (bytes_of item.command) k 0) × (place (advanced origin k) ≡ None)) → IsSeenAs byte place advanced origin item
unfolding run_cells
put_seen {O} byte place advanced origin item at =
    let bytes : List ℕ = bytes_of item.command in
    let n : ℕ = length bytes in
    let cell : ℕ → Option O = λ k. Some (advanced origin k) in
    let cells : List (Option O) = map cell (range_with_len 0 n) in
    let count : length cells ≡ n = length-map-range_with_len cell 0 n in
    let long : length (map (seen byte place) cells) ≡ n = length-map cells (seen byte place) ∙ count in
    ext_get_or (fresh 0) (map (seen byte place) cells) (map fresh bytes) (long ∙ sym (length-map bytes fresh)) (λ i less.
    let inside : i < n = subst (λ (m : ℕ). i < m) long less in
    let a = at i inside in
    get_or-map (seen byte place) cells i None (fresh 0) (subst (λ (m : ℕ). i < m) (sym count) inside)
    ∙ ap (seen byte place) (get_or-map-range_with_len cell 0 n i i None inside (omega arith))
    ∙ ap₂ (λ (b : ℕ) (p : Option Place). record { byte = b; place = p }) a.0 a.1
    ∙ sym (get_or-map fresh bytes i 0 (fresh 0) inside))

-- The bytes that stand at a place of a file are found there, one by one.
pub data_there : (bytes written : List ℕ) (at k : ℕ) → take (length written) (drop at bytes) ≡ written → k < length written → get_or bytes (at + k) 0 ≡ get_or written k 0
data_there bytes written at k e less =
    sym (get_or-drop at bytes k 0) ∙ sym (get_or-take (length written) (drop at bytes) k 0 less) ∙ ap (λ (xs : List ℕ). get_or xs k 0) e
