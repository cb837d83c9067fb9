-- Steps do not look at cells, so a follower sees each command do what it does over cells that carry
-- nothing; and guards that are asked before the step.
use Rattle.std.specs.Prelude.{◌≡◌, ℕ, ◌<◌, List, [], ◌∷◌, map, length, Option, None, Some, Result, Ok, Err, slice_index_or}
use Rattle.std.proofs.Common.{refl, sym, ap, subst, ◌∙◌, arith}
use Rattle.std.proofs.lemmas.List.{get_or-map}
use Rattle.std.proofs.lemmas.List.FromFn.{length-map-range_with_len}
use Rattle.send_model.specs.Refusal.{Refusal, Guarded}
use Rattle.send_model.specs.Command.{Command}
use Rattle.send_model.specs.Reading.{Item}
use Rattle.send_model.specs.Receive.{bytes_of}
use Rattle.send_model.specs.Store.{State, After, Stepped, step}
use Rattle.send_model.specs.Guards.{Guard, NoDevices, new_guard, guarded, looked, watched}
use Rattle.send_model.specs.Cells.{recelled_state, recelled_step}
use Rattle.send_model.proofs.CellClones.{all_steps-cells}
use Rattle.sx_base.specs.declared.stop.Stop.{Stop}
use Rattle.sx_base.specs.declared.stop.Stop.TheVariants as why
use Rattle.extent_map.specs.Pieces.{run_cells}
use Rattle.clone_resolve.specs.Steps.{data_len, cells_put, Answers}
use Rattle.guard_rules.specs.Meaning.{IsRefusedAt, used_at}
use Rattle.auditor.specs.Following.{Followed, blank_step, beside, follow}

-- ---- without cells

abbrev Blank : Type 0
Blank = Unit {0}

-- As many cells that carry nothing.
as_many : {A B : Type 0} (xs : List A) (ys : List B) → length xs ≡ length ys → ◌≡◌ {A = List Blank} (map (λ _. tt) xs) (map (λ _. tt) ys)
as_many [] [] e = refl
as_many [] (y ∷ ys) e = cc
as_many (x ∷ xs) [] e = cc
as_many (x ∷ xs) (y ∷ ys) e = ap (λ (l : List Blank). tt ∷ l) (as_many xs ys (omega (arith, e)))

blank_cells : {O : Type 0} (advanced : O → ℕ → O) (origin : O) (c : Command) → ◌≡◌ {A = List Blank} (map (λ _. tt) (cells_put advanced origin c)) (map (λ _. tt) (bytes_of c))
unfolding run_cells
blank_cells advanced origin c = as_many (cells_put advanced origin c) (bytes_of c) (length-map-range_with_len (λ k. Some (advanced origin k)) 0 (data_len c))

-- What a step says without cells.
pub answers_blank : {O A : Type 0} (advanced : O → ℕ → O) (origin : O) (c : Command) (old new : State (Option O)) (result : Result A Stop)
    → Answers result new (step None (cells_put advanced origin c) old c) → Answers result (recelled_state (λ _. tt) new) (blank_step (recelled_state (λ _. tt) old) c)
answers_blank {O} {A} advanced origin c old new result said = by_result result said
  where
    with_cells : Stepped (Option O)
    with_cells = step None (cells_put advanced origin c) old c

    same : blank_step (recelled_state (λ _. tt) old) c ≡ recelled_step (λ _. tt) with_cells
    same = ap (λ (put : List Blank). step tt put (recelled_state (λ _. tt) old) c) (sym (blank_cells advanced origin c)) ∙ all_steps-cells (λ _. tt) c None (cells_put advanced origin c) old

    by_result : (r : Result A Stop) → Answers r new with_cells → Answers r (recelled_state (λ _. tt) new) (blank_step (recelled_state (λ _. tt) old) c)
    by_result (Ok x) e = same ∙ ap (recelled_step (λ _. tt)) e
    by_result (Err (why.Refused refusal)) e = same ∙ ap (recelled_step (λ _. tt)) e
    by_result (Err why.NoMemory) e = tt

-- ---- under guards

-- What an item does, by what the guards say.
after_guards : (now : Followed) (item : Item) → Option Refusal → After Followed
after_guards now item (Some refusal) = record { state = beside (looked now.guards item.command) now.state; refusal = Some refusal }
after_guards now item None = watched (looked now.guards item.command) (blank_step now.state item.command)

follow_is : (now : Followed) (item : Item) (o : Option Refusal) → guarded now.guards item.command ≡ o → follow now item ≡ after_guards now item o
unfolding after_guards
follow_is now item o e = subst (λ (x : Option Refusal). follow now item ≡ after_guards now item x) e (one (guarded now.guards item.command))
  where
    one : (x : Option Refusal) → (elim x as (λ y. After Followed) [
      | Some refusal ↦ record { state = record { guards = looked now.guards item.command; state = now.state }; refusal = Some refusal }
      | None ↦ watched (looked now.guards item.command) (blank_step now.state item.command)
    ]) ≡ after_guards now item x
    one None = refl
    one (Some r) = refl

-- A guard refuses the command.
pub guard_refuses_item : {B : Type 0} (kept : B → Guard) (before : List Guard) (bs : List B) (place : ℕ) (guard : B) (used : ℕ) (state : State Blank) (item : Item)
    → IsRefusedAt before (map kept bs) item.command (Some place) → place < length bs → used ≡ (kept (slice_index_or bs place guard)).used
    → (follow (beside before state) item).refusal ≡ Some (Guarded place used)
unfolding after_guards
guard_refuses_item kept before bs place guard used state item refused within counted =
    let found : slice_index_or (map kept bs) place (new_guard NoDevices) ≡ kept (slice_index_or bs place guard) = get_or-map kept bs place guard (new_guard NoDevices) within in
    let count : used_at (map kept bs) place ≡ used = ap (λ (g : Guard). g.used) found ∙ sym counted in
    ap (λ (a : After Followed). a.refusal) (follow_is (beside before state) item _ refused) ∙ ap (λ (n : ℕ). Some (Guarded place n)) count
