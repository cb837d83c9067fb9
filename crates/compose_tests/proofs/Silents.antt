-- Cells of the two bytes that a base holds which does not tell them.
use Rattle.std.specs.Prelude.{◌≡◌, ℕ, zero, suc, ◌+◌, ◌<◌, ◌≤◌, [], ◌∷◌, map, length, Option, None}
use Rattle.std.specs.List.{AllByRecursion, range_with_len}
use Rattle.std.proofs.Common.{refl, ap, subst, arith}
use Rattle.send_model.specs.Command.{Command}
use Rattle.send_model.specs.Cells.{AllCells}
use Rattle.send_model.specs.Clone.{cells_of}
use Rattle.send_model.specs.Store as meant
use Rattle.send_model.specs.Store.{State, find, step}
use Rattle.send_model.proofs.Stores.{same_key_same}
use Rattle.extent_map.specs.Pieces.{run_cells}
use Rattle.subvol_catalog.specs.declared.key.Key.{Key}
use Rattle.subvol_catalog.specs.Entries.{key_of}
use Rattle.provenance.specs.declared.trace.Trace.{Trace}
use Rattle.provenance.specs.declared.trace.Trace.TheVariants.{Outside}
use Rattle.provenance.specs.Traces.{advanced_by}
use Rattle.clone_resolve.specs.Steps.{data_len, cells_put}
use Rattle.clone_resolve.proofs.TakenStates.{cells_after_step}
use Rattle.clone_pieces.specs.Origins.{outside_cells, IsHad}
use Rattle.compose_tests.specs.Silent.{held_store}

held_is : (k : meant.Key) → outside_cells (held_store k) k 257 ≡ 0 ∷ 0 ∷ []
unfolding find cells_of
held_is k = rw (same_key_same k, outside_cells) refl

all_below : {X : Type 0} (P : X → Type 0) (f : ℕ → X) (start n : ℕ) → ((k : ℕ) → k < start + n → P (f k)) → AllByRecursion P (map f (range_with_len start n))
all_below P f start zero all = tt
all_below P f start (suc n) all = (all start (omega arith), all_below P f (start + 1) n (λ k less. all k (omega (arith, less))))

-- What a command puts of them is had.
put_had : (key : Key) (c : Command) → data_len c ≤ 2 → AllByRecursion (IsHad 0 (held_store (key_of key))) (cells_put advanced_by (Outside key 257 0) c)
unfolding run_cells
put_had key c short = all_below (IsHad 0 (held_store (key_of key))) _ 0 (data_len c) (λ k less. let long = ap length (held_is (key_of key)) in omega (arith, long, less, short))

-- So are all cells after a command that is taken.
pub led_had : (key : Key) (before after : State (Option Trace)) (c : Command) → data_len c ≤ 2 → AllCells (IsHad 0 (held_store (key_of key))) before
    → step None (cells_put advanced_by (Outside key 257 0) c) before c ≡ record { state = after; refusal = None } → AllCells (IsHad 0 (held_store (key_of key))) after
led_had key before after c short had led =
    subst (AllCells (IsHad 0 (held_store (key_of key)))) (ap (λ s. s.state) led)
    (cells_after_step (IsHad 0 (held_store (key_of key))) None (cells_put advanced_by (Outside key 257 0) c) before c tt (put_had key c short) had (ap (λ s. s.refusal) led))
