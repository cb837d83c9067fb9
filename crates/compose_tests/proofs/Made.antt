-- Contents that are made of zero bytes and of bytes of the first input file.
use Rattle.std.specs.Prelude.{◌≡◌, ℕ, zero, suc, ◌+◌, ◌-◌, ◌<◌, List, [], ◌∷◌, ◌++◌, map, length, take, drop, Option, Some, None}
use Rattle.std.specs.List.{AllByRecursion, range_with_len}
use Rattle.std.proofs.Common.{sym, subst}
use lib.ListN.{replicate}
use Rattle.send_model.proofs.ElementLaws.{all_both, all_take, all_drop}
use Rattle.extent_map.specs.Cells.{resize_cells, put_cells, cells_between}
use Rattle.extent_map.specs.Pieces.{run_cells, zero_cells}
use Rattle.provenance.specs.declared.trace.Trace.{Trace}
use Rattle.provenance.specs.declared.trace.Trace.TheVariants.{Fresh}
use Rattle.provenance.specs.Traces.{advanced_by}
use Rattle.clone_pieces.specs.Origins.{IsHad}

module _ {C : Type 0} (P : C → Type 0) (empty : C) (none : P empty) where
  all_empty : (n : ℕ) → AllByRecursion P (replicate n empty)
  all_empty zero = tt
  all_empty (suc n) = (none, all_empty n)

  all_put : (at : ℕ) (new cells : List C) → AllByRecursion P new → AllByRecursion P cells → AllByRecursion P (put_cells empty at new cells)
  unfolding put_cells resize_cells
  all_put at [] cells n c = c
  all_put at (x ∷ xs) cells n c =
      all_both P ((take at cells ++ replicate (at - length cells) empty) ++ (x ∷ xs)) (drop (at + length (x ∷ xs)) cells)
      (all_both P (take at cells ++ replicate (at - length cells) empty) (x ∷ xs) (all_both P (take at cells) (replicate (at - length cells) empty) (all_take P at cells c) (all_empty (at - length cells))) n)
      (all_drop P (at + length (x ∷ xs)) cells c)

all_from : {C : Type 0} (P : C → Type 0) (f : ℕ → C) → ((k : ℕ) → P (f k)) → (at n : ℕ) → AllByRecursion P (map f (range_with_len at n))
all_from P f each at zero = tt
all_from P f each at (suc n) = (each at, all_from P f each (at + 1) n)

pub made_had : (mid new : List (Option Trace)) (zeros file place at len : ℕ) → mid ≡ put_cells None 0 (zero_cells zeros) [] → new ≡ put_cells None at (run_cells advanced_by (Fresh file place) len) mid
    → (from size count : ℕ) → file < count → AllByRecursion (IsHad count []) (cells_between from size new)
unfolding cells_between zero_cells run_cells
made_had mid new zeros file place at len first second from size count less =
    let P : Option Trace → Type 0 = IsHad count [] in
    let M : AllByRecursion P mid = subst (λ l. AllByRecursion P l) (sym first) (all_put P None tt 0 (replicate zeros None) [] (all_empty P None tt zeros) tt) in
    let N : AllByRecursion P new = subst (λ l. AllByRecursion P l) (sym second) (all_put P None tt at (map (λ k. Some (advanced_by (Fresh file place) k)) (range_with_len 0 len)) mid
    (all_from P (λ k. Some (advanced_by (Fresh file place) k)) (λ k. less) 0 len) M) in
    all_take P size (drop from new) (all_drop P from new N)
