use Rattle.std.proofs.Common.{◌≡◌, ℕ, ◌+◌, List, Option, Some, [], ◌∷◌, ◌++◌, refl, sym, ◌∙◌, ap, zero-add}
use Rattle.std.proofs.lemmas.List.FromFn.{map-range_with_len_more}
use Rattle.extent_map.specs.Pieces.{run_cells}
use Rattle.tree_tests.proofs.plain.run_of.Goals as goal

none : {O : Type 0} (advanced : O → ℕ → O) (origin : O) → run_cells advanced origin 0 ≡ []
unfolding run_cells
none advanced origin = refl

one_more : {O : Type 0} (advanced : O → ℕ → O) (origin : O) (k : ℕ) → run_cells advanced origin (k + 1) ≡ run_cells advanced origin k ++ Some (advanced origin k) ∷ []
unfolding run_cells
one_more advanced origin k = map-range_with_len_more (λ n. Some (advanced origin n)) 0 k k (zero-add k)

pub loop-k-init : goal.loop-k-init
loop-k-init g c = c.new-cells.ensures.items ∙ sym (none g.O.Origin.advanced c.args.origin)

pub loop-k-preserved : goal.loop-k-preserved
loop-k-preserved g c =
    c.in_ok-push.ensures.items
    ∙ ap (λ (l : List (Option g.row.O.Denot)). l ++ Some c.advance.result ∷ []) c.loop-k.invariant
    ∙ ap (λ (o : g.row.O.Denot). run_cells g.O.Origin.advanced c.args.origin c.loop-k.k ++ Some o ∷ []) c.advance.ensures
    ∙ sym (one_more g.O.Origin.advanced c.args.origin c.loop-k.k)
