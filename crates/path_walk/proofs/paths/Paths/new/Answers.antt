use Rattle.std.proofs.Common.{sym, subst, List, [], ℕ}
use Rattle.send_model.specs.Map.{Map}
use Rattle.path_walk.specs.Ahead.{Grows}
use Rattle.path_walk.specs.Passing.{IsPassed}
use Rattle.path_walk.proofs.Passes.{root_walks, begins}
use Rattle.path_walk.proofs.paths.Paths.new.Goals as goal

pub add_entries-requires-clause-leads : goal.add_entries-requires-clause-leads
add_entries-requires-clause-leads g c = root_walks c.args.tree.now

pub invariant_of-result : goal.invariant_of-result
invariant_of-result g c =
    subst (λ (at : List ℕ). IsPassed c.args.tree.now at c.add_entries.new.ahead c.new-2.result) (sym c.new.ensures.empty)
    (subst (λ (m : Map ℕ (List ℕ)). IsPassed c.args.tree.now [] c.add_entries.new.ahead m) (sym c.new-2.ensures)
    (begins c.args.tree.now c.requires.lawful c.add_entries.new.ahead
    (subst (λ (m : Map (List ℕ) ℕ). Grows c.args.tree.now [] 256 m c.add_entries.new.ahead) c.new-ahead.ensures c.in_ok-add_entries.ensures.grows) c.in_ok-add_entries.ensures.entries))
