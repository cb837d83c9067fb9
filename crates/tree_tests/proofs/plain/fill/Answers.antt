use Rattle.std.proofs.Common.{◌≡◌, ℕ, ◌+◌, ◌-◌, ◌≤◌, ◌++◌, [], ◌∷◌, List, Option, None, length, ◌∙◌, ap, append_assoc, arith}
use Rattle.std.proofs.lemmas.List.{replicate_more}
use lib.ListN.{replicate}
use Rattle.tree_tests.proofs.plain.fill.Goals as goal

pub loop-have-preserved : goal.loop-have-preserved
loop-have-preserved g c =
    let old = c.args.cells.now.items in
    let le : length c.args.cells.now.items ≤ c.loop-have.have = omega (arith, c.args.cells.now.ok, c.len-have.ensures, c.loop-have.auto.have) in
    let m : c.loop-have.have - length c.args.cells.now.items + 1 ≡ c.loop-have.have + 1 - length c.args.cells.now.items = omega arith in
    record {
      cells =
          c.in_ok-push.ensures.items
          ∙ ap (λ (l : List (Option g.row.O.Denot)). l ++ None ∷ []) c.loop-have.invariant.cells
          ∙ append_assoc c.args.cells.now.items (replicate (c.loop-have.have - length c.args.cells.now.items) None) (None ∷ [])
          ∙ ap (λ (l : List (Option g.row.O.Denot)). c.args.cells.now.items ++ l) (replicate_more (c.loop-have.have - length c.args.cells.now.items) None ∙ ap (λ (k : ℕ). replicate k None) m);
      end = let t = c.loop-have-test.true in omega arith;
    }
