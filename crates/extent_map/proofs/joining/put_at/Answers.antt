use Rattle.std.proofs.Common.{◌++◌, ◌∷◌, [], take, drop, List, sym, ap, ◌∙◌, arith}
use Rattle.std.proofs.lemmas.List.{take-append-drop, append_assoc, append-nil}
use Rattle.extent_map.specs.Seen.{Seen}
use Rattle.extent_map.proofs.Makes.{filled_none, filled_one}
use Rattle.extent_map.proofs.joining.put_at.Goals as goal

pub returns-then-height-eq0 : goal.returns-then-height-eq0
returns-then-height-eq0 g c =
    let old = c.args.trees.now.items in
    sym (ap (λ (l : List (Seen g.row.O.Denot)). (take c.args.at old ++ l) ++ drop c.args.at old) (filled_none c.args.tree (sym c.height.ensures.height ∙ c.if-height-eq0.true))
    ∙ ap (λ (l : List (Seen g.row.O.Denot)). l ++ drop c.args.at old) (append-nil (take c.args.at old))
    ∙ take-append-drop c.args.at old)

pub returns : goal.returns
returns g c =
    let old = c.args.trees.now.items in
    c.in_ok-insert.ensures.items
    ∙ sym (append_assoc (take c.args.at old) (c.args.tree ∷ []) (drop c.args.at old))
    ∙ ap (λ (l : List (Seen g.row.O.Denot)). (take c.args.at old ++ l) ++ drop c.args.at old) (sym (filled_one c.args.tree (omega (arith, c.if-height-eq0.false, c.height.ensures.height))))
