use Rattle.std.proofs.Common.{◌+◌, ◌∷◌, ◌++◌, [], List, ap, ◌∙◌, arith}
use Rattle.extent_map.specs.Seen.{Seen}
use Rattle.extent_map.proofs.Makes.{two_fork}
use Rattle.extent_map.proofs.making.root.Goals as goal

pub over-requires : goal.over-requires
over-requires g c =
    let a = c.args.two.first in
    let b = c.args.two.second in
    two_fork (c.height-height.result + 1) (c.span.result + c.span-2.result) a b c.push-2.new.self.items
    (c.in_ok-push-2.ensures.items ∙ ap (λ (l : List (Seen g.row.O.Denot)). l ++ b ∷ []) (c.in_ok-push.ensures.items ∙ ap (λ (l : List (Seen g.row.O.Denot)). l ++ a ∷ []) c.in_ok-trees.ensures.items))
    (c.height-height.ensures.kid (omega (arith, c.if-height-eq0.false, c.height.ensures.height, c.requires.two.same (omega (arith, c.if-height-eq0.false, c.height.ensures.height)))))
    (c.height.ensures.kid (omega (arith, c.if-height-eq0.false, c.height.ensures.height)))
    (c.requires.two.same (omega (arith, c.if-height-eq0.false, c.height.ensures.height)))
    (omega (arith, c.height-height.ensures.height))
    (omega (arith, c.span.ensures, c.span-2.ensures))
