use Rattle.std.proofs.Common.{◌≡◌, Vec, Global, ap, ◌∙◌}
use Rattle.std.specs.declared.rc.Rc.{Rc}
use Rattle.std.proofs.lemmas.Result.{IfOk-weaker}
use Rattle.extent_map.specs.declared.piece.Piece.{Piece}
use Rattle.extent_map.specs.Opened.{ArePiecesOf}
use Rattle.extent_map.proofs.Shapes.{leaf_opened}
use Rattle.extent_map.proofs.tree.Tree.leafed.Goals as goal

pub returns : goal.returns
returns g c =
    IfOk-weaker c.taken.result
    (λ (x : Rc (Vec (Piece g.row.O.Denot) Global) Global × Vec (Piece g.row.O.Denot) Global). x.1.items ≡ _)
    (λ (x : Rc (Vec (Piece g.row.O.Denot) Global) Global × Vec (Piece g.row.O.Denot) Global). ArePiecesOf g.O.Origin.advanced g.O.Origin.reach c.args.self x.1.items)
    (λ x is. leaf_opened g.O.Origin.advanced g.O.Origin.reach c.args.self c.self.inside.shape c.in-Leaf.field-0 c.in-Leaf.field-1 c.in-Leaf.node x.1.items c.self.view_is c.self.invariant.parts c.in-Leaf.is (is ∙ ap (λ (r : Rc (Vec (Piece g.row.O.Denot) Global) Global). r.value.items) c.in-Leaf.node-is))
    c.taken.ensures
