use Rattle.std.proofs.Common.{length, sym, ap, ◌∙◌}
use Rattle.extent_map.specs.Seen.{Seen}
use Rattle.extent_map.proofs.Shapes.{length-seen}
use Rattle.extent_map.proofs.tree.TreePart.span.Goals as goal

pub returns : goal.returns
returns g c =
    c.count.ensures
    ∙ sym (length-seen g.O.Origin.advanced g.O.Origin.reach c.self.inside.shape c.self.invariant.parts)
    ∙ ap (λ (s : Seen g.row.O.Denot). length s.cells) c.self.view_is
