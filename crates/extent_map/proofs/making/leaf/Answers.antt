use Rattle.std.proofs.Common.{List, sym, subst, ap, ◌∙◌}
use Rattle.std.specs.List.{list_any}
use Rattle.extent_map.specs.declared.piece.Piece.{Piece}
use Rattle.extent_map.specs.Leaves.{all_cells}
use Rattle.extent_map.specs.Pieces.{foreign_cell, have_foreign}
use Rattle.extent_map.specs.Trees.{IsLeaf}
use Rattle.extent_map.proofs.Foreigns.{leaf_says}
use Rattle.extent_map.proofs.making.leaf.Goals as goal

pub invariant_of-result : goal.invariant_of-result
invariant_of-result g c =
    record {
      parts = subst (IsLeaf g.O.Origin.reach c.args.len) (sym c.in_ok-given.ensures) c.requires;
      says =
          c.any_foreign-foreign.ensures
          ∙ ap (list_any (λ (p : Piece g.row.O.Denot). foreign_cell g.O.Origin.foreign p.origin)) c.deref.ensures.value
          ∙ leaf_says g.O.Origin.advanced g.O.Origin.foreign g.O.Origin.reach g.met.O.Origin.foreign_stays c.args.pieces.items c.requires.each
          ∙ ap (λ (l : List (Piece g.row.O.Denot)). have_foreign g.O.Origin.foreign (all_cells g.O.Origin.advanced l)) (sym c.in_ok-given.ensures);
    }
