use Rattle.std.proofs.Common.{◌+◌, take, refl, sym, ap, ◌∙◌, subst, arith}
use Rattle.std.specs.List.{sum_by}
use Rattle.std.proofs.lemmas.List.{take-take}
use Rattle.extent_map.specs.Seen.{cells_count, AreBelow}
use Rattle.extent_map.proofs.Makes.{sides_sum}
use Rattle.extent_map.proofs.editing.sides.Goals as goal

pub any-requires-clause-fits : goal.any-requires-clause-fits
any-requires-clause-fits g c =
    omega (
      arith,
      c.requires.fits,
      sides_sum c.args.index c.args.kids.trees.items,
      ap (sum_by (cells_count {O = g.row.O.Denot})) (c.truncate.ensures.items ∙ ap (take c.args.index) c.in_ok-back.ensures.items ∙ take-take c.args.index (c.args.index + 1) c.args.kids.trees.items (omega arith)),
    )

pub any-requires-2-clause-below : goal.any-requires-2-clause-below
any-requires-2-clause-below g c = subst (AreBelow c.args.kids.height) (sym c.in_ok-back.ensures.tail) c.requires.open.after

pub any-requires-2-clause-fits : goal.any-requires-2-clause-fits
any-requires-2-clause-fits g c =
    omega (arith, c.requires.fits, sides_sum c.args.index c.args.kids.trees.items, ap (sum_by (cells_count {O = g.row.O.Denot})) c.in_ok-back.ensures.tail)

pub same-left : goal.same-left
same-left g c = refl
