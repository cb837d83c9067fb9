use Rattle.std.proofs.Common.{◌<◌, None, List, Option, length, refl, sym, ap, ◌∙◌, arith}
use Rattle.extent_map.specs.Cells.{put_cells}
use Rattle.extent_map.proofs.CellLists.{put_none, length-put}
use Rattle.extent_map.proofs.extents.Extents.put_tree.Goals as goal

pub returns-then-height-eq0 : goal.returns-then-height-eq0
returns-then-height-eq0 g c =
    sym (ap (λ (l : List (Option g.row.O.Denot)). put_cells None c.args.at l c.args.self.now) (c.height.ensures.none (sym c.height.ensures.height ∙ c.if-height-eq0.true)) ∙ put_none None c.args.at c.args.self.now)

pub same-new : goal.same-new
same-new g c =
    refl

pub same-self : goal.same-self
same-self g c =
    refl

pub with_tree-requires-clause-some : goal.with_tree-requires-clause-some
with_tree-requires-clause-some g c =
    (c.height.ensures.kid (omega (arith, c.if-height-eq0.false, c.height.ensures.height))).some

pub with_tree-requires-clause-end : goal.with_tree-requires-clause-end
with_tree-requires-clause-end g c =
    c.requires

pub with_tree-requires-clause-fits : goal.with_tree-requires-clause-fits
with_tree-requires-clause-fits g c =
    c.in_ok-taken.ensures.fits

pub of-requires : goal.of-requires
of-requires g c =
    let some : 0 < length c.args.new.cells = (c.height.ensures.kid (omega (arith, c.if-height-eq0.false, c.height.ensures.height))).some in
    omega (arith, c.requires, c.in_ok-taken.ensures.fits, ap length c.in_ok-tree.ensures, length-put None c.args.at c.args.new.cells c.in_ok-taken.field-0.cells some)

pub invariant_of-self : goal.invariant_of-self
invariant_of-self g c =
    c.of.ensures.root
