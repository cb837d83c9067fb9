use Rattle.std.proofs.Common.{[], ◌<◌, length, subst, refl, sym, ap, arith}
use Rattle.extent_map.specs.Reading.{AreAhead, IsNext}
use Rattle.extent_map.specs.Roots.{root_cells}
use Rattle.extent_map.specs.declared.extents.Root.{Root}
use Rattle.extent_map.proofs.Ahead.{pieces_next, whole_next, one_next}
use Rattle.extent_map.proofs.LeafEdits.{length-cells_in}
use Rattle.extent_map.proofs.pieces.piece_from.Goals as goal

pub behind-requires-clause-within : goal.behind-requires-clause-within
behind-requires-clause-within g c =
    omega (arith, c.requires.within, ap (λ (r : Root g.row.O.Denot). length (root_cells g.O.Origin.advanced r)) c.in-One.is, length-cells_in g.O.Origin.advanced g.O.Origin.reach c.in-One.piece)

pub returns-then-is_empty : goal.returns-then-is_empty
returns-then-is_empty g c =
    pieces_next g.O.Origin.advanced g.O.Origin.reach (root_cells g.O.Origin.advanced c.args.root.now) c.args.at c.seek-skip.result.1 c.seek-skip.result.0.now _ c.index-found-0.result c.behind-then-is_empty.result
    (subst (λ r. AreAhead g.O.Origin.advanced g.O.Origin.reach (root_cells g.O.Origin.advanced r) c.args.at c.seek-skip.result.0.now c.seek-skip.result.1) (sym c.in-Many.is) c.seek-skip.ensures.ahead)
    c.seek-skip.ensures.some c.index-found-0.is refl c.behind-then-is_empty.ensures.len c.behind-then-is_empty.ensures.reaches c.behind-then-is_empty.ensures.cells

pub returns-in-One : goal.returns-in-One
returns-in-One g c =
    let e = ap (λ (r : Root g.row.O.Denot). root_cells g.O.Origin.advanced r) c.in-One.is in
    subst (λ l. IsNext g.O.Origin.advanced g.O.Origin.reach l c.args.at c.behind.result []) (sym e)
    (one_next g.O.Origin.advanced g.O.Origin.reach c.in-One.piece c.behind.result c.args.at
    (omega (arith, c.requires.within, ap length e, length-cells_in g.O.Origin.advanced g.O.Origin.reach c.in-One.piece))
    c.behind.ensures.len c.behind.ensures.reaches c.behind.ensures.cells)

pub returns-else-is_empty : goal.returns-else-is_empty
returns-else-is_empty g c =
    let some : 0 < length c.args.leaf.now = grind (arith, c.is_empty.ensures, c.if-is_empty.false) in
    whole_next g.O.Origin.advanced g.O.Origin.reach (root_cells g.O.Origin.advanced c.args.root.now) c.args.at c.args.leaf.now _ c.index-leaf-0.result
    c.requires.ahead some c.index-leaf-0.is refl
