use Rattle.std.proofs.Common.{◌≡◌, ◌+◌, ◌++◌, ◌<◌, ◌≤◌, None, List, Option, length, take, sym, ap, ◌∙◌, arith}
use Rattle.std.proofs.lemmas.List.{nil_from_length, take_all}
use Rattle.extent_map.specs.Cells.{put_cells}
use Rattle.extent_map.specs.Leaves.{cells_in}
use Rattle.extent_map.proofs.CellLists.{put_none, put_to_end, length-put, resized_shorter}
use Rattle.extent_map.proofs.LeafEdits.{length-cells_in}
use Rattle.extent_map.proofs.extents.Extents.put_piece.Goals as goal

pub returns-then-piece-eq0 : goal.returns-then-piece-eq0
returns-then-piece-eq0 g c =
    sym (ap (λ (l : List (Option g.row.O.Denot)). put_cells None c.args.at l c.args.self.now) (nil_from_length (cells_in g.O.Origin.advanced c.args.piece) (length-cells_in g.O.Origin.advanced g.O.Origin.reach c.args.piece ∙ c.if-piece-eq0.true)) ∙ put_none None c.args.at c.args.self.now)

pub returns-then-piece-size : goal.returns-then-piece-size
returns-then-piece-size g c =
    let some : 0 < length (cells_in g.O.Origin.advanced c.args.piece) = (omega (arith, c.if-piece-eq0.false, length-cells_in g.O.Origin.advanced g.O.Origin.reach c.args.piece)) in
    let le : length c.args.self.now ≤ c.args.at + length (cells_in g.O.Origin.advanced c.args.piece) = omega (arith, c.if-piece-size.true, c.size.ensures.count, length-cells_in g.O.Origin.advanced g.O.Origin.reach c.args.piece) in
    let from : c.args.at ≤ length c.args.self.now = omega (arith, c.if-at-eq0.true) in
    sym (put_to_end None c.args.at (cells_in g.O.Origin.advanced c.args.piece) c.args.self.now some le
    ∙ ap (λ (l : List (Option g.row.O.Denot)). l ++ (cells_in g.O.Origin.advanced c.args.piece)) (resized_shorter None c.args.at c.args.self.now from ∙ ap (λ n. take n c.args.self.now) c.if-at-eq0.true))

pub returns-in-Some : goal.returns-in-Some
returns-in-Some g c =
    let some : 0 < length (cells_in g.O.Origin.advanced c.args.piece) = (omega (arith, c.if-piece-eq0.false, length-cells_in g.O.Origin.advanced g.O.Origin.reach c.args.piece)) in
    let is = c.in-Some.ensures in
    let n : length c.args.self.now ≡ c.args.at = sym (ap length c.self.view_is) ∙ is.end in
    let le : length c.args.self.now ≤ c.args.at + length (cells_in g.O.Origin.advanced c.args.piece) = omega (arith, n) in
    let from : c.args.at ≤ length c.args.self.now = omega (arith, n) in
    is.cells_are
    ∙ ap (λ (l : List (Option g.row.O.Denot)). l ++ (cells_in g.O.Origin.advanced c.args.piece)) c.self.view_is
    ∙ sym (put_to_end None c.args.at (cells_in g.O.Origin.advanced c.args.piece) c.args.self.now some le
    ∙ ap (λ (l : List (Option g.row.O.Denot)). l ++ (cells_in g.O.Origin.advanced c.args.piece)) (resized_shorter None c.args.at c.args.self.now from ∙ take_all c.args.at c.args.self.now (omega (arith, n))))

pub with-requires-2-clause-fits : goal.with-requires-2-clause-fits
with-requires-2-clause-fits g c =
    c.in_ok-taken.ensures.fits

pub of-requires : goal.of-requires
of-requires g c =
    omega (arith, c.requires.end, c.in_ok-taken.ensures.fits, ap length c.in_ok-tree.ensures, length-put None c.args.at (cells_in g.O.Origin.advanced c.args.piece) c.in_ok-taken.field-0.cells (omega (arith, c.if-piece-eq0.false, length-cells_in g.O.Origin.advanced g.O.Origin.reach c.args.piece)), length-cells_in g.O.Origin.advanced g.O.Origin.reach c.args.piece)
