use Rattle.std.proofs.Common.{◌≡◌, ◌+◌, ◌++◌, ◌<◌, ◌≤◌, None, List, Option, length, drop, length-append, refl, sym, ap, ◌∙◌, arith}
use Rattle.std.proofs.lemmas.Result.{IfOk-weaker}
use Rattle.extent_map.specs.Cells.{put_cells}
use Rattle.extent_map.specs.Leaves.{cells_in}
use Rattle.extent_map.specs.Seen.{Seen}
use Rattle.extent_map.proofs.CellLists.{resized_shorter, length-resize, put_some, put_to_end}
use Rattle.extent_map.proofs.Halves.{length-overwritten}
use Rattle.extent_map.proofs.LeafEdits.{length-cells_in}
use Rattle.extent_map.proofs.tree.Tree.with.Goals as goal

pub put-requires-clause-piece : goal.put-requires-clause-piece
put-requires-clause-piece g c =
    c.requires.piece

pub put-requires-clause-within : goal.put-requires-clause-within
put-requires-clause-within g c =
    omega (arith, c.if-at-piece.true, c.span.ensures)

pub put-requires-clause-fits : goal.put-requires-clause-fits
put-requires-clause-fits g c =
    c.requires.fits

pub resized-requires-clause-size : goal.resized-requires-clause-size
resized-requires-clause-size g c =
    omega (arith, c.requires.end)

pub resized-requires-clause-fits : goal.resized-requires-clause-fits
resized-requires-clause-fits g c =
    c.requires.fits

pub push-requires-clause-piece : goal.push-requires-clause-piece
push-requires-clause-piece g c =
    c.requires.piece

pub push-requires-clause-fits : goal.push-requires-clause-fits
push-requires-clause-fits g c =
    omega (arith, c.requires.end, ap length c.in_ok-front.ensures, length-resize None c.args.at c.args.self.cells)

pub root-requires-clause-two : goal.root-requires-clause-two
root-requires-clause-two g c =
    record { are = refl; height = refl; same = c.in_ok-within.ensures.same }

pub root-requires-clause-fits : goal.root-requires-clause-fits
root-requires-clause-fits g c =
    omega (arith, c.requires.fits, ap length c.in_ok-within.ensures.are, length-overwritten c.args.at (cells_in g.O.Origin.advanced c.args.piece) c.args.self.cells (omega (arith, c.if-at-piece.true, c.span.ensures, length-cells_in g.O.Origin.advanced g.O.Origin.reach c.args.piece)))

pub root-requires-2-clause-two : goal.root-requires-2-clause-two
root-requires-2-clause-two g c =
    record { are = refl; height = refl; same = c.in_ok-two.ensures.two.same }

pub root-requires-2-clause-fits : goal.root-requires-2-clause-fits
root-requires-2-clause-fits g c =
    omega (arith, c.requires.end, ap length c.in_ok-two.ensures.two.are, length-append c.in_ok-front.front.cells (cells_in g.O.Origin.advanced c.args.piece), length-cells_in g.O.Origin.advanced g.O.Origin.reach c.args.piece, ap length c.in_ok-front.ensures, length-resize None c.args.at c.args.self.cells)

pub returns-then-at-piece : goal.returns-then-at-piece
returns-then-at-piece g c =
    let some : 0 < length (cells_in g.O.Origin.advanced c.args.piece) = omega (arith, c.requires.piece.some, length-cells_in g.O.Origin.advanced g.O.Origin.reach c.args.piece) in
    let le : c.args.at ≤ length c.args.self.cells = omega (arith, c.if-at-piece.true, c.span.ensures) in
    IfOk-weaker c.root.result
    (λ (s : Seen g.row.O.Denot). s.cells ≡ c.in_ok-within.within.first.cells ++ c.in_ok-within.within.second.cells)
    (λ (s : Seen g.row.O.Denot). s.cells ≡ put_cells None c.args.at (cells_in g.O.Origin.advanced c.args.piece) c.args.self.cells)
    (λ s is.
    is
    ∙ c.in_ok-within.ensures.are
    ∙ sym (put_some None c.args.at (cells_in g.O.Origin.advanced c.args.piece) c.args.self.cells some
    ∙ ap (λ (l : List (Option g.row.O.Denot)). l ++ (cells_in g.O.Origin.advanced c.args.piece) ++ drop (c.args.at + length (cells_in g.O.Origin.advanced c.args.piece)) c.args.self.cells) (resized_shorter None c.args.at c.args.self.cells le)))
    c.root.ensures

pub returns : goal.returns
returns g c =
    let some : 0 < length (cells_in g.O.Origin.advanced c.args.piece) = omega (arith, c.requires.piece.some, length-cells_in g.O.Origin.advanced g.O.Origin.reach c.args.piece) in
    let le : length c.args.self.cells ≤ c.args.at + length (cells_in g.O.Origin.advanced c.args.piece) = omega (arith, c.if-at-piece.false, c.span.ensures, length-cells_in g.O.Origin.advanced g.O.Origin.reach c.args.piece) in
    IfOk-weaker c.root-2.result
    (λ (s : Seen g.row.O.Denot). s.cells ≡ c.in_ok-two.two.first.cells ++ c.in_ok-two.two.second.cells)
    (λ (s : Seen g.row.O.Denot). s.cells ≡ put_cells None c.args.at (cells_in g.O.Origin.advanced c.args.piece) c.args.self.cells)
    (λ s is.
    is
    ∙ c.in_ok-two.ensures.two.are
    ∙ ap (λ (l : List (Option g.row.O.Denot)). l ++ (cells_in g.O.Origin.advanced c.args.piece)) c.in_ok-front.ensures
    ∙ sym (put_to_end None c.args.at (cells_in g.O.Origin.advanced c.args.piece) c.args.self.cells some le))
    c.root-2.ensures

pub overflow_add-at : goal.overflow_add-at
overflow_add-at g c =
    omega (arith, c.requires.end)
