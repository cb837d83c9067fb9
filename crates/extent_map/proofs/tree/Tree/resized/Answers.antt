use Rattle.std.proofs.Common.{◌≡◌, ℕ, ◌-◌, ◌++◌, ◌≤◌, None, List, Option, length, length-append, refl, sym, ap, ◌∙◌, arith}
use Rattle.std.proofs.lemmas.Result.{IfOk-weaker}
use lib.ListN.{replicate}
use Rattle.extent_map.specs.Cells.{resize_cells}
use Rattle.extent_map.specs.Leaves.{cells_in}
use Rattle.extent_map.specs.Seen.{Seen}
use Rattle.extent_map.proofs.CellLists.{resized_shorter, resized_longer}
use Rattle.extent_map.proofs.Layouts.{piece_replicate, length-piece}
use Rattle.extent_map.proofs.tree.Tree.resized.Goals as goal

pub halves-requires-clause-within : goal.halves-requires-clause-within
halves-requires-clause-within g c =
    omega (arith, c.if-size-len.true, c.span-len.ensures)

pub halves-requires-clause-fits : goal.halves-requires-clause-fits
halves-requires-clause-fits g c =
    c.requires.fits

pub returns-then-size-len : goal.returns-then-size-len
returns-then-size-len g c =
    c.in_ok-front.ensures.front ∙ sym (resized_shorter None c.args.size c.args.self.cells (omega (arith, c.if-size-len.true, c.span-len.ensures)))

pub push-requires-clause-piece : goal.push-requires-clause-piece
push-requires-clause-piece g c =
    record { some = omega (arith, c.if-size-len.false); reaches = tt }

pub push-requires-clause-fits : goal.push-requires-clause-fits
push-requires-clause-fits g c =
    omega (arith, c.requires.size, c.span-len.ensures, c.if-size-len.false)

pub root-requires-clause-two : goal.root-requires-clause-two
root-requires-clause-two g c =
    record { are = refl; height = refl; same = c.in_ok-two.ensures.two.same }

pub root-requires-clause-fits : goal.root-requires-clause-fits
root-requires-clause-fits g c =
    omega (arith, c.requires.size, c.span-len.ensures, c.if-size-len.false, ap length c.in_ok-two.ensures.two.are, length-append c.args.self.cells (cells_in g.O.Origin.advanced (record { origin = None; len = c.args.size - c.span-len.result })), length-piece g.O.Origin.advanced None (c.args.size - c.span-len.result))

pub returns : goal.returns
returns g c =
    let le : length c.args.self.cells ≤ c.args.size = omega (arith, c.if-size-len.false, c.span-len.ensures) in
    IfOk-weaker c.root.result
    (λ (s : Seen g.row.O.Denot). s.cells ≡ c.in_ok-two.two.first.cells ++ c.in_ok-two.two.second.cells)
    (λ (s : Seen g.row.O.Denot). s.cells ≡ resize_cells None c.args.size c.args.self.cells)
    (λ s is.
    is
    ∙ c.in_ok-two.ensures.two.are
    ∙ ap (λ (l : List (Option g.row.O.Denot)). c.args.self.cells ++ l)
    (piece_replicate g.O.Origin.advanced (c.args.size - c.span-len.result)
    ∙ ap (λ (k : ℕ). replicate (c.args.size - k) None) c.span-len.ensures)
    ∙ sym (resized_longer None c.args.size c.args.self.cells le))
    c.root.ensures

pub overflow_sub-hole : goal.overflow_sub-hole
overflow_sub-hole g c =
    omega (arith, c.if-size-len.false)
