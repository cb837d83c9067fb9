use Rattle.std.proofs.Common.{◌≡◌, ℕ, ◌+◌, ◌++◌, ◌≤◌, None, List, Option, length, drop, length-append, length-take, length-drop, refl, sym, ap, ap₂, ◌∙◌, arith}
use Rattle.std.proofs.lemmas.Result.{IfOk-weaker}
use Rattle.std.proofs.lemmas.List.{drop-drop}
use Rattle.extent_map.specs.Cells.{put_cells}
use Rattle.extent_map.specs.Seen.{Seen}
use Rattle.extent_map.proofs.CellLists.{resized_shorter, length-resize, put_some, put_to_end}
use Rattle.extent_map.proofs.tree.Tree.with_tree.Goals as goal

pub resized-requires-clause-size : goal.resized-requires-clause-size
resized-requires-clause-size g c =
    omega (arith, c.requires.end)

pub resized-requires-clause-fits : goal.resized-requires-clause-fits
resized-requires-clause-fits g c =
    c.requires.fits

pub append-requires : goal.append-requires
append-requires g c =
    record { fits = omega (arith, c.requires.end, ap length c.in_ok-front.ensures, length-resize None c.args.at c.args.self.cells) }

pub returns-then-at-span : goal.returns-then-at-span
returns-then-at-span g c =
    let le : length c.args.self.cells ≤ c.args.at + length c.args.new.cells = omega (arith, c.if-at-span.true, c.span.ensures, c.span-2.ensures) in
    IfOk-weaker c.append.result
    (λ (s : Seen g.row.O.Denot). s.cells ≡ c.in_ok-front.front.cells ++ c.args.new.cells)
    (λ (s : Seen g.row.O.Denot). s.cells ≡ put_cells None c.args.at c.args.new.cells c.args.self.cells)
    (λ s is. is ∙ ap (λ (l : List (Option g.row.O.Denot)). l ++ c.args.new.cells) c.in_ok-front.ensures ∙ sym (put_to_end None c.args.at c.args.new.cells c.args.self.cells c.requires.some le))
    c.append.ensures

pub halves-requires-clause-within : goal.halves-requires-clause-within
halves-requires-clause-within g c =
    omega (arith, c.if-at-span.false, c.span.ensures, c.span-2.ensures, c.requires.fits, c.requires.end)

pub halves-requires-clause-fits : goal.halves-requires-clause-fits
halves-requires-clause-fits g c =
    c.requires.fits

pub halves-requires-2-clause-within : goal.halves-requires-2-clause-within
halves-requires-2-clause-within g c =
    omega (arith, c.if-at-span.false, c.span.ensures, c.span-2.ensures, c.requires.fits, c.requires.end, c.span-3.ensures, ap length c.in_ok-front-2.ensures.back, length-drop c.args.at c.args.self.cells)

pub halves-requires-2-clause-fits : goal.halves-requires-2-clause-fits
halves-requires-2-clause-fits g c =
    omega (arith, c.if-at-span.false, c.span.ensures, c.span-2.ensures, c.requires.fits, c.requires.end, ap length c.in_ok-front-2.ensures.back, length-drop c.args.at c.args.self.cells)

pub append-requires-2 : goal.append-requires-2
append-requires-2 g c =
    record { fits = omega (arith, c.if-at-span.false, c.span.ensures, c.span-2.ensures, c.requires.fits, c.requires.end, ap length c.in_ok-front-2.ensures.front, length-take c.args.at c.args.self.cells) }

pub append-requires-3 : goal.append-requires-3
append-requires-3 g c =
    record { fits = omega (arith, c.if-at-span.false, c.span.ensures, c.span-2.ensures, c.requires.fits, c.requires.end, c.span-3.ensures, ap length c.in_ok-front-2.ensures.front, length-take c.args.at c.args.self.cells, ap length c.in_ok-front-2.ensures.back, length-drop c.args.at c.args.self.cells, ap length c.in_ok-low.ensures, length-append c.in_ok-front-2.front.cells c.args.new.cells, ap length c.in_ok-back.ensures.back, length-drop c.span-3.result c.in_ok-front-2.rest.cells) }

pub returns : goal.returns
returns g c =
    IfOk-weaker c.append-3.result
    (λ (s : Seen g.row.O.Denot). s.cells ≡ c.in_ok-low.low.cells ++ c.in_ok-back.back.cells)
    (λ (s : Seen g.row.O.Denot). s.cells ≡ put_cells None c.args.at c.args.new.cells c.args.self.cells)
    (λ s is.
    is
    ∙ ap₂ (λ (x y : List (Option g.row.O.Denot)). x ++ y)
    (c.in_ok-low.ensures ∙ ap (λ (l : List (Option g.row.O.Denot)). l ++ c.args.new.cells) (c.in_ok-front-2.ensures.front ∙ sym (resized_shorter None c.args.at c.args.self.cells (omega (arith, c.if-at-span.false, c.span.ensures, c.span-2.ensures, c.requires.fits, c.requires.end)))))
    (c.in_ok-back.ensures.back ∙ ap (drop c.span-3.result) c.in_ok-front-2.ensures.back ∙ drop-drop c.span-3.result c.args.at c.args.self.cells ∙ ap (λ (k : ℕ). drop (c.args.at + k) c.args.self.cells) c.span-3.ensures)
    ∙ sym (put_some None c.args.at c.args.new.cells c.args.self.cells c.requires.some))
    c.append-3.ensures

pub overflow_add-at : goal.overflow_add-at
overflow_add-at g c =
    omega (arith, c.requires.end, c.span.ensures)

pub same-new : goal.same-new
same-new g c =
    refl

pub same-new-2 : goal.same-new-2
same-new-2 g c =
    refl

pub same-back : goal.same-back
same-back g c =
    refl

pub same-front : goal.same-front
same-front g c =
    refl
