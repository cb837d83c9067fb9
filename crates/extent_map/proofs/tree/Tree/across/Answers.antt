use Rattle.std.proofs.Common.{◌+◌, ◌++◌, List, Option, length, drop, length-append, length-take, length-drop, refl, sym, ap, ap₂, ◌∙◌, arith}
use Rattle.std.proofs.lemmas.List.{append-nil, drop-drop}
use Rattle.extent_map.specs.Leaves.{cells_in}
use Rattle.extent_map.proofs.LeafEdits.{length-cells_in}
use Rattle.extent_map.proofs.tree.Tree.across.Goals as goal

pub halves-requires-clause-within : goal.halves-requires-clause-within
halves-requires-clause-within g c =
    omega (arith, c.requires.within)

pub halves-requires-clause-fits : goal.halves-requires-clause-fits
halves-requires-clause-fits g c =
    c.requires.fits

pub halves-requires-2-clause-within : goal.halves-requires-2-clause-within
halves-requires-2-clause-within g c =
    omega (arith, c.requires.within, ap length c.in_ok-front.ensures.back, length-drop c.args.at c.args.self.cells)

pub halves-requires-2-clause-fits : goal.halves-requires-2-clause-fits
halves-requires-2-clause-fits g c =
    omega (arith, c.requires.fits, ap length c.in_ok-front.ensures.back, length-drop c.args.at c.args.self.cells)

pub push-requires-clause-piece : goal.push-requires-clause-piece
push-requires-clause-piece g c =
    c.requires.piece

pub push-requires-clause-fits : goal.push-requires-clause-fits
push-requires-clause-fits g c =
    omega (arith, c.requires.fits, c.requires.within, ap length c.in_ok-front.ensures.front, length-take c.args.at c.args.self.cells)

pub root-requires-clause-two : goal.root-requires-clause-two
root-requires-clause-two g c =
    record { are = refl; height = refl; same = c.in_ok-two.ensures.two.same }

pub root-requires-clause-fits : goal.root-requires-clause-fits
root-requires-clause-fits g c =
    omega (arith, c.requires.fits, c.requires.within, ap length c.in_ok-front.ensures.front, length-take c.args.at c.args.self.cells, ap length c.in_ok-two.ensures.two.are, length-append c.in_ok-front.front.cells (cells_in g.O.Origin.advanced c.args.piece), length-cells_in g.O.Origin.advanced g.O.Origin.reach c.args.piece)

pub append-requires : goal.append-requires
append-requires g c =
    record { fits = omega (arith, c.requires.fits, c.requires.within, ap length c.in_ok-front.ensures.front, length-take c.args.at c.args.self.cells, ap length c.in_ok-two.ensures.two.are, length-append c.in_ok-front.front.cells (cells_in g.O.Origin.advanced c.args.piece), length-cells_in g.O.Origin.advanced g.O.Origin.reach c.args.piece, ap length c.in_ok-front.ensures.back, length-drop c.args.at c.args.self.cells, ap length c.in_ok-front-2.ensures, ap length c.in_ok-back.ensures.back, length-drop c.args.piece.len c.in_ok-front.rest.cells) }

pub same-back : goal.same-back
same-back g c =
    refl

pub same-front : goal.same-front
same-front g c =
    refl

pub returns : goal.returns
returns g c =
    record {
      are =
          ap₂ (λ (a b : List (Option g.row.O.Denot)). a ++ b) c.in_ok-append.ensures c.new.ensures.cells
          ∙ append-nil (c.in_ok-front-2.front.cells ++ c.in_ok-back.back.cells)
          ∙ ap₂ (λ (a b : List (Option g.row.O.Denot)). a ++ b)
          (c.in_ok-front-2.ensures ∙ c.in_ok-two.ensures.two.are ∙ ap (λ (l : List (Option g.row.O.Denot)). l ++ cells_in g.O.Origin.advanced c.args.piece) c.in_ok-front.ensures.front)
          (c.in_ok-back.ensures.back
          ∙ ap (drop c.args.piece.len) c.in_ok-front.ensures.back
          ∙ drop-drop c.args.piece.len c.args.at c.args.self.cells
          ∙ ap (λ n. drop (c.args.at + n) c.args.self.cells) (sym (length-cells_in g.O.Origin.advanced g.O.Origin.reach c.args.piece)));
      height = refl;
      same = λ h. absurd (omega (arith, h, c.new.ensures.height));
    }
