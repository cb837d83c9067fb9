use Rattle.std.proofs.Common.{◌+◌, ◌++◌, List, Option, length, length-append, take, drop, refl, ap, ap₂, ◌∙◌, arith}
use Rattle.std.proofs.lemmas.List.{append-nil}
use Rattle.extent_map.specs.Seen.{joined, around}
use Rattle.extent_map.proofs.Makes.{around_more}
use Rattle.extent_map.proofs.editing.around_it.Goals as goal

pub sides-requires-clause-open : goal.sides-requires-clause-open
sides-requires-clause-open g c = c.requires.open

pub sides-requires-clause-fits : goal.sides-requires-clause-fits
sides-requires-clause-fits g c = omega (arith, c.requires.fits, around_more c.args.index c.args.kids.trees.items c.args.tree.cells)

pub same-tree : goal.same-tree
same-tree g c = refl

pub same-right : goal.same-right
same-right g c = refl

pub append-requires : goal.append-requires
append-requires g c =
    let a = joined (take c.args.index c.args.kids.trees.items) in
    let b = joined (drop (c.args.index + 1) c.args.kids.trees.items) in
    record { fits = omega (arith, c.requires.fits, ap length c.in_ok-left.ensures.left, length-append (a ++ c.args.tree.cells) b, length-append a c.args.tree.cells) }

pub append-requires-2 : goal.append-requires-2
append-requires-2 g c =
    let a = joined (take c.args.index c.args.kids.trees.items) in
    let b = joined (drop (c.args.index + 1) c.args.kids.trees.items) in
    record {
      fits =
          omega (
            arith,
            c.requires.fits,
            ap length c.in_ok-left.ensures.left,
            ap length c.in_ok-left.ensures.right,
            ap length c.in_ok-low.ensures,
            length-append c.in_ok-left.left.cells c.args.tree.cells,
            length-append (a ++ c.args.tree.cells) b,
            length-append a c.args.tree.cells,
          );
    }

pub returns : goal.returns
returns g c =
    record {
      are =
          ap₂ (λ (x y : List (Option g.row.O.Denot)). x ++ y) (c.in_ok-append.ensures ∙ ap₂ (λ (x y : List (Option g.row.O.Denot)). x ++ y) (c.in_ok-low.ensures ∙ ap (λ (x : List (Option g.row.O.Denot)). x ++ c.args.tree.cells) c.in_ok-left.ensures.left) c.in_ok-left.ensures.right) c.new.ensures.cells
          ∙ append-nil (around c.args.index c.args.kids.trees.items c.args.tree.cells);
      height = refl;
      same = λ h. absurd (omega (arith, h, c.new.ensures.height));
    }
