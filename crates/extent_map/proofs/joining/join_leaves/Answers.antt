use Rattle.std.proofs.Common.{◌≡◌, ◌+◌, ◌++◌, List, Option, length, refl, ap, ap₂, ◌∙◌, arith}
use Rattle.std.proofs.lemmas.Result.{IfOk-weaker}
use Rattle.extent_map.specs.Leaves.{all_cells}
use Rattle.extent_map.specs.Seen.{IsTwo}
use Rattle.extent_map.specs.declared.making.Two.{Two}
use Rattle.extent_map.proofs.LeafEdits.{length-all_cells}
use Rattle.extent_map.proofs.Makes.{appended_leaf}
use Rattle.extent_map.proofs.joining.join_leaves.Goals as goal

pub overflow_add-len : goal.overflow_add-len
overflow_add-len g c = omega (arith, c.requires.fits, c.span.ensures, c.span-2.ensures)

pub leafed-requires : goal.leafed-requires
leafed-requires g c = c.requires.left

pub same-right : goal.same-right
same-right g c = refl

pub leafed-requires-2 : goal.leafed-requires-2
leafed-requires-2 g c = c.requires.right

pub append-requires-clause-pieces : goal.append-requires-clause-pieces
append-requires-clause-pieces g c = c.in_ok-node.ensures.have.each

pub append-requires-clause-more : goal.append-requires-clause-more
append-requires-clause-more g c = c.in_ok-more.ensures.have.each

pub append-requires-clause-fits : goal.append-requires-clause-fits
append-requires-clause-fits g c =
    omega (
      arith,
      c.requires.fits,
      length-all_cells g.O.Origin.advanced g.O.Origin.reach c.in_ok-node.pieces.items,
      ap length c.in_ok-node.ensures.have.are,
      length-all_cells g.O.Origin.advanced g.O.Origin.reach c.in_ok-more.more.items,
      ap length c.in_ok-more.ensures.have.are,
    )

pub leaves-requires-clause-leaf : goal.leaves-requires-clause-leaf
leaves-requires-clause-leaf g c =
    appended_leaf g.O.Origin.advanced g.O.Origin.reach c.args.left c.args.right c.in_ok-node.pieces.items c.in_ok-more.more.items c.append.new.pieces.items (c.span.result + c.span-2.result)
    c.in_ok-node.ensures c.in_ok-more.ensures c.in_ok-append.ensures (omega (arith, c.span.ensures, c.span-2.ensures))

pub leaves-requires-clause-fits : goal.leaves-requires-clause-fits
leaves-requires-clause-fits g c = omega (arith, c.requires.fits, c.span.ensures, c.span-2.ensures)

pub returns : goal.returns
returns g c =
    let e : all_cells g.O.Origin.advanced c.append.new.pieces.items ≡ c.args.left.cells ++ c.args.right.cells =
    c.in_ok-append.ensures.are ∙ ap₂ (λ (a b : List (Option g.row.O.Denot)). a ++ b) c.in_ok-node.ensures.have.are c.in_ok-more.ensures.have.are in
    IfOk-weaker c.leaves.result
    (λ (two : Two g.row.O.Denot). IsTwo (all_cells g.O.Origin.advanced c.append.new.pieces.items) 1 two.first two.second)
    (λ (two : Two g.row.O.Denot). IsTwo (c.args.left.cells ++ c.args.right.cells) 1 two.first two.second)
    (λ two t. record { are = t.are ∙ e; height = t.height; same = t.same })
    c.leaves.ensures
