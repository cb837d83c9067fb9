use Rattle.std.proofs.Common.{◌≡◌, ◌-◌, ◌++◌, [], List, Option, length, take, drop, length-take, length-drop, refl, sym, ap, ap₂, ◌∙◌, subst, arith}
use Rattle.std.specs.List.{sum_by}
use Rattle.extent_map.specs.Leaves.{HaveCells}
use Rattle.extent_map.specs.Parts.{IsFound}
use Rattle.extent_map.specs.Seen.{Seen, cells_count}
use Rattle.extent_map.proofs.LeafEdits.{length-all_cells}
use Rattle.extent_map.proofs.Spans.{found_below}
use Rattle.extent_map.proofs.Makes.{near_kid, hole_at, around_length}
use Rattle.extent_map.proofs.Halves.{front_leaf, back_leaf, kids_sum, near_holds, sides_length, front_half, back_half}
use Rattle.extent_map.proofs.tree.Tree.+halves.Goals as goal

pub same-front : goal.same-front
same-front g t c =
    refl

pub same-low : goal.same-low
same-low g t c =
    refl

pub same-high : goal.same-high
same-high g t c =
    refl

pub same-right : goal.same-right
same-right g t c =
    refl

pub same-result : goal.same-result
same-result g t c =
    refl

pub leafed-requires : goal.leafed-requires
leafed-requires g t c =
    omega (arith, c.height.ensures.height, c.if-height-eq1.true)

pub split_at-requires-clause-pieces : goal.split_at-requires-clause-pieces
split_at-requires-clause-pieces g t c =
    c.in_ok-node.ensures.have.each

pub split_at-requires-clause-within : goal.split_at-requires-clause-within
split_at-requires-clause-within g t c =
    omega (arith, c.requires.within, c.span-len.ensures, c.if-at-len.false, length-all_cells g.O.Origin.advanced g.O.Origin.reach c.in_ok-node.pieces.items, ap length c.in_ok-node.ensures.have.are)

pub split_at-requires-clause-fits : goal.split_at-requires-clause-fits
split_at-requires-clause-fits g t c =
    omega (arith, c.requires.fits, length-all_cells g.O.Origin.advanced g.O.Origin.reach c.in_ok-node.pieces.items, ap length c.in_ok-node.ensures.have.are)

pub leaf-requires : goal.leaf-requires
leaf-requires g t c =
    front_leaf g.O.Origin.advanced g.O.Origin.reach c.args.self.cells c.split_at.new.pieces.items c.args.at (subst (λ (l : List (Option g.row.O.Denot)). HaveCells g.O.Origin.advanced g.O.Origin.reach (take c.args.at l) c.split_at.new.pieces.items) c.in_ok-node.ensures.have.are c.in_ok-back.ensures.front) c.requires.within (omega (arith, c.if-at-eq0.false))

pub leaf-requires-then-height-eq1 : goal.leaf-requires-then-height-eq1
leaf-requires-then-height-eq1 g t c =
    back_leaf g.O.Origin.advanced g.O.Origin.reach c.args.self.cells c.in_ok-back.back.items c.args.at c.span-len.result (subst (λ (l : List (Option g.row.O.Denot)). HaveCells g.O.Origin.advanced g.O.Origin.reach (drop c.args.at l) c.in_ok-back.back.items) c.in_ok-node.ensures.have.are c.in_ok-back.ensures.back) c.span-len.ensures (omega (arith, c.requires.within, c.span-len.ensures, c.if-at-len.false))

pub overflow_sub-len : goal.overflow_sub-len
overflow_sub-len g t c =
    omega (arith, c.requires.within, c.span-len.ensures)

pub returns-then-height-eq1-clause-front : goal.returns-then-height-eq1-clause-front
returns-then-height-eq1-clause-front g t c =
    c.in_ok-front.ensures.cells ∙ (subst (λ (l : List (Option g.row.O.Denot)). HaveCells g.O.Origin.advanced g.O.Origin.reach (take c.args.at l) c.split_at.new.pieces.items) c.in_ok-node.ensures.have.are c.in_ok-back.ensures.front).are

pub returns-then-height-eq1-clause-back : goal.returns-then-height-eq1-clause-back
returns-then-height-eq1-clause-back g t c =
    c.in_ok-back-2.ensures.cells ∙ (subst (λ (l : List (Option g.row.O.Denot)). HaveCells g.O.Origin.advanced g.O.Origin.reach (drop c.args.at l) c.in_ok-back.back.items) c.in_ok-node.ensures.have.are c.in_ok-back.ensures.back).are

pub forked-requires : goal.forked-requires
forked-requires g t c =
    let none : c.args.self.height ≡ 0 → ⊥ = λ e. c.if-at-eq0.false (omega (arith, ap length (c.height.ensures.none e), c.requires.within)) in
    omega (arith, none, c.height.ensures.height, c.if-height-eq1.false)

pub find-index-requires-clause-within : goal.find-index-requires-clause-within
find-index-requires-clause-within g t c =
    omega (arith, c.requires.within, c.span-len.ensures, c.if-at-len.false, ap (sum_by (cells_count {O = g.row.O.Denot})) c.deref.ensures.value, kids_sum c.args.self c.in_ok-kids.kids.height c.in_ok-kids.kids.trees.items c.in_ok-kids.ensures)

pub find-index-requires-clause-fits : goal.find-index-requires-clause-fits
find-index-requires-clause-fits g t c =
    omega (arith, c.requires.fits, ap (sum_by (cells_count {O = g.row.O.Denot})) c.deref.ensures.value, kids_sum c.args.self c.in_ok-kids.kids.height c.in_ok-kids.kids.trees.items c.in_ok-kids.ensures)

pub take_kid-kid-requires : goal.take_kid-kid-requires
take_kid-kid-requires g t c =
    found_below cells_count c.in_ok-kids.kids.trees.items c.args.at c.find-index.result.0 c.find-index.result.1 (subst (λ (l : List (Seen g.row.O.Denot)). IsFound cells_count l c.args.at c.find-index.result.0 c.find-index.result.1) c.deref.ensures.value c.find-index.ensures)

pub overflow_sub-at : goal.overflow_sub-at
overflow_sub-at g t c =
    c.find-index.ensures.from

pub halves-requires : goal.halves-requires
halves-requires g t c κs within =
    (omega (arith, c.decreases, c.in_ok-kids.ensures.as_high, c.in_ok-kids.ensures.below.height, (near_kid c.args.self c.in_ok-kids.kids.height c.in_ok-kids.kids.trees.items c.take_kid-kid.new.trees.items c.find-index.result.0 c.take_kid-kid.result c.in_ok-kids.ensures c.take_kid-kid.ensures (found_below cells_count c.in_ok-kids.kids.trees.items c.args.at c.find-index.result.0 c.find-index.result.1 (subst (λ (l : List (Seen g.row.O.Denot)). IsFound cells_count l c.args.at c.find-index.result.0 c.find-index.result.1) c.deref.ensures.value c.find-index.ensures))).height), (within, (omega (arith, near_holds c.args.self c.in_ok-kids.kids.height c.in_ok-kids.kids.trees.items c.in_ok-kids.ensures c.take_kid-kid.new.trees.items c.find-index.result.0 c.take_kid-kid.result c.take_kid-kid.ensures c.args.at c.find-index.result.1 (subst (λ (l : List (Seen g.row.O.Denot)). IsFound cells_count l c.args.at c.find-index.result.0 c.find-index.result.1) c.deref.ensures.value c.find-index.ensures)), omega (arith, c.requires.fits, around_length c.args.self c.in_ok-kids.kids.height c.in_ok-kids.kids.trees.items c.take_kid-kid.new.trees.items c.find-index.result.0 c.take_kid-kid.result c.in_ok-kids.ensures c.take_kid-kid.ensures (found_below cells_count c.in_ok-kids.kids.trees.items c.args.at c.find-index.result.0 c.find-index.result.1 (subst (λ (l : List (Seen g.row.O.Denot)). IsFound cells_count l c.args.at c.find-index.result.0 c.find-index.result.1) c.deref.ensures.value c.find-index.ensures)) []))))

pub sides-requires-clause-open : goal.sides-requires-clause-open
sides-requires-clause-open g t c =
    hole_at c.args.self c.in_ok-kids.kids.height c.in_ok-kids.kids.trees.items c.take_kid-kid.new.trees.items c.find-index.result.0 c.take_kid-kid.result c.in_ok-kids.ensures c.take_kid-kid.ensures (found_below cells_count c.in_ok-kids.kids.trees.items c.args.at c.find-index.result.0 c.find-index.result.1 (subst (λ (l : List (Seen g.row.O.Denot)). IsFound cells_count l c.args.at c.find-index.result.0 c.find-index.result.1) c.deref.ensures.value c.find-index.ensures))

pub sides-requires-clause-fits : goal.sides-requires-clause-fits
sides-requires-clause-fits g t c =
    omega (arith, c.requires.fits, around_length c.args.self c.in_ok-kids.kids.height c.in_ok-kids.kids.trees.items c.take_kid-kid.new.trees.items c.find-index.result.0 c.take_kid-kid.result c.in_ok-kids.ensures c.take_kid-kid.ensures (found_below cells_count c.in_ok-kids.kids.trees.items c.args.at c.find-index.result.0 c.find-index.result.1 (subst (λ (l : List (Seen g.row.O.Denot)). IsFound cells_count l c.args.at c.find-index.result.0 c.find-index.result.1) c.deref.ensures.value c.find-index.ensures)) [])

pub append-requires : goal.append-requires
append-requires g t c =
    record { fits = omega (arith, c.requires.fits, sides_length c.args.self c.in_ok-kids.kids.height c.in_ok-kids.kids.trees.items c.in_ok-kids.ensures c.take_kid-kid.new.trees.items c.find-index.result.0 c.take_kid-kid.result c.take_kid-kid.ensures c.args.at c.find-index.result.1 (subst (λ (l : List (Seen g.row.O.Denot)). IsFound cells_count l c.args.at c.find-index.result.0 c.find-index.result.1) c.deref.ensures.value c.find-index.ensures), ap length c.in_ok-left.ensures.left, ap length c.in_ok-low.ensures.front, length-take (c.args.at - c.find-index.result.1) c.take_kid-kid.result.cells) }

pub append-requires-2 : goal.append-requires-2
append-requires-2 g t c =
    record { fits = omega (arith, c.requires.fits, sides_length c.args.self c.in_ok-kids.kids.height c.in_ok-kids.kids.trees.items c.in_ok-kids.ensures c.take_kid-kid.new.trees.items c.find-index.result.0 c.take_kid-kid.result c.take_kid-kid.ensures c.args.at c.find-index.result.1 (subst (λ (l : List (Seen g.row.O.Denot)). IsFound cells_count l c.args.at c.find-index.result.0 c.find-index.result.1) c.deref.ensures.value c.find-index.ensures), ap length c.in_ok-left.ensures.right, ap length c.in_ok-low.ensures.back, length-drop (c.args.at - c.find-index.result.1) c.take_kid-kid.result.cells) }

pub returns-clause-front : goal.returns-clause-front
returns-clause-front g t c =
    c.in_ok-append.ensures ∙ ap₂ (λ (a b : List (Option g.row.O.Denot)). a ++ b) c.in_ok-left.ensures.left c.in_ok-low.ensures.front ∙ sym (front_half c.args.self c.in_ok-kids.kids.height c.in_ok-kids.kids.trees.items c.in_ok-kids.ensures c.take_kid-kid.new.trees.items c.find-index.result.0 c.take_kid-kid.result c.take_kid-kid.ensures c.args.at c.find-index.result.1 (subst (λ (l : List (Seen g.row.O.Denot)). IsFound cells_count l c.args.at c.find-index.result.0 c.find-index.result.1) c.deref.ensures.value c.find-index.ensures))

pub returns-clause-back : goal.returns-clause-back
returns-clause-back g t c =
    c.in_ok-append-2.ensures ∙ ap₂ (λ (a b : List (Option g.row.O.Denot)). a ++ b) c.in_ok-low.ensures.back c.in_ok-left.ensures.right ∙ sym (back_half c.args.self c.in_ok-kids.kids.height c.in_ok-kids.kids.trees.items c.in_ok-kids.ensures c.take_kid-kid.new.trees.items c.find-index.result.0 c.take_kid-kid.result c.take_kid-kid.ensures c.args.at c.find-index.result.1 (subst (λ (l : List (Seen g.row.O.Denot)). IsFound cells_count l c.args.at c.find-index.result.0 c.find-index.result.1) c.deref.ensures.value c.find-index.ensures))
