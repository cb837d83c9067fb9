use Rattle.std.proofs.Common.{◌≡◌, ◌+◌, ◌-◌, ◌++◌, [], length, length-append, refl, sym, ap, ◌∙◌, arith}
use Rattle.std.proofs.lemmas.Result.{IfOk-weaker}
use Rattle.extent_map.specs.Leaves.{cells_in, all_cells}
use Rattle.extent_map.specs.Seen.{IsTwo, around}
use Rattle.extent_map.specs.declared.making.Two.{Two}
use Rattle.extent_map.proofs.LeafEdits.{length-cells_in, length-all_cells}
use Rattle.extent_map.proofs.Makes.{near_kid, hole_at, around_length, last_around, pushed_cells, pushed_leaf}
use Rattle.extent_map.proofs.tree.Tree.+push.Goals as goal

pub overflow_add-len : goal.overflow_add-len
overflow_add-len g t c =
    omega (arith, c.span.ensures, c.requires.fits)

pub of_piece-requires : goal.of_piece-requires
of_piece-requires g t c =
    c.requires.piece

pub same-self : goal.same-self
same-self g t c =
    refl

pub same-self-2 : goal.same-self-2
same-self-2 g t c =
    refl

pub leafed-requires : goal.leafed-requires
leafed-requires g t c =
    omega (arith, c.height-height.ensures.height, c.if-height-eq1.true)

pub add_at-requires-clause-pieces : goal.add_at-requires-clause-pieces
add_at-requires-clause-pieces g t c =
    c.in_ok-node.ensures.have.each

pub add_at-requires-clause-at : goal.add_at-requires-clause-at
add_at-requires-clause-at g t c =
    omega (arith, c.len-end.ensures, c.in_ok-node.pieces.ok)

pub add_at-requires-clause-reaches : goal.add_at-requires-clause-reaches
add_at-requires-clause-reaches g t c =
    c.requires.piece.reaches

pub add_at-requires-clause-fits : goal.add_at-requires-clause-fits
add_at-requires-clause-fits g t c =
    omega (arith, c.requires.fits, length-all_cells g.O.Origin.advanced g.O.Origin.reach c.in_ok-node.pieces.items, ap length c.in_ok-node.ensures.have.are)

pub leaves-requires-clause-leaf : goal.leaves-requires-clause-leaf
leaves-requires-clause-leaf g t c =
    pushed_leaf g.O.Origin.advanced g.O.Origin.reach c.args.self c.in_ok-node.pieces.items c.add_at.new.pieces.items c.len-end.result c.in_ok-add_at.field-0 (c.span.result + c.args.piece.len) c.args.piece c.in_ok-node.ensures (omega (arith, c.len-end.ensures, c.in_ok-node.pieces.ok)) c.in_ok-add_at.ensures (omega (arith, c.span.ensures))

pub leaves-requires-clause-fits : goal.leaves-requires-clause-fits
leaves-requires-clause-fits g t c =
    omega (arith, c.span.ensures, c.requires.fits)

pub returns-then-height-eq1-clause-two : goal.returns-then-height-eq1-clause-two
returns-then-height-eq1-clause-two g t c =
    let e : all_cells g.O.Origin.advanced c.add_at.new.pieces.items ≡ c.args.self.cells ++ cells_in g.O.Origin.advanced c.args.piece =
    pushed_cells g.O.Origin.advanced g.O.Origin.reach c.args.self c.in_ok-node.pieces.items c.add_at.new.pieces.items c.len-end.result c.in_ok-add_at.field-0 c.args.piece c.in_ok-node.ensures (omega (arith, c.len-end.ensures, c.in_ok-node.pieces.ok)) c.in_ok-add_at.ensures in
    IfOk-weaker c.leaves.result
    (λ (two : Two g.row.O.Denot). IsTwo (all_cells g.O.Origin.advanced c.add_at.new.pieces.items) 1 two.first two.second)
    (λ (two : Two g.row.O.Denot). IsTwo (c.args.self.cells ++ cells_in g.O.Origin.advanced c.args.piece) two.first.height two.first two.second)
    (λ two s. record { are = s.are ∙ e; height = refl; same = λ h. s.same h ∙ sym s.height })
    c.leaves.ensures

pub forked-requires : goal.forked-requires
forked-requires g t c =
    omega (arith, c.height-height.ensures.height, c.if-height-eq0.false, c.if-height-eq1.false)

pub overflow_sub-last : goal.overflow_sub-last
overflow_sub-last g t c =
    omega (arith, c.len-last.ensures, c.in_ok-kids.kids.trees.ok, c.in_ok-kids.ensures.two)

pub take_kid-kid-requires : goal.take_kid-kid-requires
take_kid-kid-requires g t c =
    omega (arith, c.len-last.ensures, c.in_ok-kids.kids.trees.ok, c.in_ok-kids.ensures.two)

pub push-requires : goal.push-requires
push-requires g t c κs within =
    (omega (arith, c.decreases, c.in_ok-kids.ensures.as_high, c.in_ok-kids.ensures.below.height, (near_kid c.args.self c.in_ok-kids.kids.height c.in_ok-kids.kids.trees.items c.take_kid-kid.new.trees.items (c.len-last.result - 1) c.take_kid-kid.result c.in_ok-kids.ensures c.take_kid-kid.ensures (omega (arith, c.len-last.ensures, c.in_ok-kids.kids.trees.ok, c.in_ok-kids.ensures.two))).height), (within, (c.requires.piece, omega (arith, c.requires.fits, around_length c.args.self c.in_ok-kids.kids.height c.in_ok-kids.kids.trees.items c.take_kid-kid.new.trees.items (c.len-last.result - 1) c.take_kid-kid.result c.in_ok-kids.ensures c.take_kid-kid.ensures (omega (arith, c.len-last.ensures, c.in_ok-kids.kids.trees.ok, c.in_ok-kids.ensures.two)) []))))

pub over_two-requires-clause-open : goal.over_two-requires-clause-open
over_two-requires-clause-open g t c =
    hole_at c.args.self c.in_ok-kids.kids.height c.in_ok-kids.kids.trees.items c.take_kid-kid.new.trees.items (c.len-last.result - 1) c.take_kid-kid.result c.in_ok-kids.ensures c.take_kid-kid.ensures (omega (arith, c.len-last.ensures, c.in_ok-kids.kids.trees.ok, c.in_ok-kids.ensures.two))

pub over_two-requires-clause-two : goal.over_two-requires-clause-two
over_two-requires-clause-two g t c =
    record { are = refl; height = refl; same = c.in_ok-two.ensures.two.same }

pub over_two-requires-clause-high : goal.over_two-requires-clause-high
over_two-requires-clause-high g t c =
    omega (arith, c.in_ok-two.ensures.height (omega (arith, (near_kid c.args.self c.in_ok-kids.kids.height c.in_ok-kids.kids.trees.items c.take_kid-kid.new.trees.items (c.len-last.result - 1) c.take_kid-kid.result c.in_ok-kids.ensures c.take_kid-kid.ensures (omega (arith, c.len-last.ensures, c.in_ok-kids.kids.trees.ok, c.in_ok-kids.ensures.two))).height, (near_kid c.args.self c.in_ok-kids.kids.height c.in_ok-kids.kids.trees.items c.take_kid-kid.new.trees.items (c.len-last.result - 1) c.take_kid-kid.result c.in_ok-kids.ensures c.take_kid-kid.ensures (omega (arith, c.len-last.ensures, c.in_ok-kids.kids.trees.ok, c.in_ok-kids.ensures.two))).high)), (near_kid c.args.self c.in_ok-kids.kids.height c.in_ok-kids.kids.trees.items c.take_kid-kid.new.trees.items (c.len-last.result - 1) c.take_kid-kid.result c.in_ok-kids.ensures c.take_kid-kid.ensures (omega (arith, c.len-last.ensures, c.in_ok-kids.kids.trees.ok, c.in_ok-kids.ensures.two))).height, c.in_ok-kids.ensures.below.height)

pub over_two-requires-clause-some : goal.over_two-requires-clause-some
over_two-requires-clause-some g t c =
    omega (arith, c.in_ok-two.ensures.height (omega (arith, (near_kid c.args.self c.in_ok-kids.kids.height c.in_ok-kids.kids.trees.items c.take_kid-kid.new.trees.items (c.len-last.result - 1) c.take_kid-kid.result c.in_ok-kids.ensures c.take_kid-kid.ensures (omega (arith, c.len-last.ensures, c.in_ok-kids.kids.trees.ok, c.in_ok-kids.ensures.two))).height, (near_kid c.args.self c.in_ok-kids.kids.height c.in_ok-kids.kids.trees.items c.take_kid-kid.new.trees.items (c.len-last.result - 1) c.take_kid-kid.result c.in_ok-kids.ensures c.take_kid-kid.ensures (omega (arith, c.len-last.ensures, c.in_ok-kids.kids.trees.ok, c.in_ok-kids.ensures.two))).high)), (near_kid c.args.self c.in_ok-kids.kids.height c.in_ok-kids.kids.trees.items c.take_kid-kid.new.trees.items (c.len-last.result - 1) c.take_kid-kid.result c.in_ok-kids.ensures c.take_kid-kid.ensures (omega (arith, c.len-last.ensures, c.in_ok-kids.kids.trees.ok, c.in_ok-kids.ensures.two))).height, (near_kid c.args.self c.in_ok-kids.kids.height c.in_ok-kids.kids.trees.items c.take_kid-kid.new.trees.items (c.len-last.result - 1) c.take_kid-kid.result c.in_ok-kids.ensures c.take_kid-kid.ensures (omega (arith, c.len-last.ensures, c.in_ok-kids.kids.trees.ok, c.in_ok-kids.ensures.two))).high)

pub over_two-requires-clause-count : goal.over_two-requires-clause-count
over_two-requires-clause-count g t c =
    omega (arith, c.span.ensures, ap length (ap (around (c.len-last.result - 1) c.take_kid-kid.new.trees.items) c.in_ok-two.ensures.two.are ∙ last_around c.args.self c.in_ok-kids.kids.height c.in_ok-kids.kids.trees.items c.take_kid-kid.new.trees.items (c.len-last.result - 1) c.take_kid-kid.result c.in_ok-kids.ensures c.take_kid-kid.ensures (omega (arith, c.len-last.ensures, c.in_ok-kids.kids.trees.ok, c.in_ok-kids.ensures.two)) (omega (arith, c.len-last.ensures, c.in_ok-kids.kids.trees.ok, c.in_ok-kids.ensures.two)) (cells_in g.O.Origin.advanced c.args.piece)), length-append c.args.self.cells (cells_in g.O.Origin.advanced c.args.piece), length-cells_in g.O.Origin.advanced g.O.Origin.reach c.args.piece)

pub over_two-requires-clause-fits : goal.over_two-requires-clause-fits
over_two-requires-clause-fits g t c =
    omega (arith, c.span.ensures, c.requires.fits)

pub returns-clause-two : goal.returns-clause-two
returns-clause-two g t c =
    let e : around (c.len-last.result - 1) c.take_kid-kid.new.trees.items (c.in_ok-two.two.first.cells ++ c.in_ok-two.two.second.cells) ≡ c.args.self.cells ++ cells_in g.O.Origin.advanced c.args.piece = ap (around (c.len-last.result - 1) c.take_kid-kid.new.trees.items) c.in_ok-two.ensures.two.are ∙ last_around c.args.self c.in_ok-kids.kids.height c.in_ok-kids.kids.trees.items c.take_kid-kid.new.trees.items (c.len-last.result - 1) c.take_kid-kid.result c.in_ok-kids.ensures c.take_kid-kid.ensures (omega (arith, c.len-last.ensures, c.in_ok-kids.kids.trees.ok, c.in_ok-kids.ensures.two)) (omega (arith, c.len-last.ensures, c.in_ok-kids.kids.trees.ok, c.in_ok-kids.ensures.two)) (cells_in g.O.Origin.advanced c.args.piece) in
    IfOk-weaker c.over_two.result
    (λ (two : Two g.row.O.Denot). IsTwo (around (c.len-last.result - 1) c.take_kid-kid.new.trees.items (c.in_ok-two.two.first.cells ++ c.in_ok-two.two.second.cells)) c.in_ok-kids.kids.height two.first two.second)
    (λ (two : Two g.row.O.Denot). IsTwo (c.args.self.cells ++ cells_in g.O.Origin.advanced c.args.piece) two.first.height two.first two.second)
    (λ two s. record { are = s.are ∙ e; height = refl; same = λ h. s.same h ∙ sym s.height })
    c.over_two.ensures
