use Rattle.std.proofs.Common.{◌≡◌, ◌-◌, ◌++◌, [], max, length, length-append, refl, sym, ap, ◌∙◌, arith}
use Rattle.std.proofs.lemmas.Result.{IfOk-weaker}
use Rattle.extent_map.specs.Seen.{IsTwo, around}
use Rattle.extent_map.specs.declared.making.Two.{Two}
use Rattle.extent_map.proofs.Makes.{near_kid, hole_at, around_length, last_around, first_around}
use Rattle.extent_map.proofs.joining.+join.Goals as goal

pub overflow_add-len : goal.overflow_add-len
overflow_add-len g t c = omega (arith, c.span.ensures, c.span-2.ensures, c.requires.fits)

pub same-left : goal.same-left
same-left g t c = refl

pub same-right : goal.same-right
same-right g t c = refl

pub same-right-then-low-high-2 : goal.same-right-then-low-high-2
same-right-then-low-high-2 g t c = refl

pub same-left-then-low-high-2 : goal.same-left-then-low-high-2
same-left-then-low-high-2 g t c = refl

pub same-left-2 : goal.same-left-2
same-left-2 g t c = refl

pub same-right-2 : goal.same-right-2
same-right-2 g t c = refl

pub join_level-requires-clause-some : goal.join_level-requires-clause-some
join_level-requires-clause-some g t c = c.requires.some_left

pub join_level-requires-clause-level : goal.join_level-requires-clause-level
join_level-requires-clause-level g t c = omega (arith, c.if-low-high.false, c.if-low-high-2.false, c.height-low.ensures.height, c.height-high.ensures.height)

pub join_level-requires-clause-fits : goal.join_level-requires-clause-fits
join_level-requires-clause-fits g t c = c.requires.fits

pub returns : goal.returns
returns g t c =
    let m : c.args.left.height ≡ max c.args.left.height c.args.right.height = omega (arith, c.if-low-high.false, c.if-low-high-2.false, c.height-low.ensures.height, c.height-high.ensures.height) in
    IfOk-weaker c.join_level.result
    (λ (two : Two g.row.O.Denot). IsTwo (c.args.left.cells ++ c.args.right.cells) c.args.left.height two.first two.second)
    (λ (two : Two g.row.O.Denot). IsTwo (c.args.left.cells ++ c.args.right.cells) (max c.args.left.height c.args.right.height) two.first two.second)
    (λ two s. record { are = s.are; height = s.height ∙ m; same = λ h. s.same h ∙ m })
    c.join_level.ensures

pub forked-requires : goal.forked-requires
forked-requires g t c =
    omega (arith, c.if-low-high.true, c.height-low.ensures.height, c.height-high.ensures.height, c.requires.some_left, c.requires.some_right)

pub overflow_sub-last : goal.overflow_sub-last
overflow_sub-last g t c =
    omega (arith, c.len-last.ensures, c.in_ok-kids.kids.trees.ok, c.in_ok-kids.ensures.two)

pub take_kid-near-requires : goal.take_kid-near-requires
take_kid-near-requires g t c =
    omega (arith, c.len-last.ensures, c.in_ok-kids.kids.trees.ok, c.in_ok-kids.ensures.two)

pub join-requires : goal.join-requires
join-requires g t c κs within =
    (omega (arith, c.decreases, c.in_ok-kids.ensures.as_high, c.in_ok-kids.ensures.below.height, (near_kid c.args.left c.in_ok-kids.kids.height c.in_ok-kids.kids.trees.items c.take_kid-near.new.trees.items (c.len-last.result - 1) c.take_kid-near.result c.in_ok-kids.ensures c.take_kid-near.ensures (omega (arith, c.len-last.ensures, c.in_ok-kids.kids.trees.ok, c.in_ok-kids.ensures.two))).height), (within, (omega (arith, (near_kid c.args.left c.in_ok-kids.kids.height c.in_ok-kids.kids.trees.items c.take_kid-near.new.trees.items (c.len-last.result - 1) c.take_kid-near.result c.in_ok-kids.ensures c.take_kid-near.ensures (omega (arith, c.len-last.ensures, c.in_ok-kids.kids.trees.ok, c.in_ok-kids.ensures.two))).height, (near_kid c.args.left c.in_ok-kids.kids.height c.in_ok-kids.kids.trees.items c.take_kid-near.new.trees.items (c.len-last.result - 1) c.take_kid-near.result c.in_ok-kids.ensures c.take_kid-near.ensures (omega (arith, c.len-last.ensures, c.in_ok-kids.kids.trees.ok, c.in_ok-kids.ensures.two))).high), (c.requires.some_right, omega (arith, c.requires.fits, around_length c.args.left c.in_ok-kids.kids.height c.in_ok-kids.kids.trees.items c.take_kid-near.new.trees.items (c.len-last.result - 1) c.take_kid-near.result c.in_ok-kids.ensures c.take_kid-near.ensures (omega (arith, c.len-last.ensures, c.in_ok-kids.kids.trees.ok, c.in_ok-kids.ensures.two)) [])))))

pub over_two-requires-clause-open : goal.over_two-requires-clause-open
over_two-requires-clause-open g t c =
    hole_at c.args.left c.in_ok-kids.kids.height c.in_ok-kids.kids.trees.items c.take_kid-near.new.trees.items (c.len-last.result - 1) c.take_kid-near.result c.in_ok-kids.ensures c.take_kid-near.ensures (omega (arith, c.len-last.ensures, c.in_ok-kids.kids.trees.ok, c.in_ok-kids.ensures.two))

pub over_two-requires-clause-two : goal.over_two-requires-clause-two
over_two-requires-clause-two g t c =
    record { are = refl; height = refl; same = λ h. c.in_ok-two.ensures.same h ∙ sym c.in_ok-two.ensures.height }

pub over_two-requires-clause-high : goal.over_two-requires-clause-high
over_two-requires-clause-high g t c =
    omega (arith, c.in_ok-two.ensures.height, (near_kid c.args.left c.in_ok-kids.kids.height c.in_ok-kids.kids.trees.items c.take_kid-near.new.trees.items (c.len-last.result - 1) c.take_kid-near.result c.in_ok-kids.ensures c.take_kid-near.ensures (omega (arith, c.len-last.ensures, c.in_ok-kids.kids.trees.ok, c.in_ok-kids.ensures.two))).height, c.in_ok-kids.ensures.below.height, c.in_ok-kids.ensures.as_high, c.if-low-high.true, c.height-low.ensures.height, c.height-high.ensures.height)

pub over_two-requires-clause-some : goal.over_two-requires-clause-some
over_two-requires-clause-some g t c =
    omega (arith, c.in_ok-two.ensures.height, (near_kid c.args.left c.in_ok-kids.kids.height c.in_ok-kids.kids.trees.items c.take_kid-near.new.trees.items (c.len-last.result - 1) c.take_kid-near.result c.in_ok-kids.ensures c.take_kid-near.ensures (omega (arith, c.len-last.ensures, c.in_ok-kids.kids.trees.ok, c.in_ok-kids.ensures.two))).height, (near_kid c.args.left c.in_ok-kids.kids.height c.in_ok-kids.kids.trees.items c.take_kid-near.new.trees.items (c.len-last.result - 1) c.take_kid-near.result c.in_ok-kids.ensures c.take_kid-near.ensures (omega (arith, c.len-last.ensures, c.in_ok-kids.kids.trees.ok, c.in_ok-kids.ensures.two))).high, c.in_ok-kids.ensures.below.height)

pub over_two-requires-clause-count : goal.over_two-requires-clause-count
over_two-requires-clause-count g t c =
    omega (arith, c.span.ensures, c.span-2.ensures, ap length (ap (around (c.len-last.result - 1) c.take_kid-near.new.trees.items) c.in_ok-two.ensures.are ∙ last_around c.args.left c.in_ok-kids.kids.height c.in_ok-kids.kids.trees.items c.take_kid-near.new.trees.items (c.len-last.result - 1) c.take_kid-near.result c.in_ok-kids.ensures c.take_kid-near.ensures (omega (arith, c.len-last.ensures, c.in_ok-kids.kids.trees.ok, c.in_ok-kids.ensures.two)) (omega (arith, c.len-last.ensures, c.in_ok-kids.kids.trees.ok, c.in_ok-kids.ensures.two)) c.args.right.cells), length-append c.args.left.cells c.args.right.cells)

pub over_two-requires-clause-fits : goal.over_two-requires-clause-fits
over_two-requires-clause-fits g t c =
    omega (arith, c.span.ensures, c.span-2.ensures, c.requires.fits)

pub returns-then-low-high : goal.returns-then-low-high
returns-then-low-high g t c =
    let e : around (c.len-last.result - 1) c.take_kid-near.new.trees.items (c.in_ok-two.two.first.cells ++ c.in_ok-two.two.second.cells) ≡ c.args.left.cells ++ c.args.right.cells = ap (around (c.len-last.result - 1) c.take_kid-near.new.trees.items) c.in_ok-two.ensures.are ∙ last_around c.args.left c.in_ok-kids.kids.height c.in_ok-kids.kids.trees.items c.take_kid-near.new.trees.items (c.len-last.result - 1) c.take_kid-near.result c.in_ok-kids.ensures c.take_kid-near.ensures (omega (arith, c.len-last.ensures, c.in_ok-kids.kids.trees.ok, c.in_ok-kids.ensures.two)) (omega (arith, c.len-last.ensures, c.in_ok-kids.kids.trees.ok, c.in_ok-kids.ensures.two)) c.args.right.cells in
    let m : c.in_ok-kids.kids.height ≡ max c.args.left.height c.args.right.height = omega (arith, c.in_ok-kids.ensures.as_high, c.if-low-high.true, c.height-low.ensures.height, c.height-high.ensures.height) in
    IfOk-weaker c.over_two.result
    (λ (two : Two g.row.O.Denot). IsTwo (around (c.len-last.result - 1) c.take_kid-near.new.trees.items (c.in_ok-two.two.first.cells ++ c.in_ok-two.two.second.cells)) c.in_ok-kids.kids.height two.first two.second)
    (λ (two : Two g.row.O.Denot). IsTwo (c.args.left.cells ++ c.args.right.cells) (max c.args.left.height c.args.right.height) two.first two.second)
    (λ two s. record { are = s.are ∙ e; height = s.height ∙ m; same = λ h. s.same h ∙ m })
    c.over_two.ensures

pub forked-requires-then-low-high-2 : goal.forked-requires-then-low-high-2
forked-requires-then-low-high-2 g t c =
    omega (arith, c.if-low-high-2.true, c.height-low.ensures.height, c.height-high.ensures.height, c.requires.some_left, c.requires.some_right)

pub take_kid-near-requires-then-low-high-2 : goal.take_kid-near-requires-then-low-high-2
take_kid-near-requires-then-low-high-2 g t c =
    omega (arith, c.in_ok-kids-2.kids.trees.ok, c.in_ok-kids-2.ensures.two)

pub join-requires-then-low-high-2 : goal.join-requires-then-low-high-2
join-requires-then-low-high-2 g t c κs within =
    (omega (arith, c.decreases, c.in_ok-kids-2.ensures.as_high, c.in_ok-kids-2.ensures.below.height, (near_kid c.args.right c.in_ok-kids-2.kids.height c.in_ok-kids-2.kids.trees.items c.take_kid-near-then-low-high-2.new.trees.items 0 c.take_kid-near-then-low-high-2.result c.in_ok-kids-2.ensures c.take_kid-near-then-low-high-2.ensures (omega (arith, c.in_ok-kids-2.kids.trees.ok, c.in_ok-kids-2.ensures.two))).height), (within, (c.requires.some_left, (omega (arith, (near_kid c.args.right c.in_ok-kids-2.kids.height c.in_ok-kids-2.kids.trees.items c.take_kid-near-then-low-high-2.new.trees.items 0 c.take_kid-near-then-low-high-2.result c.in_ok-kids-2.ensures c.take_kid-near-then-low-high-2.ensures (omega (arith, c.in_ok-kids-2.kids.trees.ok, c.in_ok-kids-2.ensures.two))).height, (near_kid c.args.right c.in_ok-kids-2.kids.height c.in_ok-kids-2.kids.trees.items c.take_kid-near-then-low-high-2.new.trees.items 0 c.take_kid-near-then-low-high-2.result c.in_ok-kids-2.ensures c.take_kid-near-then-low-high-2.ensures (omega (arith, c.in_ok-kids-2.kids.trees.ok, c.in_ok-kids-2.ensures.two))).high), omega (arith, c.requires.fits, around_length c.args.right c.in_ok-kids-2.kids.height c.in_ok-kids-2.kids.trees.items c.take_kid-near-then-low-high-2.new.trees.items 0 c.take_kid-near-then-low-high-2.result c.in_ok-kids-2.ensures c.take_kid-near-then-low-high-2.ensures (omega (arith, c.in_ok-kids-2.kids.trees.ok, c.in_ok-kids-2.ensures.two)) [])))))

pub over_two-requires-then-low-high-2-clause-open : goal.over_two-requires-then-low-high-2-clause-open
over_two-requires-then-low-high-2-clause-open g t c =
    hole_at c.args.right c.in_ok-kids-2.kids.height c.in_ok-kids-2.kids.trees.items c.take_kid-near-then-low-high-2.new.trees.items 0 c.take_kid-near-then-low-high-2.result c.in_ok-kids-2.ensures c.take_kid-near-then-low-high-2.ensures (omega (arith, c.in_ok-kids-2.kids.trees.ok, c.in_ok-kids-2.ensures.two))

pub over_two-requires-then-low-high-2-clause-two : goal.over_two-requires-then-low-high-2-clause-two
over_two-requires-then-low-high-2-clause-two g t c =
    record { are = refl; height = refl; same = λ h. c.in_ok-two-2.ensures.same h ∙ sym c.in_ok-two-2.ensures.height }

pub over_two-requires-then-low-high-2-clause-high : goal.over_two-requires-then-low-high-2-clause-high
over_two-requires-then-low-high-2-clause-high g t c =
    omega (arith, c.in_ok-two-2.ensures.height, (near_kid c.args.right c.in_ok-kids-2.kids.height c.in_ok-kids-2.kids.trees.items c.take_kid-near-then-low-high-2.new.trees.items 0 c.take_kid-near-then-low-high-2.result c.in_ok-kids-2.ensures c.take_kid-near-then-low-high-2.ensures (omega (arith, c.in_ok-kids-2.kids.trees.ok, c.in_ok-kids-2.ensures.two))).height, c.in_ok-kids-2.ensures.below.height, c.in_ok-kids-2.ensures.as_high, c.if-low-high-2.true, c.height-low.ensures.height, c.height-high.ensures.height)

pub over_two-requires-then-low-high-2-clause-some : goal.over_two-requires-then-low-high-2-clause-some
over_two-requires-then-low-high-2-clause-some g t c =
    omega (arith, c.in_ok-two-2.ensures.height, (near_kid c.args.right c.in_ok-kids-2.kids.height c.in_ok-kids-2.kids.trees.items c.take_kid-near-then-low-high-2.new.trees.items 0 c.take_kid-near-then-low-high-2.result c.in_ok-kids-2.ensures c.take_kid-near-then-low-high-2.ensures (omega (arith, c.in_ok-kids-2.kids.trees.ok, c.in_ok-kids-2.ensures.two))).height, (near_kid c.args.right c.in_ok-kids-2.kids.height c.in_ok-kids-2.kids.trees.items c.take_kid-near-then-low-high-2.new.trees.items 0 c.take_kid-near-then-low-high-2.result c.in_ok-kids-2.ensures c.take_kid-near-then-low-high-2.ensures (omega (arith, c.in_ok-kids-2.kids.trees.ok, c.in_ok-kids-2.ensures.two))).high, c.in_ok-kids-2.ensures.below.height)

pub over_two-requires-then-low-high-2-clause-count : goal.over_two-requires-then-low-high-2-clause-count
over_two-requires-then-low-high-2-clause-count g t c =
    omega (arith, c.span.ensures, c.span-2.ensures, ap length (ap (around 0 c.take_kid-near-then-low-high-2.new.trees.items) c.in_ok-two-2.ensures.are ∙ first_around c.args.right c.in_ok-kids-2.kids.height c.in_ok-kids-2.kids.trees.items c.take_kid-near-then-low-high-2.new.trees.items 0 c.take_kid-near-then-low-high-2.result c.in_ok-kids-2.ensures c.take_kid-near-then-low-high-2.ensures (omega (arith, c.in_ok-kids-2.kids.trees.ok, c.in_ok-kids-2.ensures.two)) refl c.args.left.cells), length-append c.args.left.cells c.args.right.cells)

pub over_two-requires-then-low-high-2-clause-fits : goal.over_two-requires-then-low-high-2-clause-fits
over_two-requires-then-low-high-2-clause-fits g t c =
    omega (arith, c.span.ensures, c.span-2.ensures, c.requires.fits)

pub returns-then-low-high-2 : goal.returns-then-low-high-2
returns-then-low-high-2 g t c =
    let e : around 0 c.take_kid-near-then-low-high-2.new.trees.items (c.in_ok-two-2.two.first.cells ++ c.in_ok-two-2.two.second.cells) ≡ c.args.left.cells ++ c.args.right.cells = ap (around 0 c.take_kid-near-then-low-high-2.new.trees.items) c.in_ok-two-2.ensures.are ∙ first_around c.args.right c.in_ok-kids-2.kids.height c.in_ok-kids-2.kids.trees.items c.take_kid-near-then-low-high-2.new.trees.items 0 c.take_kid-near-then-low-high-2.result c.in_ok-kids-2.ensures c.take_kid-near-then-low-high-2.ensures (omega (arith, c.in_ok-kids-2.kids.trees.ok, c.in_ok-kids-2.ensures.two)) refl c.args.left.cells in
    let m : c.in_ok-kids-2.kids.height ≡ max c.args.left.height c.args.right.height = omega (arith, c.in_ok-kids-2.ensures.as_high, c.if-low-high-2.true, c.height-low.ensures.height, c.height-high.ensures.height) in
    IfOk-weaker c.over_two-then-low-high-2.result
    (λ (two : Two g.row.O.Denot). IsTwo (around 0 c.take_kid-near-then-low-high-2.new.trees.items (c.in_ok-two-2.two.first.cells ++ c.in_ok-two-2.two.second.cells)) c.in_ok-kids-2.kids.height two.first two.second)
    (λ (two : Two g.row.O.Denot). IsTwo (c.args.left.cells ++ c.args.right.cells) (max c.args.left.height c.args.right.height) two.first two.second)
    (λ two s. record { are = s.are ∙ e; height = s.height ∙ m; same = λ h. s.same h ∙ m })
    c.over_two-then-low-high-2.ensures
