use Rattle.std.proofs.Common.{◌≡◌, ◌++◌, [], List, Option, length, refl, sym, ap, ◌∙◌, subst, arith}
use Rattle.std.specs.List.{sum_by}
use Rattle.std.proofs.lemmas.Result.{IfOk-weaker}
use Rattle.extent_map.specs.Leaves.{all_cells, cells_in, overwritten, HaveCells}
use Rattle.extent_map.specs.Parts.{IsFound}
use Rattle.extent_map.specs.declared.making.Two.{Two}
use Rattle.extent_map.specs.Seen.{Seen, cells_count, around, IsTwo}
use Rattle.extent_map.proofs.LeafEdits.{length-all_cells, length-cells_in}
use Rattle.extent_map.proofs.Spans.{found_below, found_part}
use Rattle.extent_map.proofs.Makes.{near_kid, hole_at, around_length}
use Rattle.extent_map.proofs.Halves.{kids_sum, near_is, length-overwritten, written_leaf, overwritten_within}
use Rattle.extent_map.proofs.tree.Tree.+put.Goals as goal

pub leafed-requires : goal.leafed-requires
leafed-requires g t c =
    omega (arith, c.height.ensures.height, c.if-height-eq1.true)

pub write_over-requires-clause-pieces : goal.write_over-requires-clause-pieces
write_over-requires-clause-pieces g t c =
    c.in_ok-node.ensures.have.each

pub write_over-requires-clause-some : goal.write_over-requires-clause-some
write_over-requires-clause-some g t c =
    c.requires.piece.some

pub write_over-requires-clause-reaches : goal.write_over-requires-clause-reaches
write_over-requires-clause-reaches g t c =
    c.requires.piece.reaches

pub write_over-requires-clause-within : goal.write_over-requires-clause-within
write_over-requires-clause-within g t c =
    omega (arith, c.requires.within, length-all_cells g.O.Origin.advanced g.O.Origin.reach c.in_ok-node.pieces.items, ap length c.in_ok-node.ensures.have.are)

pub write_over-requires-clause-fits : goal.write_over-requires-clause-fits
write_over-requires-clause-fits g t c =
    omega (arith, c.requires.fits, length-all_cells g.O.Origin.advanced g.O.Origin.reach c.in_ok-node.pieces.items, ap length c.in_ok-node.ensures.have.are)

pub leaves-requires-clause-leaf : goal.leaves-requires-clause-leaf
leaves-requires-clause-leaf g t c =
    written_leaf g.O.Origin.advanced g.O.Origin.reach (overwritten c.args.at (cells_in g.O.Origin.advanced c.args.piece) c.args.self.cells) c.write_over.new.pieces.items c.span-len.result (subst (λ (l : List (Option g.row.O.Denot)). HaveCells g.O.Origin.advanced g.O.Origin.reach (overwritten c.args.at (cells_in g.O.Origin.advanced c.args.piece) l) c.write_over.new.pieces.items) c.in_ok-node.ensures.have.are c.in_ok-write_over.ensures) (omega (arith, c.span-len.ensures, length-overwritten c.args.at (cells_in g.O.Origin.advanced c.args.piece) c.args.self.cells (omega (arith, c.requires.within, length-cells_in g.O.Origin.advanced g.O.Origin.reach c.args.piece)))) (omega (arith, c.span-len.ensures, c.requires.within, c.requires.piece.some))

pub leaves-requires-clause-fits : goal.leaves-requires-clause-fits
leaves-requires-clause-fits g t c =
    omega (arith, c.span-len.ensures, c.requires.fits)

pub returns-then-height-eq1 : goal.returns-then-height-eq1
returns-then-height-eq1 g t c =
    IfOk-weaker c.leaves.result
    (λ (two : Two g.row.O.Denot). IsTwo (all_cells g.O.Origin.advanced c.write_over.new.pieces.items) 1 two.first two.second)
    (λ (two : Two g.row.O.Denot). IsTwo (overwritten c.args.at (cells_in g.O.Origin.advanced c.args.piece) c.args.self.cells) two.first.height two.first two.second)
    (λ two s. record { are = s.are ∙ (subst (λ (l : List (Option g.row.O.Denot)). HaveCells g.O.Origin.advanced g.O.Origin.reach (overwritten c.args.at (cells_in g.O.Origin.advanced c.args.piece) l) c.write_over.new.pieces.items) c.in_ok-node.ensures.have.are c.in_ok-write_over.ensures).are; height = refl; same = λ h. s.same h ∙ sym s.height })
    c.leaves.ensures

pub forked-requires : goal.forked-requires
forked-requires g t c =
    let none : c.args.self.height ≡ 0 → ⊥ = λ e. absurd (omega (arith, ap length (c.height.ensures.none e), c.requires.within, c.requires.piece.some)) in
    omega (arith, none, c.height.ensures.height, c.if-height-eq1.false)

pub find-index-requires-clause-within : goal.find-index-requires-clause-within
find-index-requires-clause-within g t c =
    omega (arith, c.requires.within, c.requires.piece.some, ap (sum_by (cells_count {O = g.row.O.Denot})) c.deref.ensures.value, kids_sum c.args.self c.in_ok-kids.kids.height c.in_ok-kids.kids.trees.items c.in_ok-kids.ensures)

pub find-index-requires-clause-fits : goal.find-index-requires-clause-fits
find-index-requires-clause-fits g t c =
    omega (arith, c.requires.fits, ap (sum_by (cells_count {O = g.row.O.Denot})) c.deref.ensures.value, kids_sum c.args.self c.in_ok-kids.kids.height c.in_ok-kids.kids.trees.items c.in_ok-kids.ensures)

pub index-requires : goal.index-requires
index-requires g t c =
    omega (arith, found_below cells_count c.in_ok-kids.kids.trees.items c.args.at c.find-index.result.0 c.find-index.result.1 (subst (λ (l : List (Seen g.row.O.Denot)). IsFound cells_count l c.args.at c.find-index.result.0 c.find-index.result.1) c.deref.ensures.value c.find-index.ensures), c.in_ok-kids.kids.trees.ok)

pub any-requires-clause-below : goal.any-requires-clause-below
any-requires-clause-below g t c =
    c.in_ok-kids.ensures.below

pub any-requires-clause-fits : goal.any-requires-clause-fits
any-requires-clause-fits g t c =
    omega (arith, c.requires.fits, kids_sum c.args.self c.in_ok-kids.kids.height c.in_ok-kids.kids.trees.items c.in_ok-kids.ensures)

pub across-requires-clause-piece : goal.across-requires-clause-piece
across-requires-clause-piece g t c =
    c.requires.piece

pub across-requires-clause-within : goal.across-requires-clause-within
across-requires-clause-within g t c =
    omega (arith, c.requires.within, ap length (c.in_ok-whole.ensures ∙ c.in_ok-kids.ensures.are))

pub across-requires-clause-fits : goal.across-requires-clause-fits
across-requires-clause-fits g t c =
    omega (arith, c.requires.fits, ap length (c.in_ok-whole.ensures ∙ c.in_ok-kids.ensures.are))

pub take_kid-kid-requires : goal.take_kid-kid-requires
take_kid-kid-requires g t c =
    found_below cells_count c.in_ok-kids.kids.trees.items c.args.at c.find-index.result.0 c.find-index.result.1 (subst (λ (l : List (Seen g.row.O.Denot)). IsFound cells_count l c.args.at c.find-index.result.0 c.find-index.result.1) c.deref.ensures.value c.find-index.ensures)

pub overflow_sub-at : goal.overflow_sub-at
overflow_sub-at g t c =
    c.find-index.ensures.from

pub put-requires : goal.put-requires
put-requires g t c κs within =
    (omega (arith, c.decreases, c.in_ok-kids.ensures.as_high, c.in_ok-kids.ensures.below.height, (near_kid c.args.self c.in_ok-kids.kids.height c.in_ok-kids.kids.trees.items c.take_kid-kid.new.trees.items c.find-index.result.0 c.take_kid-kid.result c.in_ok-kids.ensures c.take_kid-kid.ensures (found_below cells_count c.in_ok-kids.kids.trees.items c.args.at c.find-index.result.0 c.find-index.result.1 (subst (λ (l : List (Seen g.row.O.Denot)). IsFound cells_count l c.args.at c.find-index.result.0 c.find-index.result.1) c.deref.ensures.value c.find-index.ensures))).height), (within, (c.requires.piece, (omega (arith, ap (λ (k : Seen g.row.O.Denot). length k.cells) (found_part cells_count c.in_ok-kids.kids.trees.items c.args.at c.find-index.result.0 c.find-index.result.1 (subst (λ (l : List (Seen g.row.O.Denot)). IsFound cells_count l c.args.at c.find-index.result.0 c.find-index.result.1) c.deref.ensures.value c.find-index.ensures) c.index.result.now c.index.ensures), ap (λ (k : Seen g.row.O.Denot). length k.cells) (near_is c.args.self c.in_ok-kids.kids.height c.in_ok-kids.kids.trees.items c.in_ok-kids.ensures c.take_kid-kid.new.trees.items c.find-index.result.0 c.take_kid-kid.result c.take_kid-kid.ensures c.args.at c.find-index.result.1 (subst (λ (l : List (Seen g.row.O.Denot)). IsFound cells_count l c.args.at c.find-index.result.0 c.find-index.result.1) c.deref.ensures.value c.find-index.ensures)), c.span.ensures, c.if-at-piece.false, c.find-index.ensures.from), omega (arith, c.requires.fits, around_length c.args.self c.in_ok-kids.kids.height c.in_ok-kids.kids.trees.items c.take_kid-kid.new.trees.items c.find-index.result.0 c.take_kid-kid.result c.in_ok-kids.ensures c.take_kid-kid.ensures (found_below cells_count c.in_ok-kids.kids.trees.items c.args.at c.find-index.result.0 c.find-index.result.1 (subst (λ (l : List (Seen g.row.O.Denot)). IsFound cells_count l c.args.at c.find-index.result.0 c.find-index.result.1) c.deref.ensures.value c.find-index.ensures)) [])))))

pub over_two-requires-clause-open : goal.over_two-requires-clause-open
over_two-requires-clause-open g t c =
    hole_at c.args.self c.in_ok-kids.kids.height c.in_ok-kids.kids.trees.items c.take_kid-kid.new.trees.items c.find-index.result.0 c.take_kid-kid.result c.in_ok-kids.ensures c.take_kid-kid.ensures (found_below cells_count c.in_ok-kids.kids.trees.items c.args.at c.find-index.result.0 c.find-index.result.1 (subst (λ (l : List (Seen g.row.O.Denot)). IsFound cells_count l c.args.at c.find-index.result.0 c.find-index.result.1) c.deref.ensures.value c.find-index.ensures))

pub over_two-requires-clause-two : goal.over_two-requires-clause-two
over_two-requires-clause-two g t c =
    record { are = refl; height = refl; same = c.in_ok-two.ensures.same }

pub over_two-requires-clause-high : goal.over_two-requires-clause-high
over_two-requires-clause-high g t c =
    omega (arith, c.if-height-kids.true, c.height-2.ensures.height, c.in_ok-kids.ensures.below.height)

pub over_two-requires-clause-some : goal.over_two-requires-clause-some
over_two-requires-clause-some g t c =
    omega (arith, c.if-height-kids.true, c.height-2.ensures.height, c.in_ok-kids.ensures.below.height, (near_kid c.args.self c.in_ok-kids.kids.height c.in_ok-kids.kids.trees.items c.take_kid-kid.new.trees.items c.find-index.result.0 c.take_kid-kid.result c.in_ok-kids.ensures c.take_kid-kid.ensures (found_below cells_count c.in_ok-kids.kids.trees.items c.args.at c.find-index.result.0 c.find-index.result.1 (subst (λ (l : List (Seen g.row.O.Denot)). IsFound cells_count l c.args.at c.find-index.result.0 c.find-index.result.1) c.deref.ensures.value c.find-index.ensures))).high)

pub over_two-requires-clause-count : goal.over_two-requires-clause-count
over_two-requires-clause-count g t c =
    omega (arith, c.span-len.ensures, ap length (ap (around c.find-index.result.0 c.take_kid-kid.new.trees.items) c.in_ok-two.ensures.are ∙ overwritten_within c.args.self c.in_ok-kids.kids.height c.in_ok-kids.kids.trees.items c.in_ok-kids.ensures c.take_kid-kid.new.trees.items c.find-index.result.0 c.take_kid-kid.result c.take_kid-kid.ensures c.args.at c.find-index.result.1 (subst (λ (l : List (Seen g.row.O.Denot)). IsFound cells_count l c.args.at c.find-index.result.0 c.find-index.result.1) c.deref.ensures.value c.find-index.ensures) (cells_in g.O.Origin.advanced c.args.piece) (omega (arith, length-cells_in g.O.Origin.advanced g.O.Origin.reach c.args.piece, ap (λ (k : Seen g.row.O.Denot). length k.cells) (found_part cells_count c.in_ok-kids.kids.trees.items c.args.at c.find-index.result.0 c.find-index.result.1 (subst (λ (l : List (Seen g.row.O.Denot)). IsFound cells_count l c.args.at c.find-index.result.0 c.find-index.result.1) c.deref.ensures.value c.find-index.ensures) c.index.result.now c.index.ensures), ap (λ (k : Seen g.row.O.Denot). length k.cells) (near_is c.args.self c.in_ok-kids.kids.height c.in_ok-kids.kids.trees.items c.in_ok-kids.ensures c.take_kid-kid.new.trees.items c.find-index.result.0 c.take_kid-kid.result c.take_kid-kid.ensures c.args.at c.find-index.result.1 (subst (λ (l : List (Seen g.row.O.Denot)). IsFound cells_count l c.args.at c.find-index.result.0 c.find-index.result.1) c.deref.ensures.value c.find-index.ensures)), c.span.ensures, c.if-at-piece.false, c.find-index.ensures.from))), length-overwritten c.args.at (cells_in g.O.Origin.advanced c.args.piece) c.args.self.cells (omega (arith, c.requires.within, length-cells_in g.O.Origin.advanced g.O.Origin.reach c.args.piece)))

pub over_two-requires-clause-fits : goal.over_two-requires-clause-fits
over_two-requires-clause-fits g t c =
    omega (arith, c.span-len.ensures, c.requires.fits)

pub root-requires-clause-two : goal.root-requires-clause-two
root-requires-clause-two g t c =
    record { are = refl; height = refl; same = c.in_ok-two.ensures.same }

pub root-requires-clause-fits : goal.root-requires-clause-fits
root-requires-clause-fits g t c =
    omega (arith, c.requires.fits, around_length c.args.self c.in_ok-kids.kids.height c.in_ok-kids.kids.trees.items c.take_kid-kid.new.trees.items c.find-index.result.0 c.take_kid-kid.result c.in_ok-kids.ensures c.take_kid-kid.ensures (found_below cells_count c.in_ok-kids.kids.trees.items c.args.at c.find-index.result.0 c.find-index.result.1 (subst (λ (l : List (Seen g.row.O.Denot)). IsFound cells_count l c.args.at c.find-index.result.0 c.find-index.result.1) c.deref.ensures.value c.find-index.ensures)) [], around_length c.args.self c.in_ok-kids.kids.height c.in_ok-kids.kids.trees.items c.take_kid-kid.new.trees.items c.find-index.result.0 c.take_kid-kid.result c.in_ok-kids.ensures c.take_kid-kid.ensures (found_below cells_count c.in_ok-kids.kids.trees.items c.args.at c.find-index.result.0 c.find-index.result.1 (subst (λ (l : List (Seen g.row.O.Denot)). IsFound cells_count l c.args.at c.find-index.result.0 c.find-index.result.1) c.deref.ensures.value c.find-index.ensures)) (c.in_ok-two.two.first.cells ++ c.in_ok-two.two.second.cells), ap length (ap (around c.find-index.result.0 c.take_kid-kid.new.trees.items) c.in_ok-two.ensures.are ∙ overwritten_within c.args.self c.in_ok-kids.kids.height c.in_ok-kids.kids.trees.items c.in_ok-kids.ensures c.take_kid-kid.new.trees.items c.find-index.result.0 c.take_kid-kid.result c.take_kid-kid.ensures c.args.at c.find-index.result.1 (subst (λ (l : List (Seen g.row.O.Denot)). IsFound cells_count l c.args.at c.find-index.result.0 c.find-index.result.1) c.deref.ensures.value c.find-index.ensures) (cells_in g.O.Origin.advanced c.args.piece) (omega (arith, length-cells_in g.O.Origin.advanced g.O.Origin.reach c.args.piece, ap (λ (k : Seen g.row.O.Denot). length k.cells) (found_part cells_count c.in_ok-kids.kids.trees.items c.args.at c.find-index.result.0 c.find-index.result.1 (subst (λ (l : List (Seen g.row.O.Denot)). IsFound cells_count l c.args.at c.find-index.result.0 c.find-index.result.1) c.deref.ensures.value c.find-index.ensures) c.index.result.now c.index.ensures), ap (λ (k : Seen g.row.O.Denot). length k.cells) (near_is c.args.self c.in_ok-kids.kids.height c.in_ok-kids.kids.trees.items c.in_ok-kids.ensures c.take_kid-kid.new.trees.items c.find-index.result.0 c.take_kid-kid.result c.take_kid-kid.ensures c.args.at c.find-index.result.1 (subst (λ (l : List (Seen g.row.O.Denot)). IsFound cells_count l c.args.at c.find-index.result.0 c.find-index.result.1) c.deref.ensures.value c.find-index.ensures)), c.span.ensures, c.if-at-piece.false, c.find-index.ensures.from))), length-overwritten c.args.at (cells_in g.O.Origin.advanced c.args.piece) c.args.self.cells (omega (arith, c.requires.within, length-cells_in g.O.Origin.advanced g.O.Origin.reach c.args.piece)))

pub around_it-requires-clause-open : goal.around_it-requires-clause-open
around_it-requires-clause-open g t c =
    hole_at c.args.self c.in_ok-kids.kids.height c.in_ok-kids.kids.trees.items c.take_kid-kid.new.trees.items c.find-index.result.0 c.take_kid-kid.result c.in_ok-kids.ensures c.take_kid-kid.ensures (found_below cells_count c.in_ok-kids.kids.trees.items c.args.at c.find-index.result.0 c.find-index.result.1 (subst (λ (l : List (Seen g.row.O.Denot)). IsFound cells_count l c.args.at c.find-index.result.0 c.find-index.result.1) c.deref.ensures.value c.find-index.ensures))

pub around_it-requires-clause-fits : goal.around_it-requires-clause-fits
around_it-requires-clause-fits g t c =
    omega (arith, c.requires.fits, ap length (ap (around c.find-index.result.0 c.take_kid-kid.new.trees.items) c.in_ok-lower.ensures ∙ ap (around c.find-index.result.0 c.take_kid-kid.new.trees.items) c.in_ok-two.ensures.are ∙ overwritten_within c.args.self c.in_ok-kids.kids.height c.in_ok-kids.kids.trees.items c.in_ok-kids.ensures c.take_kid-kid.new.trees.items c.find-index.result.0 c.take_kid-kid.result c.take_kid-kid.ensures c.args.at c.find-index.result.1 (subst (λ (l : List (Seen g.row.O.Denot)). IsFound cells_count l c.args.at c.find-index.result.0 c.find-index.result.1) c.deref.ensures.value c.find-index.ensures) (cells_in g.O.Origin.advanced c.args.piece) (omega (arith, length-cells_in g.O.Origin.advanced g.O.Origin.reach c.args.piece, ap (λ (k : Seen g.row.O.Denot). length k.cells) (found_part cells_count c.in_ok-kids.kids.trees.items c.args.at c.find-index.result.0 c.find-index.result.1 (subst (λ (l : List (Seen g.row.O.Denot)). IsFound cells_count l c.args.at c.find-index.result.0 c.find-index.result.1) c.deref.ensures.value c.find-index.ensures) c.index.result.now c.index.ensures), ap (λ (k : Seen g.row.O.Denot). length k.cells) (near_is c.args.self c.in_ok-kids.kids.height c.in_ok-kids.kids.trees.items c.in_ok-kids.ensures c.take_kid-kid.new.trees.items c.find-index.result.0 c.take_kid-kid.result c.take_kid-kid.ensures c.args.at c.find-index.result.1 (subst (λ (l : List (Seen g.row.O.Denot)). IsFound cells_count l c.args.at c.find-index.result.0 c.find-index.result.1) c.deref.ensures.value c.find-index.ensures)), c.span.ensures, c.if-at-piece.false, c.find-index.ensures.from))), length-overwritten c.args.at (cells_in g.O.Origin.advanced c.args.piece) c.args.self.cells (omega (arith, c.requires.within, length-cells_in g.O.Origin.advanced g.O.Origin.reach c.args.piece)))

pub returns : goal.returns
returns g t c =
    let e : around c.find-index.result.0 c.take_kid-kid.new.trees.items c.in_ok-lower.lower.cells ≡ overwritten c.args.at (cells_in g.O.Origin.advanced c.args.piece) c.args.self.cells = ap (around c.find-index.result.0 c.take_kid-kid.new.trees.items) c.in_ok-lower.ensures ∙ ap (around c.find-index.result.0 c.take_kid-kid.new.trees.items) c.in_ok-two.ensures.are ∙ overwritten_within c.args.self c.in_ok-kids.kids.height c.in_ok-kids.kids.trees.items c.in_ok-kids.ensures c.take_kid-kid.new.trees.items c.find-index.result.0 c.take_kid-kid.result c.take_kid-kid.ensures c.args.at c.find-index.result.1 (subst (λ (l : List (Seen g.row.O.Denot)). IsFound cells_count l c.args.at c.find-index.result.0 c.find-index.result.1) c.deref.ensures.value c.find-index.ensures) (cells_in g.O.Origin.advanced c.args.piece) (omega (arith, length-cells_in g.O.Origin.advanced g.O.Origin.reach c.args.piece, ap (λ (k : Seen g.row.O.Denot). length k.cells) (found_part cells_count c.in_ok-kids.kids.trees.items c.args.at c.find-index.result.0 c.find-index.result.1 (subst (λ (l : List (Seen g.row.O.Denot)). IsFound cells_count l c.args.at c.find-index.result.0 c.find-index.result.1) c.deref.ensures.value c.find-index.ensures) c.index.result.now c.index.ensures), ap (λ (k : Seen g.row.O.Denot). length k.cells) (near_is c.args.self c.in_ok-kids.kids.height c.in_ok-kids.kids.trees.items c.in_ok-kids.ensures c.take_kid-kid.new.trees.items c.find-index.result.0 c.take_kid-kid.result c.take_kid-kid.ensures c.args.at c.find-index.result.1 (subst (λ (l : List (Seen g.row.O.Denot)). IsFound cells_count l c.args.at c.find-index.result.0 c.find-index.result.1) c.deref.ensures.value c.find-index.ensures)), c.span.ensures, c.if-at-piece.false, c.find-index.ensures.from)) in
    IfOk-weaker c.around_it.result
    (λ (two : Two g.row.O.Denot). IsTwo (around c.find-index.result.0 c.take_kid-kid.new.trees.items c.in_ok-lower.lower.cells) two.first.height two.first two.second)
    (λ (two : Two g.row.O.Denot). IsTwo (overwritten c.args.at (cells_in g.O.Origin.advanced c.args.piece) c.args.self.cells) two.first.height two.first two.second)
    (λ two s. record { are = s.are ∙ e; height = refl; same = s.same })
    c.around_it.ensures

pub returns-then-height-kids : goal.returns-then-height-kids
returns-then-height-kids g t c =
    let e : around c.find-index.result.0 c.take_kid-kid.new.trees.items (c.in_ok-two.two.first.cells ++ c.in_ok-two.two.second.cells) ≡ overwritten c.args.at (cells_in g.O.Origin.advanced c.args.piece) c.args.self.cells = ap (around c.find-index.result.0 c.take_kid-kid.new.trees.items) c.in_ok-two.ensures.are ∙ overwritten_within c.args.self c.in_ok-kids.kids.height c.in_ok-kids.kids.trees.items c.in_ok-kids.ensures c.take_kid-kid.new.trees.items c.find-index.result.0 c.take_kid-kid.result c.take_kid-kid.ensures c.args.at c.find-index.result.1 (subst (λ (l : List (Seen g.row.O.Denot)). IsFound cells_count l c.args.at c.find-index.result.0 c.find-index.result.1) c.deref.ensures.value c.find-index.ensures) (cells_in g.O.Origin.advanced c.args.piece) (omega (arith, length-cells_in g.O.Origin.advanced g.O.Origin.reach c.args.piece, ap (λ (k : Seen g.row.O.Denot). length k.cells) (found_part cells_count c.in_ok-kids.kids.trees.items c.args.at c.find-index.result.0 c.find-index.result.1 (subst (λ (l : List (Seen g.row.O.Denot)). IsFound cells_count l c.args.at c.find-index.result.0 c.find-index.result.1) c.deref.ensures.value c.find-index.ensures) c.index.result.now c.index.ensures), ap (λ (k : Seen g.row.O.Denot). length k.cells) (near_is c.args.self c.in_ok-kids.kids.height c.in_ok-kids.kids.trees.items c.in_ok-kids.ensures c.take_kid-kid.new.trees.items c.find-index.result.0 c.take_kid-kid.result c.take_kid-kid.ensures c.args.at c.find-index.result.1 (subst (λ (l : List (Seen g.row.O.Denot)). IsFound cells_count l c.args.at c.find-index.result.0 c.find-index.result.1) c.deref.ensures.value c.find-index.ensures)), c.span.ensures, c.if-at-piece.false, c.find-index.ensures.from)) in
    IfOk-weaker c.over_two.result
    (λ (two : Two g.row.O.Denot). IsTwo (around c.find-index.result.0 c.take_kid-kid.new.trees.items (c.in_ok-two.two.first.cells ++ c.in_ok-two.two.second.cells)) c.in_ok-kids.kids.height two.first two.second)
    (λ (two : Two g.row.O.Denot). IsTwo (overwritten c.args.at (cells_in g.O.Origin.advanced c.args.piece) c.args.self.cells) two.first.height two.first two.second)
    (λ two s. record { are = s.are ∙ e; height = refl; same = λ h. s.same h ∙ sym s.height })
    c.over_two.ensures

pub returns-then-at-piece : goal.returns-then-at-piece
returns-then-at-piece g t c =
    IfOk-weaker c.across.result
    (λ (two : Two g.row.O.Denot). IsTwo (overwritten c.args.at (cells_in g.O.Origin.advanced c.args.piece) c.in_ok-whole.whole.cells) two.first.height two.first two.second)
    (λ (two : Two g.row.O.Denot). IsTwo (overwritten c.args.at (cells_in g.O.Origin.advanced c.args.piece) c.args.self.cells) two.first.height two.first two.second)
    (λ two s. record { are = s.are ∙ ap (overwritten c.args.at (cells_in g.O.Origin.advanced c.args.piece)) (c.in_ok-whole.ensures ∙ c.in_ok-kids.ensures.are); height = refl; same = s.same })
    c.across.ensures

pub overflow_sub-kids : goal.overflow_sub-kids
overflow_sub-kids g t c =
    omega (arith, c.in_ok-kids.ensures.below.height)
