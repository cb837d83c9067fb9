use Rattle.std.proofs.Common.{◌≡◌, ◌-◌, ◌++◌, Vec, Global, length, drop, subst, refl, sym, ap, ◌∙◌, arith}
use Rattle.std.specs.List.{sum_by}
use Rattle.extent_map.specs.declared.piece.Piece.{Piece}
use Rattle.extent_map.specs.Leaves.{HaveCells}
use Rattle.extent_map.specs.Seen.{Seen, cells_count, joined}
use Rattle.extent_map.proofs.Ahead.{leaf_ahead, fork_ahead}
use Rattle.extent_map.proofs.Spans.{found_part, drop_found}
use Rattle.extent_map.proofs.LeafEdits.{length-all_cells}
use Rattle.extent_map.proofs.Shapes.{leaf_opened, fork_opened}
use Rattle.extent_map.proofs.Halves.{kids_sum}
use Rattle.extent_map.proofs.pieces.+seek.Goals as goal

pub find-index-requires-clause-within : goal.find-index-requires-clause-within
find-index-requires-clause-within g t c = omega (arith, c.requires.within, ap (sum_by (λ (p : Piece g.row.O.Denot). p.len)) (c.as_slice-pieces.ensures.value ∙ ap (λ (v : Vec (Piece g.row.O.Denot) Global). v.items) c.as_ref.ensures), length-all_cells g.O.Origin.advanced g.O.Origin.reach c.in-Leaf.pieces.value.items, ap length (leaf_opened g.O.Origin.advanced g.O.Origin.reach c.args.tree.now c.tree.inside.shape c.in-Leaf.field-0 c.in-Leaf.field-1 c.in-Leaf.pieces c.in-Leaf.pieces.value.items c.tree.view_is c.tree.invariant.parts c.in-Leaf.is refl).have.are)

pub find-index-requires-clause-fits : goal.find-index-requires-clause-fits
find-index-requires-clause-fits g t c = omega (arith, c.requires.fits, ap (sum_by (λ (p : Piece g.row.O.Denot). p.len)) (c.as_slice-pieces.ensures.value ∙ ap (λ (v : Vec (Piece g.row.O.Denot) Global). v.items) c.as_ref.ensures), length-all_cells g.O.Origin.advanced g.O.Origin.reach c.in-Leaf.pieces.value.items, ap length (leaf_opened g.O.Origin.advanced g.O.Origin.reach c.args.tree.now c.tree.inside.shape c.in-Leaf.field-0 c.in-Leaf.field-1 c.in-Leaf.pieces c.in-Leaf.pieces.value.items c.tree.view_is c.tree.invariant.parts c.in-Leaf.is refl).have.are)

pub find-index-requires-in-Fork-clause-within : goal.find-index-requires-in-Fork-clause-within
find-index-requires-in-Fork-clause-within g t c = omega (arith, c.requires.within, ap (sum_by (cells_count {O = g.row.O.Denot})) (c.as_slice-trees.ensures.value ∙ ap (λ (v : Vec (Seen g.row.O.Denot) Global). v.items) c.as_ref-in-Fork.ensures), kids_sum c.args.tree.now c.in-Fork.field-0 c.in-Fork.trees.value.items (fork_opened g.O.Origin.advanced g.O.Origin.reach c.args.tree.now c.tree.inside.shape c.in-Fork.field-0 c.in-Fork.field-1 c.in-Fork.field-2 c.in-Fork.trees c.tree.view_is c.tree.invariant.parts c.in-Fork.is))

pub find-index-requires-in-Fork-clause-fits : goal.find-index-requires-in-Fork-clause-fits
find-index-requires-in-Fork-clause-fits g t c = omega (arith, c.requires.fits, ap (sum_by (cells_count {O = g.row.O.Denot})) (c.as_slice-trees.ensures.value ∙ ap (λ (v : Vec (Seen g.row.O.Denot) Global). v.items) c.as_ref-in-Fork.ensures), kids_sum c.args.tree.now c.in-Fork.field-0 c.in-Fork.trees.value.items (fork_opened g.O.Origin.advanced g.O.Origin.reach c.args.tree.now c.tree.inside.shape c.in-Fork.field-0 c.in-Fork.field-1 c.in-Fork.field-2 c.in-Fork.trees c.tree.view_is c.tree.invariant.parts c.in-Fork.is))

pub returns-in-Leaf-clause-ahead : goal.returns-in-Leaf-clause-ahead
returns-in-Leaf-clause-ahead g t c =
    leaf_ahead g.O.Origin.advanced g.O.Origin.reach c.args.tree.now.cells c.as_slice-pieces.result.now _ c.args.at c.find-index.result.0 c.find-index.result.1
    (subst (HaveCells g.O.Origin.advanced g.O.Origin.reach c.args.tree.now.cells) (sym (c.as_slice-pieces.ensures.value ∙ ap (λ (v : Vec (Piece g.row.O.Denot) Global). v.items) c.as_ref.ensures)) (leaf_opened g.O.Origin.advanced g.O.Origin.reach c.args.tree.now c.tree.inside.shape c.in-Leaf.field-0 c.in-Leaf.field-1 c.in-Leaf.pieces c.in-Leaf.pieces.value.items c.tree.view_is c.tree.invariant.parts c.in-Leaf.is refl).have) c.find-index.ensures refl

pub returns-in-Fork-clause-ahead : goal.returns-in-Fork-clause-ahead
returns-in-Fork-clause-ahead g t c =
    let f = c.find-index-in-Fork.ensures in
    let p : c.index-trees-index.result ≡ f.part = found_part cells_count c.as_slice-trees.result.now c.args.at c.find-index-in-Fork.result.0 c.find-index-in-Fork.result.1 f c.index-trees-index.result c.index-trees-index.is in
    fork_ahead g.O.Origin.advanced g.O.Origin.reach c.args.tree.now.cells c.index-trees-index.result.cells (joined f.after) c.args.at (c.args.at - c.find-index-in-Fork.result.1) c.seek.result.0.now c.seek.result.1
    (ap (drop c.args.at) (sym (ap joined (c.as_slice-trees.ensures.value ∙ ap (λ (v : Vec (Seen g.row.O.Denot) Global). v.items) c.as_ref-in-Fork.ensures) ∙ (fork_opened g.O.Origin.advanced g.O.Origin.reach c.args.tree.now c.tree.inside.shape c.in-Fork.field-0 c.in-Fork.field-1 c.in-Fork.field-2 c.in-Fork.trees c.tree.view_is c.tree.invariant.parts c.in-Fork.is).are))
    ∙ drop_found (λ (k : Seen g.row.O.Denot). k.cells) cells_count (λ k. refl) c.as_slice-trees.result.now f.before f.part f.after c.args.at c.find-index-in-Fork.result.1 f.all f.begins f.from (omega (arith, f.to))
    ∙ ap (λ (k : Seen g.row.O.Denot). drop (c.args.at - c.find-index-in-Fork.result.1) k.cells ++ joined f.after) (sym p))
    c.seek.ensures.ahead
