use Rattle.std.proofs.Common.{ap, ap₂, ◌++◌, List, Option, refl, ◌∙◌, arith}
use Rattle.std.specs.List.{sum_by}
use Rattle.std.proofs.lemmas.List.{append-nil}
use Rattle.extent_map.specs.declared.piece.Piece.{Piece}
use Rattle.extent_map.specs.Leaves.{cells_in, all_cells}
use Rattle.extent_map.proofs.Makes.{split_sum, split_cells, low_leaf, high_leaf}
use Rattle.extent_map.proofs.making.leaves.Goals as goal

pub returns-then-len-le-PIECES : goal.returns-then-len-le-PIECES
returns-then-len-le-PIECES g c =
    record {
      are = ap₂ (λ (a b : List (Option g.row.O.Denot)). a ++ b) c.in_ok-leaf.ensures.cells c.new.ensures.cells ∙ append-nil (all_cells g.O.Origin.advanced c.args.pieces.items);
      height = c.in_ok-leaf.ensures.height;
      same = λ h. absurd (omega (arith, h, c.new.ensures.height));
    }

pub total-high-requires : goal.total-high-requires
total-high-requires g c =
    omega (
      arith,
      c.requires.leaf.counted,
      c.requires.fits,
      ap (sum_by (λ (p : Piece g.row.O.Denot). p.len)) c.deref.ensures.value,
      split_sum (λ (p : Piece g.row.O.Denot). p.len) c.args.pieces.items c.split_off.new.self.items c.in_ok-back.back.items c.kept-keep.result c.in_ok-back.ensures.items c.in_ok-back.ensures.tail,
    )

pub overflow_sub-len : goal.overflow_sub-len
overflow_sub-len g c =
    omega (
      arith,
      c.requires.leaf.counted,
      c.total-high.ensures,
      ap (sum_by (λ (p : Piece g.row.O.Denot). p.len)) c.deref.ensures.value,
      split_sum (λ (p : Piece g.row.O.Denot). p.len) c.args.pieces.items c.split_off.new.self.items c.in_ok-back.back.items c.kept-keep.result c.in_ok-back.ensures.items c.in_ok-back.ensures.tail,
    )

pub leaf-requires-2 : goal.leaf-requires-2
leaf-requires-2 g c =
    low_leaf g.O.Origin.reach c.args.len c.total-high.result c.kept-keep.result c.args.pieces.items c.split_off.new.self.items c.in_ok-back.back.items c.requires.leaf
    c.in_ok-back.ensures.items c.in_ok-back.ensures.tail (c.total-high.ensures ∙ ap (sum_by (λ (p : Piece g.row.O.Denot). p.len)) c.deref.ensures.value) c.kept-keep.ensures.some (omega (arith, c.kept-keep.ensures.less, c.len.ensures, c.args.pieces.ok))

pub leaf-requires-3 : goal.leaf-requires-3
leaf-requires-3 g c =
    high_leaf g.O.Origin.reach c.args.len c.total-high.result c.kept-keep.result c.args.pieces.items c.in_ok-back.back.items c.requires.leaf
    c.in_ok-back.ensures.tail (c.total-high.ensures ∙ ap (sum_by (λ (p : Piece g.row.O.Denot). p.len)) c.deref.ensures.value) (omega (arith, c.kept-keep.ensures.less, c.len.ensures, c.args.pieces.ok))

pub same-first : goal.same-first
same-first g c = refl

pub returns : goal.returns
returns g c =
    record {
      are =
          ap₂ (λ (a b : List (Option g.row.O.Denot)). a ++ b) c.in_ok-first.ensures.cells c.in_ok-second.ensures.cells
          ∙ split_cells (cells_in g.O.Origin.advanced) c.args.pieces.items c.split_off.new.self.items c.in_ok-back.back.items c.kept-keep.result c.in_ok-back.ensures.items c.in_ok-back.ensures.tail;
      height = c.in_ok-first.ensures.height;
      same = λ _. c.in_ok-second.ensures.height;
    }
