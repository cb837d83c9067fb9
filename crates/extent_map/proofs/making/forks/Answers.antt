use Rattle.std.proofs.Common.{◌/◌, ap, ap₂, ◌++◌, List, Option, refl, ◌∙◌, arith}
use Rattle.std.specs.List.{sum_by}
use Rattle.extent_map.specs.Seen.{Seen, cells_count}
use Rattle.extent_map.proofs.Makes.{split_sum, split_cells, low_fork, high_fork}
use Rattle.extent_map.proofs.making.forks.Goals as goal

pub total-high-requires : goal.total-high-requires
total-high-requires g c =
    omega (
      arith,
      c.requires.fork.counted,
      c.requires.fits,
      ap (sum_by (cells_count {O = g.row.O.Denot})) c.deref.ensures.value,
      split_sum cells_count c.args.trees.items c.split_off.new.self.items c.in_ok-back.back.items (c.len-keep.result / 2) c.in_ok-back.ensures.items c.in_ok-back.ensures.tail,
    )

pub overflow_sub-len : goal.overflow_sub-len
overflow_sub-len g c =
    omega (
      arith,
      c.requires.fork.counted,
      c.total-high.ensures,
      ap (sum_by (cells_count {O = g.row.O.Denot})) c.deref.ensures.value,
      split_sum cells_count c.args.trees.items c.split_off.new.self.items c.in_ok-back.back.items (c.len-keep.result / 2) c.in_ok-back.ensures.items c.in_ok-back.ensures.tail,
    )

pub over-requires-2 : goal.over-requires-2
over-requires-2 g c =
    low_fork c.args.height c.args.len c.total-high.result (c.len-keep.result / 2) c.args.trees.items c.split_off.new.self.items c.in_ok-back.back.items c.requires.fork
    c.in_ok-back.ensures.items c.in_ok-back.ensures.tail (c.total-high.ensures ∙ ap (sum_by (cells_count {O = g.row.O.Denot})) c.deref.ensures.value)
    (omega (arith, c.len-keep.ensures, c.len.ensures, c.if-len-le-KIDS.false)) (omega (arith, c.len-keep.ensures, c.args.trees.ok))

pub over-requires-3 : goal.over-requires-3
over-requires-3 g c =
    high_fork c.args.height c.args.len c.total-high.result (c.len-keep.result / 2) c.args.trees.items c.in_ok-back.back.items c.requires.fork
    c.in_ok-back.ensures.tail (c.total-high.ensures ∙ ap (sum_by (cells_count {O = g.row.O.Denot})) c.deref.ensures.value)
    (omega (arith, c.len-keep.ensures, c.len.ensures, c.if-len-le-KIDS.false, c.args.trees.ok))

pub same-first : goal.same-first
same-first g c = refl

pub returns : goal.returns
returns g c =
    record {
      are =
          ap₂ (λ (a b : List (Option g.row.O.Denot)). a ++ b) c.in_ok-first.ensures.cells c.in_ok-second.ensures.cells
          ∙ split_cells (λ (s : Seen g.row.O.Denot). s.cells) c.args.trees.items c.split_off.new.self.items c.in_ok-back.back.items (c.len-keep.result / 2) c.in_ok-back.ensures.items c.in_ok-back.ensures.tail;
      height = c.in_ok-first.ensures.height;
      same = λ _. c.in_ok-second.ensures.height;
    }
