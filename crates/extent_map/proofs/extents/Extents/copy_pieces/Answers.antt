use Rattle.std.proofs.Common.{◌≡◌, ℕ, ◌+◌, List, Option, None, length, length-append, sym, ◌∙◌, ap, arith}
use Rattle.extent_map.specs.Cells.{put_cells, cells_between}
use Rattle.extent_map.specs.Pieces.{piece_cells}
use Rattle.extent_map.proofs.CellLists.{length-between, put_none, put_put}
use Rattle.extent_map.proofs.Layouts.{length-piece}
use Rattle.extent_map.proofs.extents.Extents.copy_pieces.Goals as goal

pub loop-origin-init : goal.loop-origin-init
loop-origin-init g c =
    let e : c.into_iter-origin-iterator.result ≡ cells_between c.args.from c.args.len c.args.source.now = c.into_iter-origin-iterator.ensures.into_iter_gives ∙ c.pieces-origin-items.ensures in
    record {
      can = tt;
      finite = tt;
      place = omega (arith, ap length e, length-between c.args.from c.args.len c.args.source.now c.requires.source);
      cells = ap (λ (l : List (Option g.row.O.Denot)). put_cells None c.args.at l c.args.self.now) e;
    }

pub put_piece-requires-clause-end : goal.put_piece-requires-clause-end
put_piece-requires-clause-end g c =
    let s = c.in-Some.ensures.steps in
    let p = piece_cells g.O.Origin.advanced c.in-Some.origin c.in-Some.piece_len in
    omega (arith, c.requires.end, c.loop-origin.invariant.place, ap length s.2, length-append p c.next.new.self, length-piece g.O.Origin.advanced c.in-Some.origin c.in-Some.piece_len)

pub overflow_add-place : goal.overflow_add-place
overflow_add-place g c =
    let s = c.in-Some.ensures.steps in
    let p = piece_cells g.O.Origin.advanced c.in-Some.origin c.in-Some.piece_len in
    omega (arith, c.requires.end, c.loop-origin.invariant.place, ap length s.2, length-append p c.next.new.self, length-piece g.O.Origin.advanced c.in-Some.origin c.in-Some.piece_len)

pub loop-origin-preserved : goal.loop-origin-preserved
loop-origin-preserved g c =
    let s = c.in-Some.ensures.steps in
    let p = piece_cells g.O.Origin.advanced c.in-Some.origin c.in-Some.piece_len in
    let n = length-piece g.O.Origin.advanced c.in-Some.origin c.in-Some.piece_len in
    record {
      can = tt;
      finite = tt;
      place = omega (arith, c.loop-origin.invariant.place, ap length s.2, length-append p c.next.new.self, n);
      cells =
          ap (put_cells None (c.loop-origin.place + c.in-Some.piece_len) c.next.new.self) c.in_ok-put_piece.ensures
          ∙ ap (λ (k : ℕ). put_cells None (c.loop-origin.place + k) c.next.new.self (put_cells None c.loop-origin.place p c.loop-origin.self)) (sym n)
          ∙ put_put None c.loop-origin.place p c.next.new.self c.loop-origin.self
          ∙ ap (λ (l : List (Option g.row.O.Denot)). put_cells None c.loop-origin.place l c.loop-origin.self) (sym s.2)
          ∙ c.loop-origin.invariant.cells;
    }

pub returns : goal.returns
returns g c =
    sym (put_none None c.loop-origin.place c.loop-origin.self)
    ∙ ap (λ (l : List (Option g.row.O.Denot)). put_cells None c.loop-origin.place l c.loop-origin.self) (sym c.in-None.ensures.steps.0)
    ∙ c.loop-origin.invariant.cells
