use Rattle.std.proofs.Common.{◌≡◌, ℕ, ◌+◌, length, length-append, ◌∙◌, ap, arith}
use Rattle.extent_map.specs.Cells.{cells_between}
use Rattle.extent_map.proofs.CellLists.{length-between}
use Rattle.extent_map.proofs.Layouts.{length-piece}
use Rattle.extent_bench.proofs.load.read.Goals as goal

pub loop-origin-init : goal.loop-origin-init
loop-origin-init c =
    let e : length c.into_iter-origin-iterator.result ≡ length (cells_between 0 c.size-size.result c.args.file.now) = ap length (c.into_iter-origin-iterator.ensures.into_iter_gives ∙ c.pieces-origin-items.ensures) in
    let n = c.size-size.ensures.count in
    record {
      can = tt;
      finite = tt;
      cells = omega (arith, e, n, length-between 0 c.size-size.result c.args.file.now (omega (arith, n)));
    }

pub overflow_add-cells : goal.overflow_add-cells
overflow_add-cells c =
    let e : length c.loop-origin.origin-iterator ≡ c.in-Some.len + length c.next.new.self =
    ap length c.in-Some.ensures.steps.2
    ∙ length-append _ c.next.new.self
    ∙ ap (λ (n : ℕ). n + length c.next.new.self) (length-piece _ c.in-Some.origin c.in-Some.len) in
    omega (arith, c.size-size.ensures.count, c.size-size.ensures.fits, c.loop-origin.invariant.cells, e)

pub loop-origin-preserved : goal.loop-origin-preserved
loop-origin-preserved c =
    let e : length c.loop-origin.origin-iterator ≡ c.in-Some.len + length c.next.new.self =
    ap length c.in-Some.ensures.steps.2
    ∙ length-append _ c.next.new.self
    ∙ ap (λ (n : ℕ). n + length c.next.new.self) (length-piece _ c.in-Some.origin c.in-Some.len) in
    record { can = tt; finite = tt; cells = omega (arith, c.loop-origin.invariant.cells, e) }
