use Rattle.std.proofs.Common.{ap, arith}
use Rattle.std.proofs.lemmas.List.Sums.{sum_by_more, sum_by_more_le}
use Rattle.extent_map.proofs.parts.total.Goals as goal

pub overflow_add-sum : goal.overflow_add-sum
overflow_add-sum g c =
    omega (arith, c.requires, c.loop-part.invariant, c.span-sum.ensures, ap g.T.Part.span c.part-item.is, sum_by_more_le g.T.Part.span c.args.parts.now c.loop-part.part-index c.part-item.result c.loop-part-test.true)

pub loop-part-preserved : goal.loop-part-preserved
loop-part-preserved g c =
    omega (arith, c.loop-part.invariant, c.span-sum.ensures, ap g.T.Part.span c.part-item.is, sum_by_more g.T.Part.span c.args.parts.now c.loop-part.part-index c.part-item.result c.loop-part-test.true)
