use Rattle.std.proofs.Common.{◌+◌, ◌∷◌, ◌++◌, take, drop, sym, ap, ◌∙◌, arith}
use Rattle.std.proofs.lemmas.List.{length-take-le, take-append-drop, drop_more}
use Rattle.std.proofs.lemmas.List.Sums.{sum_by_more, sum_by_more_le}
use Rattle.extent_map.proofs.parts.find.Goals as goal

pub overflow_add-end : goal.overflow_add-end
overflow_add-end g c =
    omega (arith, c.requires.fits, c.loop-part.invariant.1, c.span.ensures, ap g.T.Part.span c.part-item.is, sum_by_more_le g.T.Part.span c.args.parts.now c.loop-part.part-index c.part-item.result c.loop-part-test.true)

pub returns-then-at-end : goal.returns-then-at-end
returns-then-at-end g c =
    let k = c.loop-part.part-index in
    let parts = c.args.parts.now in
    record {
      before = take k parts;
      part = c.part-item.result;
      after = drop (k + 1) parts;
      all =
          sym (take-append-drop k parts)
          ∙ ap (λ l. take k parts ++ l) (drop_more parts k c.part-item.result c.loop-part-test.true)
          ∙ ap (λ x. take k parts ++ x ∷ drop (k + 1) parts) (sym c.part-item.is);
      count = length-take-le k parts (omega (arith, c.loop-part-test.true)) ∙ sym c.loop-part.invariant.0;
      begins = sym c.loop-part.invariant.1;
      from = c.loop-part.invariant.2;
      to = omega (arith, c.if-at-end.true, c.span.ensures);
    }

pub loop-part-preserved : goal.loop-part-preserved
loop-part-preserved g c = (
  omega (arith, c.loop-part.invariant.0),
  omega (arith, c.loop-part.invariant.1, c.span.ensures, ap g.T.Part.span c.part-item.is, sum_by_more g.T.Part.span c.args.parts.now c.loop-part.part-index c.part-item.result c.loop-part-test.true),
  omega (arith, c.if-at-end.false),
)
