use Rattle.std.proofs.Common.{rules, arith}
use Rattle.std.proofs.lemmas.Result.{err_from_is_err_and}
use Rattle.edits_copy.proofs.Copied.{next_copied, copy_stops, all_copied}
use Rattle.edits_copy.proofs.copying.copy_edits.Goals as goal

pub returns-in_err-copy_some-clause-copied : goal.returns-in_err-copy_some-clause-copied
returns-in_err-copy_some-clause-copied g c tells =
    let p = err_from_is_err_and c.from_residual.result c.from_residual.ensures.1 in
    rw (p.1, p.2) (copy_stops c.args.place.now c.loop-at.at c.min-count.result (g.D.Disk.seen c.args.disk.now) (g.D.Disk.seen c.loop-at.disk) ((c.loop-at.invariant.same tells).seen) c.loop-at.invariant.from (omega (arith, c.min-count.ensures, c.loop-at-test.true)) _ _ _ c.in_err-copy_some.field-0.0
    (c.loop-at.invariant.copied tells) (c.in_err-copy_some.ensures.copied tells))

pub loop-at-preserved : goal.loop-at-preserved
loop-at-preserved g c = record {
  from = search rules;
  to = search rules;
  room = search rules;
  len = search rules;
  same = search rules;
  any_moment = search rules;
  steady = search rules;
  out_steady = search rules;
  copied = λ tells.
      next_copied c.args.place.now c.loop-at.at c.min-count.result (g.D.Disk.seen c.args.disk.now) (g.D.Disk.seen c.loop-at.disk) ((c.loop-at.invariant.same tells).seen) c.loop-at.invariant.from (omega (arith, c.min-count.ensures, c.loop-at-test.true)) _ _ _
      (c.loop-at.invariant.copied tells) (c.in_ok-copy_some.ensures.copied tells);
}

pub returns-clause-copied : goal.returns-clause-copied
returns-clause-copied g c tells = all_copied c.args.place.now c.loop-at.at (g.D.Disk.seen c.args.disk.now) _ _ (omega (arith, c.loop-at-test.false)) (c.loop-at.invariant.copied tells)
