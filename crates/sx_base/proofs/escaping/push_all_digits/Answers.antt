use Rattle.std.proofs.Common.{rules, ◌≤◌, length}
use Rattle.sx_base.proofs.EscapedSteps.{digits_step}
use Rattle.sx_base.proofs.escaping.push_all_digits.Goals as goal

pub loop-at-preserved : goal.loop-at-preserved
loop-at-preserved c =
    let from : c.loop-at.at ≤ c.min.result = search rules in
    let within : c.min.result ≤ length c.args.bytes.now = search rules in
    record {
      within = search rules;
      digits = digits_step c.args.to.now c.loop-at.to c.push_all.new.self c.args.bytes.now c.fill_digits.new.digits c.loop-at.at c.min.result from within
          c.loop-at.invariant.digits c.fill_digits.ensures.filled c.in_ok-push_all.ensures.appended;
    }
