use Rattle.std.proofs.Common.{arith}
use Rattle.escaped_words.proofs.Fronted.{counts_on, counted}
use Rattle.escaped_words.proofs.reading.meant_len.Goals as goal

pub loop-at-preserved : goal.loop-at-preserved
loop-at-preserved c =
    let first = c.in_ok-first.first in
    let stands = c.in_ok-first.ensures.first in record {
      few = omega (arith, c.loop-at.invariant.few, stands.some);
      within = omega (arith, stands.within, c.loop-at.invariant.within, c.loop-at-test.true);
      read = counts_on c.in-Some.form.now c.loop-at.at c.loop-at.count first.byte first.len stands c.loop-at.invariant.read;
    }

pub returns : goal.returns
returns c = record { len = counted c.args.word.now c.in-Some.form.now c.loop-at.at c.loop-at.count c.in-Some.ensures.escaped c.in-Some.ensures.form (omega (arith, c.loop-at-test.false)) c.loop-at.invariant.read }
