use Rattle.std.proofs.Common.{length, arith, ◌∙◌}
use Rattle.log_tests.specs.Published.{joined}
use Rattle.log_tests.proofs.Publishing.{published_at}
use Rattle.log_tests.proofs.client.publish_and_read.Goals as goal

pub returns : goal.returns
returns g c = record {
  same = λ tells header bodies rests.
      c.in_ok-read.ensures.bytes tells
      ∙ published_at header bodies (joined c.args.pieces.now) c.args.log.now c.publish_group.new.log c.in_ok-at.at (length c.read.new.buf) _ _ _ _ rests (c.in_ok-at.ensures.rests tells header bodies rests) c.in_ok-at.ensures.place (omega (arith, c.requires.within, c.read.auto.buf));
}
