use Rattle.squash_log.specs.Cells.{lives_in}
use Rattle.squash_log.specs.Fates.{fates_of}
use Rattle.squash_log.specs.Stacks.{unstacked}
use Rattle.squash_log.proofs.FateRuns.{fates_turn}
use Rattle.squash_log.proofs.fates.find_fates.Goals as goal

pub loop-change-preserved : goal.loop-change-preserved
loop-change-preserved g c =
    let there = g.E.Ended.there c.args.ended.now in
    let m = c.in_ok-mark_change.ensures c.loop-change.invariant.counts in
    record {
      counts = m.0;
      fates = fates_turn c.loop-change.log c.pop.new.self c.in-Some.change (lives_in there c.loop-change.files) (lives_in there c.go_back.new.files)
          (unstacked c.loop-change.marks.items c.loop-change.spans.items) (unstacked c.mark_change.new.marks.items c.mark_change.new.spans.items)
          (fates_of c.args.log (λ i place. there i)) c.in-Some.ensures.popped c.in_ok-go_back.ensures m.1 c.loop-change.invariant.fates;
    }
