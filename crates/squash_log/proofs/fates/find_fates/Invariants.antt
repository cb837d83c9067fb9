use Rattle.std.proofs.Common.{◌≡◌, ◌++◌, length}
use Rattle.squash_log.specs.Cells.{lives_in}
use Rattle.squash_log.specs.Fates.{fates_of}
use Rattle.squash_log.specs.Stacks.{all_counts, unstacked}
use Rattle.squash_log.proofs.fates.find_fates.Given as goal

abbrev pub invariant-loop-change : goal.invariant-loop-change
invariant-loop-change g l = record {
  counts : all_counts l.marks.items ≡ length l.spans.items;
  fates : fates_of l.log (lives_in (g.E.Ended.there l.ended) l.files) ++ unstacked l.marks.items l.spans.items
      ≡ fates_of l.fn.log (λ i place. g.E.Ended.there l.ended i);
}

abbrev pub decreases-loop-change : goal.decreases-loop-change
decreases-loop-change g l = length l.log
