use Rattle.std.proofs.Common.{sym, ap, subst}
use Rattle.squash_log.specs.Cells.{lives_in}
use Rattle.squash_log.specs.Fates.{fate_in, own_fate}
use Rattle.squash_log.specs.Stacks.{AreMarked}
use Rattle.squash_log.proofs.StackLaws.{marked_more}
use Rattle.squash_log.proofs.fates.mark_change.Goals as goal

pub returns-in_ok-push : goal.returns-in_ok-push
returns-in_ok-push g c =
    let lives = lives_in (g.E.Ended.there c.args.ended.now) c.args.files.now in
    subst (λ fates. AreMarked fates c.args.marks.now.items c.push.new.self.items c.args.spans.now.items c.mark_range.new.spans.items)
    (sym (ap (λ change. own_fate change lives) c.in-Wrote.is))
    (marked_more (fate_in c.in-Wrote.range lives) c.args.marks.now.items c.push.new.self.items c.in_ok-mark.mark c.args.spans.now.items c.mark_range.new.spans.items
    c.in_ok-mark.ensures c.in_ok-push.ensures.items)
