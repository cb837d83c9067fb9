-- One number more is taken, or nothing of it.
use Rattle.std.proofs.Common.{rules, sym, ◌∙◌}
use Rattle.group_replay.proofs.RowLaws.{next_taken, none_left}
use Rattle.group_replay.proofs.sums.by_bits.Goals as goal

pub loop-entry-preserved : goal.loop-entry-preserved
loop-entry-preserved c = next_taken c.args.row.now c.loop-entry.out c.loop-entry.left c.loop-entry.entry-index (search rules) ∙ c.loop-entry.invariant

pub returns : goal.returns
returns c = sym (none_left c.args.row.now c.loop-entry.out c.loop-entry.left c.loop-entry.entry-index (search rules)) ∙ c.loop-entry.invariant
