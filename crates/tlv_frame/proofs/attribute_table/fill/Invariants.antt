use Rattle.std.proofs.Common.{length, ◌-◌, map}
use Rattle.tlv_frame.specs.Table.{slot_in, AreIn}
use Rattle.tlv_frame.proofs.Progress.{Progress}
use Rattle.tlv_frame.proofs.attribute_table.fill.Given as goal

abbrev pub invariant-loop-at : goal.invariant-loop-at
invariant-loop-at l = Progress l.version l.body l.at (map (slot_in l.body) l.slots) × AreIn l.body l.slots

abbrev pub decreases-loop-at : goal.decreases-loop-at
decreases-loop-at l = length l.body - l.at
