use Rattle.std.proofs.Common.{[]}
use Rattle.tlv_frame.proofs.Slots.{all_absent, whole_absent}
use Rattle.tlv_frame.proofs.attribute_table.AttrTable.new.Goals as goal

pub invariant_of-result : goal.invariant_of-result
invariant_of-result c = (whole_absent c.args.version [], all_absent [] 32)
