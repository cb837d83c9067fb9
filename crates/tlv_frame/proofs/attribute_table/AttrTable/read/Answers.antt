use Rattle.tlv_frame.proofs.Slots.{all_absent, whole_absent}
use Rattle.tlv_frame.proofs.attribute_table.AttrTable.read.Goals as goal

pub invariant_of-self-in-Err : goal.invariant_of-self-in-Err
invariant_of-self-in-Err c = (whole_absent c.self.inside.version c.args.body.now, all_absent c.args.body.now 32)
