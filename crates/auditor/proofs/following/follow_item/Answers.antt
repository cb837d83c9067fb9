use Rattle.cmd_reader.specs.Next.{item_of}
use Rattle.auditor.proofs.Dues.{item_refused}
use Rattle.auditor.proofs.following.follow_item.Goals as goal

pub returns-in-Err-Refused : goal.returns-in-Err-Refused
returns-in-Err-Refused g c = record {
  stops = tt;
  followed = item_refused _ _ (item_of c.args.file c.args.item.now) c.in-Err-Refused.field-0 c.in-Err-Refused.refusal c.in-Err-Refused.field-0-is (c.in-Err-Refused.ensures.followed c.args.file);
}
