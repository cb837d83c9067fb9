use Rattle.file_survey.proofs.IndexedUuids.{one_more}
use Rattle.file_survey.proofs.uuid_list.UuidList.push.Goals as goal

pub invariant_of-self-in-Ok : goal.invariant_of-self-in-Ok
invariant_of-self-in-Ok c =
    rw (c.in_ok-push.ensures.items) (one_more c.self.inside.index.keys c.insert.new.self.keys c.self.inside.list.items c.args.uuid c.self.invariant (c.in-Ok.ensures.updates).0)
