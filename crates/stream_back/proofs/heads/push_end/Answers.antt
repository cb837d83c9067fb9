use Rattle.stream_back.proofs.Room.{end_can}
use Rattle.stream_back.proofs.heads.push_end.Goals as goal

pub encode-requires-clause-writable : goal.encode-requires-clause-writable
encode-requires-clause-writable c = (end_can c.args.version).0

pub encode-requires-clause-short : goal.encode-requires-clause-short
encode-requires-clause-short c = (end_can c.args.version).1
