use Rattle.std.proofs.Common.{rules}
use Rattle.stream_back.proofs.Room.{snapshot_can}
use Rattle.stream_back.proofs.heads.push_snapshot.Goals as goal

pub encode-requires-clause-writable : goal.encode-requires-clause-writable
encode-requires-clause-writable c = (snapshot_can c.args.version c.args.head.now.key.uuid c.args.head.now.key.ctransid c.args.head.now.name.now c.args.parent.uuid c.args.parent.ctransid (search rules) (search rules) c.requires.short).0

pub encode-requires-clause-short : goal.encode-requires-clause-short
encode-requires-clause-short c = (snapshot_can c.args.version c.args.head.now.key.uuid c.args.head.now.key.ctransid c.args.head.now.name.now c.args.parent.uuid c.args.parent.ctransid (search rules) (search rules) c.requires.short).1
