use Rattle.std.proofs.Common.{rules}
use Rattle.stream_back.proofs.Room.{full_can}
use Rattle.stream_back.proofs.heads.push_full.Goals as goal

pub encode-requires-clause-writable : goal.encode-requires-clause-writable
encode-requires-clause-writable c = (full_can c.args.version c.args.head.now.key.uuid c.args.head.now.key.ctransid c.args.head.now.name.now (search rules) c.requires.short).0

pub encode-requires-clause-short : goal.encode-requires-clause-short
encode-requires-clause-short c = (full_can c.args.version c.args.head.now.key.uuid c.args.head.now.key.ctransid c.args.head.now.name.now (search rules) c.requires.short).1
