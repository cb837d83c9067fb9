use Rattle.std.proofs.Common.{arith}
use Rattle.clone_pieces.proofs.Short.{write_writable, write_short}
use Rattle.clone_pieces.proofs.literal.put_write.Goals as goal

pub put-requires-clause-writable : goal.put-requires-clause-writable
put-requires-clause-writable g c =
    write_writable c.args.to.now.version c.args.to.now.path.now c.args.to.now.offset c.args.bytes.now c.requires.path (omega (arith, c.requires.most))

pub put-requires-clause-short : goal.put-requires-clause-short
put-requires-clause-short g c =
    write_short c.args.to.now.version c.args.to.now.path.now c.args.to.now.offset c.args.bytes.now c.requires.path (omega (arith, c.requires.most))
