use Rattle.std.proofs.Common.{rules, ◌<◌, ◌^◌, length, ap, arith}
use Rattle.clone_pieces.proofs.Short.{clone_writable, clone_short}
use Rattle.composer.proofs.composing.Composer.add_own.Goals as goal

pub put-requires-clause-writable : goal.put-requires-clause-writable
put-requires-clause-writable g c =
    clone_writable c.version.result c.args.range.now.path.now c.args.range.now.offset c.args.last.uuid c.args.last.ctransid c.args.range.now.source_path.now c.args.range.now.from c.args.range.now.len c.requires.short.0 c.requires.short.1

pub put-requires-clause-short : goal.put-requires-clause-short
put-requires-clause-short g c =
    clone_short c.version.result c.args.range.now.path.now c.args.range.now.offset c.args.last.uuid c.args.last.ctransid c.args.range.now.source_path.now c.args.range.now.from c.args.range.now.len c.requires.short.0 c.requires.short.1
    (let short : length c.as_bytes.result.now < 2 ^ 16 = search rules in let same = ap length c.as_bytes.ensures in omega (arith, short, same))
