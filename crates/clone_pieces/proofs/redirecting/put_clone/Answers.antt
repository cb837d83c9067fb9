use Rattle.std.proofs.Common.{rules, ◌<◌, ◌^◌, length, ap, arith}
use Rattle.clone_pieces.proofs.Short.{clone_writable, clone_short}
use Rattle.clone_pieces.proofs.redirecting.put_clone.Goals as goal

pub put-requires-clause-writable : goal.put-requires-clause-writable
put-requires-clause-writable g c = clone_writable c.args.to.now.version c.args.path.now _ _ _ c.args.clone_path.now _ _ c.requires.path c.requires.clone_path

pub put-requires-clause-short : goal.put-requires-clause-short
put-requires-clause-short g c =
    clone_short c.args.to.now.version c.args.path.now _ _ _ c.args.clone_path.now _ _ c.requires.path c.requires.clone_path
    (let short : length c.as_bytes.result.now < 2 ^ 16 = search rules in let same = ap length c.as_bytes.ensures in omega (arith, short, same))
