use Rattle.std.proofs.Common.{ap, arith, length}
use Rattle.inode_commands.proofs.Can.{head_can}
use Rattle.inode_commands.proofs.spelling.Spelling.head.Goals as goal

pub push-requires : goal.push-requires
push-requires g c = record { can = head_can c.args.uuid c.args.ctransid c.args.name.now (omega (arith, ap length c.into_bytes-sixteen.ensures)) c.requires.short }
