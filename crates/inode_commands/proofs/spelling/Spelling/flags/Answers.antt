use Rattle.inode_commands.proofs.Can.{flags_can}
use Rattle.inode_commands.proofs.spelling.Spelling.flags.Goals as goal

pub push-requires : goal.push-requires
push-requires g c = record { can = flags_can c.args.path.now c.requires.short c.args.flags }
