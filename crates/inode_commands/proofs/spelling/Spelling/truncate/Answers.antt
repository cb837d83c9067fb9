use Rattle.inode_commands.proofs.Can.{truncate_can}
use Rattle.inode_commands.proofs.spelling.Spelling.truncate.Goals as goal

pub push-requires : goal.push-requires
push-requires g c = record { can = truncate_can c.args.path.now c.requires.short c.args.size }
