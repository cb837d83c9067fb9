use Rattle.inode_commands.proofs.Can.{chmod_can}
use Rattle.inode_commands.proofs.spelling.Spelling.mode.Goals as goal

pub push-requires : goal.push-requires
push-requires g c = record { can = chmod_can c.args.path.now c.requires.short c.from-mode.result }
