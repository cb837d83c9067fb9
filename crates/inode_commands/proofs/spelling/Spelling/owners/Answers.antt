use Rattle.inode_commands.proofs.Can.{chown_can}
use Rattle.inode_commands.proofs.spelling.Spelling.owners.Goals as goal

pub push-requires : goal.push-requires
push-requires g c = record { can = chown_can c.args.path.now c.requires.short c.args.uid c.args.gid }
