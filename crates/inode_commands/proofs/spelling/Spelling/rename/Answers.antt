use Rattle.inode_commands.proofs.Can.{rename_can}
use Rattle.inode_commands.proofs.spelling.Spelling.rename.Goals as goal

pub push-requires : goal.push-requires
push-requires g c = record { can = rename_can c.args.path.now c.requires.short c.args.path_to.now c.requires.short_to }
