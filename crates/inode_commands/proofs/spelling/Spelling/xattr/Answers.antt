use Rattle.inode_commands.proofs.Can.{xattr_can}
use Rattle.inode_commands.proofs.spelling.Spelling.xattr.Goals as goal

pub push-requires : goal.push-requires
push-requires g c = record { can = xattr_can c.args.path.now c.requires.short c.args.name.now c.args.value.now c.requires.said.0 c.requires.said.1 }
