use Rattle.inode_commands.proofs.Can.{link_can}
use Rattle.inode_commands.proofs.spelling.Spelling.link.Goals as goal

pub push-requires : goal.push-requires
push-requires g c = record { can = link_can c.args.path.now c.requires.short c.args.first.now c.requires.short_first }
