use Rattle.inode_commands.proofs.Can.{write_can}
use Rattle.inode_commands.proofs.spelling.Spelling.write.Goals as goal

pub push-requires : goal.push-requires
push-requires g c = record { can = write_can c.args.path.now c.requires.short c.args.offset c.args.bytes.now c.requires.most }
