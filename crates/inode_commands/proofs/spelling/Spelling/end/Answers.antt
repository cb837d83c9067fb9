use Rattle.inode_commands.proofs.Can.{end_can}
use Rattle.inode_commands.proofs.spelling.Spelling.end.Goals as goal

pub push-requires : goal.push-requires
push-requires g c = record { can = end_can }
