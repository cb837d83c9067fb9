use Rattle.std.proofs.Common.{sym, subst}
use Rattle.inode_commands.specs.Spelled.{CanPush}
use Rattle.inode_commands.proofs.Can.{making_can}
use Rattle.inode_commands.proofs.spelling.Spelling.making.Goals as goal

pub push-requires : goal.push-requires
push-requires g c = record { can = subst CanPush (sym c.making.ensures) (making_can c.args.path.now c.requires.short c.args.inode.now c.requires.said.target) }
