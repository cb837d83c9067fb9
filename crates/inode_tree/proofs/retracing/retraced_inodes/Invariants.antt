-- What is there and what is left give what all inodes give.
use Rattle.std.proofs.Common.{◌≡◌, []}
use Rattle.inode_tree.specs.Retraced.{retraced_inode, AreReached}
use Rattle.inode_tree.proofs.OtherContents.{put_all}
use Rattle.inode_tree.proofs.retracing.retraced_inodes.Given as goal

abbrev pub invariant-loop-ino : goal.invariant-loop-ino
invariant-loop-ino g l =
    AreReached g.P.Origin.reach (g.S.Starts.starts l.starts) l.ino-iterator
    × (put_all (retraced_inode g.P.Origin.advanced (g.S.Starts.starts l.starts)) l.there l.ino-iterator
    ≡ put_all (retraced_inode g.P.Origin.advanced (g.S.Starts.starts l.starts)) [] l.inodes)
