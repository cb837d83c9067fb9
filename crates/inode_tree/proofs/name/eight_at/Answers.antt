-- Behind the end there is nothing to read.
use Rattle.std.proofs.Common.{◌≤◌, length, rules}
use Rattle.inode_tree.proofs.OpeningLaws.{eight_past}
use Rattle.inode_tree.proofs.name.eight_at.Goals as goal

pub returns-then-bytes-place-2 : goal.returns-then-bytes-place-2
returns-then-bytes-place-2 c =
    let past : length c.args.bytes.now ≤ c.args.place = search rules in
    eight_past c.args.bytes.now c.args.place past
