-- The eight bytes in their order.
use Rattle.inode_tree.proofs.OpeningLaws.{eight_read}
use Rattle.inode_tree.proofs.name.eight_in.Goals as goal

pub returns : goal.returns
returns c = eight_read c.args.bytes.now c.args.place c.from_be_bytes.result c.from_be_bytes.ensures
