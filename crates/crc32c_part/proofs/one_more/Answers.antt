-- The step of one byte, with its entry of the table.
use Rattle.std.proofs.Common.{rules}
use Rattle.crc32c_part.proofs.BlockLemmas.{one_byte_parts}
use Rattle.crc32c_part.proofs.one_more.Goals as goal

pub returns : goal.returns
returns c = rw c.stepped.ensures (one_byte_parts c.args.crc c.args.byte (search rules))
