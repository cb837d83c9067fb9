-- The parts of the four bytes, with their entries of the tables.
use Rattle.std.proofs.Common.{rules}
use Rattle.crc32c_part.proofs.BlockLemmas.{four_parts}
use Rattle.crc32c_part.proofs.four_more.Goals as goal

pub returns : goal.returns
returns c =
    rw (c.stepped.ensures, c.stepped-2.ensures, c.stepped-3.ensures, c.stepped-4.ensures)
    (four_parts c.args.crc c.args.four.now (search rules) c.told-four c.fits-four)
