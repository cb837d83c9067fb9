-- The parts of the first four bytes, with their entries of the tables.
use Rattle.std.proofs.Common.{rules}
use Rattle.crc32c_part.proofs.BlockLemmas.{first_four_parts}
use Rattle.crc32c_part.proofs.first_four.Goals as goal

pub returns : goal.returns
returns c =
    rw (c.stepped.ensures, c.stepped-2.ensures, c.stepped-3.ensures, c.stepped-4.ensures)
    (first_four_parts c.args.crc c.args.block.now (search rules) c.told-block c.fits-block)
