-- The parts of the last twelve bytes, with their entries of the tables.
use Rattle.crc32c_part.proofs.BlockLemmas.{last_twelve_parts}
use Rattle.crc32c_part.proofs.last_twelve.Goals as goal

pub returns : goal.returns
returns c =
    rw (
      c.stepped.ensures,
      c.stepped-2.ensures,
      c.stepped-3.ensures,
      c.stepped-4.ensures,
      c.stepped-5.ensures,
      c.stepped-6.ensures,
      c.stepped-7.ensures,
      c.stepped-8.ensures,
      c.stepped-9.ensures,
      c.stepped-10.ensures,
      c.stepped-11.ensures,
      c.stepped-12.ensures,
    )
    (last_twelve_parts c.args.block.now c.told-block)
