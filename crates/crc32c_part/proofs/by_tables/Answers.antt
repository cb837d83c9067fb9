-- The blocks join to the whole list, and each byte that is left is one step.
use Rattle.std.proofs.Common.{length, ◌/◌, ℕ, List, sym, ap, ◌∙◌}
use Rattle.std.proofs.Math.ListN.{drop_of_length-le}
use Rattle.std.specs.List.{fold}
use Rattle.send_model.specs.Checksum.{crc_of}
use Rattle.send_model.proofs.ChecksumLaws.{crc_of-next, crc_of-end}
use Rattle.crc32c_part.proofs.BlockLemmas.{by_blocks}
use Rattle.crc32c_part.proofs.by_tables.Goals as goal

pub loop-block-init : goal.loop-block-init
loop-block-init c =
    rw (c.as_chunks.ensures.front, c.as_chunks.ensures.back)
    (by_blocks 16 (length c.args.bytes.now / 16) c.args.crc c.args.bytes.now)

pub loop-four-init : goal.loop-four-init
loop-four-init c =
    rw (c.as_chunks-2.ensures.front, c.as_chunks-2.ensures.back)
    (by_blocks 4 (length c.as_chunks.result.1.now / 4) c.loop-block.sum
    c.as_chunks.result.1.now
    ∙ sym (ap (λ (left : List (List ℕ)). crc_of (fold crc_of c.loop-block.sum left) c.as_chunks.result.1.now) (drop_of_length-le c.as_chunks.result.0.now c.loop-block-test.false))
    ∙ c.loop-block.invariant)

pub loop-byte-preserved : goal.loop-byte-preserved
loop-byte-preserved c =
    rw c.one_more-sum.ensures
    (sym (crc_of-next c.loop-byte.sum c.as_chunks-2.result.1.now c.loop-byte.byte-index c.loop-byte-test.true)
    ∙ c.loop-byte.invariant)

pub returns : goal.returns
returns c =
    sym (crc_of-end c.loop-byte.sum c.as_chunks-2.result.1.now c.loop-byte.byte-index c.loop-byte-test.false)
    ∙ c.loop-byte.invariant
