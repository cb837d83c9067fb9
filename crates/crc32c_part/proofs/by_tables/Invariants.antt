-- What is left, gone on with from the sum so far, gives the checksum of all.
use Rattle.std.proofs.Common.{◌≡◌, drop}
use Rattle.std.specs.List.{fold}
use Rattle.send_model.specs.Checksum.{crc_of}
use Rattle.crc32c_part.proofs.by_tables.Given as goal

abbrev pub invariant-loop-block : goal.invariant-loop-block
invariant-loop-block l = crc_of (fold crc_of l.sum (drop l.block-index l.blocks)) l.rest ≡ crc_of l.fn.crc l.fn.bytes

abbrev pub invariant-loop-four : goal.invariant-loop-four
invariant-loop-four l = crc_of (fold crc_of l.sum (drop l.four-index l.fours)) l.rest ≡ crc_of l.fn.crc l.fn.bytes

abbrev pub invariant-loop-byte : goal.invariant-loop-byte
invariant-loop-byte l = crc_of l.sum (drop l.byte-index l.rest) ≡ crc_of l.fn.crc l.fn.bytes
