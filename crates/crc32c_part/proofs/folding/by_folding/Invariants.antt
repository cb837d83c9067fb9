-- The words that were moved, the blocks that are left and the bytes behind them keep the checksum
-- of all.
use Rattle.std.proofs.Common.{◌≡◌, ◌≤◌, ◌++◌, length, take, drop, ◌*◌}
use Rattle.std.specs.List.{concat}
use Rattle.send_model.specs.Checksum.{crc_of}
use Rattle.crc32c_part.specs.FoldedSums.{folded_sum}
use Rattle.crc32c_part.proofs.folding.by_folding.Given as goal

abbrev pub invariant-loop-block : goal.invariant-loop-block
invariant-loop-block l =
    record {
      low : 209 ≤ l.end;
      high : l.end ≤ 1024;
      same : folded_sum 0 (take l.end l.words) (concat (drop l.block-index l.blocks) ++ drop (512 * length l.blocks) l.bytes) ≡ crc_of l.fn.crc l.bytes;
    }
