-- The words that were summed and the bytes that are left keep the checksum of all.
use Rattle.std.proofs.Common.{◌≡◌, ◌+◌, length, take, drop, ◌*◌}
use Rattle.std.specs.List.{flat_map}
use Rattle.send_model.specs.Checksum.{crc_of}
use Rattle.crc32c_part.specs.FoldedSums.{folded_sum}
use Rattle.crc32c_part.proofs.folding.sum_rest.Given as goal

abbrev pub invariant-loop-k : goal.invariant-loop-k
invariant-loop-k l =
    record {
      long : length l.spelled ≡ 209;
      same : folded_sum (crc_of 0 (flat_map (λ bytes. bytes) (take l.k l.spelled))) (take (l.start + l.k) l.words) (drop (8 * l.k) l.bytes)
          ≡ folded_sum 0 (take l.start l.fn.words) l.bytes;
    }
