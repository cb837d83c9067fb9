-- The words that were moved and the bytes that are left keep the checksum of all.
use Rattle.std.proofs.Common.{◌≡◌, ℕ, ◌+◌, ◌≤◌, List, ◌++◌, length, take, drop, ◌*◌}
use Rattle.crc32c_part.specs.FoldedSums.{folded_sum}
use Rattle.crc32c_part.proofs.folding.move_block.Given as goal

abbrev pub invariant-loop-k : goal.invariant-loop-k
invariant-loop-k l =
    (rest : List ℕ) → 1672 ≤ length rest →
    folded_sum 0 (take (l.start + l.k) l.words) (drop (8 * l.k) l.block ++ rest) ≡ folded_sum 0 (take l.start l.initial.words) (l.block ++ rest)
