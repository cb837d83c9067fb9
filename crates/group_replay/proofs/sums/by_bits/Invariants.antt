-- What was taken so far and what the numbers that are left give.
use Rattle.std.specs.Prelude.{◌≡◌, drop, bit_xor}
use Rattle.group_replay.specs.Sums.{by_bits}
use Rattle.group_replay.proofs.sums.by_bits.Given as goal

abbrev pub invariant-loop-entry : goal.invariant-loop-entry
invariant-loop-entry l = bit_xor l.out (by_bits (drop l.entry-index l.row) l.left) ≡ by_bits l.fn.row l.fn.sum
