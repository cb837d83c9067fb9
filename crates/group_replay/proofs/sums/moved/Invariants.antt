-- What was moved so far moves past the bytes that are left.
use Rattle.std.specs.Prelude.{◌≡◌, ◌*◌, ◌-◌, ◌^◌, ◌<◌}
use Rattle.send_model.specs.Checksum.{shifts}
use Rattle.group_replay.proofs.sums.moved.Given as goal

abbrev pub invariant-loop-row : goal.invariant-loop-row
invariant-loop-row l = record {
  so_far : shifts (8 * 2 ^ l.row-index * l.left) l.out ≡ shifts (8 * l.fn.count) l.fn.sum;
  word : l.out < 2 ^ 32;
  few : l.left < 2 ^ (19 - l.row-index);
}
