use Rattle.std.proofs.Common.{◌≡◌, ◌-◌, ◌≤◌, ◌++◌, length, take}
use Rattle.send_model.specs.Printed.{hex_bytes}
use Rattle.sx_base.proofs.escaping.push_all_digits.Given as goal

-- the digits of the bytes so far
abbrev pub invariant-loop-at : goal.invariant-loop-at
invariant-loop-at l = record {
  within : l.at ≤ length l.bytes;
  digits : l.to ≡ l.fn.to ++ hex_bytes (take l.at l.bytes);
}

abbrev pub decreases-loop-at : goal.decreases-loop-at
decreases-loop-at l = length l.bytes - l.at
