use Rattle.std.proofs.Common.{◌≡◌, ◌++◌, ◌-◌, ◌≤◌, drop, take}
use Rattle.sx_base.specs.Bytes.{IsFront}
use Rattle.send_model.specs.Printed.{escaped}
use Rattle.sx_base.proofs.escaping.push_all_escaped.Given as goal

-- the blob, the run of bytes that stand for themselves, and the escaped form of what is left, are
-- what is wanted
abbrev pub invariant-loop-at : goal.invariant-loop-at
invariant-loop-at l = record {
  before : l.from ≤ l.at;
  wanted : l.to ++ (take (l.at - l.from) (drop l.from l.bytes) ++ escaped (drop l.at l.bytes)) ≡ l.fn.to ++ escaped l.bytes;
  kept : IsFront l.fn.to l.to;
}
