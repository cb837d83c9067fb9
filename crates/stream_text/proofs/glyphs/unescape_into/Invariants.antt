use Rattle.std.proofs.Common.{◌≡◌, ◌-◌, ◌≤◌, ◌++◌, length, take, drop}
use Rattle.sx_base.specs.Bytes.{IsFront}
use Rattle.stream_text.specs.ValueReading.{loosely}
use Rattle.stream_text.proofs.glyphs.unescape_into.Given as goal

-- what was read, the run of bytes that stand for themselves, and what is left
abbrev pub invariant-loop-at : goal.invariant-loop-at
invariant-loop-at l = record {
  low : l.from ≤ l.at;
  within : l.at ≤ length l.text;
  kept : IsFront l.fn.to l.to;
  reads : (l.to ++ take (l.at - l.from) (drop l.from l.text)) ++ loosely (drop l.at l.text) ≡ l.fn.to ++ loosely l.text;
}

abbrev pub decreases-loop-at : goal.decreases-loop-at
decreases-loop-at l = length l.text - l.at
