use Rattle.std.proofs.Common.{◌≡◌, ◌-◌, ◌%◌, ◌≤◌, length}
use Rattle.sx_base.specs.Bytes.{IsFront}
use Rattle.stream_text.proofs.HexTexts.{IsHexTo}
use Rattle.stream_text.proofs.glyphs.unhex_into.Given as goal

-- the bytes of the digits so far
abbrev pub invariant-loop-at : goal.invariant-loop-at
invariant-loop-at l = record {
  within : l.at ≤ length l.text;
  even : l.at % 2 ≡ 0;
  read : IsHexTo l.text l.fn.to l.to l.at;
  kept : IsFront l.fn.to l.to;
}

abbrev pub decreases-loop-at : goal.decreases-loop-at
decreases-loop-at l = length l.text - l.at
