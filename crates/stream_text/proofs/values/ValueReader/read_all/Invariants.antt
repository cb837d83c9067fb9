use Rattle.std.proofs.Common.{◌≡◌, ℕ, List, Bool, ◌≤◌, length, drop}
use Rattle.sx_base.specs.Bytes.{IsFront}
use Rattle.stream_text.specs.ValueReading.{ReadsValues}
use Rattle.stream_text.proofs.values.ValueReader.read_all.Given as goal

-- what becomes of the values that are left becomes of all
abbrev pub invariant-loop-place : goal.invariant-loop-place
invariant-loop-place l = record {
  within : l.at ≤ length l.text;
  same : l.frame ≡ l.fn.frame;
  kept : IsFront l.fn.to l.to;
  goes : (after : List ℕ) (b : Bool) → ReadsValues l.fn.frame.version (drop l.place l.kinds) (drop l.at l.text) l.to after b → ReadsValues l.fn.frame.version l.kinds l.text l.fn.to after b;
}
