use Rattle.std.proofs.Common.{◌≡◌, drop}
use Rattle.std.specs.Str.Parse.{AllDigits, digits_value, digits_value_after}
use Rattle.stream_text.proofs.values.digits_in.Given as goal

-- the number so far, and the digits that are left
abbrev pub invariant-loop-place : goal.invariant-loop-place
invariant-loop-place l = record {
  value : AllDigits l.base l.text → digits_value_after l.base l.number (drop l.place l.text) ≡ digits_value l.base l.text;
}
