use Rattle.std.proofs.Common.{map}
use Rattle.sx_base.specs.Bytes.{IsFront}
use Rattle.stream_dump.specs.Values.{field_of, form_of}
use Rattle.stream_dump.proofs.ValueLines.{IsValuesTo}
use Rattle.stream_dump.proofs.values.push_values.Given as goal

abbrev pub invariant-loop-place : goal.invariant-loop-place
invariant-loop-place l = record {
  printed : IsValuesTo (form_of l.contents) l.fn.to l.to l.wanted (map field_of l.values) l.place;
  kept : IsFront l.fn.to l.to;
}
