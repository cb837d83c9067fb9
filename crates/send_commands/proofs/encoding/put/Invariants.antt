use Rattle.std.proofs.Common.{map}
use Rattle.sx_base.specs.Bytes.{IsFront}
use Rattle.send_commands.specs.Meaning.{kind_meant}
use Rattle.send_commands.specs.Writing.{field_of}
use Rattle.send_commands.proofs.Spelled.{Written}
use Rattle.send_commands.proofs.encoding.put.Given as goal

abbrev pub invariant-loop-i : goal.invariant-loop-i
invariant-loop-i l = record {
  written : Written l.fn.to l.to l.writer (kind_meant l.fn.kind) l.version (map field_of l.fields) l.i;
  front : IsFront l.fn.to l.to;
}
