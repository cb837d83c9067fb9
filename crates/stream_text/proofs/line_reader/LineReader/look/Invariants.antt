use Rattle.std.proofs.Common.{◌≡◌, ◌-◌, ◌≤◌, length, take}
use Rattle.std.specs.String.{string_bytes}
use Rattle.sx_base.specs.Later.{ReadsOn}
use Rattle.stream_text.specs.Lines.{HasNoLine, IfFile, IsHeld}
use Rattle.stream_text.specs.Reading.{IsReader, held, fed, IsOfSame}
use Rattle.stream_text.proofs.line_reader.LineReader.look.Given as goal

-- no newline stands in the bytes that were looked at, and no count rose
abbrev pub invariant-loop-len : goal.invariant-loop-len
invariant-loop-len g l = record {
  told : g.I.Inputs.told l.inputs ≡ g.I.Inputs.told l.fn.inputs;
  steady : g.I.Inputs.faults l.inputs ≡ g.I.Inputs.faults l.fn.inputs;
  ends_steady : g.I.Inputs.ends l.inputs ≡ g.I.Inputs.ends l.fn.inputs;
  asked : ReadsOn g.I.Inputs l.fn.inputs l.inputs (string_bytes l.fn.self.name) (fed l.fn.self) (fed l.self);
  reader : IsReader l.self;
  same : IsOfSame l.fn.self l.self;
  ahead : IfFile (g.I.Inputs.told l.fn.inputs) (string_bytes l.fn.self.name) (IsHeld l.fn.self.at (held l.self));
  seen : l.seen ≤ length (held l.self);
  none : HasNoLine (take l.seen (held l.self));
}

-- each piece brings the bytes that are there nearer to all the room
abbrev pub decreases-loop-len : goal.decreases-loop-len
decreases-loop-len g l = 2_097_153 - length (held l.self)
