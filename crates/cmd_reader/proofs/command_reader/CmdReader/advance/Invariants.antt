use Rattle.std.proofs.Common.{◌≡◌, ◌-◌}
use Rattle.send_model.specs.Lengths.{limit}
use Rattle.sx_base.specs.Later.{ReadsOn}
use Rattle.cmd_reader.specs.Places.{IfTold}
use Rattle.cmd_reader.specs.Left.{HasAhead, read_to}
use Rattle.cmd_reader.specs.Next.{HasBegun, BeginsAt}
use Rattle.cmd_reader.proofs.command_reader.CmdReader.advance.Given as goal

-- Headers were passed, and no frame, and no count rose.
abbrev pub invariant-loop-answer : goal.invariant-loop-answer
invariant-loop-answer g l = record {
  same : g.I.Inputs.told l.inputs ≡ g.I.Inputs.told l.fn.inputs;
  steady : g.I.Inputs.faults l.inputs ≡ g.I.Inputs.faults l.fn.inputs;
  ends_steady : g.I.Inputs.ends l.inputs ≡ g.I.Inputs.ends l.fn.inputs;
  asked : ReadsOn g.I.Inputs l.fn.inputs l.inputs l.fn.self.name (read_to l.fn.self) (read_to l.self);
  begun : HasBegun l.fn.self l.self × IfTold (g.I.Inputs.told l.fn.inputs) l.fn.self.name (BeginsAt l.fn.self l.self);
  ahead : IfTold (g.I.Inputs.told l.inputs) l.self.name (HasAhead l.self);
}

-- Each header brings the reader nearer to the limit.
abbrev pub decreases-loop-answer : goal.decreases-loop-answer
decreases-loop-answer g l = limit - l.self.offset
