use Rattle.std.proofs.Common.{◌≡◌, ◌-◌}
use Rattle.std.specs.String.{string_bytes}
use Rattle.send_model.specs.Lengths.{limit}
use Rattle.sx_base.specs.Later.{ReadsOn}
use Rattle.cmd_reader.specs.Places.{IfTold}
use Rattle.cmd_reader.specs.Sources.{IsSource, IsAhead}
use Rattle.cmd_reader.proofs.source.Source.pass.Given as goal

-- Nothing was gone past, and no count rose; the feed has more bytes of the file and none besides.
abbrev pub invariant-loop-unit : goal.invariant-loop-unit
invariant-loop-unit g l = record {
  same : g.I.Inputs.told l.inputs ≡ g.I.Inputs.told l.fn.inputs;
  steady : g.I.Inputs.faults l.inputs ≡ g.I.Inputs.faults l.fn.inputs;
  ends_steady : g.I.Inputs.ends l.inputs ≡ g.I.Inputs.ends l.fn.inputs;
  asked : ReadsOn g.I.Inputs l.fn.inputs l.inputs (string_bytes l.fn.self.name) l.fn.self.fed l.self.fed;
  source : IsSource l.self;
  name : l.self.name ≡ l.fn.self.name;
  place : l.self.at ≡ l.fn.self.at;
  due : l.self.feed.due ≡ l.fn.self.feed.due;
  ended : l.self.feed.ended ≡ l.fn.self.feed.ended;
  ahead : IfTold (g.I.Inputs.told l.inputs) (string_bytes l.self.name) (IsAhead l.self.at l.self.feed);
}

-- Each piece brings the feed nearer to the limit.
abbrev pub decreases-loop-unit : goal.decreases-loop-unit
decreases-loop-unit g l = limit - l.self.fed
