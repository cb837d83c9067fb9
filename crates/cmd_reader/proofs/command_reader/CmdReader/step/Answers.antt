use Rattle.std.proofs.Common.{refl, ap, sym, ◌∙◌, arith}
use Rattle.std.specs.String.{string_bytes}
use Rattle.cmd_reader.proofs.Steps.{fault_said, head_said, frame_said, whole_said, cut_said}
use Rattle.cmd_reader.proofs.Standing.{fault_halted, whole_halted, cut_halted}
use Rattle.cmd_reader.proofs.Asked.{step_asks}
use Rattle.cmd_reader.proofs.Steady.{whatever_stop, seen_at_place}
use Rattle.cmd_reader.proofs.command_reader.CmdReader.step.Goals as goal

pub returns-then-whole-clause-says : goal.returns-then-whole-clause-says
returns-then-whole-clause-says g c = whole_said _ _ _ c.args.self.now 0 0 _ _ c.in-Ok-None.field-0 c.self.view_is c.in-Ok-None.field-0-is (sym c.whole.ensures.whole ∙ c.if-whole.true) c.self.invariant.at_end c.in-Ok-None.ensures.says

pub returns-in-Ok-None-clause-says : goal.returns-in-Ok-None-clause-says
returns-in-Ok-None-clause-says g c = cut_said _ _ _ c.args.self.now _ _ _ _ c.in-Ok-None.field-0 _ c.self.view_is c.in-Ok-None.field-0-is (sym c.whole.ensures.whole ∙ c.if-whole.false) c.in-Ok-None.ensures.says c.stop_at.ensures.stop

pub returns-in-Err-clause-says : goal.returns-in-Err-clause-says
returns-in-Err-clause-says g c = fault_said _ _ _ c.args.self.now _ _ _ _ _ _ c.self.view_is c.in-Err.ensures.says c.stop_at-in-Err.ensures.stop

pub returns-then-whole-clause-halts : goal.returns-then-whole-clause-halts
returns-then-whole-clause-halts g c =
    let e = c.in-Ok-None.ensures in
    whole_halted _ _ _ _ 0 0 c.in-Ok-None.field-0 c.self.view_is c.in-Ok-None.field-0-is refl (ap string_bytes e.name) refl e.says

pub returns-in-Ok-None-clause-halts : goal.returns-in-Ok-None-clause-halts
returns-in-Ok-None-clause-halts g c =
    let e = c.in-Ok-None.ensures in
    cut_halted _ _ _ _ 0 0 c.in-Ok-None.field-0 _ c.self.view_is c.in-Ok-None.field-0-is refl (ap string_bytes e.name) refl e.says c.stop_at.ensures.stop

pub returns-in-Err-clause-halts : goal.returns-in-Err-clause-halts
returns-in-Err-clause-halts g c =
    let e = c.in-Err.ensures in
    fault_halted _ _ _ _ _ _ _ _ c.self.view_is refl (ap string_bytes e.name) refl e.says c.stop_at-in-Err.ensures.stop

pub returns-in-Head-clause-says : goal.returns-in-Head-clause-says
returns-in-Head-clause-says g c =
    let e = c.in-Ok-Some.ensures in
    head_said _ _ _ _ 0 0 c.in-Head.field-0 c.in-Ok-Some.unit c.in-Ok-Some.field-0 c.self.view_is c.in-Ok-Some.field-0-is c.in-Head.is refl (ap string_bytes e.name) refl (omega (arith, e.source.up_to, e.source.within)) e.says

pub returns-in-Frame-clause-says : goal.returns-in-Frame-clause-says
returns-in-Frame-clause-says g c =
    let e = c.in-Ok-Some.ensures in
    frame_said _ _ _ _ 0 0 c.in-Frame.head c.in-Frame.version c.in-Ok-Some.unit c.in-Ok-Some.field-0 _ c.self.view_is c.in-Ok-Some.field-0-is c.in-Frame.is refl refl (ap string_bytes e.name) refl (omega (arith, e.source.up_to, e.source.within)) e.says

pub returns-in-Ok-None-clause-steady : goal.returns-in-Ok-None-clause-steady
returns-in-Ok-None-clause-steady g c = whatever_stop c.stop_at.result _ c.in-Ok-None.ensures.steady

pub returns-in-Ok-None-clause-ends_steady : goal.returns-in-Ok-None-clause-ends_steady
returns-in-Ok-None-clause-ends_steady g c = whatever_stop c.stop_at.result _ c.in-Ok-None.ensures.ends_steady

pub returns-in-Err-clause-steady : goal.returns-in-Err-clause-steady
returns-in-Err-clause-steady g c = seen_at_place _ _ _ c.in-Err.fault c.stop_at-in-Err.result _ c.stop_at-in-Err.ensures.stop c.in-Err.ensures.steady

pub returns-in-Err-clause-ends_steady : goal.returns-in-Err-clause-ends_steady
returns-in-Err-clause-ends_steady g c = seen_at_place _ _ _ c.in-Err.fault c.stop_at-in-Err.result _ c.stop_at-in-Err.ensures.stop c.in-Err.ensures.ends_steady

pub returns-then-whole-clause-asked : goal.returns-then-whole-clause-asked
returns-then-whole-clause-asked g c = step_asks g.I.Inputs _ _ c.args.self.now _ _ _ _ c.pass.new.self.feed c.self.view_is c.self.invariant.source_is.up_to c.in-Ok-None.ensures.source.up_to c.in-Ok-None.ensures.asked

pub returns-in-Ok-None-clause-asked : goal.returns-in-Ok-None-clause-asked
returns-in-Ok-None-clause-asked g c = step_asks g.I.Inputs _ _ c.args.self.now _ _ _ _ c.pass.new.self.feed c.self.view_is c.self.invariant.source_is.up_to c.in-Ok-None.ensures.source.up_to c.in-Ok-None.ensures.asked

pub returns-in-Err-clause-asked : goal.returns-in-Err-clause-asked
returns-in-Err-clause-asked g c = step_asks g.I.Inputs _ _ c.args.self.now _ _ _ _ c.pass.new.self.feed c.self.view_is c.self.invariant.source_is.up_to c.in-Err.ensures.source.up_to c.in-Err.ensures.asked

pub returns-in-Head-clause-asked : goal.returns-in-Head-clause-asked
returns-in-Head-clause-asked g c = step_asks g.I.Inputs _ _ c.args.self.now _ _ _ _ c.pass.new.self.feed c.self.view_is c.self.invariant.source_is.up_to c.in-Ok-Some.ensures.source.up_to c.in-Ok-Some.ensures.asked

pub returns-in-Frame-clause-asked : goal.returns-in-Frame-clause-asked
returns-in-Frame-clause-asked g c = step_asks g.I.Inputs _ _ c.args.self.now _ _ _ _ c.pass.new.self.feed c.self.view_is c.self.invariant.source_is.up_to c.in-Ok-Some.ensures.source.up_to c.in-Ok-Some.ensures.asked
