use Rattle.std.proofs.Common.{◌≡◌, ℕ, refl, subst, ◌∙◌, arith}
use Rattle.cmd_reader.specs.Steadiness.{UnlessFailed}
use Rattle.cmd_reader.proofs.Goings.{begun_at_start, begun_further, begun_ahead, answered, frame_fits}
use Rattle.cmd_reader.specs.Left.{read_to}
use Rattle.cmd_reader.proofs.Asked.{reads_nothing, reads_then}
use Rattle.cmd_reader.proofs.Standing.{halted_over}
use Rattle.cmd_reader.proofs.command_reader.CmdReader.advance.Goals as goal

pub loop-answer-init : goal.loop-answer-init
loop-answer-init g c = record { same = refl; steady = refl; ends_steady = refl; asked = reads_nothing g.I.Inputs c.args.inputs.now c.args.self.now.name (read_to c.args.self.now); begun = begun_at_start (g.I.Inputs.told c.args.inputs.now) c.args.self.now c.requires.ahead; ahead = c.requires.ahead }

pub loop-answer-preserved : goal.loop-answer-preserved
loop-answer-preserved g c =
    let i = c.loop-answer.invariant in
    let begun = begun_further (g.I.Inputs.told c.args.inputs.now) (g.I.Inputs.told c.loop-answer.inputs) c.args.self.now c.loop-answer.self c.step.new.self 0 0 i.same i.begun.0 i.begun.1 c.in-None.ensures.says in
    let same = c.step.ensures.same ∙ i.same in
    record {
      same = same;
      steady = c.in-None.ensures.steady ∙ i.steady;
      ends_steady = c.in-None.ensures.ends_steady ∙ i.ends_steady;
      asked = reads_then g.I.Inputs _ _ _ _ _ _ _ _ _ i.begun.0.name refl i.asked c.in-None.ensures.asked;
      begun = begun;
      ahead = begun_ahead (g.I.Inputs.told c.args.inputs.now) (g.I.Inputs.told c.step.new.inputs) c.args.self.now c.step.new.self same begun;
    }

pub returns-in-Some : goal.returns-in-Some
returns-in-Some g c =
    let i = c.loop-answer.invariant in
    let says = answered (g.I.Inputs.told c.args.inputs.now) (g.I.Inputs.told c.loop-answer.inputs) c.args.self.now c.loop-answer.self c.step.new.self _ _ _ c.in-Some.answer i.same (omega (arith, i.steady)) i.begun.0 i.begun.1 c.in-Some.ensures.says in
    let e = c.in-Some.ensures in
    record {
      same = e.same ∙ i.same;
      later = omega (arith, i.steady, e.later);
      steady = subst (λ (n : ℕ). UnlessFailed c.in-Some.answer (g.I.Inputs.faults c.step.new.inputs ≡ n)) i.steady e.steady;
      ends_later = omega (arith, i.ends_steady, e.ends_later);
      ends_steady = subst (λ (n : ℕ). UnlessFailed c.in-Some.answer (g.I.Inputs.ends c.step.new.inputs ≡ n)) i.ends_steady e.ends_steady;
      asked = reads_then g.I.Inputs _ _ _ _ _ _ _ _ _ i.begun.0.name refl i.asked e.asked;
      file = e.file ∙ i.begun.0.file;
      name = e.name ∙ i.begun.0.name;
      fits = frame_fits (g.I.Inputs.told c.args.inputs.now) c.args.self.now c.step.new.self _ _ c.in-Some.answer says;
      says = says;
      halts = halted_over c.args.self.now c.loop-answer.self c.step.new.self c.in-Some.answer i.begun.0 e.halts;
    }
