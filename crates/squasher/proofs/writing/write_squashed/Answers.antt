use Rattle.std.specs.Prelude.{ℕ, List, ◌++◌}
use Rattle.std.proofs.Common.{ap, ◌∙◌}
use Rattle.sx_base.proofs.Asking.{asked_nothing, read_none}
use Rattle.clone_pieces.specs.Sending.{output}
use Rattle.squasher.proofs.WrittenStream.{stream_cut, stream_whole}
use Rattle.squasher.proofs.writing.write_squashed.Goals as goal

pub returns-in_default-clause-asked : goal.returns-in_default-clause-asked
returns-in_default-clause-asked g c = asked_nothing g.I.Inputs c.args.inputs.now (0, read_none c.args.file.now.name.now 0)

pub returns-in-Err-clause-written : goal.returns-in-Err-clause-written
returns-in-Err-clause-written g c base =
    stream_cut (g.I.Inputs.told c.args.inputs.now) c.args.file.now.name.now c.args.file.now.said.now c.args.file.now.number base c.args.judged (output g.O.Sink c.args.out.now c.push_all.new.self) (output g.O.Sink c.write_commands.new.out c.write_commands.new.pending) c.in-Err.outcome
    (c.in-Ok.ensures.appended ∙ ap (λ (l : List ℕ). l ++ c.bytes.result) c.new-pending.ensures.empty ∙ c.bytes.ensures.bytes) (c.in-Err.ensures.written base)

pub returns-clause-written : goal.returns-clause-written
returns-clause-written g c base =
    stream_whole (g.I.Inputs.told c.args.inputs.now) c.args.file.now.name.now c.args.file.now.said.now c.args.file.now.number base c.args.judged (output g.O.Sink c.args.out.now c.push_all.new.self) (output g.O.Sink c.write_commands.new.out c.write_commands.new.pending) (output g.O.Sink c.write_end.new.out c.write_end.new.pending) c.in-Ok-write_commands.field-0 c.write_end.result
    (c.in-Ok.ensures.appended ∙ ap (λ (l : List ℕ). l ++ c.bytes.result) c.new-pending.ensures.empty ∙ c.bytes.ensures.bytes) (c.in-Ok-write_commands.ensures.written base) c.write_end.ensures.ended
