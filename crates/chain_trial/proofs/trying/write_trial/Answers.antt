use Rattle.std.proofs.Common.{◌∙◌}
use Rattle.chain_trial.proofs.Trials.{line_written, line_cut}
use Rattle.chain_trial.proofs.trying.write_trial.Goals as goal

pub returns-in-Ok-write_whole-clause-written : goal.returns-in-Ok-write_whole-clause-written
returns-in-Ok-write_whole-clause-written g c =
    line_written c.args.seed c.args.count c.in-Ok.numbers c.as_slice.result.now (g.O.Sink.taken c.args.out.now) (g.O.Sink.taken c.write_whole.new.sink)
    (c.as_slice.ensures.bytes ∙ c.in-Ok-line_of.ensures.line) c.in-Ok.ensures.numbers c.in-Ok-write_whole.ensures.whole

pub returns-clause-written : goal.returns-clause-written
returns-clause-written g c =
    line_cut c.args.seed c.args.count c.in-Ok.numbers c.as_slice.result.now (g.O.Sink.taken c.args.out.now) (g.O.Sink.taken c.write_whole.new.sink)
    (c.as_slice.ensures.bytes ∙ c.in-Ok-line_of.ensures.line) c.in-Ok.ensures.numbers c.in-Err.ensures.part
