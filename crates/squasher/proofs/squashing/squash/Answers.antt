use Rattle.sx_base.proofs.Asking.{asked_so, asked_then}
use Rattle.squasher.proofs.SquashedFile.{read_twice, read_one_time, squash_stops, squash_done, squash_cut}
use Rattle.squasher.proofs.squashing.squash.Goals as goal

pub returns-in-Err-clause-asked : goal.returns-in-Err-clause-asked
returns-in-Err-clause-asked g c = asked_so g.I.Inputs (λ asks on. read_one_time (g.I.Inputs.told c.args.inputs.now) c.args.file.now.name.now asks on) c.judge.ensures.asked

pub returns-in-Ok-write_squashed-clause-asked : goal.returns-in-Ok-write_squashed-clause-asked
returns-in-Ok-write_squashed-clause-asked g c =
    asked_then g.I.Inputs (λ xs ys first then. read_twice (g.I.Inputs.told c.args.inputs.now) c.args.file.now.name.now xs ys first then) c.judge.ensures.asked c.write_squashed.ensures.asked

pub returns-in-Err-write_squashed-clause-asked : goal.returns-in-Err-write_squashed-clause-asked
returns-in-Err-write_squashed-clause-asked g c =
    asked_then g.I.Inputs (λ xs ys first then. read_twice (g.I.Inputs.told c.args.inputs.now) c.args.file.now.name.now xs ys first then) c.judge.ensures.asked c.write_squashed.ensures.asked

pub returns-in-Err-clause-squashed : goal.returns-in-Err-clause-squashed
returns-in-Err-clause-squashed g c base shape =
    squash_stops (g.I.Inputs.told c.args.inputs.now) c.args.file.now.name.now c.args.core c.args.file.now.said.now c.args.file.now.number (g.O.Sink.taken c.args.out.now) c.judge.result c.in-Err.outcome c.in-Err.is c.judge.ensures.judged base shape

pub returns-in-Ok-write_squashed-clause-squashed : goal.returns-in-Ok-write_squashed-clause-squashed
returns-in-Ok-write_squashed-clause-squashed g c base shape =
    squash_done (g.I.Inputs.told c.args.inputs.now) (g.I.Inputs.told c.judge.new.inputs) c.args.file.now.name.now c.args.core c.args.file.now.said.now c.args.file.now.number (g.O.Sink.taken c.args.out.now) (g.O.Sink.taken c.write_squashed.new.out)
    c.judge.result c.in-Ok.judged c.write_squashed.result c.in-Ok-write_squashed.field-0 c.in-Ok.is c.in-Ok.ensures.inputs.same c.in-Ok-write_squashed.is c.judge.ensures.judged c.write_squashed.ensures.written base shape

pub returns-in-Err-write_squashed-clause-squashed : goal.returns-in-Err-write_squashed-clause-squashed
returns-in-Err-write_squashed-clause-squashed g c base shape =
    squash_cut (g.I.Inputs.told c.args.inputs.now) (g.I.Inputs.told c.judge.new.inputs) c.args.file.now.name.now c.args.core c.args.file.now.said.now c.args.file.now.number (g.O.Sink.taken c.args.out.now) (g.O.Sink.taken c.write_squashed.new.out)
    c.judge.result c.in-Ok.judged c.write_squashed.result c.in-Err-write_squashed.outcome c.in-Ok.is c.in-Ok.ensures.inputs.same c.in-Err-write_squashed.is c.judge.ensures.judged c.write_squashed.ensures.written base shape
