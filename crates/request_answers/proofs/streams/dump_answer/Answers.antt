use Rattle.std.proofs.Common.{sym, subst}
use Rattle.program_model.specs.Requests as requests
use Rattle.program_model.specs.Answers.{Answer}
use Rattle.request_answers.specs.Objects.{Objects, objects_of}
use Rattle.request_answers.specs.Promises.{Answers}
use Rattle.request_answers.proofs.MeetingAlone as alone
use Rattle.request_answers.proofs.MeetingAlone.{unused}
use Rattle.sx_base.proofs.Asking.{asked_so, once_one}
use Rattle.request_answers.proofs.streams.dump_answer.Goals as goal

pub returns : goal.returns
returns g c =
    let o : Objects = objects_of g.I.Inputs c.args.inputs.now c.dump.new.inputs g.O.Sink c.args.out.now c.dump.new.out g.D.Disk c.args.disk.now c.args.disk.now in
    subst (λ (a : Answer). Answers o (requests.Dump c.args.file.now) a) (sym c.ended.ensures)
    (alone.dump_meets o c.args.file.now c.dump.result
    (record {
      known = c.dump.ensures.same;
      asked = asked_so g.I.Inputs (λ asks read. once_one c.args.file.now asks read) c.dump.ensures.asked;
      inputs = c.dump.ensures.steady;
      ends = c.dump.ensures.ends_steady;
      output = c.dump.ensures.out_steady;
      disk = unused g.I.Inputs c.args.inputs.now c.dump.new.inputs g.O.Sink c.args.out.now c.dump.new.out g.D.Disk c.args.disk.now (λ tells image. g.met.D.Disk.only_now c.args.disk.now image tells);
    })
    c.dump.ensures.cause c.dump.ensures.dumped)
