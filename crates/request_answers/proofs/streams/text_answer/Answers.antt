use Rattle.std.proofs.Common.{sym, subst}
use Rattle.program_model.specs.Requests as requests
use Rattle.program_model.specs.Answers.{Answer}
use Rattle.request_answers.specs.Objects.{Objects, objects_of}
use Rattle.request_answers.specs.Promises.{Answers}
use Rattle.request_answers.proofs.MeetingTexts as texts
use Rattle.request_answers.proofs.MeetingAlone.{unused}
use Rattle.sx_base.proofs.Asking.{asked_so, once_one}
use Rattle.request_answers.proofs.streams.text_answer.Goals as goal

pub returns : goal.returns
returns g c =
    let o : Objects = objects_of g.I.Inputs c.args.inputs.now c.text.new.inputs g.O.Sink c.args.out.now c.text.new.out g.D.Disk c.args.disk.now c.args.disk.now in
    subst (λ (a : Answer). Answers o (requests.Text c.args.file.now) a) (sym c.ended.ensures)
    (texts.text_meets o c.args.file.now c.text.result
    (record {
      known = c.text.ensures.same;
      asked = asked_so g.I.Inputs (λ asks read. once_one c.args.file.now asks read) c.text.ensures.asked;
      inputs = c.text.ensures.steady;
      ends = c.text.ensures.ends_steady;
      output = c.text.ensures.out_steady;
      disk = unused g.I.Inputs c.args.inputs.now c.text.new.inputs g.O.Sink c.args.out.now c.text.new.out g.D.Disk c.args.disk.now (λ tells image. g.met.D.Disk.only_now c.args.disk.now image tells);
    })
    c.text.ensures.cause c.text.ensures.printed)
