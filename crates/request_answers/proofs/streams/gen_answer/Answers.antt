use Rattle.std.specs.Prelude.{ℕ, []}
use Rattle.std.proofs.Common.{refl, sym, subst}
use Rattle.sx_base.proofs.Asking.{asked_nothing, once_none}
use Rattle.program_model.specs.Requests as requests
use Rattle.program_model.specs.Answers.{Answer}
use Rattle.request_answers.specs.Answered.{answer_of}
use Rattle.request_answers.specs.Objects.{Objects, objects_of}
use Rattle.request_answers.specs.Promises.{Answers}
use Rattle.request_answers.proofs.MeetingAlone as alone
use Rattle.request_answers.proofs.MeetingAlone.{unused}
use Rattle.sx_base.proofs.Ended.{steady_anyway}
use Rattle.request_answers.proofs.streams.gen_answer.Goals as goal

pub returns : goal.returns
returns g c =
    let o : Objects = objects_of g.I.Inputs c.args.inputs.now c.args.inputs.now g.O.Sink c.args.out.now c.write_chain.new.out g.D.Disk c.args.disk.now c.args.disk.now in
    subst (λ (n : ℕ). Answers o (requests.Gen n c.args.chain.1) (answer_of c.ended.result)) c.number.ensures.number
    (subst (λ (a : Answer). Answers o (requests.Gen c.number.result c.args.chain.1) a) (sym c.ended.ensures)
    (alone.gen_meets o c.number.result c.args.chain.1 c.write_chain.result
    (record {
      known = refl;
      asked = asked_nothing g.I.Inputs c.args.inputs.now (once_none []);
      inputs = steady_anyway _ _ c.write_chain.result refl;
      ends = steady_anyway _ _ c.write_chain.result refl;
      output = c.write_chain.ensures.steady;
      disk = unused g.I.Inputs c.args.inputs.now c.args.inputs.now g.O.Sink c.args.out.now c.write_chain.new.out g.D.Disk c.args.disk.now (λ tells image. g.met.D.Disk.only_now c.args.disk.now image tells);
    })
    refl c.write_chain.ensures.cause c.write_chain.ensures.written))
