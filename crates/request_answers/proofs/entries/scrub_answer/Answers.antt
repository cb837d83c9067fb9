use Rattle.std.specs.Prelude.{ℕ, List, []}
use Rattle.std.proofs.Common.{refl, sym, subst}
use Rattle.sx_base.proofs.Asking.{asked_nothing, once_none}
use Rattle.program_model.specs.Requests as requests
use Rattle.program_model.specs.Answers.{Answer}
use Rattle.request_answers.specs.Objects.{Objects, objects_of}
use Rattle.request_answers.specs.Promises.{Answers}
use Rattle.request_answers.proofs.MeetingStore as over
use Rattle.request_answers.proofs.MeetingStore.{Printing}
use Rattle.request_answers.proofs.entries.scrub_answer.Goals as goal

pub returns : goal.returns
returns g c = λ (store : List ℕ).
    let o : Objects = objects_of g.I.Inputs c.args.inputs.now c.args.inputs.now g.O.Sink c.args.out.now c.scrub_store.new.out g.D.Disk c.args.disk.now c.scrub_store.new.disk in
    let printed : Printing o = record {
      reading = record {
        known = refl;
        asked = asked_nothing g.I.Inputs c.args.inputs.now (once_none []);
        contents = c.scrub_store.ensures.seen;
        moment = c.scrub_store.ensures.any_moment;
      };
      inputs = refl;
      steady = (refl, refl);
    } in
    subst (λ (a : Answer). Answers o (requests.Scrub store) a) (sym c.end_answer.ensures)
    (over.scrub_meets o store c.scrub_store.result printed c.scrub_store.ensures.cause c.scrub_store.ensures.answered)
