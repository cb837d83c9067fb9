use Rattle.std.specs.Prelude.{ℕ, List, []}
use Rattle.std.proofs.Common.{refl, sym, subst}
use Rattle.std.proofs.KnownBytes.{Appends-nil}
use Rattle.sx_base.proofs.Asking.{asked_nothing, once_none}
use Rattle.program_model.specs.Requests as requests
use Rattle.program_model.specs.Answers.{Answer}
use Rattle.request_answers.specs.Objects.{Objects, objects_of}
use Rattle.request_answers.specs.Promises.{Answers}
use Rattle.request_answers.proofs.MeetingStore as over
use Rattle.request_answers.proofs.MeetingStore.{some_len}
use Rattle.request_answers.proofs.putting.init_answer.Goals as goal

pub returns : goal.returns
returns g c = λ (store : List ℕ).
    let o : Objects = objects_of g.I.Inputs c.args.inputs.now c.args.inputs.now g.O.Sink c.args.out.now c.args.out.now g.D.Disk c.args.disk.now c.init_store.new.disk in
    let changing : over.Changing o = record {
      known = refl;
      asked = asked_nothing g.I.Inputs c.args.inputs.now (once_none []);
      inputs = refl;
      output = refl;
      nothing = Appends-nil (g.O.Sink.taken c.args.out.now);
      steady = (refl, (refl, refl));
    } in
    subst (λ (a : Answer). Answers o (requests.Init store) a) (sym c.end_answer.ensures)
    (over.init_meets o store c.init_store.result changing c.init_store.ensures.cause c.init_store.ensures.answered c.init_store.ensures.durable
    (λ tells some. c.init_store.ensures.any_moment tells (some_len (g.D.Disk.seen c.args.disk.now) (g.D.Disk.len c.args.disk.now) (g.met.D.Disk.sized c.args.disk.now tells) some)))
