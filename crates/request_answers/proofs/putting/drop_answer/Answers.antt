use Rattle.std.specs.Prelude.{◌≡◌, ℕ, List, []}
use Rattle.std.proofs.Common.{refl, sym, ap₂, subst, ◌∙◌}
use Rattle.std.proofs.KnownBytes.{Appends-nil}
use Rattle.sx_base.proofs.Asking.{asked_nothing, once_none}
use Rattle.program_model.specs.Requests as requests
use Rattle.program_model.specs.Answers.{Answer}
use Rattle.request_answers.specs.Answered.{answer_of}
use Rattle.request_answers.specs.Objects.{Objects, objects_of}
use Rattle.request_answers.specs.Promises.{Answers}
use Rattle.request_answers.proofs.Causes.{of_end}
use Rattle.request_answers.proofs.Still.{still}
use Rattle.request_answers.proofs.NothingDone as nothing
use Rattle.request_answers.proofs.MeetingStore as over
use Rattle.request_answers.proofs.MeetingStore.{leaves_more}
use Rattle.request_answers.proofs.putting.drop_answer.Goals as goal

pub returns-in_default : goal.returns-in_default
returns-in_default g c = λ (store : List ℕ).
    let o : Objects = objects_of g.I.Inputs c.args.inputs.now c.args.inputs.now g.O.Sink c.args.out.now c.args.out.now g.D.Disk c.args.disk.now c.args.disk.now in
    subst (λ (a : Answer). Answers o (requests.Drop store c.args.name.now) a) (sym c.no_memory.ensures)
    (nothing.drop_nothing o (still g.I.Inputs c.args.inputs.now g.O.Sink c.args.out.now g.D.Disk c.args.disk.now (λ tells image. g.met.D.Disk.only_now c.args.disk.now image tells)) store c.args.name.now)

pub returns : goal.returns
returns g c = λ (store : List ℕ).
    let o : Objects = objects_of g.I.Inputs c.args.inputs.now c.args.inputs.now g.O.Sink c.args.out.now c.args.out.now g.D.Disk c.args.disk.now c.drop_entry-end.new.disk in
    let changing : over.Changing o = record {
      known = refl;
      asked = asked_nothing g.I.Inputs c.args.inputs.now (once_none []);
      inputs = refl;
      output = refl;
      nothing = Appends-nil (g.O.Sink.taken c.args.out.now);
      steady = (refl, (refl, refl));
    } in
    let name : List ℕ = c.as_slice.result.now in
    let name_is : name ≡ c.args.name.now = c.as_slice.ensures.bytes ∙ c.in-Ok.ensures.meant in
    let answer_is : answer_of c.named_answer.result ≡ of_end name [] c.drop_entry-end.result =
    c.named_answer.ensures ∙ ap₂ (λ (n p : List ℕ). of_end n p c.drop_entry-end.result) (sym c.as_slice.ensures.bytes) c.new.ensures.empty in
    subst (λ (n : List ℕ). Answers o (requests.Drop store n) (answer_of c.named_answer.result)) name_is
    (subst (λ (a : Answer). Answers o (requests.Drop store name) a) (sym answer_is)
    (over.drop_meets o store name c.drop_entry-end.result changing c.drop_entry-end.ensures.cause c.drop_entry-end.ensures.answered c.drop_entry-end.ensures.durable
    c.drop_entry-end.ensures.any_moment (leaves_more g.D.Disk.moment g.D.Disk.left_since c.args.disk.now c.drop_entry-end.new.disk)))
