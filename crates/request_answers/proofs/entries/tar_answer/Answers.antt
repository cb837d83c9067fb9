use Rattle.std.specs.Prelude.{◌≡◌, ℕ, List, []}
use Rattle.std.proofs.Common.{refl, sym, ap₂, subst, ◌∙◌}
use Rattle.sx_base.proofs.Asking.{asked_nothing, once_none}
use Rattle.program_model.specs.Requests as requests
use Rattle.program_model.specs.Answers.{Answer}
use Rattle.request_answers.specs.Answered.{answer_of}
use Rattle.request_answers.specs.Objects.{Objects, objects_of}
use Rattle.request_answers.specs.Promises.{Answers}
use Rattle.request_answers.proofs.Causes.{of_end}
use Rattle.request_answers.proofs.Still.{still}
use Rattle.request_answers.proofs.NothingDone as nothing
use Rattle.request_answers.proofs.MeetingStore as over
use Rattle.request_answers.proofs.MeetingStore.{Printing}
use Rattle.request_answers.proofs.entries.tar_answer.Goals as goal

pub returns-in_default : goal.returns-in_default
returns-in_default g c = λ (store : List ℕ).
    let o : Objects = objects_of g.I.Inputs c.args.inputs.now c.args.inputs.now g.O.Sink c.args.out.now c.args.out.now g.D.Disk c.args.disk.now c.args.disk.now in
    subst (λ (a : Answer). Answers o (requests.Tar store c.args.name.now) a) (sym c.no_memory.ensures)
    (nothing.tar_nothing o (still g.I.Inputs c.args.inputs.now g.O.Sink c.args.out.now g.D.Disk c.args.disk.now (λ tells image. g.met.D.Disk.only_now c.args.disk.now image tells)) store c.args.name.now)

pub returns : goal.returns
returns g c = λ (store : List ℕ).
    let o : Objects = objects_of g.I.Inputs c.args.inputs.now c.args.inputs.now g.O.Sink c.args.out.now c.archive_entry-end.new.out g.D.Disk c.args.disk.now c.archive_entry-end.new.disk in
    let printed : Printing o = record {
      reading = record {
        known = refl;
        asked = asked_nothing g.I.Inputs c.args.inputs.now (once_none []);
        contents = c.archive_entry-end.ensures.seen;
        moment = c.archive_entry-end.ensures.any_moment;
      };
      inputs = refl;
      steady = (refl, refl);
    } in
    let name : List ℕ = c.as_slice.result.now in
    let name_is : name ≡ c.args.name.now = c.as_slice.ensures.bytes ∙ c.in-Ok.ensures.meant in
    let answer_is : answer_of c.named_answer.result ≡ of_end name [] c.archive_entry-end.result =
    c.named_answer.ensures ∙ ap₂ (λ (n p : List ℕ). of_end n p c.archive_entry-end.result) (sym c.as_slice.ensures.bytes) c.new.ensures.empty in
    subst (λ (n : List ℕ). Answers o (requests.Tar store n) (answer_of c.named_answer.result)) name_is
    (subst (λ (a : Answer). Answers o (requests.Tar store name) a) (sym answer_is)
    (over.tar_meets o store name c.archive_entry-end.result printed c.archive_entry-end.ensures.cause c.archive_entry-end.ensures.answered c.archive_entry-end.ensures.unfinished))
