use Rattle.std.specs.Prelude.{◌≡◌, ◌≢◌, ℕ, List, [], map}
use Rattle.std.specs.String.{string_bytes}
use Rattle.std.proofs.Common.{sym, ap, ap₂, subst, ◌∙◌}
use Rattle.program_model.specs.Requests as requests
use Rattle.program_model.specs.Answers.{Answer}
use Rattle.request_answers.specs.Answered.{answer_of}
use Rattle.request_answers.specs.Objects.{Objects, objects_of}
use Rattle.request_answers.specs.Promises.{Answers}
use Rattle.request_answers.proofs.Still.{still}
use Rattle.request_answers.proofs.NothingDone as nothing
use Rattle.request_answers.proofs.MeetingStore as over
use Rattle.send_model.specs.Guards.{GuardSpec}
use Rattle.send_model.specs.Words.{new_guards}
use Rattle.guard_rules.specs.AnyKind.{any_kept}
use Rattle.program_model.specs.FileWords.{GivenFiles}
use Rattle.store_commands.proofs.StreamAnswers.{then_told}
use Rattle.request_answers.proofs.putting.receive_answer.Goals as goal

pub returns-in_default : goal.returns-in_default
returns-in_default g c = λ (store : List ℕ).
    let o : Objects = objects_of g.I.Inputs c.args.inputs.now c.args.inputs.now g.O.Sink c.args.out.now c.args.out.now g.D.Disk c.args.disk.now c.args.disk.now in
    subst (λ (a : Answer). Answers o (requests.Receive c.args.putting.now.guards store c.args.putting.now.files) a) (sym c.no_memory.ensures)
    (nothing.receive_nothing o (still g.I.Inputs c.args.inputs.now g.O.Sink c.args.out.now g.D.Disk c.args.disk.now (λ tells image. g.met.D.Disk.only_now c.args.disk.now image tells)) c.args.putting.now.guards store c.args.putting.now.files)

pub returns-in_default-given : goal.returns-in_default-given
returns-in_default-given g c = λ (store : List ℕ).
    let o : Objects = objects_of g.I.Inputs c.args.inputs.now c.args.inputs.now g.O.Sink c.args.out.now c.args.out.now g.D.Disk c.args.disk.now c.args.disk.now in
    subst (λ (a : Answer). Answers o (requests.Receive c.args.putting.now.guards store c.args.putting.now.files) a) (sym c.no_memory-in_default-given.ensures)
    (nothing.receive_nothing o (still g.I.Inputs c.args.inputs.now g.O.Sink c.args.out.now g.D.Disk c.args.disk.now (λ tells image. g.met.D.Disk.only_now c.args.disk.now image tells)) c.args.putting.now.guards store c.args.putting.now.files)

pub returns : goal.returns
returns g c = λ (store : List ℕ).
    let o : Objects = objects_of g.I.Inputs c.args.inputs.now c.receive_store.new.inputs g.O.Sink c.args.out.now c.receive_store.new.out g.D.Disk c.args.disk.now c.receive_store.new.disk in
    let files : GivenFiles = record { files = map string_bytes c.files.result.now; overrides = c.overrides.result.now } in
    let same : files ≡ c.args.putting.now.files = ap₂ (λ (f : List (List ℕ)) (o : _). record { files = f; overrides = o }) c.files.ensures.files c.overrides.ensures.overrides ∙ c.in-Ok-given.ensures.given in
    let some : files.files ≢ [] = λ none. c.in-Ok-given.ensures.some (sym c.files.ensures.files ∙ none) in
    let specs : List GuardSpec = c.args.putting.now.guards in
    let fits : map any_kept c.new-guards.result.guards.items ≡ new_guards specs = ap (map any_kept) c.new-guards.ensures ∙ c.in-Ok.ensures in
    let told = g.I.Inputs.told c.args.inputs.now in
    subst (λ (fs : GivenFiles). Answers o (requests.Receive specs store fs) (answer_of c.end_answer.result)) same
    (subst (λ (a : Answer). Answers o (requests.Receive specs store files) a) (sym c.end_answer.ensures)
    (over.receive_meets o store c.receive_store.result specs files some
    (record { known = c.receive_store.ensures.same; asked = c.receive_store.ensures.asked; caused = c.receive_store.ensures.cause })
    (λ tells. then_told told files.files _ _ (λ bytes w. (w.0, w.1, λ words front at are. w.2 words specs front at are fits)) (c.receive_store.ensures.answered tells))
    (λ tells. then_told told files.files _ _ (λ bytes leaves are. leaves specs are fits) (c.receive_store.ensures.any_moment tells))
    (λ tells. then_told told files.files _ _ (λ bytes w. (w.0, w.1, λ are. w.2 specs are fits)) (c.receive_store.ensures.acknowledged tells))))
