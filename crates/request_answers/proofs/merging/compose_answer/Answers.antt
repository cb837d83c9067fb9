use Rattle.std.specs.Prelude.{◌≡◌, ◌≢◌, ℕ, List, [], map}
use Rattle.std.specs.String.{string_bytes}
use Rattle.std.proofs.Common.{sym, ap₂, subst, ◌∙◌}
use Rattle.program_model.specs.FileWords.{GivenFiles}
use Rattle.program_model.specs.Requests as requests
use Rattle.program_model.specs.Answers.{Answer}
use Rattle.command_line.specs.Meaning.{base_meant}
use Rattle.command_line.specs.declared.request.Base.{Base}
use Rattle.request_answers.specs.Answered.{answer_of}
use Rattle.request_answers.specs.Objects.{Objects, objects_of}
use Rattle.request_answers.specs.Promises.{Answers}
use Rattle.request_answers.proofs.Still.{still}
use Rattle.request_answers.proofs.NothingDone as nothing
use Rattle.request_answers.proofs.MeetingAlone as alone
use Rattle.request_answers.proofs.MeetingAlone.{unused}
use Rattle.request_answers.proofs.MeetingStore as over
use Rattle.request_answers.proofs.merging.compose_answer.Goals as goal

pub returns-in_default : goal.returns-in_default
returns-in_default g c =
    let o : Objects = objects_of g.I.Inputs c.args.inputs.now c.args.inputs.now g.O.Sink c.args.out.now c.args.out.now g.D.Disk c.args.disk.now c.args.disk.now in
    subst (λ (a : Answer). Answers o (requests.Compose (base_meant c.args.chain.now.base) c.args.chain.now.files) a) (sym c.no_memory.ensures)
    (nothing.compose_nothing o (still g.I.Inputs c.args.inputs.now g.O.Sink c.args.out.now g.D.Disk c.args.disk.now (λ tells image. g.met.D.Disk.only_now c.args.disk.now image tells)) (base_meant c.args.chain.now.base) c.args.chain.now.files)

pub returns-in-Nothing : goal.returns-in-Nothing
returns-in-Nothing g c =
    let o : Objects = objects_of g.I.Inputs c.args.inputs.now c.compose.new.inputs g.O.Sink c.args.out.now c.compose.new.out g.D.Disk c.args.disk.now c.args.disk.now in
    let files : GivenFiles = record { files = map string_bytes c.files.result.now; overrides = c.overrides.result.now } in
    let same : files ≡ c.args.chain.now.files = ap₂ (λ (f : List (List ℕ)) (o : _). record { files = f; overrides = o }) c.files.ensures.files c.overrides.ensures.overrides ∙ c.in-Ok.ensures.given in
    let some : files.files ≢ [] = λ none. c.in-Ok.ensures.some (sym c.files.ensures.files ∙ none) in
    subst (λ (b : Base). Answers o (requests.Compose (base_meant b) c.args.chain.now.files) (answer_of c.ended.result)) (sym c.in-Nothing.is)
    (subst (λ (fs : GivenFiles). Answers o (requests.Compose requests.Nothing fs) (answer_of c.ended.result)) same
    (subst (λ (a : Answer). Answers o (requests.Compose requests.Nothing files) a) (sym c.ended.ensures)
    (alone.compose_meets o files some c.compose.result
    (record {
      known = c.compose.ensures.same;
      asked = c.compose.ensures.asked;
      inputs = c.compose.ensures.steady;
      ends = c.compose.ensures.ends_steady;
      output = c.compose.ensures.out_steady;
      disk = unused g.I.Inputs c.args.inputs.now c.compose.new.inputs g.O.Sink c.args.out.now c.compose.new.out g.D.Disk c.args.disk.now (λ tells image. g.met.D.Disk.only_now c.args.disk.now image tells);
    })
    c.compose.ensures.cause c.compose.ensures.changed c.compose.ensures.ends)))

pub returns : goal.returns
returns g c =
    let o : Objects = objects_of g.I.Inputs c.args.inputs.now c.compose_store.new.inputs g.O.Sink c.args.out.now c.compose_store.new.out g.D.Disk c.args.disk.now c.compose_store.new.disk in
    let files : GivenFiles = record { files = map string_bytes c.files-in-InStore.result.now; overrides = c.overrides-in-InStore.result.now } in
    let same : files ≡ c.args.chain.now.files = ap₂ (λ (f : List (List ℕ)) (o : _). record { files = f; overrides = o }) c.files-in-InStore.ensures.files c.overrides-in-InStore.ensures.overrides ∙ c.in-Ok.ensures.given in
    let some : files.files ≢ [] = λ none. c.in-Ok.ensures.some (sym c.files-in-InStore.ensures.files ∙ none) in
    subst (λ (b : Base). Answers o (requests.Compose (base_meant b) c.args.chain.now.files) (answer_of c.end_answer.result)) (sym c.in-InStore.is)
    (subst (λ (fs : GivenFiles). Answers o (requests.Compose (requests.InStore c.in-InStore.store.now) fs) (answer_of c.end_answer.result)) same
    (subst (λ (a : Answer). Answers o (requests.Compose (requests.InStore c.in-InStore.store.now) files) a) (sym c.end_answer.ensures)
    (over.compose_meets o c.in-InStore.store.now files some c.compose_store.result
    (record {
      known = c.compose_store.ensures.same;
      asked = c.compose_store.ensures.asked;
      contents = c.compose_store.ensures.seen;
      moment = c.compose_store.ensures.any_moment;
    })
    c.compose_store.ensures.cause c.compose_store.ensures.changed c.compose_store.ensures.answered c.compose_store.ensures.composed c.compose_store.ensures.refused)))
