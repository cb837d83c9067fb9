use Rattle.std.specs.Prelude.{◌≡◌, ◌≢◌, ℕ, List, [], map}
use Rattle.std.specs.String.{string_bytes}
use Rattle.std.proofs.Common.{sym, ap, ap₂, subst, ◌∙◌}
use Rattle.program_model.specs.FileWords.{GivenFiles}
use Rattle.program_model.specs.Requests as requests
use Rattle.program_model.specs.Answers.{Answer}
use Rattle.command_line.specs.Meaning.{base_meant}
use Rattle.command_line.specs.declared.request.Base.{Base}
use Rattle.request_answers.specs.Answered.{answer_of}
use Rattle.request_answers.specs.Objects.{Objects, objects_of}
use Rattle.request_answers.specs.Promises.{Answers}
use Rattle.request_answers.proofs.Still.{still}
use Rattle.request_answers.proofs.NothingDone as nothing
use Rattle.request_answers.proofs.MeetingAlone as alone
use Rattle.request_answers.proofs.MeetingAlone.{unused}
use Rattle.request_answers.proofs.MeetingStore as over
use Rattle.send_model.specs.Store.{Store}
use Rattle.extent_map.specs.declared.nowhere.Nowhere.{Nowhere}
use Rattle.auditor.specs.Following.{blank}
use Rattle.std.specs.Prelude.{Option}
use Rattle.send_model.proofs.ExportedStreams.{none_can}
use Rattle.store_commands.proofs.ExportAnswers.{promised}
use Rattle.request_answers.proofs.merging.export_answer.Goals as goal

pub returns-in_default : goal.returns-in_default
returns-in_default g c =
    let o : Objects = objects_of g.I.Inputs c.args.inputs.now c.args.inputs.now g.O.Sink c.args.out.now c.args.out.now g.D.Disk c.args.disk.now c.args.disk.now in
    subst (λ (a : Answer). Answers o (requests.Export (base_meant c.args.chain.now.base) c.args.chain.now.files) a) (sym c.no_memory.ensures)
    (nothing.export_nothing o (still g.I.Inputs c.args.inputs.now g.O.Sink c.args.out.now g.D.Disk c.args.disk.now (λ tells image. g.met.D.Disk.only_now c.args.disk.now image tells)) (base_meant c.args.chain.now.base) c.args.chain.now.files)

pub returns-in-Nothing : goal.returns-in-Nothing
returns-in-Nothing g c =
    let o : Objects = objects_of g.I.Inputs c.args.inputs.now c.export.new.inputs g.O.Sink c.args.out.now c.export.new.out g.D.Disk c.args.disk.now c.args.disk.now in
    let files : GivenFiles = record { files = map string_bytes c.files.result.now; overrides = c.overrides.result.now } in
    let same : files ≡ c.args.chain.now.files = ap₂ (λ (f : List (List ℕ)) (o : _). record { files = f; overrides = o }) c.files.ensures.files c.overrides.ensures.overrides ∙ c.in-Ok.ensures.given in
    let some : files.files ≢ [] = λ none. c.in-Ok.ensures.some (sym c.files.ensures.files ∙ none) in
    subst (λ (b : Base). Answers o (requests.Export (base_meant b) c.args.chain.now.files) (answer_of c.ended.result)) (sym c.in-Nothing.is)
    (subst (λ (fs : GivenFiles). Answers o (requests.Export requests.Nothing fs) (answer_of c.ended.result)) same
    (subst (λ (a : Answer). Answers o (requests.Export requests.Nothing files) a) (sym c.ended.ensures)
    (alone.export_meets o files some c.export.result
    (record {
      known = c.export.ensures.same;
      asked = c.export.ensures.asked;
      inputs = c.export.ensures.steady;
      ends = c.export.ensures.ends_steady;
      output = c.export.ensures.out_steady;
      disk = unused g.I.Inputs c.args.inputs.now c.export.new.inputs g.O.Sink c.args.out.now c.export.new.out g.D.Disk c.args.disk.now (λ tells image. g.met.D.Disk.only_now c.args.disk.now image tells);
    })
    c.export.ensures.cause (c.export.ensures.exported [] (ap (λ (s : Store (Option Nowhere)). blank s) c.new-core.ensures))
    (λ done. promised [] none_can c.overrides.result.now c.are_given.ensures.given (g.I.Inputs.told c.args.inputs.now) (map string_bytes c.files.result.now) (g.O.Sink.taken c.args.out.now) (g.O.Sink.taken c.export.new.out) c.export.result some done
    (c.export.ensures.exported [] (ap (λ (s : Store (Option Nowhere)). blank s) c.new-core.ensures)) (c.export.ensures.small [] (ap (λ (s : Store (Option Nowhere)). blank s) c.new-core.ensures))))))

pub returns : goal.returns
returns g c =
    let o : Objects = objects_of g.I.Inputs c.args.inputs.now c.export_store.new.inputs g.O.Sink c.args.out.now c.export_store.new.out g.D.Disk c.args.disk.now c.export_store.new.disk in
    let files : GivenFiles = record { files = map string_bytes c.files.result.now; overrides = c.overrides.result.now } in
    let same : files ≡ c.args.chain.now.files = ap₂ (λ (f : List (List ℕ)) (o : _). record { files = f; overrides = o }) c.files.ensures.files c.overrides.ensures.overrides ∙ c.in-Ok.ensures.given in
    let some : files.files ≢ [] = λ none. c.in-Ok.ensures.some (sym c.files.ensures.files ∙ none) in
    subst (λ (b : Base). Answers o (requests.Export (base_meant b) c.args.chain.now.files) (answer_of c.end_answer.result)) (sym c.in-InStore.is)
    (subst (λ (fs : GivenFiles). Answers o (requests.Export (requests.InStore c.in-InStore.store.now) fs) (answer_of c.end_answer.result)) same
    (subst (λ (a : Answer). Answers o (requests.Export (requests.InStore c.in-InStore.store.now) files) a) (sym c.end_answer.ensures)
    (over.export_meets o c.in-InStore.store.now files some c.export_store.result
    (record {
      known = c.export_store.ensures.same;
      asked = c.export_store.ensures.asked;
      contents = c.export_store.ensures.seen;
      moment = c.export_store.ensures.any_moment;
    })
    c.export_store.ensures.cause c.export_store.ensures.answered c.export_store.ensures.exported)))
