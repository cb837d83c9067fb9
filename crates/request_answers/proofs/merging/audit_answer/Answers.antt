use Rattle.std.specs.Prelude.{◌≡◌, ◌≢◌, ℕ, List, [], map}
use Rattle.std.specs.String.{string_bytes}
use Rattle.std.proofs.Common.{sym, ap, ap₂, subst, ◌∙◌}
use Rattle.program_model.specs.FileWords.{GivenFiles}
use Rattle.program_model.specs.Requests as requests
use Rattle.program_model.specs.Answers.{Answer}
use Rattle.command_line.specs.Meaning.{base_meant}
use Rattle.command_line.specs.declared.request.Base.{Base}
use Rattle.request_answers.specs.Answered.{answer_of}
use Rattle.request_answers.specs.Objects.{Objects, objects_of}
use Rattle.request_answers.specs.Promises.{Answers}
use Rattle.request_answers.proofs.Still.{still}
use Rattle.request_answers.proofs.NothingDone as nothing
use Rattle.request_answers.proofs.MeetingAlone as alone
use Rattle.request_answers.proofs.MeetingAlone.{unused}
use Rattle.request_answers.proofs.MeetingStore as over
use Rattle.send_model.specs.Store.{Store}
use Rattle.extent_map.specs.declared.nowhere.Nowhere.{Nowhere}
use Rattle.auditor.specs.Following.{blank}
use Rattle.std.specs.Prelude.{Option}
use Rattle.send_model.specs.Guards.{Guard}
use Rattle.auditor.specs.Answers.{AuditEnds}
use Rattle.sx_base.specs.Calls.{IfAllTold, Wrote}
use Rattle.store_commands.proofs.StreamAnswers.{then_told}
use Rattle.request_answers.proofs.merging.audit_answer.Goals as goal

pub returns-in_default : goal.returns-in_default
returns-in_default g c =
    let o : Objects = objects_of g.I.Inputs c.args.inputs.now c.args.inputs.now g.O.Sink c.args.out.now c.args.out.now g.D.Disk c.args.disk.now c.args.disk.now in
    subst (λ (a : Answer). Answers o (requests.Audit c.args.asked.now (base_meant c.args.chain.now.base) c.args.chain.now.files) a) (sym c.no_memory.ensures)
    (nothing.audit_nothing o (still g.I.Inputs c.args.inputs.now g.O.Sink c.args.out.now g.D.Disk c.args.disk.now (λ tells image. g.met.D.Disk.only_now c.args.disk.now image tells)) c.args.asked.now (base_meant c.args.chain.now.base) c.args.chain.now.files)

pub returns-in-Nothing : goal.returns-in-Nothing
returns-in-Nothing g c =
    let o : Objects = objects_of g.I.Inputs c.args.inputs.now c.audit.new.inputs g.O.Sink c.args.out.now c.audit.new.out g.D.Disk c.args.disk.now c.args.disk.now in
    let files : GivenFiles = record { files = map string_bytes c.files.result.now; overrides = c.overrides.result.now } in
    let same : files ≡ c.args.chain.now.files = ap₂ (λ (f : List (List ℕ)) (o : _). record { files = f; overrides = o }) c.files.ensures.files c.overrides.ensures.overrides ∙ c.in-Ok.ensures.given in
    let some : files.files ≢ [] = λ none. c.in-Ok.ensures.some (sym c.files.ensures.files ∙ none) in
    subst (λ (b : Base). Answers o (requests.Audit c.args.asked.now (base_meant b) c.args.chain.now.files) (answer_of c.ended.result)) (sym c.in-Nothing.is)
    (subst (λ (fs : GivenFiles). Answers o (requests.Audit c.args.asked.now requests.Nothing fs) (answer_of c.ended.result)) same
    (subst (λ (a : Answer). Answers o (requests.Audit c.args.asked.now requests.Nothing files) a) (sym c.ended.ensures)
    (alone.audit_meets o files some c.audit.result c.args.asked.now
    (record {
      known = c.audit.ensures.same;
      asked = c.audit.ensures.asked;
      inputs = c.audit.ensures.steady;
      ends = c.audit.ensures.ends_steady;
      output = c.audit.ensures.out_steady;
      disk = unused g.I.Inputs c.args.inputs.now c.audit.new.inputs g.O.Sink c.args.out.now c.audit.new.out g.D.Disk c.args.disk.now (λ tells image. g.met.D.Disk.only_now c.args.disk.now image tells);
    })
    c.audit.ensures.cause
    (subst (λ (gs : List Guard). IfAllTold (g.I.Inputs.told c.args.inputs.now) (map string_bytes c.files.result.now) (λ bytes. Wrote (g.O.Sink.taken c.args.out.now) (g.O.Sink.taken c.audit.new.out) (λ written. AuditEnds [] gs c.overrides.result.now bytes c.audit.result written))) c.requires.fits (c.audit.ensures.audited [] (ap (λ (s : Store (Option Nowhere)). blank s) c.new-core.ensures))))))

pub returns : goal.returns
returns g c =
    let o : Objects = objects_of g.I.Inputs c.args.inputs.now c.audit_store.new.inputs g.O.Sink c.args.out.now c.audit_store.new.out g.D.Disk c.args.disk.now c.audit_store.new.disk in
    let files : GivenFiles = record { files = map string_bytes c.files.result.now; overrides = c.overrides.result.now } in
    let same : files ≡ c.args.chain.now.files = ap₂ (λ (f : List (List ℕ)) (o : _). record { files = f; overrides = o }) c.files.ensures.files c.overrides.ensures.overrides ∙ c.in-Ok.ensures.given in
    let some : files.files ≢ [] = λ none. c.in-Ok.ensures.some (sym c.files.ensures.files ∙ none) in
    subst (λ (b : Base). Answers o (requests.Audit c.args.asked.now (base_meant b) c.args.chain.now.files) (answer_of c.end_answer.result)) (sym c.in-InStore.is)
    (subst (λ (fs : GivenFiles). Answers o (requests.Audit c.args.asked.now (requests.InStore c.in-InStore.store.now) fs) (answer_of c.end_answer.result)) same
    (subst (λ (a : Answer). Answers o (requests.Audit c.args.asked.now (requests.InStore c.in-InStore.store.now) files) a) (sym c.end_answer.ensures)
    (over.audit_meets o c.in-InStore.store.now files some c.audit_store.result c.args.asked.now
    (record {
      known = c.audit_store.ensures.same;
      asked = c.audit_store.ensures.asked;
      contents = c.audit_store.ensures.seen;
      moment = c.audit_store.ensures.any_moment;
    })
    c.audit_store.ensures.cause
    (λ tells. then_told (g.I.Inputs.told c.args.inputs.now) (map string_bytes c.files.result.now) _ _ (λ bytes w. (w.0, w.1, λ words front at reads. w.2 words c.args.asked.now front at reads c.requires.fits)) (c.audit_store.ensures.answered tells)))))
