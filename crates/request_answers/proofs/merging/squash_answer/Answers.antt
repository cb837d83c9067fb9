use Rattle.std.specs.Prelude.{◌≡◌, ℕ, List, Option, [], ◌∷◌, map}
use Rattle.std.specs.String.{string_bytes}
use Rattle.std.proofs.Common.{refl, sym, ap, ap₂, subst, ◌∙◌}
use Rattle.send_model.specs.Cells.{recelled_store}
use Rattle.send_model.specs.Outside.{keys_outside, FindsLawful}
use Rattle.send_model.specs.Overridden.{Override, Overrides, override_for, overridden}
use Rattle.send_model.specs.Reading.{input}
use Rattle.send_model.specs.Store.{Store}
use Rattle.extent_map.specs.declared.nowhere.Nowhere.{Nowhere}
use Rattle.program_model.specs.FileWords.{GivenFiles}
use Rattle.program_model.specs.Requests as requests
use Rattle.program_model.specs.Answers.{Answer, Says}
use Rattle.command_line.specs.Meaning.{base_meant}
use Rattle.command_line.specs.declared.request.Base.{Base}
use Rattle.store_model.specs.Stored.{StandsFor}
use Rattle.squash_model.specs.SquashedStreams.{IsSquashedOf}
use Rattle.squash_model.specs.SquashDues.{own_base}
use Rattle.cmd_reader.specs.Places.{IfTold}
use Rattle.sx_base.specs.Calls.{IfAllTold, Wrote}
use Rattle.sx_base.specs.declared.outcome.Outcome.TheVariants as ended
use Rattle.store_commands.specs.declared.ends.StoreEnd.TheVariants as made
use Rattle.store_compose.specs.Squashing.{squashed_in}
use Rattle.squasher.specs.Judging.{HaveSameShape, read_with}
use Rattle.squasher.specs.Squashing.{SquashEnds}
use Rattle.request_answers.specs.Answered.{answer_of}
use Rattle.request_answers.specs.Objects.{Objects, objects_of}
use Rattle.request_answers.specs.Promises.{Answers}
use Rattle.request_answers.proofs.Causes.{of_end}
use Rattle.request_answers.proofs.Still.{still}
use Rattle.request_answers.proofs.NothingDone as nothing
use Rattle.request_answers.proofs.MeetingAlone.{unused}
use Rattle.request_answers.proofs.MeetingSquash as squashed
use Rattle.request_answers.proofs.merging.squash_answer.Goals as goal

pub returns-in_default : goal.returns-in_default
returns-in_default g c =
    let o : Objects = objects_of g.I.Inputs c.args.inputs.now c.args.inputs.now g.O.Sink c.args.out.now c.args.out.now g.D.Disk c.args.disk.now c.args.disk.now in
    subst (λ (a : Answer). Answers o (requests.Squash (base_meant c.args.stream.now.base) c.args.stream.now.file) a) (sym c.no_memory.ensures)
    (nothing.squash_nothing o (still g.I.Inputs c.args.inputs.now g.O.Sink c.args.out.now g.D.Disk c.args.disk.now (λ tells image. g.met.D.Disk.only_now c.args.disk.now image tells)) (base_meant c.args.stream.now.base) c.args.stream.now.file)

pub returns-in-Nothing : goal.returns-in-Nothing
returns-in-Nothing g c =
    let o : Objects = objects_of g.I.Inputs c.args.inputs.now c.squash.new.inputs g.O.Sink c.args.out.now c.squash.new.out g.D.Disk c.args.disk.now c.args.disk.now in
    let name : List ℕ = c.as_str.result.now in
    let overrides : Overrides = c.overrides.result.now in
    let files : GivenFiles = record { files = name ∷ []; overrides = overrides } in
    let named : name ∷ [] ≡ c.in-Ok.given.files = ap (λ (n : List ℕ). n ∷ []) c.as_str.ensures.value
    ∙ ap (map string_bytes) (sym (squashed.only_first c.files.result.now c.name-item.result c.in-len1.len_at_least c.in-len1.len_below c.name-item.is)) ∙ c.files.ensures.files in
    let same : files ≡ c.args.stream.now.file = ap₂ (λ (f : List (List ℕ)) (s : Overrides). record { files = f; overrides = s }) named c.overrides.ensures.overrides ∙ c.in-Ok.ensures.given in
    let said_is : c.of_file.result.now ≡ override_for overrides 1 = c.of_file.ensures.said in
    let none : HaveSameShape {D = ℕ} c.new-core.result [] = ap (λ (s : Store (Option Nowhere)). recelled_store {D = Unit {0}} (λ x. tt) s) c.new-core.ensures in
    subst (λ (b : Base). Answers o (requests.Squash (base_meant b) c.args.stream.now.file) (answer_of c.ended.result)) (sym c.in-Nothing.is)
    (subst (λ (fs : GivenFiles). Answers o (requests.Squash requests.Nothing fs) (answer_of c.ended.result)) same
    (subst (λ (a : Answer). Answers o (requests.Squash requests.Nothing files) a) (sym c.ended.ensures)
    (squashed.squash_meets o name overrides c.squash.result
    (record {
      known = c.squash.ensures.same;
      asked = c.squash.ensures.asked;
      inputs = c.squash.ensures.steady;
      ends = c.squash.ensures.ends_steady;
      output = c.squash.ensures.out_steady;
      disk = unused g.I.Inputs c.args.inputs.now c.squash.new.inputs g.O.Sink c.args.out.now c.squash.new.out g.D.Disk c.args.disk.now (λ tells image. g.met.D.Disk.only_now c.args.disk.now image tells);
    })
    c.squash.ensures.cause
    (subst (λ (x : Override). IfTold (g.I.Inputs.told c.args.inputs.now) name (λ bytes. FindsLawful (own_base [] (read_with x 1 bytes).items) (keys_outside (read_with x 1 bytes).items)
    → Wrote (g.O.Sink.taken c.args.out.now) (g.O.Sink.taken c.squash.new.out) (SquashEnds (own_base [] (read_with x 1 bytes).items) (read_with x 1 bytes) c.squash.result))) said_is (c.squash.ensures.squashed [] none)))))

pub returns : goal.returns
returns g c =
    let o : Objects = objects_of g.I.Inputs c.args.inputs.now c.squash_store.new.inputs g.O.Sink c.args.out.now c.squash_store.new.out g.D.Disk c.args.disk.now c.squash_store.new.disk in
    let name : List ℕ = c.as_str.result.now in
    let overrides : Overrides = c.overrides.result.now in
    let files : GivenFiles = record { files = name ∷ []; overrides = overrides } in
    let named : name ∷ [] ≡ c.in-Ok.given.files = ap (λ (n : List ℕ). n ∷ []) c.as_str.ensures.value
    ∙ ap (map string_bytes) (sym (squashed.only_first c.files.result.now c.name-item.result c.in-len1.len_at_least c.in-len1.len_below c.name-item.is)) ∙ c.files.ensures.files in
    let same : files ≡ c.args.stream.now.file = ap₂ (λ (f : List (List ℕ)) (s : Overrides). record { files = f; overrides = s }) named c.overrides.ensures.overrides ∙ c.in-Ok.ensures.given in
    let said_is : c.of_file.result.now ≡ override_for overrides 1 = c.of_file.ensures.said in
    subst (λ (b : Base). Answers o (requests.Squash (base_meant b) c.args.stream.now.file) (answer_of c.end_answer.result)) (sym c.in-InStore.is)
    (subst (λ (fs : GivenFiles). Answers o (requests.Squash (requests.InStore c.in-InStore.store.now) fs) (answer_of c.end_answer.result)) same
    (subst (λ (a : Answer). Answers o (requests.Squash (requests.InStore c.in-InStore.store.now) files) a) (sym c.end_answer.ensures)
    (squashed.squash_over_meets o name overrides c.in-InStore.store.now c.squash_store.result
    (record {
      known = c.squash_store.ensures.same;
      asked = c.squash_store.ensures.asked;
      contents = c.squash_store.ensures.seen;
      moment = c.squash_store.ensures.any_moment;
    })
    c.squash_store.ensures.cause
    (λ tells. subst (λ (x : Override). IfAllTold (g.I.Inputs.told c.args.inputs.now) (name ∷ []) (λ bytes. Wrote (g.O.Sink.taken c.args.out.now) (g.O.Sink.taken c.squash_store.new.out)
    (λ written. Says (squashed_in (g.D.Disk.seen c.args.disk.now) name x bytes) (of_end [] [] c.squash_store.result) written (g.D.Disk.seen c.squash_store.new.disk)))) said_is (c.squash_store.ensures.answered tells))
    (λ tells. subst (λ (x : Override). IfAllTold (g.I.Inputs.told c.args.inputs.now) (name ∷ []) (λ bytes. Wrote (g.O.Sink.taken c.args.out.now) (g.O.Sink.taken c.squash_store.new.out)
    (λ written. c.squash_store.result ≡ made.Ends ended.Done → (s : Store ℕ) → StandsFor (g.D.Disk.seen c.args.disk.now) s
    → IsSquashedOf (own_base s (overridden (x ∷ []) (input bytes)).items) (overridden (x ∷ []) (input bytes)) written))) said_is (c.squash_store.ensures.squashed tells)))))
