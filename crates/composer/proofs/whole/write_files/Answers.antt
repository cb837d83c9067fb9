use Rattle.std.specs.Prelude.{map}
use Rattle.std.specs.String.{string_bytes}
use Rattle.std.proofs.Common.{refl, sym, ◌+◌, ◌∙◌, arith}
use Rattle.clone_pieces.specs.Origins.{IsInInput}
use Rattle.send_model.specs.Cells.{AllCells}
use Rattle.composer.specs.Files.{plan_with}
use Rattle.clone_pieces.proofs.Lengths.{long_then}
use Rattle.clone_pieces.proofs.Told.{told_moved, count_names}
use Rattle.composer.proofs.Asked.{files_none, files_more, files_all}
use Rattle.composer.proofs.FilesWriting.{files_start, files_after, begun, files_stopped, files_empty, files_ended}
use Rattle.composer.proofs.HandedOn.{answer_is, end_caused, end_unchanged, end_at_last, handed_stops}
use Rattle.composer.proofs.whole.write_files.Goals as goal

pub loop-file-init : goal.loop-file-init
loop-file-init g c = record {
  within = omega (arith);
  same = refl;
  asked = files_none g.I.Inputs (map string_bytes c.args.task.now.files.now) c.args.inputs.now;
  sizes = λ key ino. refl;
  held = λ tells. refl;
  steady = refl;
  ends_steady = refl;
  bytes_steady = refl;
  out_steady = refl;
  had = c.requires.had;
  there = c.requires.there;
  stand = λ tells. files_start (g.I.Inputs.told c.args.inputs.now) (map string_bytes c.args.task.now.files.now) (plan_with (g.E.Known.base c.args.task.now.known.now) c.args.task.now.survey.now) c.args.task.now.overrides.now c.args.composer.now (g.O.Sink.taken c.args.out.now) c.start-place.result;
}

pub write_file-requires-clause-there : goal.write_file-requires-clause-there
write_file-requires-clause-there g c =
    let i = c.loop-file.invariant in
    told_moved (g.I.Inputs.told c.loop-file.inputs) (g.I.Inputs.told c.args.inputs.now) (map string_bytes c.args.task.now.files.now) (λ files. AllCells (IsInInput files) c.loop-file.composer.state) (sym i.same) i.there

pub returns-in-Err-clause-ends : goal.returns-in-Err-clause-ends
returns-in-Err-clause-ends g c tells =
    let i = c.loop-file.invariant in
    files_stopped _ _ c.args.task.now.files.now (g.E.Known.base c.args.task.now.known.now) c.args.task.now.overrides.now c.args.task.now.survey.now c.args.composer.now _ c.loop-file.file c.loop-file.composer _ _ c.start-place.result c.loop-file.place c.in-Err.outcome
    i.same c.loop-file-test.true (begun _ (map string_bytes c.args.task.now.files.now) (g.E.Known.base c.args.task.now.known.now) c.args.task.now.overrides.now c.args.task.now.survey.now c.args.composer.now c.requires.apart (c.requires.sayable tells) c.requires.surveyed (c.requires.start tells))
    (c.in-Err.ensures.wrote tells) (i.stand tells)

pub loop-file-preserved : goal.loop-file-preserved
loop-file-preserved g c =
    let i = c.loop-file.invariant in
    let e = c.in-Ok.ensures in
    record {
      within = omega (arith, c.loop-file-test.true);
      same = e.inputs.same ∙ i.same;
      asked = files_more g.I.Inputs (map string_bytes c.args.task.now.files.now) c.loop-file.file c.args.inputs.now c.loop-file.inputs c.write_file.new.inputs (count_names c.args.task.now.files.now c.loop-file.file c.loop-file-test.true) i.same i.asked e.asked;
      sizes = long_then _ _ _ e.bytes.sizes i.sizes;
      held = λ tells. e.bytes.held tells ∙ i.held tells;
      steady = e.inputs.steady ∙ i.steady;
      ends_steady = e.inputs.ends_steady ∙ i.ends_steady;
      bytes_steady = e.bytes.steady ∙ i.bytes_steady;
      out_steady = e.out.steady ∙ i.out_steady;
      had = e.had;
      there = told_moved (g.I.Inputs.told c.args.inputs.now) (g.I.Inputs.told c.loop-file.inputs) (map string_bytes c.args.task.now.files.now) (λ files. AllCells (IsInInput files) c.write_file.new.composer.state) i.same e.there;
      stand = λ tells. files_after _ _ c.args.task.now.files.now (plan_with (g.E.Known.base c.args.task.now.known.now) c.args.task.now.survey.now) c.args.task.now.overrides.now c.args.composer.now _ c.loop-file.file c.loop-file.composer c.write_file.new.composer _ _ c.start-place.result c.loop-file.place c.in-Ok.place
          i.same c.loop-file-test.true (e.wrote tells) (i.stand tells);
    }

pub returns-then-not-at_last-clause-ends : goal.returns-then-not-at_last-clause-ends
returns-then-not-at_last-clause-ends g c tells =
    files_empty _ c.args.task.now.files.now (g.E.Known.base c.args.task.now.known.now) c.args.task.now.overrides.now c.args.task.now.survey.now c.args.composer.now _ c.loop-file.file c.loop-file.composer _ c.start-place.result c.loop-file.place c.refused.result
    c.requires.some (omega (arith, c.loop-file-test.false)) (sym c.is_at_last-at_last.ensures.last ∙ c.if-not-at_last.true) c.refused.ensures.verdict
    (begun _ (map string_bytes c.args.task.now.files.now) (g.E.Known.base c.args.task.now.known.now) c.args.task.now.overrides.now c.args.task.now.survey.now c.args.composer.now c.requires.apart (c.requires.sayable tells) c.requires.surveyed (c.requires.start tells)) (c.loop-file.invariant.stand tells)

pub returns-clause-ends : goal.returns-clause-ends
returns-clause-ends g c tells =
    files_ended _ c.args.task.now.files.now (g.E.Known.base c.args.task.now.known.now) c.args.task.now.overrides.now c.args.task.now.survey.now c.args.composer.now _ c.loop-file.file c.loop-file.composer _ _ c.start-place.result c.loop-file.place c.version.result _ _ c.end.result c.map_err.result
    c.requires.some (omega (arith, c.loop-file-test.false)) (sym c.is_at_last-at_last.ensures.last ∙ c.if-not-at_last.false) c.version.ensures.version c.end.ensures.ended (answer_is c.end.result c.map_err.result c.map_err.ensures.cases)
    (begun _ (map string_bytes c.args.task.now.files.now) (g.E.Known.base c.args.task.now.known.now) c.args.task.now.overrides.now c.args.task.now.survey.now c.args.composer.now c.requires.apart (c.requires.sayable tells) c.requires.surveyed (c.requires.start tells)) (c.loop-file.invariant.stand tells)

pub returns-clause-cause : goal.returns-clause-cause
returns-clause-cause g c = end_caused _ _ _ _ _ _ _ _ _ _ c.end.result c.map_err.result (answer_is c.end.result c.map_err.result c.map_err.ensures.cases) (omega (arith, c.loop-file.invariant.out_steady)) c.end.ensures.ended

pub returns-clause-changed : goal.returns-clause-changed
returns-clause-changed g c = end_unchanged _ _ _ _ _ _ _ c.end.result c.map_err.result (answer_is c.end.result c.map_err.result c.map_err.ensures.cases) c.end.ensures.ended

pub returns-clause-stops : goal.returns-clause-stops
returns-clause-stops g c = handed_stops c.end.result c.map_err.result (answer_is c.end.result c.map_err.result c.map_err.ensures.cases)

pub returns-clause-last : goal.returns-clause-last
returns-clause-last g c =
    end_at_last c.end.result c.map_err.result c.loop-file.composer c.end.new.self c.args.task.now.survey.now.last (answer_is c.end.result c.map_err.result c.map_err.ensures.cases) c.end.ensures.all_out (sym c.is_at_last-at_last.ensures.last ∙ c.if-not-at_last.false)

pub returns-in-Err-clause-asked : goal.returns-in-Err-clause-asked
returns-in-Err-clause-asked g c =
    let i = c.loop-file.invariant in
    files_all g.I.Inputs (map string_bytes c.args.task.now.files.now) (c.loop-file.file + 1) c.args.inputs.now c.write_file.new.inputs
    (files_more g.I.Inputs (map string_bytes c.args.task.now.files.now) c.loop-file.file c.args.inputs.now c.loop-file.inputs c.write_file.new.inputs (count_names c.args.task.now.files.now c.loop-file.file c.loop-file-test.true) i.same i.asked c.in-Err.ensures.asked)

pub returns-then-not-at_last-clause-asked : goal.returns-then-not-at_last-clause-asked
returns-then-not-at_last-clause-asked g c = files_all g.I.Inputs (map string_bytes c.args.task.now.files.now) c.loop-file.file c.args.inputs.now c.loop-file.inputs c.loop-file.invariant.asked

pub returns-clause-asked : goal.returns-clause-asked
returns-clause-asked g c = files_all g.I.Inputs (map string_bytes c.args.task.now.files.now) c.loop-file.file c.args.inputs.now c.loop-file.inputs c.loop-file.invariant.asked
