use Rattle.std.proofs.Common.{◌≡◌, ◌+◌, refl, map, ◌∙◌, true, false, Ok}
use Rattle.std.specs.String.{string_bytes}
use Rattle.sx_base.proofs.Asking.{asked_nothing, asked_so, once_none, once_front}
use Rattle.cmd_reader.proofs.Asked.{file_once}
use Rattle.file_survey.proofs.Surveys.{files_start, files_next, files_fault, files_stop, files_end}
use Rattle.file_survey.proofs.surveying.survey.Goals as goal

pub loop-file-init : goal.loop-file-init
loop-file-init g c = record {
  same = refl;
  steady = refl;
  ends_steady = refl;
  asked = asked_nothing g.I.Inputs c.args.inputs.now (once_none _);
  seen = files_start c.args.overrides.now _ (map string_bytes c.args.files.now) c.new-seen.result c.new-seen.ensures.empty;
}

pub loop-file-preserved : goal.loop-file-preserved
loop-file-preserved g c =
    let kept = c.loop-file.invariant in
    let whole : c.survey_file.result ≡ Ok true = cc in
    record {
      same = c.survey_file.ensures.same ∙ kept.same;
      steady = c.in-Ok-true.ensures.steady ∙ kept.steady;
      ends_steady = c.in-Ok-true.ensures.ends_steady ∙ kept.ends_steady;
      asked = file_once g.I.Inputs _ _ _ c.args.files.now c.loop-file.file c.index-files-file.result c.as_str-name.result.now c.loop-file-test.true c.index-files-file.is c.as_str-name.ensures.value kept.asked c.survey_file.ensures.asked;
      seen = files_next c.args.overrides.now _ _ c.args.files.now c.loop-file.file c.index-files-file.result c.as_str-name.result.now c.loop-file.seen c.survey_file.new.seen c.survey_file.result
          (record { same = kept.same; less = c.loop-file-test.true; is = c.index-files-file.is; spelling = c.as_str-name.ensures.value }) whole kept.seen c.survey_file.ensures.seen;
    }

pub returns-in-Ok-false-clause-surveyed : goal.returns-in-Ok-false-clause-surveyed
returns-in-Ok-false-clause-surveyed g c =
    let kept = c.loop-file.invariant in
    let faulty : c.survey_file.result ≡ Ok false = cc in
    files_fault c.args.overrides.now _ _ c.args.files.now c.loop-file.file c.index-files-file.result c.as_str-name.result.now c.loop-file.seen c.survey_file.new.seen c.survey_file.result
    (record { same = kept.same; less = c.loop-file-test.true; is = c.index-files-file.is; spelling = c.as_str-name.ensures.value }) faulty kept.seen c.survey_file.ensures.seen

pub returns-in-Err-clause-surveyed : goal.returns-in-Err-clause-surveyed
returns-in-Err-clause-surveyed g c =
    let kept = c.loop-file.invariant in
    files_stop c.args.overrides.now _ _ c.args.files.now c.loop-file.file c.index-files-file.result c.as_str-name.result.now c.loop-file.seen c.survey_file.new.seen c.survey_file.result c.in-Err.outcome
    (record { same = kept.same; less = c.loop-file-test.true; is = c.index-files-file.is; spelling = c.as_str-name.ensures.value }) c.in-Err.is kept.seen c.survey_file.ensures.seen

pub returns-clause-surveyed : goal.returns-clause-surveyed
returns-clause-surveyed g c = files_end c.args.overrides.now _ c.args.files.now c.loop-file.file c.loop-file.seen c.loop-file-test.false c.loop-file.invariant.seen

pub returns-in-Ok-false-clause-asked : goal.returns-in-Ok-false-clause-asked
returns-in-Ok-false-clause-asked g c = asked_so g.I.Inputs (λ asks once. once_front _ (c.loop-file.file + 1) asks once) (file_once g.I.Inputs _ _ _ c.args.files.now c.loop-file.file c.index-files-file.result c.as_str-name.result.now c.loop-file-test.true c.index-files-file.is c.as_str-name.ensures.value c.loop-file.invariant.asked c.survey_file.ensures.asked)

pub returns-in-Err-clause-asked : goal.returns-in-Err-clause-asked
returns-in-Err-clause-asked g c = asked_so g.I.Inputs (λ asks once. once_front _ (c.loop-file.file + 1) asks once) (file_once g.I.Inputs _ _ _ c.args.files.now c.loop-file.file c.index-files-file.result c.as_str-name.result.now c.loop-file-test.true c.index-files-file.is c.as_str-name.ensures.value c.loop-file.invariant.asked c.survey_file.ensures.asked)

pub returns-clause-asked : goal.returns-clause-asked
returns-clause-asked g c = asked_so g.I.Inputs (λ asks once. once_front _ c.loop-file.file asks once) c.loop-file.invariant.asked
