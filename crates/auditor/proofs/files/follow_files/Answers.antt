use Rattle.std.specs.Prelude.{map}
use Rattle.std.specs.String.{string_bytes}
use Rattle.std.proofs.Common.{◌+◌, refl, sym, ap, ◌∙◌, arith}
use Rattle.sx_base.proofs.Asking.{asked_nothing, asked_so, once_none, once_front}
use Rattle.cmd_reader.proofs.Asked.{file_once}
use Rattle.auditor.proofs.AllFiles.{all_start, all_next, all_stop, all_end}
use Rattle.auditor.proofs.files.follow_files.Goals as goal

pub loop-file-init : goal.loop-file-init
loop-file-init g c = record {
  within = omega (arith);
  same = refl;
  steady = refl;
  ends_steady = refl;
  asked = asked_nothing g.I.Inputs c.args.inputs.now (once_none _);
  parts = omega (arith, c.none-totals.ensures.parts);
  commands = omega (arith, c.none-totals.ensures.commands);
  stand = all_start _ c.args.given.now.overrides.now (map string_bytes c.args.given.now.files.now) _ _ _ c.none-totals.ensures.parts c.none-totals.ensures.commands;
}

pub returns-in-Err-clause-followed : goal.returns-in-Err-clause-followed
returns-in-Err-clause-followed g c =
    let i = c.loop-file.invariant in
    all_stop _ _ c.args.given.now.overrides.now c.args.given.now.files.now _ c.loop-file.file _ _ c.loop-file.totals.parts c.loop-file.totals.commands c.index-given-file.result c.as_str-name.result.now _ c.follow_file.result c.in-Err.outcome
    i.same c.loop-file-test.true c.index-given-file.is (c.as_str-name.ensures.value ∙ ap string_bytes (sym c.index-given-file.is)) c.of_file-said.ensures.said c.in-Err.is c.follow_file.ensures.followed i.stand

pub loop-file-preserved : goal.loop-file-preserved
loop-file-preserved g c =
    let i = c.loop-file.invariant in
    let e = c.follow_file.ensures in
    record {
      within = omega (arith, c.loop-file-test.true);
      same = e.inputs.same ∙ i.same;
      steady = c.in-Ok.ensures.inputs.steady ∙ i.steady;
      ends_steady = c.in-Ok.ensures.inputs.ends_steady ∙ i.ends_steady;
      asked = file_once g.I.Inputs _ _ _ c.args.given.now.files.now c.loop-file.file c.index-given-file.result c.as_str-name.result.now c.loop-file-test.true c.index-given-file.is (c.as_str-name.ensures.value ∙ ap string_bytes (sym c.index-given-file.is)) i.asked c.follow_file.ensures.asked;
      parts = omega (arith, i.parts, c.with-totals.ensures.parts_bound);
      commands = omega (arith, i.commands, c.with-totals.ensures.commands_bound);
      stand = all_next _ _ c.args.given.now.overrides.now c.args.given.now.files.now _ c.loop-file.file _ _ c.loop-file.totals.parts c.loop-file.totals.commands c.with-totals.result.parts c.with-totals.result.commands c.index-given-file.result c.as_str-name.result.now _ c.follow_file.result c.in-Ok.counts
          i.same c.loop-file-test.true c.index-given-file.is (c.as_str-name.ensures.value ∙ ap string_bytes (sym c.index-given-file.is)) c.of_file-said.ensures.said c.in-Ok.is c.follow_file.ensures.followed c.with-totals.ensures.parts c.with-totals.ensures.commands i.stand;
    }

pub returns-clause-followed : goal.returns-clause-followed
returns-clause-followed g c = all_end _ c.args.given.now.overrides.now c.args.given.now.files.now _ c.loop-file.file _ c.loop-file.totals c.loop-file-test.false c.loop-file.invariant.stand

pub returns-in-Err-clause-asked : goal.returns-in-Err-clause-asked
returns-in-Err-clause-asked g c = asked_so g.I.Inputs (λ asks once. once_front _ (c.loop-file.file + 1) asks once) (file_once g.I.Inputs _ _ _ c.args.given.now.files.now c.loop-file.file c.index-given-file.result c.as_str-name.result.now c.loop-file-test.true c.index-given-file.is (c.as_str-name.ensures.value ∙ ap string_bytes (sym c.index-given-file.is)) c.loop-file.invariant.asked c.follow_file.ensures.asked)

pub returns-clause-asked : goal.returns-clause-asked
returns-clause-asked g c = asked_so g.I.Inputs (λ asks once. once_front _ c.loop-file.file asks once) c.loop-file.invariant.asked
