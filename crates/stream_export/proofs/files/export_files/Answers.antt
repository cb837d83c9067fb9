use Rattle.std.specs.Prelude.{map}
use Rattle.std.specs.String.{string_bytes}
use Rattle.std.proofs.Common.{◌+◌, refl, sym, ap, ◌∙◌, arith}
use Rattle.sx_base.proofs.Asking.{asked_nothing, asked_so, once_none, once_front}
use Rattle.cmd_reader.proofs.Asked.{file_once}
use Rattle.stream_export.specs.Steps.{point_at}
use Rattle.stream_export.proofs.AllFiles.{all_start, all_next, all_stop, all_end}
use Rattle.stream_export.proofs.files.export_files.Goals as goal

pub loop-file-init : goal.loop-file-init
loop-file-init g c = record {
  within = omega (arith);
  same = refl;
  steady = refl;
  ends_steady = refl;
  asked = asked_nothing g.I.Inputs c.args.inputs.now (once_none _);
  out_steady = refl;
  stand = all_start _ c.args.given.now.overrides.now (map string_bytes c.args.given.now.files.now) (point_at c.args.exporter.now c.args.gathered.now) c.args.gathered.now.bytes (g.O.Sink.taken c.args.out.now);
}

pub returns-in-Err-clause-exported : goal.returns-in-Err-clause-exported
returns-in-Err-clause-exported g c =
    let i = c.loop-file.invariant in
    all_stop _ _ c.args.given.now.overrides.now c.args.given.now.files.now c.loop-file.file (point_at c.args.exporter.now c.args.gathered.now) (point_at c.loop-file.exporter c.loop-file.gathered) (point_at c.export_file-exported.new.exporter c.export_file-exported.new.gathered)
    c.args.gathered.now.bytes c.loop-file.gathered.bytes c.export_file-exported.new.gathered.bytes (g.O.Sink.taken c.args.out.now) (g.O.Sink.taken c.loop-file.out) (g.O.Sink.taken c.export_file-exported.new.out)
    c.index-given-file.result c.as_str-name.result.now (c.of_file-said.result.now) c.in-Err.outcome i.same c.loop-file-test.true c.index-given-file.is (c.as_str-name.ensures.value ∙ ap string_bytes (sym c.index-given-file.is)) c.of_file-said.ensures.said c.in-Err.ensures.exported i.stand

pub loop-file-preserved : goal.loop-file-preserved
loop-file-preserved g c =
    let i = c.loop-file.invariant in
    let e = c.in_default.ensures in
    record {
      within = omega (arith, c.loop-file-test.true);
      same = e.inputs.same ∙ i.same;
      steady = e.inputs.steady ∙ i.steady;
      ends_steady = e.inputs.ends_steady ∙ i.ends_steady;
      asked = file_once g.I.Inputs _ _ _ c.args.given.now.files.now c.loop-file.file c.index-given-file.result c.as_str-name.result.now c.loop-file-test.true c.index-given-file.is (c.as_str-name.ensures.value ∙ ap string_bytes (sym c.index-given-file.is)) i.asked c.export_file-exported.ensures.asked;
      out_steady = e.out.steady ∙ i.out_steady;
      stand = all_next _ _ c.args.given.now.overrides.now c.args.given.now.files.now c.loop-file.file (point_at c.args.exporter.now c.args.gathered.now) (point_at c.loop-file.exporter c.loop-file.gathered) (point_at c.export_file-exported.new.exporter c.export_file-exported.new.gathered)
          c.args.gathered.now.bytes c.loop-file.gathered.bytes c.export_file-exported.new.gathered.bytes (g.O.Sink.taken c.args.out.now) (g.O.Sink.taken c.loop-file.out) (g.O.Sink.taken c.export_file-exported.new.out)
          c.index-given-file.result c.as_str-name.result.now (c.of_file-said.result.now) i.same c.loop-file-test.true c.index-given-file.is (c.as_str-name.ensures.value ∙ ap string_bytes (sym c.index-given-file.is)) c.of_file-said.ensures.said e.exported i.stand;
    }

pub returns-clause-exported : goal.returns-clause-exported
returns-clause-exported g c =
    all_end _ c.args.given.now.overrides.now c.args.given.now.files.now c.loop-file.file (point_at c.args.exporter.now c.args.gathered.now) (point_at c.loop-file.exporter c.loop-file.gathered) c.args.gathered.now.bytes c.loop-file.gathered.bytes (g.O.Sink.taken c.args.out.now) (g.O.Sink.taken c.loop-file.out)
    c.loop-file-test.false c.loop-file.invariant.stand

pub returns-in-Err-clause-asked : goal.returns-in-Err-clause-asked
returns-in-Err-clause-asked g c = asked_so g.I.Inputs (λ asks once. once_front _ (c.loop-file.file + 1) asks once) (file_once g.I.Inputs _ _ _ c.args.given.now.files.now c.loop-file.file c.index-given-file.result c.as_str-name.result.now c.loop-file-test.true c.index-given-file.is (c.as_str-name.ensures.value ∙ ap string_bytes (sym c.index-given-file.is)) c.loop-file.invariant.asked c.export_file-exported.ensures.asked)

pub returns-clause-asked : goal.returns-clause-asked
returns-clause-asked g c = asked_so g.I.Inputs (λ asks once. once_front _ c.loop-file.file asks once) c.loop-file.invariant.asked
