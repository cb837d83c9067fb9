use Rattle.std.specs.Prelude.{None, Some}
use Rattle.std.proofs.Common.{refl, sym, ap, subst, ◌∙◌, arith}
use Rattle.cmd_reader.specs.Left.{Reader}
use Rattle.sx_base.specs.declared.outcome.Outcome.TheVariants as ended
use Rattle.cmd_reader.specs.declared.item.ReadStop.TheVariants as stop
use Rattle.sx_base.proofs.Asking.{asked_nothing, asked_so, read_none}
use Rattle.cmd_reader.proofs.Asked.{reads_start, reads_then}
use Rattle.cmd_reader.proofs.Aheads.{start_ahead, next_ahead}
use Rattle.cmd_reader.proofs.Nexts.{given_next, refused_next, ended_next, stopped_next}
use Rattle.send_model.specs.Overridden.{overridden_as}
use Rattle.auditor.proofs.Short.{item_short}
use Rattle.cmd_reader.specs.Next.{item_of}
use Rattle.stream_export.specs.Framed.{IsFramed}
use Rattle.stream_export.specs.Steps.{point_at}
use Rattle.stream_export.proofs.OneFile.{stands_at_start, stands_after, file_unopened, file_ends, item_ends, file_stops, item_cause}
use Rattle.stream_export.proofs.files.export_file.Goals as goal

pub returns-in_default-clause-exported : goal.returns-in_default-clause-exported
returns-in_default-clause-exported g c =
    file_unopened (g.I.Inputs.told c.args.inputs.now) (c.args.file.now.said.now) c.args.file.now.number c.args.file.now.name.now (point_at c.args.exporter.now c.args.gathered.now) (point_at c.args.exporter.now c.args.gathered.now) c.args.gathered.now.bytes c.args.gathered.now.bytes (g.O.Sink.taken c.args.out.now)

pub loop-frame-init : goal.loop-frame-init
loop-frame-init g c =
    let fresh = c.in-Ok.ensures.start in
    record {
      same = refl;
      steady = refl;
      ends_steady = refl;
      asked = reads_start g.I.Inputs c.args.inputs.now c.args.file.now.number c.args.file.now.name.now c.in-Ok.reader fresh;
      out_steady = refl;
      file = ap (λ (r : Reader). r.file) fresh;
      name = ap (λ (r : Reader). r.name) fresh;
      stands = stands_at_start (g.I.Inputs.told c.args.inputs.now) (c.args.file.now.said.now) c.args.file.now.number c.args.file.now.name.now c.in-Ok.reader (point_at c.args.exporter.now c.args.gathered.now) c.args.gathered.now.bytes (g.O.Sink.taken c.args.out.now) fresh;
      ahead = start_ahead _ c.args.file.now.number c.args.file.now.name.now c.in-Ok.reader fresh;
    }

pub loop-frame-preserved : goal.loop-frame-preserved
loop-frame-preserved g c =
    let i = c.loop-frame.invariant in
    let e = c.in-Ok-Some.ensures in
    let given = given_next (g.I.Inputs.told c.loop-frame.inputs) c.loop-frame.reader c.advance.new.self c.in-Ok-Some.field-0 c.in-Ok-Some.frame c.in-Ok-item.item c.in-Ok-Some.field-0-is c.in-Ok-Some.ensures.says c.item.ensures.bytes c.in-Ok-item.ensures.says in
    record {
      same = e.same ∙ i.same;
      steady = e.steady ∙ i.steady;
      ends_steady = e.ends_steady ∙ i.ends_steady;
      asked = reads_then g.I.Inputs _ _ _ _ _ _ _ _ _ i.name refl i.asked c.advance.ensures.asked;
      out_steady = c.in_default-exported.ensures.out.steady ∙ i.out_steady;
      file = e.file ∙ i.file;
      name = e.name ∙ i.name;
      stands = stands_after _ _ (c.args.file.now.said.now) c.args.file.now.number c.args.file.now.name.now (point_at c.args.exporter.now c.args.gathered.now) (point_at c.loop-frame.exporter c.loop-frame.gathered) (point_at c.export_named-exported.new.exporter c.export_named-exported.new.gathered)
          c.args.gathered.now.bytes c.loop-frame.gathered.bytes c.export_named-exported.new.gathered.bytes (g.O.Sink.taken c.args.out.now) (g.O.Sink.taken c.loop-frame.out) (g.O.Sink.taken c.export_named-exported.new.out)
          c.loop-frame.reader c.advance.new.self 0 0 (Some c.in-Ok-item.item) c.in-Ok-item.item refl i.same i.name i.file given.read c.in_default-exported.ensures.ends i.stands;
      ahead = next_ahead _ _ c.loop-frame.reader c.advance.new.self 0 0 (Some c.in-Ok-item.item) c.in-Ok-item.item refl e.same e.name given.read;
    }

pub returns-in-Err-exported-clause-exported : goal.returns-in-Err-exported-clause-exported
returns-in-Err-exported-clause-exported g c =
    let i = c.loop-frame.invariant in
    let given = given_next (g.I.Inputs.told c.loop-frame.inputs) c.loop-frame.reader c.advance.new.self c.in-Ok-Some.field-0 c.in-Ok-Some.frame c.in-Ok-item.item c.in-Ok-Some.field-0-is c.in-Ok-Some.ensures.says c.item.ensures.bytes c.in-Ok-item.ensures.says in
    item_ends _ _ (c.args.file.now.said.now) c.args.file.now.number c.args.file.now.name.now (point_at c.args.exporter.now c.args.gathered.now) (point_at c.loop-frame.exporter c.loop-frame.gathered) (point_at c.export_named-exported.new.exporter c.export_named-exported.new.gathered)
    c.args.gathered.now.bytes c.loop-frame.gathered.bytes c.export_named-exported.new.gathered.bytes (g.O.Sink.taken c.args.out.now) (g.O.Sink.taken c.loop-frame.out) (g.O.Sink.taken c.export_named-exported.new.out)
    c.loop-frame.reader c.advance.new.self 0 0 (g.O.Sink.faults c.loop-frame.out) (g.O.Sink.faults c.export_named-exported.new.out) (Some c.in-Ok-item.item) c.in-Ok-item.item c.in-Err-exported.outcome
    refl i.same i.name i.file given.read c.in-Err-exported.ensures.ends i.stands

pub returns-in-Err-exported-clause-cause : goal.returns-in-Err-exported-clause-cause
returns-in-Err-exported-clause-cause g c =
    item_cause (point_at c.loop-frame.exporter c.loop-frame.gathered) (point_at c.export_named-exported.new.exporter c.export_named-exported.new.gathered)
    c.loop-frame.gathered.bytes c.export_named-exported.new.gathered.bytes (overridden_as (c.args.file.now.said.now) (item_of c.args.file.now.number c.in-Ok-item.item)) (g.O.Sink.taken c.loop-frame.out) (g.O.Sink.taken c.export_named-exported.new.out)
    c.in-Err-exported.outcome (g.I.Inputs.faults c.args.inputs.now) (g.I.Inputs.faults c.advance.new.inputs) (g.O.Sink.faults c.args.out.now) (g.O.Sink.faults c.loop-frame.out) (g.O.Sink.faults c.export_named-exported.new.out)
    (omega (arith, c.loop-frame.invariant.out_steady)) c.in-Err-exported.ensures.ends

pub returns-in-Ok-None-clause-exported : goal.returns-in-Ok-None-clause-exported
returns-in-Ok-None-clause-exported g c =
    let i = c.loop-frame.invariant in
    file_ends _ _ (c.args.file.now.said.now) c.args.file.now.number c.args.file.now.name.now (point_at c.args.exporter.now c.args.gathered.now) (point_at c.loop-frame.exporter c.loop-frame.gathered) c.args.gathered.now.bytes c.loop-frame.gathered.bytes (g.O.Sink.taken c.args.out.now) (g.O.Sink.taken c.loop-frame.out)
    c.loop-frame.reader c.advance.new.self 0 0 None refl i.same i.name
    (ended_next (g.I.Inputs.told c.loop-frame.inputs) c.loop-frame.reader c.advance.new.self c.in-Ok-None.field-0 c.in-Ok-None.field-0-is c.in-Ok-None.ensures.says) i.stands

pub returns-in-Err-clause-exported : goal.returns-in-Err-clause-exported
returns-in-Err-clause-exported g c =
    let i = c.loop-frame.invariant in
    file_stops _ _ (c.args.file.now.said.now) c.args.file.now.number c.args.file.now.name.now (point_at c.args.exporter.now c.args.gathered.now) (point_at c.loop-frame.exporter c.loop-frame.gathered) c.args.gathered.now.bytes c.loop-frame.gathered.bytes (g.O.Sink.taken c.args.out.now) (g.O.Sink.taken c.loop-frame.out)
    c.loop-frame.reader c.advance.new.self (g.I.Inputs.faults c.loop-frame.inputs) (g.I.Inputs.faults c.advance.new.inputs) c.in-Err.stop c.outcome_of.result i.same i.name
    (stopped_next _ c.loop-frame.reader c.advance.new.self _ _ c.in-Err.stop c.in-Err.ensures.says) c.outcome_of.ensures.outcome i.stands

pub returns-in-Err-item-clause-exported : goal.returns-in-Err-item-clause-exported
returns-in-Err-item-clause-exported g c =
    let i = c.loop-frame.invariant in
    let verdict = c.in-Err-item.verdict in
    file_stops _ _ (c.args.file.now.said.now) c.args.file.now.number c.args.file.now.name.now (point_at c.args.exporter.now c.args.gathered.now) (point_at c.loop-frame.exporter c.loop-frame.gathered) c.args.gathered.now.bytes c.loop-frame.gathered.bytes (g.O.Sink.taken c.args.out.now) (g.O.Sink.taken c.loop-frame.out)
    c.loop-frame.reader c.advance.new.self 0 0 (stop.Refused verdict) (ended.Refused verdict) i.same i.name
    (refused_next (g.I.Inputs.told c.loop-frame.inputs) c.loop-frame.reader c.advance.new.self c.in-Ok-Some.field-0 c.in-Ok-Some.frame verdict c.in-Ok-Some.field-0-is c.in-Ok-Some.ensures.says c.item.ensures.bytes c.in-Err-item.ensures.says) refl i.stands

pub loop-frame-smaller : goal.loop-frame-smaller
loop-frame-smaller g c =
    let given = given_next (g.I.Inputs.told c.loop-frame.inputs) c.loop-frame.reader c.advance.new.self c.in-Ok-Some.field-0 c.in-Ok-Some.frame c.in-Ok-item.item c.in-Ok-Some.field-0-is c.in-Ok-Some.ensures.says c.item.ensures.bytes c.in-Ok-item.ensures.says in
    omega (arith, given.fits.further, given.fits.within)

pub export_named-exported-requires : goal.export_named-exported-requires
export_named-exported-requires g c =
    let item = c.in-Ok-item.item in
    let given = given_next (g.I.Inputs.told c.loop-frame.inputs) c.loop-frame.reader c.advance.new.self c.in-Ok-Some.field-0 c.in-Ok-Some.frame c.in-Ok-item.item c.in-Ok-Some.field-0-is c.in-Ok-Some.ensures.says c.item.ensures.bytes c.in-Ok-item.ensures.says in
    record {
      lawful = c.requires.lawful;
      frame = λ canonical. c.last_frame-bytes.ensures.bytes ∙ given.fits.spelled canonical;
      framed = subst IsFramed (sym c.last_frame-bytes.ensures.bytes) (given.stands.frame, given.stands.read);
      short = item_short item c.loop-frame.reader c.advance.new.self given.fits;
      version = given.fits.version;
      writable = given.fits.writable;
      sayable = given.fits.can_write;
    }

pub returns-in_default-clause-asked : goal.returns-in_default-clause-asked
returns-in_default-clause-asked g c = asked_nothing g.I.Inputs c.args.inputs.now (0, read_none c.args.file.now.name.now 0)

pub returns-in-Err-exported-clause-asked : goal.returns-in-Err-exported-clause-asked
returns-in-Err-exported-clause-asked g c = asked_so g.I.Inputs (λ asks on. (_, on)) (reads_then g.I.Inputs _ _ _ _ _ _ _ _ _ c.loop-frame.invariant.name refl c.loop-frame.invariant.asked c.advance.ensures.asked)

pub returns-in-Ok-None-clause-asked : goal.returns-in-Ok-None-clause-asked
returns-in-Ok-None-clause-asked g c = asked_so g.I.Inputs (λ asks on. (_, on)) (reads_then g.I.Inputs _ _ _ _ _ _ _ _ _ c.loop-frame.invariant.name refl c.loop-frame.invariant.asked c.advance.ensures.asked)

pub returns-in-Err-clause-asked : goal.returns-in-Err-clause-asked
returns-in-Err-clause-asked g c = asked_so g.I.Inputs (λ asks on. (_, on)) (reads_then g.I.Inputs _ _ _ _ _ _ _ _ _ c.loop-frame.invariant.name refl c.loop-frame.invariant.asked c.advance.ensures.asked)

pub returns-in-Err-item-clause-asked : goal.returns-in-Err-item-clause-asked
returns-in-Err-item-clause-asked g c = asked_so g.I.Inputs (λ asks on. (_, on)) (reads_then g.I.Inputs _ _ _ _ _ _ _ _ _ c.loop-frame.invariant.name refl c.loop-frame.invariant.asked c.advance.ensures.asked)
