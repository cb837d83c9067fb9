use Rattle.std.specs.Prelude.{None, Some}
use Rattle.std.proofs.Common.{refl, ap, ◌∙◌, arith}
use Rattle.cmd_reader.specs.Left.{Reader}
use Rattle.cmd_reader.specs.declared.item.ReadStop.TheVariants as stop
use Rattle.clone_pieces.specs.Sending.{output}
use Rattle.sx_base.specs.declared.outcome.Outcome.TheVariants as ended
use Rattle.sx_base.proofs.Asking.{asked_nothing, asked_so, read_none}
use Rattle.cmd_reader.proofs.Asked.{reads_start, reads_then}
use Rattle.cmd_reader.proofs.Aheads.{start_ahead, next_ahead}
use Rattle.cmd_reader.proofs.Nexts.{given_next, refused_next, ended_next, stopped_next}
use Rattle.squasher.proofs.WrittenFile.{halfway_at_start, halfway_after, goes_in, commands_counted, reading_stopped, version_differs, command_cut, reader_missing}
use Rattle.squasher.proofs.writing.write_commands.Goals as goal

pub returns-in_default-clause-written : goal.returns-in_default-clause-written
returns-in_default-clause-written g c base =
    reader_missing (g.I.Inputs.told c.args.inputs.now) c.args.file.now.name.now c.args.file.now.said.now c.args.file.now.number base c.args.judged (output g.O.Sink c.args.out.now c.args.pending.now)

pub loop-frame-init : goal.loop-frame-init
loop-frame-init g c =
    let fresh = c.in-Ok.ensures.start in
    record {
      same = refl;
      steady = refl;
      ends_steady = refl;
      out_steady = refl;
      asked = reads_start g.I.Inputs c.args.inputs.now c.args.file.now.number c.args.file.now.name.now c.in-Ok.reader fresh;
      file = ap (λ (r : Reader). r.file) fresh;
      name = ap (λ (r : Reader). r.name) fresh;
      number = ap (λ (r : Reader). r.number) fresh;
      near = omega (arith, ap (λ (r : Reader). r.number) fresh);
      within = omega (arith, ap (λ (r : Reader). r.offset) fresh);
      halfway = halfway_at_start (g.I.Inputs.told c.args.inputs.now) c.args.file.now.said.now c.args.file.now.number c.args.file.now.name.now c.args.judged c.in-Ok.reader (output g.O.Sink c.args.out.now c.args.pending.now) fresh;
      ahead = start_ahead _ c.args.file.now.number c.args.file.now.name.now c.in-Ok.reader fresh;
    }

pub returns-in-Ok-None-clause-written : goal.returns-in-Ok-None-clause-written
returns-in-Ok-None-clause-written g c base =
    let i = c.loop-frame.invariant in
    commands_counted _ _ c.args.file.now.said.now c.args.file.now.number c.args.file.now.name.now base c.args.judged c.loop-frame.reader c.advance.new.self c.loop-frame.fates (output g.O.Sink c.args.out.now c.args.pending.now) (output g.O.Sink c.loop-frame.out c.loop-frame.pending) 0 0 None c.loop-frame.last _ c.counted.result refl i.same i.name
    (ended_next (g.I.Inputs.told c.loop-frame.inputs) c.loop-frame.reader c.advance.new.self c.in-Ok-None.field-0 c.in-Ok-None.field-0-is c.in-Ok-None.ensures.says) i.number c.counted.ensures i.halfway

pub returns-in-Err-clause-written : goal.returns-in-Err-clause-written
returns-in-Err-clause-written g c base =
    let i = c.loop-frame.invariant in
    reading_stopped _ _ c.args.file.now.said.now c.args.file.now.number c.args.file.now.name.now base c.args.judged c.loop-frame.reader c.advance.new.self c.loop-frame.fates (output g.O.Sink c.args.out.now c.args.pending.now) (output g.O.Sink c.loop-frame.out c.loop-frame.pending) _ _ c.in-Err.stop c.outcome_of.result i.same i.name
    (stopped_next _ c.loop-frame.reader c.advance.new.self _ _ c.in-Err.stop c.in-Err.ensures.says) c.outcome_of.ensures.outcome i.halfway

pub returns-in-Err-item-clause-written : goal.returns-in-Err-item-clause-written
returns-in-Err-item-clause-written g c base =
    let i = c.loop-frame.invariant in
    let verdict = c.in-Err-item.verdict in
    reading_stopped _ _ c.args.file.now.said.now c.args.file.now.number c.args.file.now.name.now base c.args.judged c.loop-frame.reader c.advance.new.self c.loop-frame.fates (output g.O.Sink c.args.out.now c.args.pending.now) (output g.O.Sink c.loop-frame.out c.loop-frame.pending) 0 0 (stop.Refused verdict) (ended.Refused verdict) i.same i.name
    (refused_next (g.I.Inputs.told c.loop-frame.inputs) c.loop-frame.reader c.advance.new.self c.in-Ok-Some.field-0 c.in-Ok-Some.frame verdict c.in-Ok-Some.field-0-is c.in-Ok-Some.ensures.says c.item.ensures.bytes c.in-Err-item.ensures.says) refl i.halfway

pub returns-then-item-version-clause-written : goal.returns-then-item-version-clause-written
returns-then-item-version-clause-written g c base =
    let i = c.loop-frame.invariant in
    let given = given_next (g.I.Inputs.told c.loop-frame.inputs) c.loop-frame.reader c.advance.new.self c.in-Ok-Some.field-0 c.in-Ok-Some.frame c.in-Ok-item.item c.in-Ok-Some.field-0-is c.in-Ok-Some.ensures.says c.item.ensures.bytes c.in-Ok-item.ensures.says in
    version_differs _ _ c.args.file.now.said.now c.args.file.now.number c.args.file.now.name.now base c.args.judged c.loop-frame.reader c.advance.new.self c.loop-frame.fates (output g.O.Sink c.args.out.now c.args.pending.now) (output g.O.Sink c.loop-frame.out c.loop-frame.pending) (output g.O.Sink c.loop-frame.out c.loop-frame.pending) 0 0 (Some c.in-Ok-item.item) c.in-Ok-item.item
    refl i.same i.name i.file given.read i.halfway c.changed_at-then-item-version.result c.if-item-version.true

pub write_named-requires-clause-spelled : goal.write_named-requires-clause-spelled
write_named-requires-clause-spelled g c =
    let given = given_next (g.I.Inputs.told c.loop-frame.inputs) c.loop-frame.reader c.advance.new.self c.in-Ok-Some.field-0 c.in-Ok-Some.frame c.in-Ok-item.item c.in-Ok-Some.field-0-is c.in-Ok-Some.ensures.says c.item.ensures.bytes c.in-Ok-item.ensures.says in
    λ is. c.last_frame-came.ensures.bytes ∙ given.fits.spelled is

pub loop-frame-preserved : goal.loop-frame-preserved
loop-frame-preserved g c =
    let i = c.loop-frame.invariant in
    let e = c.in-Ok-Some.ensures in
    let p = c.in-Ok-write_named.ensures in
    let given = given_next (g.I.Inputs.told c.loop-frame.inputs) c.loop-frame.reader c.advance.new.self c.in-Ok-Some.field-0 c.in-Ok-Some.frame c.in-Ok-item.item c.in-Ok-Some.field-0-is c.in-Ok-Some.ensures.says c.item.ensures.bytes c.in-Ok-item.ensures.says in
    let m = given.fits in
    record {
      same = e.same ∙ i.same;
      steady = e.steady ∙ i.steady;
      ends_steady = e.ends_steady ∙ i.ends_steady;
      out_steady = p.out.steady ∙ i.out_steady;
      asked = reads_then g.I.Inputs _ _ _ _ _ _ _ _ _ i.name refl i.asked c.advance.ensures.asked;
      file = e.file ∙ i.file;
      name = e.name ∙ i.name;
      number = omega (arith, m.number, m.next_number);
      near = omega (arith, m.next_number, m.further, i.near);
      within = m.within;
      halfway = halfway_after _ _ c.args.file.now.said.now c.args.file.now.number c.args.file.now.name.now c.args.judged c.loop-frame.reader c.advance.new.self c.loop-frame.fates c.write_named.new.fates (output g.O.Sink c.args.out.now c.args.pending.now) (output g.O.Sink c.loop-frame.out c.loop-frame.pending) (output g.O.Sink c.write_named.new.out c.write_named.new.pending) 0 0 (Some c.in-Ok-item.item) c.in-Ok-item.item
          refl i.same i.name i.file given.read m p.fates (goes_in c.in-Ok-item.item.version c.args.judged.version (output g.O.Sink c.loop-frame.out c.loop-frame.pending) (output g.O.Sink c.write_named.new.out c.write_named.new.pending) _ (omega (arith, c.if-item-version.false)) p.put) i.halfway;
      ahead = next_ahead _ _ c.loop-frame.reader c.advance.new.self 0 0 (Some c.in-Ok-item.item) c.in-Ok-item.item refl e.same e.name given.read;
    }

pub returns-in-Err-write_named-clause-written : goal.returns-in-Err-write_named-clause-written
returns-in-Err-write_named-clause-written g c base =
    let i = c.loop-frame.invariant in
    let given = given_next (g.I.Inputs.told c.loop-frame.inputs) c.loop-frame.reader c.advance.new.self c.in-Ok-Some.field-0 c.in-Ok-Some.frame c.in-Ok-item.item c.in-Ok-Some.field-0-is c.in-Ok-Some.ensures.says c.item.ensures.bytes c.in-Ok-item.ensures.says in
    command_cut _ _ c.args.file.now.said.now c.args.file.now.number c.args.file.now.name.now base c.args.judged c.loop-frame.reader c.advance.new.self c.loop-frame.fates (output g.O.Sink c.args.out.now c.args.pending.now) (output g.O.Sink c.loop-frame.out c.loop-frame.pending) (output g.O.Sink c.write_named.new.out c.write_named.new.pending) 0 0 (Some c.in-Ok-item.item) c.in-Ok-item.item
    refl i.same i.name i.file given.read i.halfway _ c.in-Err-write_named.stop c.ended_by.result c.ended_by.ensures i.out_steady (omega (arith, c.if-item-version.false)) c.in-Err-write_named.ensures.put

pub returns-in_default-clause-asked : goal.returns-in_default-clause-asked
returns-in_default-clause-asked g c = asked_nothing g.I.Inputs c.args.inputs.now (0, read_none c.args.file.now.name.now 0)

pub returns-in-Ok-None-clause-asked : goal.returns-in-Ok-None-clause-asked
returns-in-Ok-None-clause-asked g c = asked_so g.I.Inputs (λ asks on. (_, on)) (reads_then g.I.Inputs _ _ _ _ _ _ _ _ _ c.loop-frame.invariant.name refl c.loop-frame.invariant.asked c.advance.ensures.asked)

pub returns-in-Err-clause-asked : goal.returns-in-Err-clause-asked
returns-in-Err-clause-asked g c = asked_so g.I.Inputs (λ asks on. (_, on)) (reads_then g.I.Inputs _ _ _ _ _ _ _ _ _ c.loop-frame.invariant.name refl c.loop-frame.invariant.asked c.advance.ensures.asked)

pub returns-in-Err-item-clause-asked : goal.returns-in-Err-item-clause-asked
returns-in-Err-item-clause-asked g c = asked_so g.I.Inputs (λ asks on. (_, on)) (reads_then g.I.Inputs _ _ _ _ _ _ _ _ _ c.loop-frame.invariant.name refl c.loop-frame.invariant.asked c.advance.ensures.asked)

pub returns-then-item-version-clause-asked : goal.returns-then-item-version-clause-asked
returns-then-item-version-clause-asked g c = asked_so g.I.Inputs (λ asks on. (_, on)) (reads_then g.I.Inputs _ _ _ _ _ _ _ _ _ c.loop-frame.invariant.name refl c.loop-frame.invariant.asked c.advance.ensures.asked)

pub returns-in-Err-write_named-clause-asked : goal.returns-in-Err-write_named-clause-asked
returns-in-Err-write_named-clause-asked g c = asked_so g.I.Inputs (λ asks on. (_, on)) (reads_then g.I.Inputs _ _ _ _ _ _ _ _ _ c.loop-frame.invariant.name refl c.loop-frame.invariant.asked c.advance.ensures.asked)
