use Rattle.std.specs.Prelude.{None, Some}
use Rattle.std.proofs.Common.{refl, ap, ◌∙◌, arith}
use Rattle.cmd_reader.specs.Left.{Reader}
use Rattle.sx_base.specs.declared.outcome.Outcome.TheVariants as ended
use Rattle.cmd_reader.specs.declared.item.ReadStop.TheVariants as stop
use Rattle.sx_base.proofs.Asking.{asked_nothing, asked_so, read_none}
use Rattle.cmd_reader.proofs.Asked.{reads_start, reads_then}
use Rattle.cmd_reader.proofs.Aheads.{start_ahead, next_ahead}
use Rattle.cmd_reader.proofs.Nexts.{given_next, refused_next, ended_next, stopped_next}
use Rattle.auditor.proofs.Short.{item_short}
use Rattle.auditor.proofs.OneFile.{item_cause, stands_at_start, stands_after, file_unopened, file_ends, item_ends, file_stops}
use Rattle.auditor.proofs.files.follow_file.Goals as goal

pub returns-in_default-clause-followed : goal.returns-in_default-clause-followed
returns-in_default-clause-followed g c = file_unopened (g.I.Inputs.told c.args.inputs.now) c.args.file.now.name.now

pub loop-frame-init : goal.loop-frame-init
loop-frame-init g c =
    let fresh = c.in-Ok.ensures.start in
    record {
      same = refl;
      steady = refl;
      ends_steady = refl;
      asked = reads_start g.I.Inputs c.args.inputs.now c.args.file.now.number c.args.file.now.name.now c.in-Ok.reader fresh;
      file = ap (λ (r : Reader). r.file) fresh;
      name = ap (λ (r : Reader). r.name) fresh;
      number = omega (arith, ap (λ (r : Reader). r.number) fresh, c.none-counts.ensures.commands);
      near = omega (arith, ap (λ (r : Reader). r.number) fresh);
      within = omega (arith, ap (λ (r : Reader). r.offset) fresh);
      fewer = omega (arith, c.none-counts.ensures.parts);
      stands = stands_at_start (g.I.Inputs.told c.args.inputs.now) (c.args.file.now.said.now) c.args.file.now.number c.args.file.now.name.now c.in-Ok.reader _ _ _ fresh c.none-counts.ensures.parts c.none-counts.ensures.commands;
      ahead = start_ahead _ c.args.file.now.number c.args.file.now.name.now c.in-Ok.reader fresh;
    }

pub returns-in-Ok-None-clause-followed : goal.returns-in-Ok-None-clause-followed
returns-in-Ok-None-clause-followed g c =
    let i = c.loop-frame.invariant in
    file_ends _ _ (c.args.file.now.said.now) c.args.file.now.number c.args.file.now.name.now _ c.loop-frame.reader c.advance.new.self _ c.loop-frame.counts 0 0 None refl i.same i.name
    (ended_next (g.I.Inputs.told c.loop-frame.inputs) c.loop-frame.reader c.advance.new.self c.in-Ok-None.field-0 c.in-Ok-None.field-0-is c.in-Ok-None.ensures.says) i.stands

pub follow_named-requires-clause-short : goal.follow_named-requires-clause-short
follow_named-requires-clause-short g c =
    let given = given_next (g.I.Inputs.told c.loop-frame.inputs) c.loop-frame.reader c.advance.new.self c.in-Ok-Some.field-0 c.in-Ok-Some.frame c.in-Ok-item.item c.in-Ok-Some.field-0-is c.in-Ok-Some.ensures.says c.item.ensures.bytes c.in-Ok-item.ensures.says in
    item_short c.in-Ok-item.item c.loop-frame.reader c.advance.new.self given.fits

pub returns-in-Err-follow_named-clause-followed : goal.returns-in-Err-follow_named-clause-followed
returns-in-Err-follow_named-clause-followed g c =
    let i = c.loop-frame.invariant in
    let given = given_next (g.I.Inputs.told c.loop-frame.inputs) c.loop-frame.reader c.advance.new.self c.in-Ok-Some.field-0 c.in-Ok-Some.frame c.in-Ok-item.item c.in-Ok-Some.field-0-is c.in-Ok-Some.ensures.says c.item.ensures.bytes c.in-Ok-item.ensures.says in
    item_ends _ _ (c.args.file.now.said.now) c.args.file.now.number c.args.file.now.name.now _ c.loop-frame.reader c.advance.new.self _ _ c.loop-frame.counts.parts c.loop-frame.counts.commands 0 0
    (Some c.in-Ok-item.item) c.in-Ok-item.item c.follow_named.result c.in-Err-follow_named.outcome refl i.same i.name i.file given.read c.in-Err-follow_named.is c.follow_named.ensures.followed i.stands

pub loop-frame-preserved : goal.loop-frame-preserved
loop-frame-preserved g c =
    let i = c.loop-frame.invariant in
    let e = c.in-Ok-Some.ensures in
    let given = given_next (g.I.Inputs.told c.loop-frame.inputs) c.loop-frame.reader c.advance.new.self c.in-Ok-Some.field-0 c.in-Ok-Some.frame c.in-Ok-item.item c.in-Ok-Some.field-0-is c.in-Ok-Some.ensures.says c.item.ensures.bytes c.in-Ok-item.ensures.says in
    let m = given.fits in
    record {
      same = e.same ∙ i.same;
      steady = e.steady ∙ i.steady;
      ends_steady = e.ends_steady ∙ i.ends_steady;
      asked = reads_then g.I.Inputs _ _ _ _ _ _ _ _ _ i.name refl i.asked c.advance.ensures.asked;
      file = e.file ∙ i.file;
      name = e.name ∙ i.name;
      number = omega (arith, m.next_number, i.number, c.with-counts.ensures.commands);
      near = omega (arith, m.next_number, m.further, i.near);
      within = m.within;
      fewer = c.with-counts.ensures.fewer;
      stands = stands_after _ _ (c.args.file.now.said.now) c.args.file.now.number c.args.file.now.name.now _ c.loop-frame.reader c.advance.new.self _ _ c.loop-frame.counts.parts c.loop-frame.counts.commands c.with-counts.result.parts c.with-counts.result.commands 0 0
          (Some c.in-Ok-item.item) c.in-Ok-item.item c.follow_named.result c.in-Ok-follow_named.done refl i.same i.name i.file given.read c.in-Ok-follow_named.is c.follow_named.ensures.followed c.with-counts.ensures.parts c.with-counts.ensures.commands i.stands;
      ahead = next_ahead _ _ c.loop-frame.reader c.advance.new.self 0 0 (Some c.in-Ok-item.item) c.in-Ok-item.item refl e.same e.name given.read;
    }

pub loop-frame-smaller : goal.loop-frame-smaller
loop-frame-smaller g c =
    let given = given_next (g.I.Inputs.told c.loop-frame.inputs) c.loop-frame.reader c.advance.new.self c.in-Ok-Some.field-0 c.in-Ok-Some.frame c.in-Ok-item.item c.in-Ok-Some.field-0-is c.in-Ok-Some.ensures.says c.item.ensures.bytes c.in-Ok-item.ensures.says in
    omega (arith, given.fits.further, given.fits.within)

pub returns-in-Err-item-clause-followed : goal.returns-in-Err-item-clause-followed
returns-in-Err-item-clause-followed g c =
    let i = c.loop-frame.invariant in
    let verdict = c.in-Err-item.verdict in
    file_stops _ _ (c.args.file.now.said.now) c.args.file.now.number c.args.file.now.name.now _ c.loop-frame.reader c.advance.new.self _ c.loop-frame.counts.parts c.loop-frame.counts.commands 0 0 (stop.Refused verdict) (ended.Refused verdict) i.same i.name
    (refused_next (g.I.Inputs.told c.loop-frame.inputs) c.loop-frame.reader c.advance.new.self c.in-Ok-Some.field-0 c.in-Ok-Some.frame verdict c.in-Ok-Some.field-0-is c.in-Ok-Some.ensures.says c.item.ensures.bytes c.in-Err-item.ensures.says) refl i.stands

pub returns-in-Err-clause-followed : goal.returns-in-Err-clause-followed
returns-in-Err-clause-followed g c =
    let i = c.loop-frame.invariant in
    file_stops _ _ (c.args.file.now.said.now) c.args.file.now.number c.args.file.now.name.now _ c.loop-frame.reader c.advance.new.self _ c.loop-frame.counts.parts c.loop-frame.counts.commands _ _ c.in-Err.stop c.outcome_of.result i.same i.name
    (stopped_next _ c.loop-frame.reader c.advance.new.self _ _ c.in-Err.stop c.in-Err.ensures.says) c.outcome_of.ensures.outcome i.stands

pub returns-in-Err-follow_named-clause-cause : goal.returns-in-Err-follow_named-clause-cause
returns-in-Err-follow_named-clause-cause g c =
    item_cause _ _ _ c.follow_named.result c.in-Err-follow_named.outcome _ _ c.in-Err-follow_named.is c.follow_named.ensures.followed

pub returns-in_default-clause-asked : goal.returns-in_default-clause-asked
returns-in_default-clause-asked g c = asked_nothing g.I.Inputs c.args.inputs.now (0, read_none c.args.file.now.name.now 0)

pub returns-in-Err-follow_named-clause-asked : goal.returns-in-Err-follow_named-clause-asked
returns-in-Err-follow_named-clause-asked g c = asked_so g.I.Inputs (λ asks on. (_, on)) (reads_then g.I.Inputs _ _ _ _ _ _ _ _ _ c.loop-frame.invariant.name refl c.loop-frame.invariant.asked c.advance.ensures.asked)

pub returns-in-Ok-None-clause-asked : goal.returns-in-Ok-None-clause-asked
returns-in-Ok-None-clause-asked g c = asked_so g.I.Inputs (λ asks on. (_, on)) (reads_then g.I.Inputs _ _ _ _ _ _ _ _ _ c.loop-frame.invariant.name refl c.loop-frame.invariant.asked c.advance.ensures.asked)

pub returns-in-Err-clause-asked : goal.returns-in-Err-clause-asked
returns-in-Err-clause-asked g c = asked_so g.I.Inputs (λ asks on. (_, on)) (reads_then g.I.Inputs _ _ _ _ _ _ _ _ _ c.loop-frame.invariant.name refl c.loop-frame.invariant.asked c.advance.ensures.asked)

pub returns-in-Err-item-clause-asked : goal.returns-in-Err-item-clause-asked
returns-in-Err-item-clause-asked g c = asked_so g.I.Inputs (λ asks on. (_, on)) (reads_then g.I.Inputs _ _ _ _ _ _ _ _ _ c.loop-frame.invariant.name refl c.loop-frame.invariant.asked c.advance.ensures.asked)
