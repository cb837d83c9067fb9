use Rattle.std.specs.Prelude.{None, Some}
use Rattle.std.proofs.Common.{refl, ap, ◌∙◌, arith}
use Rattle.cmd_reader.specs.Left.{Reader}
use Rattle.cmd_reader.specs.declared.item.ReadStop.TheVariants as stop
use Rattle.send_commands.specs.Meaning.{meaning_of}
use Rattle.send_model.proofs.Overriding.{same_end}
use Rattle.sx_base.specs.declared.outcome.Outcome.TheVariants as ended
use Rattle.sx_base.proofs.Asking.{asked_nothing, asked_so, read_none}
use Rattle.cmd_reader.proofs.Asked.{reads_start, reads_then}
use Rattle.cmd_reader.proofs.Aheads.{start_ahead, next_ahead}
use Rattle.cmd_reader.proofs.Nexts.{given_next, refused_next, ended_next, ended_behind, stopped_next}
use Rattle.auditor.proofs.Short.{item_short}
use Rattle.squasher.specs.Judging.{Sight}
use Rattle.squasher.proofs.JudgedFile.{steady_anyhow, finish_cause, item_cause, agrees_at_start, agrees_on, agrees_hidden, awaits, fresh_on, stands_at_start, stands_after, file_unopened, file_ends, item_ends, file_stops}
use Rattle.squasher.proofs.judging.judge.Goals as goal

pub returns-in_default-clause-judged : goal.returns-in_default-clause-judged
returns-in_default-clause-judged g c = file_unopened (g.I.Inputs.told c.args.inputs.now) c.args.file.now.name.now c.args.core c.args.file.now.said.now c.args.file.now.number

pub loop-frame-init : goal.loop-frame-init
loop-frame-init g c =
    let fresh = c.in-Ok.ensures.start in
    record {
      same = refl;
      steady = refl;
      ends_steady = refl;
      asked = reads_start g.I.Inputs c.args.inputs.now c.args.file.now.number c.args.file.now.name.now c.in-Ok.reader fresh;
      file = ap (λ (r : Reader). r.file) fresh;
      name = ap (λ (r : Reader). r.name) fresh;
      near = omega (arith, ap (λ (r : Reader). r.number) fresh);
      within = omega (arith, ap (λ (r : Reader). r.offset) fresh);
      agrees = agrees_at_start c.args.file.now.number c.args.file.now.name.now c.in-Ok.reader c.new-keeper.result _ fresh c.new-keeper.ensures.start;
      fresh = λ e. (c.new-keeper.ensures.start, refl);
      stands = stands_at_start (g.I.Inputs.told c.args.inputs.now) c.args.core c.args.file.now.said.now c.args.file.now.number c.args.file.now.name.now c.in-Ok.reader c.new-keeper.result fresh c.new-keeper.ensures.start;
      ahead = start_ahead _ c.args.file.now.number c.args.file.now.name.now c.in-Ok.reader fresh;
    }

pub returns-in-Ok-None-clause-judged : goal.returns-in-Ok-None-clause-judged
returns-in-Ok-None-clause-judged g c =
    let i = c.loop-frame.invariant in
    file_ends _ _ c.args.file.now.said.now c.args.file.now.number c.args.file.now.name.now c.args.core _ c.loop-frame.reader c.advance.new.self c.loop-frame.keeper 0 0 None c.finish.result refl i.same i.name
    (ended_next (g.I.Inputs.told c.loop-frame.inputs) c.loop-frame.reader c.advance.new.self c.in-Ok-None.field-0 c.in-Ok-None.field-0-is c.in-Ok-None.ensures.says)
    (ended_behind (g.I.Inputs.told c.loop-frame.inputs) c.loop-frame.reader c.advance.new.self c.in-Ok-None.field-0 c.in-Ok-None.field-0-is c.in-Ok-None.ensures.says)
    i.agrees c.finish.ensures.judged i.stands

pub take_named-requires-clause-short : goal.take_named-requires-clause-short
take_named-requires-clause-short g c =
    let given = given_next (g.I.Inputs.told c.loop-frame.inputs) c.loop-frame.reader c.advance.new.self c.in-Ok-Some.field-0 c.in-Ok-Some.frame c.in-Ok-item.item c.in-Ok-Some.field-0-is c.in-Ok-Some.ensures.says c.item.ensures.bytes c.in-Ok-item.ensures.says in
    item_short c.in-Ok-item.item c.loop-frame.reader c.advance.new.self given.fits

pub returns-in-Err-take_named-clause-judged : goal.returns-in-Err-take_named-clause-judged
returns-in-Err-take_named-clause-judged g c =
    let i = c.loop-frame.invariant in
    let given = given_next (g.I.Inputs.told c.loop-frame.inputs) c.loop-frame.reader c.advance.new.self c.in-Ok-Some.field-0 c.in-Ok-Some.frame c.in-Ok-item.item c.in-Ok-Some.field-0-is c.in-Ok-Some.ensures.says c.item.ensures.bytes c.in-Ok-item.ensures.says in
    item_ends _ _ c.args.file.now.said.now c.args.file.now.number c.args.file.now.name.now c.args.core _ c.loop-frame.reader c.advance.new.self c.hide_own-own.new.self c.take_named.new.self 0 0
    (Some c.in-Ok-item.item) c.in-Ok-item.item c.take_named.result c.in-Err-take_named.outcome refl i.same i.name i.file given.read c.in-Err-take_named.is c.take_named.ensures.taken
    (awaits c.args.core c.args.file.now.said.now c.args.file.now.number c.loop-frame.own c.hide_own-own.result c.loop-frame.keeper c.hide_own-own.new.self c.in-Ok-item.item i.fresh c.hide_own-own.ensures.first c.hide_own-own.ensures.later _ _ c.loop-frame.reader i.stands)

pub loop-frame-preserved : goal.loop-frame-preserved
loop-frame-preserved g c =
    let i = c.loop-frame.invariant in
    let e = c.in-Ok-Some.ensures in
    let given = given_next (g.I.Inputs.told c.loop-frame.inputs) c.loop-frame.reader c.advance.new.self c.in-Ok-Some.field-0 c.in-Ok-Some.frame c.in-Ok-item.item c.in-Ok-Some.field-0-is c.in-Ok-Some.ensures.says c.item.ensures.bytes c.in-Ok-item.ensures.says in
    let m = given.fits in
    let agrees = agrees_hidden c.args.core c.args.file.now.said.now c.args.file.now.number c.loop-frame.own c.hide_own-own.result c.loop-frame.keeper c.hide_own-own.new.self c.in-Ok-item.item i.fresh c.hide_own-own.ensures.first c.hide_own-own.ensures.later c.loop-frame.reader i.agrees in
    record {
      same = e.same ∙ i.same;
      steady = e.steady ∙ i.steady;
      ends_steady = e.ends_steady ∙ i.ends_steady;
      asked = reads_then g.I.Inputs _ _ _ _ _ _ _ _ _ i.name refl i.asked c.advance.ensures.asked;
      file = e.file ∙ i.file;
      name = e.name ∙ i.name;
      near = omega (arith, m.next_number, m.further, i.near);
      within = m.within;
      agrees = agrees_on c.loop-frame.reader c.advance.new.self c.hide_own-own.new.self c.take_named.new.self c.in-Ok-item.item _ m agrees c.in-Ok-take_named.ensures.taken refl refl (same_end c.args.file.now.said.now (meaning_of c.in-Ok-item.item.command));
      fresh = fresh_on c.args.core _ c.hide_own-own.new.self c.take_named.new.self _ (omega (arith, m.number, i.agrees.number)) c.in-Ok-take_named.ensures.taken;
      stands = stands_after _ _ c.args.core c.args.file.now.said.now c.args.file.now.number c.args.file.now.name.now _ c.loop-frame.reader c.advance.new.self c.hide_own-own.new.self c.take_named.new.self 0 0
          (Some c.in-Ok-item.item) c.in-Ok-item.item c.take_named.result _ refl i.same i.name i.file given.read c.in-Ok-take_named.is c.take_named.ensures.taken c.requires.lawful m agrees
          (awaits c.args.core c.args.file.now.said.now c.args.file.now.number c.loop-frame.own c.hide_own-own.result c.loop-frame.keeper c.hide_own-own.new.self c.in-Ok-item.item i.fresh c.hide_own-own.ensures.first c.hide_own-own.ensures.later _ _ c.loop-frame.reader i.stands);
      ahead = next_ahead _ _ c.loop-frame.reader c.advance.new.self 0 0 (Some c.in-Ok-item.item) c.in-Ok-item.item refl e.same e.name given.read;
    }

pub loop-frame-smaller : goal.loop-frame-smaller
loop-frame-smaller g c =
    let given = given_next (g.I.Inputs.told c.loop-frame.inputs) c.loop-frame.reader c.advance.new.self c.in-Ok-Some.field-0 c.in-Ok-Some.frame c.in-Ok-item.item c.in-Ok-Some.field-0-is c.in-Ok-Some.ensures.says c.item.ensures.bytes c.in-Ok-item.ensures.says in
    omega (arith, given.fits.further, given.fits.within)

pub returns-in-Err-item-clause-judged : goal.returns-in-Err-item-clause-judged
returns-in-Err-item-clause-judged g c =
    let i = c.loop-frame.invariant in
    let verdict = c.in-Err-item.verdict in
    file_stops _ _ c.args.file.now.said.now c.args.file.now.number c.args.file.now.name.now c.args.core _ c.loop-frame.reader c.advance.new.self c.loop-frame.keeper 0 0 (stop.Refused verdict) (ended.Refused verdict) i.same i.name
    (refused_next (g.I.Inputs.told c.loop-frame.inputs) c.loop-frame.reader c.advance.new.self c.in-Ok-Some.field-0 c.in-Ok-Some.frame verdict c.in-Ok-Some.field-0-is c.in-Ok-Some.ensures.says c.item.ensures.bytes c.in-Err-item.ensures.says) refl i.stands

pub returns-in-Err-clause-judged : goal.returns-in-Err-clause-judged
returns-in-Err-clause-judged g c =
    let i = c.loop-frame.invariant in
    file_stops _ _ c.args.file.now.said.now c.args.file.now.number c.args.file.now.name.now c.args.core _ c.loop-frame.reader c.advance.new.self c.loop-frame.keeper _ _ c.in-Err.stop c.outcome_of.result i.same i.name
    (stopped_next _ c.loop-frame.reader c.advance.new.self _ _ c.in-Err.stop c.in-Err.ensures.says) c.outcome_of.ensures.outcome i.stands

pub returns-in-Err-take_named-clause-cause : goal.returns-in-Err-take_named-clause-cause
returns-in-Err-take_named-clause-cause g c =
    item_cause c.hide_own-own.new.self c.take_named.new.self _ c.take_named.result c.in-Err-take_named.outcome _ _ c.in-Err-take_named.is c.take_named.ensures.taken

pub returns-in_default-clause-asked : goal.returns-in_default-clause-asked
returns-in_default-clause-asked g c = asked_nothing g.I.Inputs c.args.inputs.now (0, read_none c.args.file.now.name.now 0)

pub returns-in-Err-take_named-clause-asked : goal.returns-in-Err-take_named-clause-asked
returns-in-Err-take_named-clause-asked g c = asked_so g.I.Inputs (λ asks on. (_, on)) (reads_then g.I.Inputs _ _ _ _ _ _ _ _ _ c.loop-frame.invariant.name refl c.loop-frame.invariant.asked c.advance.ensures.asked)

pub returns-in-Ok-None-clause-asked : goal.returns-in-Ok-None-clause-asked
returns-in-Ok-None-clause-asked g c = asked_so g.I.Inputs (λ asks on. (_, on)) (reads_then g.I.Inputs _ _ _ _ _ _ _ _ _ c.loop-frame.invariant.name refl c.loop-frame.invariant.asked c.advance.ensures.asked)

pub returns-in-Err-clause-asked : goal.returns-in-Err-clause-asked
returns-in-Err-clause-asked g c = asked_so g.I.Inputs (λ asks on. (_, on)) (reads_then g.I.Inputs _ _ _ _ _ _ _ _ _ c.loop-frame.invariant.name refl c.loop-frame.invariant.asked c.advance.ensures.asked)

pub returns-in-Err-item-clause-asked : goal.returns-in-Err-item-clause-asked
returns-in-Err-item-clause-asked g c = asked_so g.I.Inputs (λ asks on. (_, on)) (reads_then g.I.Inputs _ _ _ _ _ _ _ _ _ c.loop-frame.invariant.name refl c.loop-frame.invariant.asked c.advance.ensures.asked)

pub returns-in-Ok-None-clause-cause : goal.returns-in-Ok-None-clause-cause
returns-in-Ok-None-clause-cause g c = finish_cause c.args.file.now.number c.loop-frame.keeper c.finish.result _ _ c.finish.ensures.judged

pub returns-in-Ok-None-clause-inputs : goal.returns-in-Ok-None-clause-inputs
returns-in-Ok-None-clause-inputs g c =
    let i = c.loop-frame.invariant in
    let e = c.in-Ok-None.ensures in
    let faults = e.steady ∙ i.steady in
    let ends = e.ends_steady ∙ i.ends_steady in
    record {
      same = e.same ∙ i.same;
      later = omega (arith, faults);
      steady = steady_anyhow _ _ c.finish.result faults;
      ends_later = omega (arith, ends);
      ends_steady = steady_anyhow _ _ c.finish.result ends;
    }

pub hide_own-own-requires : goal.hide_own-own-requires
hide_own-own-requires g c = record { outside = λ e. ap (λ (s : Sight). s.state.part) (c.loop-frame.invariant.fresh e).0 }
