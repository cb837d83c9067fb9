use Rattle.std.specs.Prelude.{None, Some}
use Rattle.std.proofs.Common.{ℕ, refl, ap, subst, ◌∙◌, arith}
use Rattle.sx_base.specs.Calls.{SteadyIfDone}
use Rattle.sx_base.specs.declared.outcome.Outcome.TheVariants as ended
use Rattle.cmd_reader.specs.Left.{Reader}
use Rattle.cmd_reader.specs.declared.item.ReadStop.TheVariants as stop
use Rattle.sx_base.proofs.Asking.{asked_nothing, asked_so, read_none}
use Rattle.cmd_reader.proofs.Asked.{reads_start, reads_then}
use Rattle.cmd_reader.proofs.Aheads.{start_ahead, next_ahead}
use Rattle.cmd_reader.proofs.Nexts.{given_next, refused_next, ended_next, stopped_next}
use Rattle.sx_base.proofs.Ended.{stopped_steady, steady_anyway}
use Rattle.stream_dump.proofs.Standing.{unopened, stands_first, stands_next, ends_whole, ends_early, item_stops, caused_end, caused_item}
use Rattle.stream_dump.proofs.file_writing.write_file.Goals as goal

pub returns-in_default-clause-written : goal.returns-in_default-clause-written
returns-in_default-clause-written g c = unopened g.F.ItemForm.piece (g.I.Inputs.told c.args.inputs.now) c.args.file.now (g.O.Sink.taken c.args.out.now)

pub loop-frame-init : goal.loop-frame-init
loop-frame-init g c =
    let fresh = c.in-Ok.ensures.start in
    record {
      same = refl;
      steady = refl;
      ends_steady = refl;
      asked = reads_start g.I.Inputs c.args.inputs.now 1 c.args.file.now c.in-Ok.reader fresh;
      out_steady = refl;
      file = ap (λ (r : Reader). r.file) fresh;
      name = ap (λ (r : Reader). r.name) fresh;
      stands = stands_first g.F.ItemForm.piece (g.I.Inputs.told c.args.inputs.now) c.args.file.now c.in-Ok.reader c.new-gathered.result (g.O.Sink.taken c.args.out.now) fresh c.new-gathered.ensures.empty;
      ahead = start_ahead _ 1 c.args.file.now c.in-Ok.reader fresh;
    }

pub loop-frame-preserved : goal.loop-frame-preserved
loop-frame-preserved g c =
    let i = c.loop-frame.invariant in
    let e = c.in-Ok-Some.ensures in
    let given = given_next (g.I.Inputs.told c.loop-frame.inputs) c.loop-frame.reader c.advance.new.self c.in-Ok-Some.field-0 c.in-Ok-Some.frame c.in-Ok-item.item c.in-Ok-Some.field-0-is c.in-Ok-Some.ensures.says c.item.ensures.bytes c.in-Ok-item.ensures.says in
    record {
      same = e.same ∙ i.same;
      steady = e.steady ∙ i.steady;
      ends_steady = e.ends_steady ∙ i.ends_steady;
      asked = reads_then g.I.Inputs _ _ _ _ _ _ _ _ _ i.name refl i.asked c.advance.ensures.asked;
      out_steady = c.in_default-written.ensures.steady ∙ i.out_steady;
      file = e.file ∙ i.file;
      name = e.name ∙ i.name;
      stands = stands_next g.F.ItemForm.piece _ _ c.args.file.now c.loop-frame.reader c.advance.new.self (Some c.in-Ok-item.item) c.in-Ok-item.item c.loop-frame.gathered c.write_item-written.new.gathered _ _ _ 0 0
          i.same i.file i.name refl c.in_default-written.ensures.ends given.read i.stands;
      ahead = next_ahead _ _ c.loop-frame.reader c.advance.new.self 0 0 (Some c.in-Ok-item.item) c.in-Ok-item.item refl e.same e.name given.read;
    }

pub returns-in-Err-written-clause-written : goal.returns-in-Err-written-clause-written
returns-in-Err-written-clause-written g c =
    let i = c.loop-frame.invariant in
    let given = given_next (g.I.Inputs.told c.loop-frame.inputs) c.loop-frame.reader c.advance.new.self c.in-Ok-Some.field-0 c.in-Ok-Some.frame c.in-Ok-item.item c.in-Ok-Some.field-0-is c.in-Ok-Some.ensures.says c.item.ensures.bytes c.in-Ok-item.ensures.says in
    item_stops g.F.ItemForm.piece _ _ c.args.file.now c.loop-frame.reader c.advance.new.self (Some c.in-Ok-item.item) c.in-Ok-item.item c.loop-frame.gathered c.write_item-written.new.gathered _ (g.O.Sink.taken c.loop-frame.out) _ 0 0
    (g.O.Sink.faults c.loop-frame.out) (g.O.Sink.faults c.write_item-written.new.out) c.in-Err-written.outcome
    i.same i.file i.name refl c.in-Err-written.ensures.ends given.read i.stands

pub returns-in-Err-written-clause-cause : goal.returns-in-Err-written-clause-cause
returns-in-Err-written-clause-cause g c =
    caused_item _ _ _ (g.O.Sink.faults c.loop-frame.out) _ c.in-Err-written.outcome (omega (arith, c.loop-frame.invariant.out_steady)) c.in-Err-written.ensures.ends.0

pub returns-in-Ok-None-clause-written : goal.returns-in-Ok-None-clause-written
returns-in-Ok-None-clause-written g c =
    let i = c.loop-frame.invariant in
    ends_whole g.F.ItemForm.piece _ _ c.args.file.now c.loop-frame.reader c.advance.new.self None c.loop-frame.gathered _ (g.O.Sink.taken c.loop-frame.out) _ 0 0
    (g.O.Sink.faults c.loop-frame.out) (g.O.Sink.faults c.finish.new.out) c.finish.result i.same i.name refl
    (ended_next (g.I.Inputs.told c.loop-frame.inputs) c.loop-frame.reader c.advance.new.self c.in-Ok-None.field-0 c.in-Ok-None.field-0-is c.in-Ok-None.ensures.says) c.finish.ensures.ends i.stands

pub returns-in-Ok-None-clause-cause : goal.returns-in-Ok-None-clause-cause
returns-in-Ok-None-clause-cause g c =
    caused_end _ _ _ (g.O.Sink.faults c.loop-frame.out) _ c.loop-frame.gathered.bytes ended.Done c.finish.result _ _ (omega (arith, c.loop-frame.invariant.out_steady)) c.finish.ensures.ends tt

pub returns-in-Err-clause-written : goal.returns-in-Err-clause-written
returns-in-Err-clause-written g c =
    let i = c.loop-frame.invariant in
    ends_early g.F.ItemForm.piece _ _ c.args.file.now c.loop-frame.reader c.advance.new.self c.in-Err.stop c.outcome_of.result c.loop-frame.gathered _ (g.O.Sink.taken c.loop-frame.out) _
    (g.I.Inputs.faults c.loop-frame.inputs) (g.I.Inputs.faults c.advance.new.inputs) (g.O.Sink.faults c.loop-frame.out) (g.O.Sink.faults c.finish-in-Err.new.out) c.finish-in-Err.result
    i.same i.name c.outcome_of.ensures.outcome (stopped_next _ c.loop-frame.reader c.advance.new.self _ _ c.in-Err.stop c.in-Err.ensures.says) c.finish-in-Err.ensures.ends i.stands

pub returns-in-Err-item-clause-written : goal.returns-in-Err-item-clause-written
returns-in-Err-item-clause-written g c =
    let i = c.loop-frame.invariant in
    let verdict = c.in-Err-item.verdict in
    ends_early g.F.ItemForm.piece _ _ c.args.file.now c.loop-frame.reader c.advance.new.self (stop.Refused verdict) (ended.Refused verdict) c.loop-frame.gathered _ (g.O.Sink.taken c.loop-frame.out) _
    0 0 (g.O.Sink.faults c.loop-frame.out) (g.O.Sink.faults c.finish-in-Err-item.new.out) c.finish-in-Err-item.result
    i.same i.name refl (refused_next (g.I.Inputs.told c.loop-frame.inputs) c.loop-frame.reader c.advance.new.self c.in-Ok-Some.field-0 c.in-Ok-Some.frame verdict c.in-Ok-Some.field-0-is c.in-Ok-Some.ensures.says c.item.ensures.bytes c.in-Err-item.ensures.says)
    c.finish-in-Err-item.ensures.ends i.stands

pub returns-in-Err-item-clause-cause : goal.returns-in-Err-item-clause-cause
returns-in-Err-item-clause-cause g c =
    caused_end _ _ _ (g.O.Sink.faults c.loop-frame.out) _ c.loop-frame.gathered.bytes (ended.Refused c.in-Err-item.verdict) c.finish-in-Err-item.result _ _ (omega (arith, c.loop-frame.invariant.out_steady)) c.finish-in-Err-item.ensures.ends tt

pub returns-in-Err-item-clause-steady : goal.returns-in-Err-item-clause-steady
returns-in-Err-item-clause-steady g c = stopped_steady _ _ c.finish-in-Err-item.result (c.finish-in-Err-item.ensures.stops tt)

pub returns-in-Err-item-clause-ends_steady : goal.returns-in-Err-item-clause-ends_steady
returns-in-Err-item-clause-ends_steady g c = stopped_steady _ _ c.finish-in-Err-item.result (c.finish-in-Err-item.ensures.stops tt)

pub returns-in-Err-item-clause-out_steady : goal.returns-in-Err-item-clause-out_steady
returns-in-Err-item-clause-out_steady g c = stopped_steady _ _ c.finish-in-Err-item.result (c.finish-in-Err-item.ensures.stops tt)

pub loop-frame-smaller : goal.loop-frame-smaller
loop-frame-smaller g c =
    let given = given_next (g.I.Inputs.told c.loop-frame.inputs) c.loop-frame.reader c.advance.new.self c.in-Ok-Some.field-0 c.in-Ok-Some.frame c.in-Ok-item.item c.in-Ok-Some.field-0-is c.in-Ok-Some.ensures.says c.item.ensures.bytes c.in-Ok-item.ensures.says in
    omega (arith, given.fits.further, given.fits.within)

pub write_item-written-requires : goal.write_item-written-requires
write_item-written-requires g c =
    let given = given_next (g.I.Inputs.told c.loop-frame.inputs) c.loop-frame.reader c.advance.new.self c.in-Ok-Some.field-0 c.in-Ok-Some.frame c.in-Ok-item.item c.in-Ok-Some.field-0-is c.in-Ok-Some.ensures.says c.item.ensures.bytes c.in-Ok-item.ensures.says in
    record { writable = given.fits.writable; sayable = given.fits.can_write }

pub returns-in-Ok-None-clause-steady : goal.returns-in-Ok-None-clause-steady
returns-in-Ok-None-clause-steady g c = steady_anyway _ _ c.finish.result (c.in-Ok-None.ensures.steady ∙ c.loop-frame.invariant.steady)

pub returns-in-Ok-None-clause-ends_steady : goal.returns-in-Ok-None-clause-ends_steady
returns-in-Ok-None-clause-ends_steady g c = steady_anyway _ _ c.finish.result (c.in-Ok-None.ensures.ends_steady ∙ c.loop-frame.invariant.ends_steady)

pub returns-in-Ok-None-clause-out_steady : goal.returns-in-Ok-None-clause-out_steady
returns-in-Ok-None-clause-out_steady g c = subst (λ (n : ℕ). SteadyIfDone n (g.O.Sink.faults c.finish.new.out) c.finish.result) c.loop-frame.invariant.out_steady c.finish.ensures.steady

pub returns-in-Err-clause-steady : goal.returns-in-Err-clause-steady
returns-in-Err-clause-steady g c = stopped_steady _ _ c.finish-in-Err.result (c.finish-in-Err.ensures.stops c.outcome_of.ensures.stops)

pub returns-in-Err-written-clause-steady : goal.returns-in-Err-written-clause-steady
returns-in-Err-written-clause-steady g c = stopped_steady _ _ c.in-Err-written.outcome c.in-Err-written.ensures.stops

pub returns-in-Err-clause-ends_steady : goal.returns-in-Err-clause-ends_steady
returns-in-Err-clause-ends_steady g c = stopped_steady _ _ c.finish-in-Err.result (c.finish-in-Err.ensures.stops c.outcome_of.ensures.stops)

pub returns-in-Err-written-clause-ends_steady : goal.returns-in-Err-written-clause-ends_steady
returns-in-Err-written-clause-ends_steady g c = stopped_steady _ _ c.in-Err-written.outcome c.in-Err-written.ensures.stops

pub returns-in-Err-clause-out_steady : goal.returns-in-Err-clause-out_steady
returns-in-Err-clause-out_steady g c = stopped_steady _ _ c.finish-in-Err.result (c.finish-in-Err.ensures.stops c.outcome_of.ensures.stops)

pub returns-in-Err-written-clause-out_steady : goal.returns-in-Err-written-clause-out_steady
returns-in-Err-written-clause-out_steady g c = stopped_steady _ _ c.in-Err-written.outcome c.in-Err-written.ensures.stops

pub returns-in_default-clause-asked : goal.returns-in_default-clause-asked
returns-in_default-clause-asked g c = asked_nothing g.I.Inputs c.args.inputs.now (0, read_none c.args.file.now 0)

pub returns-in-Err-written-clause-asked : goal.returns-in-Err-written-clause-asked
returns-in-Err-written-clause-asked g c = asked_so g.I.Inputs (λ asks on. (_, on)) (reads_then g.I.Inputs _ _ _ _ _ _ _ _ _ c.loop-frame.invariant.name refl c.loop-frame.invariant.asked c.advance.ensures.asked)

pub returns-in-Ok-None-clause-asked : goal.returns-in-Ok-None-clause-asked
returns-in-Ok-None-clause-asked g c = asked_so g.I.Inputs (λ asks on. (_, on)) (reads_then g.I.Inputs _ _ _ _ _ _ _ _ _ c.loop-frame.invariant.name refl c.loop-frame.invariant.asked c.advance.ensures.asked)

pub returns-in-Err-clause-asked : goal.returns-in-Err-clause-asked
returns-in-Err-clause-asked g c = asked_so g.I.Inputs (λ asks on. (_, on)) (reads_then g.I.Inputs _ _ _ _ _ _ _ _ _ c.loop-frame.invariant.name refl c.loop-frame.invariant.asked c.advance.ensures.asked)

pub returns-in-Err-item-clause-asked : goal.returns-in-Err-item-clause-asked
returns-in-Err-item-clause-asked g c = asked_so g.I.Inputs (λ asks on. (_, on)) (reads_then g.I.Inputs _ _ _ _ _ _ _ _ _ c.loop-frame.invariant.name refl c.loop-frame.invariant.asked c.advance.ensures.asked)
