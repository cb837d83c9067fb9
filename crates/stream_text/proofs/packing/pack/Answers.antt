use Rattle.std.specs.Prelude.{Ok, Err}
use Rattle.std.proofs.Common.{◌≡◌, length, refl, sym, ap, ◌∙◌, arith}
use Rattle.std.specs.String.{string_bytes}
use Rattle.sx_base.proofs.Asking.{asked_nothing, asked_so, read_none}
use Rattle.sx_base.proofs.Ended.{stopped_steady, steady_anyway}
use Rattle.cmd_reader.proofs.Asked.{reads_nothing, reads_then, reads_same}
use Rattle.stream_dump.specs.Steps.{output}
use Rattle.stream_text.specs.declared.packing.Step.TheVariants as step
use Rattle.stream_text.specs.Reading.{fed}
use Rattle.stream_text.specs.Taking.{StepSays}
use Rattle.stream_text.proofs.ReadLines.{fed_is}
use Rattle.stream_text.proofs.Steps.{unopened, fresh_says, goes_on, stops_with, ends_done, file_moved, caused_from, steady_from, finish_caused, step_at, line_further, held_now}
use Rattle.stream_text.proofs.packing.pack.Goals as goal

pub returns-in_default : goal.returns-in_default
returns-in_default g c = record {
  same = refl;
  later = omega arith;
  out_later = omega arith;
  steady = tt;
  ends_steady = tt;
  asked = asked_nothing g.I.Inputs c.args.inputs.now (0, read_none c.args.file.now 0);
  out_steady = tt;
  cause = tt;
  packed = unopened (g.I.Inputs.told c.args.inputs.now) c.args.file.now (g.O.Sink.taken c.args.out.now);
}

pub loop-step-init : goal.loop-step-init
loop-step-init g c =
    let e = c.in-Ok.ensures in
    let r = c.in-Ok.lines in
    let start : 0 ≡ fed r = omega (arith, fed_is r e.reader, e.place, ap length e.empty) in
    record {
      same = refl;
      steady = refl;
      ends_steady = refl;
      out_steady = refl;
      asked = reads_same g.I.Inputs _ _ c.args.file.now c.args.file.now 0 0 0 (fed r) refl refl start (reads_nothing g.I.Inputs c.args.inputs.now c.args.file.now 0);
      reader = e.reader;
      name = e.name;
      packed = fresh_says (g.I.Inputs.told c.args.inputs.now) c.args.file.now r c.new-packed.result (g.O.Sink.taken c.args.out.now) e.place e.number e.empty c.new-packed.ensures.empty c.new-packed.ensures.due;
    }

pub take_next-requires : goal.take_next-requires
take_next-requires g c =
    let i = c.loop-step.invariant in
    record { reader = i.reader; ahead = held_now (g.I.Inputs.told c.args.inputs.now) (g.I.Inputs.told c.loop-step.inputs) c.args.file.now (string_bytes c.loop-step.lines.name) c.loop-step.lines c.loop-step.packed (g.O.Sink.taken c.args.out.now) (g.O.Sink.taken c.loop-step.out) (sym i.same) (sym i.name) i.packed }

pub returns-in-Err : goal.returns-in-Err
returns-in-Err g c =
    let i = c.loop-step.invariant in
    let e = c.in-Err.ensures in
    let outcome = c.in-Err.outcome in
    record {
      same = e.inputs.same ∙ i.same;
      later = omega (arith, e.inputs.later, i.steady);
      out_later = omega (arith, e.out.later, i.out_steady);
      steady = stopped_steady _ _ outcome e.stops;
      ends_steady = stopped_steady _ _ outcome e.stops;
      asked = asked_so g.I.Inputs (λ asks on. (fed c.take_next.new.lines, on)) (reads_then g.I.Inputs _ _ _ c.args.file.now (string_bytes c.loop-step.lines.name) 0 _ _ _ i.name refl i.asked e.asked);
      out_steady = stopped_steady _ _ outcome e.stops;
      cause = caused_from _ _ _ _ _ _ outcome i.steady i.out_steady e.cause;
      packed = stops_with (g.I.Inputs.told c.args.inputs.now) c.args.file.now c.loop-step.lines c.take_next.new.lines c.loop-step.packed c.take_next.new.packed _ _ _ outcome i.packed
          (file_moved (g.I.Inputs.told c.loop-step.inputs) (g.I.Inputs.told c.args.inputs.now) (string_bytes c.loop-step.lines.name) c.args.file.now (StepSays c.loop-step.lines c.loop-step.packed c.take_next.new.lines c.take_next.new.packed (g.O.Sink.taken c.loop-step.out) (g.O.Sink.taken c.take_next.new.out) (Err outcome)) i.same i.name e.says);
    }

pub returns-in-End : goal.returns-in-End
returns-in-End g c =
    let i = c.loop-step.invariant in
    let e = c.in-Ok-take_next.ensures in
    let outcome = c.finish.result in
    let before = output g.O.Sink c.take_next.new.out in
    let now = output g.O.Sink c.finish.new.out in
    let out_same = e.out.steady ∙ i.out_steady in
    record {
      same = e.inputs.same ∙ i.same;
      later = omega (arith, e.inputs.later, i.steady);
      out_later = omega (arith, c.finish.ensures.later, e.out.later, i.out_steady);
      steady = steady_anyway _ _ outcome (e.inputs.steady ∙ i.steady);
      ends_steady = steady_anyway _ _ outcome (e.inputs.ends_steady ∙ i.ends_steady);
      asked = asked_so g.I.Inputs (λ asks on. (fed c.take_next.new.lines, on)) (reads_then g.I.Inputs _ _ _ c.args.file.now (string_bytes c.loop-step.lines.name) 0 _ _ _ i.name refl i.asked e.asked);
      out_steady = steady_from _ _ _ outcome out_same c.finish.ensures.steady;
      cause = finish_caused c.take_next.new.packed.bytes _ _ _ before now outcome out_same c.finish.ensures.ends;
      packed = ends_done (g.I.Inputs.told c.args.inputs.now) c.args.file.now c.loop-step.lines c.take_next.new.lines c.loop-step.packed c.take_next.new.packed _ _ before now outcome i.packed
          (step_at (g.I.Inputs.told c.args.inputs.now) c.args.file.now c.loop-step.lines c.take_next.new.lines c.loop-step.packed c.take_next.new.packed (g.O.Sink.taken c.loop-step.out) (g.O.Sink.taken c.take_next.new.out) c.in-Ok-take_next.step step.End c.in-End.is
          (file_moved (g.I.Inputs.told c.loop-step.inputs) (g.I.Inputs.told c.args.inputs.now) (string_bytes c.loop-step.lines.name) c.args.file.now (StepSays c.loop-step.lines c.loop-step.packed c.take_next.new.lines c.take_next.new.packed (g.O.Sink.taken c.loop-step.out) (g.O.Sink.taken c.take_next.new.out) (Ok c.in-Ok-take_next.step)) i.same i.name e.says)) c.finish.ensures.ends;
    }

pub loop-step-preserved : goal.loop-step-preserved
loop-step-preserved g c =
    let i = c.loop-step.invariant in
    let e = c.in-Ok-take_next.ensures in
    record {
      same = e.inputs.same ∙ i.same;
      steady = e.inputs.steady ∙ i.steady;
      ends_steady = e.inputs.ends_steady ∙ i.ends_steady;
      out_steady = e.out.steady ∙ i.out_steady;
      asked = reads_then g.I.Inputs _ _ _ c.args.file.now (string_bytes c.loop-step.lines.name) 0 _ _ _ i.name refl i.asked e.asked;
      reader = e.reader;
      name = ap string_bytes e.name ∙ i.name;
      packed = goes_on (g.I.Inputs.told c.args.inputs.now) c.args.file.now c.loop-step.lines c.take_next.new.lines c.loop-step.packed c.take_next.new.packed _ _ _ i.packed
          (step_at (g.I.Inputs.told c.args.inputs.now) c.args.file.now c.loop-step.lines c.take_next.new.lines c.loop-step.packed c.take_next.new.packed (g.O.Sink.taken c.loop-step.out) (g.O.Sink.taken c.take_next.new.out) c.in-Ok-take_next.step step.Line c.in-Line.is
          (file_moved (g.I.Inputs.told c.loop-step.inputs) (g.I.Inputs.told c.args.inputs.now) (string_bytes c.loop-step.lines.name) c.args.file.now (StepSays c.loop-step.lines c.loop-step.packed c.take_next.new.lines c.take_next.new.packed (g.O.Sink.taken c.loop-step.out) (g.O.Sink.taken c.take_next.new.out) (Ok c.in-Ok-take_next.step)) i.same i.name e.says));
    }

pub loop-step-smaller : goal.loop-step-smaller
loop-step-smaller g c =
    let e = c.in-Ok-take_next.ensures in
    omega (arith, line_further c.loop-step.lines c.take_next.new.lines c.in-Ok-take_next.step c.in-Line.is e.further, e.reader.within)
