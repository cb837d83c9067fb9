use Rattle.std.specs.Prelude.{map}
use Rattle.std.proofs.Common.{refl, ◌∙◌}
use Rattle.clone_pieces.specs.Sending.{output}
use Rattle.squash_log.specs.Resolved.{span_write}
use Rattle.squasher.proofs.Going.{none_goes, handed_on, spans_more, spans_stop}
use Rattle.squasher.proofs.writing.write_spans.Goals as goal

pub loop-span-init : goal.loop-span-init
loop-span-init g c = record { steady = refl; goes = none_goes c.args.version (output g.O.Sink c.args.out.now c.args.pending.now) }

pub returns-in_err-write_span-clause-put : goal.returns-in_err-write_span-clause-put
returns-in_err-write_span-clause-put g c =
    let old = output g.O.Sink c.args.out.now c.args.pending.now in
    let mid = output g.O.Sink c.loop-span.out c.loop-span.pending in
    let new = output g.O.Sink c.write_span.new.out c.write_span.new.pending in
    let put = span_write c.args.written.now.path.now c.args.written.now.offset c.args.written.now.bytes.now in
    handed_on c.args.version old new (map put c.args.spans.now) c.from_residual.result c.in_err-write_span.field-0.0 c.from_residual.ensures.1
    (spans_stop put c.args.version old mid new c.args.spans.now c.loop-span.span-index _ c.in_err-write_span.field-0.0 c.loop-span-test.true c.loop-span.invariant.steady c.loop-span.invariant.goes c.in_err-write_span.ensures.put)

pub loop-span-preserved : goal.loop-span-preserved
loop-span-preserved g c =
    let old = output g.O.Sink c.args.out.now c.args.pending.now in
    let mid = output g.O.Sink c.loop-span.out c.loop-span.pending in
    let new = output g.O.Sink c.write_span.new.out c.write_span.new.pending in
    record {
      steady = c.in_ok-write_span.ensures.out.steady ∙ c.loop-span.invariant.steady;
      goes = spans_more (span_write c.args.written.now.path.now c.args.written.now.offset c.args.written.now.bytes.now) c.args.version old mid new c.args.spans.now c.loop-span.span-index _ c.loop-span-test.true c.loop-span.invariant.goes c.in_ok-write_span.ensures.put;
    }
