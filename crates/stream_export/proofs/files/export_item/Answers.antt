use Rattle.std.proofs.Common.{refl, ap, ◌∙◌}
use Rattle.std.specs.Prelude.{Err}
use Rattle.sx_base.specs.declared.stop.Stop.{Stop}
use Rattle.cmd_reader.specs.Next.{item_of}
use Rattle.stream_export.specs.Steps.{point_at}
use Rattle.stream_export.proofs.OneItem.{refused_item, taken_item, gathered_item, sent_item}
use Rattle.stream_export.proofs.files.export_item.Goals as goal

pub returns-in-Err-Refused-clause-ends : goal.returns-in-Err-Refused-clause-ends
returns-in-Err-Refused-clause-ends g c =
    refused_item c.args.exporter.now c.take.new.self c.args.gathered.now.begins (item_of c.args.file c.args.item.now) c.args.gathered.now.bytes c.take.new.to c.take.result
    (c.take.ensures.taken c.args.file) c.args.gathered.now.begins (g.O.Sink.taken c.args.out.now)
    (record { file = c.args.file; command = c.args.item.now.number; offset = c.args.item.now.offset; refusal = c.in-Err-Refused.refusal }) c.in-Err-Refused.refusal
    (c.in-Err-Refused.is ∙ ap (λ (s : Stop). Err s) c.in-Err-Refused.field-0-is) refl

pub returns-then-as_slice-ge-PIECE-clause-ends : goal.returns-then-as_slice-ge-PIECE-clause-ends
returns-then-as_slice-ge-PIECE-clause-ends g c =
    sent_item (point_at c.args.exporter.now c.args.gathered.now) c.take.new.self c.args.gathered.now.bytes (item_of c.args.file c.args.item.now)
    (record { bytes = c.take.new.to; begins = c.ends_stream-gathered.result }) c.send.new.gathered (g.O.Sink.taken c.args.out.now) (g.O.Sink.taken c.send.new.out)
    (g.O.Sink.faults c.args.out.now) (g.O.Sink.faults c.send.new.out) c.send.result
    (taken_item c.args.exporter.now c.take.new.self c.args.gathered.now.begins (item_of c.args.file c.args.item.now) c.args.gathered.now.bytes c.take.new.to c.take.result
    (c.take.ensures.taken c.args.file) c.ends_stream-gathered.result c.in-Ok.field-0 c.in-Ok.is c.ends_stream-gathered.ensures c.take.ensures.small)
    c.send.ensures.begins c.send.ensures.sent

pub returns-clause-ends : goal.returns-clause-ends
returns-clause-ends g c =
    gathered_item (point_at c.args.exporter.now c.args.gathered.now) (record { now = c.take.new.self; begins = c.ends_stream-gathered.result }) c.args.gathered.now.bytes c.take.new.to
    (item_of c.args.file c.args.item.now) (g.O.Sink.taken c.args.out.now)
    (taken_item c.args.exporter.now c.take.new.self c.args.gathered.now.begins (item_of c.args.file c.args.item.now) c.args.gathered.now.bytes c.take.new.to c.take.result
    (c.take.ensures.taken c.args.file) c.ends_stream-gathered.result c.in-Ok.field-0 c.in-Ok.is c.ends_stream-gathered.ensures c.take.ensures.small)
