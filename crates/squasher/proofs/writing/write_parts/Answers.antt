use Rattle.std.specs.Prelude.{◌+◌, Bool, List, [], ◌∷◌, ◌++◌, map, length, if◌then◌else◌}
use Rattle.std.proofs.Common.{sym, subst}
use Rattle.send_model.specs.Command.{Command, Truncate}
use Rattle.clone_pieces.specs.Sending.{output}
use Rattle.squash_log.specs.Resolved.{span_write}
use Rattle.squasher.specs.Writing.{Puts}
use Rattle.squasher.proofs.Going.{handed_on, puts_first, puts_then}
use Rattle.squasher.proofs.writing.write_parts.Goals as goal

pub returns-in_err-write_spans-clause-put : goal.returns-in_err-write_spans-clause-put
returns-in_err-write_spans-clause-put g c =
    let old = output g.O.Sink c.args.out.now c.args.pending.now in
    let new = output g.O.Sink c.write_spans.new.out c.write_spans.new.pending in
    let written = c.args.written.now in
    let spans = map (span_write written.path.now written.offset written.bytes.now) c.args.spans.now in
    let end : List Command = if c.args.lengthens then Truncate (written.offset + length written.bytes.now) written.path.now ∷ [] else [] in
    handed_on c.args.version old new (spans ++ end) c.from_residual.result c.in_err-write_spans.field-0.0 c.from_residual.ensures.1
    (puts_first c.args.version old new spans end c.in_err-write_spans.field-0.0 c.in_err-write_spans.ensures.put)

pub returns-then-lengthens-clause-put : goal.returns-then-lengthens-clause-put
returns-then-lengthens-clause-put g c =
    let old = output g.O.Sink c.args.out.now c.args.pending.now in
    let mid = output g.O.Sink c.write_spans.new.out c.write_spans.new.pending in
    let new = output g.O.Sink c.write_length.new.out c.write_length.new.pending in
    let written = c.args.written.now in
    let spans = map (span_write written.path.now written.offset written.bytes.now) c.args.spans.now in
    let end = Truncate (written.offset + length written.bytes.now) written.path.now ∷ [] in
    subst (λ (b : Bool). Puts c.args.version old new (spans ++ (if b then end else [])) c.write_length.result) (sym c.if-lengthens.true)
    (puts_then c.args.version old mid new spans end c.write_length.result c.in_ok-write_spans.ensures.out.steady c.in_ok-write_spans.ensures.put c.write_length.ensures.put)
