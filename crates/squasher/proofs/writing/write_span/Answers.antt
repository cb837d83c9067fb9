use Rattle.std.specs.Prelude.{ℕ, ◌+◌, List, [], ◌∷◌, take, drop}
use Rattle.std.proofs.Common.{ap₂}
use Rattle.send_model.specs.Command.{Write}
use Rattle.send_model.specs.Spelling.{canonical}
use Rattle.clone_pieces.specs.Sending.{output}
use Rattle.squash_log.specs.Resolved.{span_write}
use Rattle.squasher.specs.declared.writing.WriteStop.TheVariants as why
use Rattle.squasher.proofs.Bodies.{stretch_short, part_writable, part_short, not_write}
use Rattle.squasher.proofs.Going.{handed_on, one_stops, one_goes}
use Rattle.squasher.proofs.writing.write_span.Goals as goal

pub returns-in_default-clause-put : goal.returns-in_default-clause-put
returns-in_default-clause-put g c =
    λ all. not_write c.args.version c.args.written.now.path.now (c.args.written.now.offset + c.args.span.now.at) (take c.args.span.now.len (drop c.args.span.now.at c.args.written.now.bytes.now)) c.in_default.ensures all.0

pub put-requires-clause-writable : goal.put-requires-clause-writable
put-requires-clause-writable g c =
    part_writable c.args.version c.args.written.now.path.now c.args.written.now.offset c.in-Some.offset c.args.written.now.bytes.now c.stretch.result.now c.requires.writable (stretch_short c.args.span.now.at c.args.span.now.len c.args.written.now.bytes.now c.stretch.result.now c.stretch.ensures)

pub put-requires-clause-short : goal.put-requires-clause-short
put-requires-clause-short g c =
    part_short c.args.version c.args.written.now.path.now c.args.written.now.offset c.in-Some.offset c.args.written.now.bytes.now c.stretch.result.now c.requires.can_write (stretch_short c.args.span.now.at c.args.span.now.len c.args.written.now.bytes.now c.stretch.result.now c.stretch.ensures)

pub returns-in_err-put-clause-put : goal.returns-in_err-put-clause-put
returns-in_err-put-clause-put g c =
    let old = output g.O.Sink c.args.out.now c.args.pending.now in
    let new = output g.O.Sink c.put.new.out c.put.new.pending in
    let v = c.args.version in
    let path = c.args.written.now.path.now in
    let command = span_write path c.args.written.now.offset c.args.written.now.bytes.now c.args.span.now in
    handed_on v old new (command ∷ []) c.from_residual.result (why.Send c.in_err-put.field-0.0) c.from_residual.ensures.1
    (one_stops v old new command (canonical v (Write path c.in-Some.offset c.stretch.result.now)) c.in_err-put.field-0.0 (ap₂ (λ (n : ℕ) (bs : List ℕ). canonical v (Write path n bs)) (c.in-Some.ensures).1 c.stretch.ensures) c.in_err-put.ensures.put)

pub returns-clause-put : goal.returns-clause-put
returns-clause-put g c =
    let v = c.args.version in
    let path = c.args.written.now.path.now in
    one_goes v (output g.O.Sink c.args.out.now c.args.pending.now) (output g.O.Sink c.put.new.out c.put.new.pending) (span_write path c.args.written.now.offset c.args.written.now.bytes.now c.args.span.now)
    (canonical v (Write path c.in-Some.offset c.stretch.result.now)) (ap₂ (λ (n : ℕ) (bs : List ℕ). canonical v (Write path n bs)) (c.in-Some.ensures).1 c.stretch.ensures) c.in_ok-put.ensures.put
