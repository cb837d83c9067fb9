use Rattle.std.specs.Prelude.{ℕ, ◌+◌, [], ◌∷◌, length}
use Rattle.std.proofs.Common.{ap}
use Rattle.send_model.specs.Command.{Truncate}
use Rattle.send_model.specs.Spelling.{canonical}
use Rattle.clone_pieces.specs.Sending.{output}
use Rattle.squasher.specs.declared.writing.WriteStop.TheVariants as why
use Rattle.squasher.proofs.Bodies.{length_writable, length_short, not_truncate}
use Rattle.squasher.proofs.Going.{handed_on, one_stops, one_goes}
use Rattle.squasher.proofs.writing.write_length.Goals as goal

pub returns-in_default-clause-put : goal.returns-in_default-clause-put
returns-in_default-clause-put g c = λ all. not_truncate c.args.version c.args.written.now.path.now (c.args.written.now.offset + length c.args.written.now.bytes.now) c.in_default.ensures all.0

pub put-requires-clause-writable : goal.put-requires-clause-writable
put-requires-clause-writable g c = length_writable c.args.version c.args.written.now.path.now c.args.written.now.offset c.in-Some.size c.args.written.now.bytes.now c.requires.writable

pub put-requires-clause-short : goal.put-requires-clause-short
put-requires-clause-short g c = length_short c.args.version c.args.written.now.path.now c.args.written.now.offset c.in-Some.size c.args.written.now.bytes.now c.requires.writable

pub returns-in_err-put-clause-put : goal.returns-in_err-put-clause-put
returns-in_err-put-clause-put g c =
    let old = output g.O.Sink c.args.out.now c.args.pending.now in
    let new = output g.O.Sink c.put.new.out c.put.new.pending in
    let v = c.args.version in
    let path = c.args.written.now.path.now in
    let end = c.args.written.now.offset + length c.args.written.now.bytes.now in
    handed_on v old new (Truncate end path ∷ []) c.from_residual.result (why.Send c.in_err-put.field-0.0) c.from_residual.ensures.1
    (one_stops v old new (Truncate end path) (canonical v (Truncate c.in-Some.size path)) c.in_err-put.field-0.0 (ap (λ (n : ℕ). canonical v (Truncate n path)) (c.in-Some.ensures).1) c.in_err-put.ensures.put)

pub returns-clause-put : goal.returns-clause-put
returns-clause-put g c =
    let v = c.args.version in
    let path = c.args.written.now.path.now in
    one_goes v (output g.O.Sink c.args.out.now c.args.pending.now) (output g.O.Sink c.put.new.out c.put.new.pending) (Truncate (c.args.written.now.offset + length c.args.written.now.bytes.now) path) (canonical v (Truncate c.in-Some.size path)) (ap (λ (n : ℕ). canonical v (Truncate n path)) (c.in-Some.ensures).1) c.in_ok-put.ensures.put
