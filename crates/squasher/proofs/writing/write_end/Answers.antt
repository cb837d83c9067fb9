use Rattle.std.specs.Prelude.{Err}
use Rattle.clone_pieces.specs.Sending.{output}
use Rattle.squasher.proofs.Bodies.{end_writable, end_short}
use Rattle.squasher.proofs.WrittenStream.{end_stops, end_put}
use Rattle.squasher.proofs.writing.write_end.Goals as goal

pub put-requires-clause-writable : goal.put-requires-clause-writable
put-requires-clause-writable g c = end_writable c.args.version

pub put-requires-clause-short : goal.put-requires-clause-short
put-requires-clause-short g c = end_short c.args.version

pub returns-in-Err-clause-ended : goal.returns-in-Err-clause-ended
returns-in-Err-clause-ended g c =
    end_stops c.args.version (output g.O.Sink c.args.out.now c.args.pending.now) (output g.O.Sink c.put.new.out c.put.new.pending) c.in-Err.stop c.from.result c.from.ensures c.in-Err.ensures.put

pub returns-in-Err-send-clause-ended : goal.returns-in-Err-send-clause-ended
returns-in-Err-send-clause-ended g c =
    (tt, end_put c.args.version (output g.O.Sink c.args.out.now c.args.pending.now) (output g.O.Sink c.put.new.out c.put.new.pending) (output g.O.Sink c.send.new.out c.send.new.pending) (Err c.in-Err-send.field-0) c.in-Ok.ensures.put c.in-Err-send.ensures.sent)
