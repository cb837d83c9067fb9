use Rattle.std.specs.Prelude.{map}
use Rattle.std.specs.String.{string_bytes}
use Rattle.sx_base.proofs.Asking.{asked_nothing}
use Rattle.clone_pieces.specs.Sending.{output}
use Rattle.clone_pieces.proofs.Redirects.{run_put}
use Rattle.clone_pieces.proofs.redirecting.write_piece.Goals as goal

pub returns-in-Carry-clause-written : goal.returns-in-Carry-clause-written
returns-in-Carry-clause-written g c tells =
    let piece = c.args.piece.now in
    run_put (g.I.Inputs.told c.args.inputs.now) (map string_bytes c.args.sources.now.files.now) (g.E.Known.base c.args.sources.now.known.now) (g.B.OutsideBytes.held c.args.bytes.now) piece.contents.now piece.to.version piece.to.path.now piece.to.offset piece.plan
    c.in-Carry.key c.in-Carry.ino c.in-Carry.from c.in-Carry.len (output g.O.Sink c.args.out.now c.args.pending.now) (output g.O.Sink c.clone_run.new.out c.clone_run.new.pending) c.clone_run.result
    c.in-Carry.is c.clone_run.ensures.put

pub returns-in-Carry-clause-asked : goal.returns-in-Carry-clause-asked
returns-in-Carry-clause-asked g c = asked_nothing g.I.Inputs c.args.inputs.now tt
