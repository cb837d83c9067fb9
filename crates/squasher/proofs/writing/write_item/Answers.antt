use Rattle.clone_pieces.specs.Sending.{output}
use Rattle.squasher.proofs.Going.{nothing_goes}
use Rattle.squasher.proofs.writing.write_item.Goals as goal

pub returns-in-End-clause-put : goal.returns-in-End-clause-put
returns-in-End-clause-put g c = nothing_goes c.args.item.now.version (output g.O.Sink c.args.out.now c.args.pending.now) c.args.fates.now c.args.item.now.command c.in-End.is
