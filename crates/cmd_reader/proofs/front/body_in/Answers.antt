use Rattle.cmd_reader.proofs.CommandFacts.{slice_bytes}
use Rattle.cmd_reader.proofs.front.body_in.Goals as goal

pub returns-clause-bytes : goal.returns-clause-bytes
returns-clause-bytes c = slice_bytes c.args.frame.now c.type_inv.frame
