use Rattle.cmd_reader.proofs.Asked.{reads_one}
use Rattle.stream_text.proofs.line_reader.read_piece.Goals as goal

pub returns-in-Ok-clause-asked : goal.returns-in-Ok-clause-asked
returns-in-Ok-clause-asked g c = reads_one g.I.Inputs _ _ _ _ c.in-Ok.count c.in-Ok.ensures.asked

pub returns-in-Err-clause-asked : goal.returns-in-Err-clause-asked
returns-in-Err-clause-asked g c = reads_one g.I.Inputs _ _ _ _ 0 c.in-Err.ensures.asked
