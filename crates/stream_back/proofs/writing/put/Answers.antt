use Rattle.stream_back.proofs.Parts.{put_fails}
use Rattle.stream_back.proofs.writing.put.Goals as goal

pub returns-in-Err-clause-written : goal.returns-in-Err-clause-written
returns-in-Err-clause-written g c = put_fails _ _ _ c.in-Err.ensures.part
