use Rattle.stream_back.proofs.Parts.{copy_fails, copy_caused}
use Rattle.stream_back.proofs.writing.copy.Goals as goal

pub returns-in-Err-clause-written : goal.returns-in-Err-clause-written
returns-in-Err-clause-written g c tells = copy_fails _ _ _ c.in-Err.why _ c.ended_copied.ensures (c.in-Err.ensures.copied tells)

pub returns-in-Err-clause-cause : goal.returns-in-Err-clause-cause
returns-in-Err-clause-cause g c = copy_caused _ _ c.in-Err.why _ c.ended_copied.ensures c.in-Err.ensures.cause
