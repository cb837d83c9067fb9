use Rattle.sx_base.proofs.Ended.{stopped_steady}
use Rattle.stream_dump.proofs.file_writing.finish.Goals as goal

pub returns-in-Err-clause-steady : goal.returns-in-Err-clause-steady
returns-in-Err-clause-steady g c = stopped_steady _ _ c.in-Err.fault c.in-Err.ensures.stops
