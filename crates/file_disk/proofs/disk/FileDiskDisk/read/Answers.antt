use Rattle.file_disk.proofs.Counts.{failed_passes}
use Rattle.file_disk.proofs.disk.FileDiskDisk.read.Goals as goal

pub returns-in_default-clause-passes : goal.returns-in_default-clause-passes
returns-in_default-clause-passes g c = failed_passes _ c.send.new.self _ _ c.in_default.ensures.same c.break_down.ensures.counted
