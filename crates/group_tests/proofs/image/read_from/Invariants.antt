-- The groups so far were read.
use Rattle.group_log.specs.Journal.{IsReading}
use Rattle.group_tests.proofs.image.read_from.Given as goal

abbrev pub invariant-loop : goal.invariant-loop
invariant-loop g l = IsReading (g.D.Disk.len l.disk) l.log
