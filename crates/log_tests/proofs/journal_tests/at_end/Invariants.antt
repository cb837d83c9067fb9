use Rattle.group_log.specs.Journal.{IsReading}
use Rattle.log_tests.proofs.journal_tests.at_end.Given as goal

abbrev pub invariant-loop-groups : goal.invariant-loop-groups
invariant-loop-groups g l = IsReading (g.D.Disk.len l.disk) l.log
