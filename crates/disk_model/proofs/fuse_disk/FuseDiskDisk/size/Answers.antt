use Rattle.std.proofs.Common.{rules}
use Rattle.disk_model.proofs.Stopped.{stopped_cause}
use Rattle.disk_model.proofs.fuse_disk.FuseDiskDisk.size.Goals as goal

pub returns-then-not-passes-clause-passes : goal.returns-then-not-passes-clause-passes
returns-then-not-passes-clause-passes g c = record {
  clock = search rules;
  time = λ tells. search rules;
  cause = stopped_cause g.D.Disk.faults _ _ (record { disk = c.size-outcome.new.self; left = c.passes-passes.new.left; stopped = c.passes-passes.new.stopped }) c.passes-passes.result _ c.self.view_is c.if-not-passes.true c.passes-passes.ensures.grows c.passes-passes.ensures.stopped c.size-outcome.ensures.passes.cause.later;
}
