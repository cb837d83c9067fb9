use Rattle.std.proofs.Common.{rules}
use Rattle.disk_model.proofs.Stopped.{stopped_cause}
use Rattle.disk_model.proofs.fuse_disk.FuseDiskDisk.read.Goals as goal

pub returns-clause-passes : goal.returns-clause-passes
returns-clause-passes g c = record {
  clock = search rules;
  time = λ tells. search rules;
  cause = stopped_cause g.D.Disk.faults _ _ (record { disk = c.size.new.self; left = c.passes-passes.new.left; stopped = c.passes-passes.new.stopped }) c.passes-passes.result _ c.self.view_is c.if-passes.false c.passes-passes.ensures.grows c.passes-passes.ensures.stopped c.size.ensures.passes.cause.later;
}
