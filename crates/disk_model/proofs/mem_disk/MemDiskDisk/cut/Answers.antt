use Rattle.std.proofs.Common.{rules}
use Rattle.disk_model.specs.MemDisk.{moment_of, past_of, pending_of}
use Rattle.disk_model.specs.Stretch.{pending_in}
use Rattle.disk_model.proofs.Times.{goes_on_shortened}
use Rattle.disk_model.proofs.mem_disk.MemDiskDisk.cut.Goals as goal

pub returns-clause-passes : goal.returns-clause-passes
returns-clause-passes c = record {
  clock = search rules;
  time = λ tells.
      goes_on_shortened (moment_of c.args.self.now) c.args.size (past_of c.args.self.now) (pending_of c.args.self.now) (pending_in c.tick.new.self) (pending_in c.cut.new.self) c.cut.ensures.pending c.tick.ensures.pending;
  cause = search rules;
}
