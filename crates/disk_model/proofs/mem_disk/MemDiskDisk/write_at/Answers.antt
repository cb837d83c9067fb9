use Rattle.std.proofs.Common.{length, rules}
use Rattle.disk_model.specs.MemDisk.{moment_of, past_of, pending_of}
use Rattle.disk_model.specs.Stretch.{pending_in}
use Rattle.disk_model.proofs.Times.{goes_on_written}
use Rattle.disk_model.proofs.mem_disk.MemDiskDisk.write_at.Goals as goal

pub returns-in-Ok-clause-passes : goal.returns-in-Ok-clause-passes
returns-in-Ok-clause-passes c = record {
  clock = search rules;
  time = λ tells.
      goes_on_written (moment_of c.args.self.now) c.args.at (length c.args.piece.now) (past_of c.args.self.now) (pending_of c.args.self.now) (pending_in c.tick.new.self) (pending_in c.write.new.self) c.write.ensures.pending c.tick.ensures.pending;
  cause = search rules;
}

pub returns-in-Err-clause-passes : goal.returns-in-Err-clause-passes
returns-in-Err-clause-passes c = record {
  clock = search rules;
  time = λ tells.
      goes_on_written (moment_of c.args.self.now) c.args.at (length c.args.piece.now) (past_of c.args.self.now) (pending_of c.args.self.now) (pending_in c.tick.new.self) (pending_in c.write.new.self) c.write.ensures.pending c.tick.ensures.pending;
  cause = search rules;
}
