use Rattle.std.proofs.Common.{◌≤◌, ◌-◌, ◌^◌, min, arith, rules}
use Rattle.disk_model.specs.MemDisk.{pending_of, end_of}
use Rattle.disk_model.specs.Stretch.{pending_in}
use Rattle.disk_model.proofs.Times.{ends, clock_ends}
use Rattle.disk_model.proofs.mem_disk.MemDiskDisk.sync.Goals as goal

pub returns-in-Ok-clause-passes : goal.returns-in-Ok-clause-passes
returns-in-Ok-clause-passes c = record {
  clock = clock_ends end_of c.args.self.now.past.items c.settle.new.past.items c.tick.new.self c.args.self.now.current.calls c.settle.new.now.calls c.in-Ok.ensures.past;
  time = λ tells.
      let later : min c.args.self.now.current.calls (2 ^ 64 - 1) ≤ min c.tick.new.self.calls (2 ^ 64 - 1) = omega (arith, c.tick.ensures.calls) in
      ends end_of c.args.self.now.past.items c.settle.new.past.items c.tick.new.self c.args.self.now.current.calls (pending_of c.args.self.now) (pending_in c.settle.new.now) c.in-Ok.ensures.past c.tick.ensures.pending later;
  cause = search rules;
}
