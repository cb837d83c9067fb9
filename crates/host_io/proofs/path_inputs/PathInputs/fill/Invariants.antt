use Rattle.std.proofs.Common.{length, ◌-◌, ◌≡◌, ◌≤◌}
use Rattle.host_io.proofs.path_inputs.PathInputs.fill.Given as goal

-- The place lies in the buffer, no count has changed, and no more files stay open than may.
abbrev pub invariant-loop-done : goal.invariant-loop-done
invariant-loop-done g l = record {
  within : l.done ≤ length l.buf;
  faults : l.self.faults ≡ l.fn.self.faults;
  ends : l.self.ends ≡ l.fn.self.ends;
  few : length l.fn.self.open.items ≤ 16 → length l.self.open.items ≤ 16;
}

abbrev pub decreases-loop-done : goal.decreases-loop-done
decreases-loop-done g l = length l.initial.buf - l.done
