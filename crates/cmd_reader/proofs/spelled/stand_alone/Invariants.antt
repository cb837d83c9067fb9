use Rattle.std.proofs.Common.{◌≡◌, ◌≤◌, drop}
use Rattle.cmd_reader.specs.Alone.{stand}
use Rattle.cmd_reader.proofs.spelled.stand_alone.Given as goal

-- The first attributes stand one after the other, and those that are left begin here.
abbrev pub invariant-loop-i : goal.invariant-loop-i
invariant-loop-i l = record {
  within : l.at ≤ l.len;
  left : stand l.table l.len (drop l.i l.wanted) l.at ≡ stand l.fn.table l.fn.len l.fn.wanted 0;
}
