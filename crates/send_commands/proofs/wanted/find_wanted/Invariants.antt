use Rattle.send_commands.proofs.WantedOnes.{IsLeft, FormsLeft}
use Rattle.send_commands.proofs.wanted.find_wanted.Given as goal

-- The first attributes are there and have their forms, and those that are left decide.
abbrev pub invariant-loop-i : goal.invariant-loop-i
invariant-loop-i l = record {
  left : IsLeft l.table l.wanted l.i;
  forms : FormsLeft l.table l.wanted l.i;
}
