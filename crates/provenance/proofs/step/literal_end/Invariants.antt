use Rattle.std.proofs.Common.{◌-◌, ◌≡◌, ℕ, ◌+◌, ◌≤◌}
use Rattle.provenance.specs.Cuts.{Rest, join_cut, cuts_between}
use Rattle.provenance.proofs.step.literal_end.Given as goal

-- what was passed joins what stands before it
abbrev pub invariant-loop-at : goal.invariant-loop-at
invariant-loop-at g l = record {
  from : l.start ≤ l.at;
  to : l.at ≤ l.end;
  passed : (at len : ℕ) → join_cut (Rest at len) (cuts_between (g.E.Ends.ends l.ends) l.contents l.start l.end) ≡ join_cut (Rest at (len + (l.at - l.start))) (cuts_between (g.E.Ends.ends l.ends) l.contents l.at l.end);
}

-- proposed from the loop's first test
abbrev pub decreases-loop-at : goal.decreases-loop-at
decreases-loop-at g l = l.end - l.at
