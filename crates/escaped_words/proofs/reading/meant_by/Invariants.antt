use Rattle.std.proofs.Common.{length, ◌-◌, ◌≤◌, drop}
use Rattle.escaped_words.proofs.Fronted.{IsReadTo}
use Rattle.escaped_words.proofs.reading.meant_by.Given as goal

-- The bytes so far are read of the form.
abbrev pub invariant-loop-at : goal.invariant-loop-at
invariant-loop-at l = record {
  within : l.at ≤ length l.form;
  read : IsReadTo l.form l.bytes (drop l.at l.form);
}

abbrev pub decreases-loop-at : goal.decreases-loop-at
decreases-loop-at l = length l.form - l.at
