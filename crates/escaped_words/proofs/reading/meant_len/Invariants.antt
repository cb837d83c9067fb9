use Rattle.std.proofs.Common.{length, ◌-◌, ◌≤◌, drop}
use Rattle.escaped_words.proofs.Fronted.{IsCountedTo}
use Rattle.escaped_words.proofs.reading.meant_len.Given as goal

-- So many bytes are read of the form, each of which stands there at least once.
abbrev pub invariant-loop-at : goal.invariant-loop-at
invariant-loop-at l = record {
  few : l.count ≤ l.at;
  within : l.at ≤ length l.form;
  read : IsCountedTo l.form (drop l.at l.form) l.count;
}

abbrev pub decreases-loop-at : goal.decreases-loop-at
decreases-loop-at l = length l.form - l.at
