use Rattle.std.proofs.Common.{◌≡◌, length}
use Rattle.subvol_catalog.specs.Entries.{occupants}
use Rattle.subvol_catalog.proofs.entries.EntriesIterator.next.Given as goal

-- What is left holds the same entries.
abbrev pub invariant-loop-self : goal.invariant-loop-self
invariant-loop-self g l = record { same : occupants l.self-inside.slots.now ≡ l.fn.self }

abbrev pub decreases-loop-self : goal.decreases-loop-self
decreases-loop-self g l = length l.self-inside.slots.now
