-- The part stays open.
use Rattle.store_journal.specs.Shown.{IsOpen}
use Rattle.store_tests.proofs.client.receive_one.Given as goal

abbrev pub invariant-loop-edit : goal.invariant-loop-edit
invariant-loop-edit g l = record { still_open : IsOpen (g.D.Disk.len l.disk) l.part l.store }
