use Rattle.std.proofs.Common.{◌≤◌}
use Rattle.send_top.proofs.MissingNote.{IsNoted}
use Rattle.send_top.proofs.noting.write_missing.Given as goal

abbrev pub invariant-loop-place : goal.invariant-loop-place
invariant-loop-place g l = record {
  noted : IsNoted l.what l.line l.place (g.N.Sink.taken l.fn.notes) (g.N.Sink.taken l.notes);
  later : g.N.Sink.faults l.fn.notes ≤ g.N.Sink.faults l.notes;
}
