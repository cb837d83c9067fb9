use Rattle.std.proofs.Common.{◌≡◌}
use Rattle.std.specs.Io.KnownBytes.{Appends}
use Rattle.send_model.specs.Generated.{chain_of}
use Rattle.stream_gen.proofs.generating.write_chain.Given as goal

-- So many parts are written, and the count of faults is as it was.
abbrev pub invariant-loop : goal.invariant-loop
invariant-loop g l = record {
  seed : l.chain.seed ≡ l.fn.seed;
  parts : l.chain.parts ≡ l.counter;
  steady : g.O.Sink.faults l.out ≡ g.O.Sink.faults l.fn.out;
  written : Appends (g.O.Sink.taken l.fn.out) (g.O.Sink.taken l.out) (chain_of l.fn.seed l.counter);
}
