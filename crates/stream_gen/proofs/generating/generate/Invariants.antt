use Rattle.std.proofs.Common.{◌≡◌, ◌+◌}
use Rattle.stream_gen.proofs.generating.generate.Given as goal

-- All parts before the next one were passed.
abbrev pub invariant-loop : goal.invariant-loop
invariant-loop l = record {
  seed : l.chain.seed ≡ l.fn.seed;
  parts : l.chain.parts + 1 ≡ l.counter;
}
