use Rattle.std.proofs.Common.{◌≡◌, ◌≤◌, ◌+◌, ◌++◌, ℕ, List, refl, ap, ◌∙◌, arith}
use Rattle.stream_gen.specs.Parts.{Made, part_bytes}
use Rattle.stream_gen.proofs.ChainParts.{none_written, part_written, all_written, unmade, unwritten}
use Rattle.stream_gen.proofs.generating.write_chain.Goals as goal

pub loop-init : goal.loop-init
loop-init g c = record {
  seed = ap (λ (m : Made). m.seed) c.new-chain.ensures.start;
  parts = ap (λ (m : Made). m.parts) c.new-chain.ensures.start;
  steady = refl;
  written = none_written c.args.seed (g.O.Sink.taken c.args.out.now);
}

pub returns-in_default-clause-written : goal.returns-in_default-clause-written
returns-in_default-clause-written g c =
    let few : c.loop.counter ≤ c.args.count = let less = c.loop-test.true in omega (arith, less) in
    unmade c.args.seed c.loop.counter c.args.count (g.O.Sink.taken c.args.out.now) (g.O.Sink.taken c.loop.out) few c.loop.invariant.written

pub returns-in_default-write_whole-clause-written : goal.returns-in_default-write_whole-clause-written
returns-in_default-write_whole-clause-written g c =
    unwritten c.args.seed c.loop.counter c.args.count (g.O.Sink.taken c.args.out.now) (g.O.Sink.taken c.loop.out) (g.O.Sink.taken c.write_whole.new.sink) c.as_slice.result.now
    c.loop-test.true c.loop.invariant.written
    (c.as_slice.ensures.bytes ∙ c.in-Ok.ensures.appended ∙ ap (λ (l : List ℕ). l ++ part_bytes c.loop.chain.seed (c.loop.chain.parts + 1)) c.clear.ensures.empty
    ∙ ap (λ (s : ℕ). part_bytes s (c.loop.chain.parts + 1)) c.loop.invariant.seed ∙ ap (λ (p : ℕ). part_bytes c.args.seed (p + 1)) c.loop.invariant.parts)
    c.in_default-write_whole.ensures.part

pub loop-preserved : goal.loop-preserved
loop-preserved g c = record {
  seed = ap (λ (m : Made). m.seed) c.in-Ok.ensures.next ∙ c.loop.invariant.seed;
  parts = ap (λ (m : Made). m.parts) c.in-Ok.ensures.next ∙ ap (λ (n : ℕ). n + 1) c.loop.invariant.parts;
  steady = c.in-Ok-write_whole.ensures.steady ∙ c.loop.invariant.steady;
  written = part_written c.args.seed c.loop.counter (g.O.Sink.taken c.args.out.now) (g.O.Sink.taken c.loop.out) (g.O.Sink.taken c.write_whole.new.sink) c.as_slice.result.now
      c.loop.invariant.written
      (c.as_slice.ensures.bytes ∙ c.in-Ok.ensures.appended ∙ ap (λ (l : List ℕ). l ++ part_bytes c.loop.chain.seed (c.loop.chain.parts + 1)) c.clear.ensures.empty
      ∙ ap (λ (s : ℕ). part_bytes s (c.loop.chain.parts + 1)) c.loop.invariant.seed ∙ ap (λ (p : ℕ). part_bytes c.args.seed (p + 1)) c.loop.invariant.parts)
      c.in-Ok-write_whole.ensures.whole;
}

pub returns-clause-written : goal.returns-clause-written
returns-clause-written g c =
    let all : c.loop.counter ≡ c.args.count = let most = c.loop-test.false in let end = c.loop.auto.counter-end in omega (arith, most, end) in
    all_written c.args.seed c.loop.counter c.args.count (g.O.Sink.taken c.args.out.now) (g.O.Sink.taken c.loop.out) all c.loop.invariant.written
