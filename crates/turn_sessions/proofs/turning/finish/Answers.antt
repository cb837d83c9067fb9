use Rattle.std.specs.Prelude.{◌++◌, ℕ, List, replicate, slice_index_or}
use Rattle.std.proofs.Common.{refl, ◌∙◌, arith}
use Rattle.sx_base.proofs.Asking.{asked_nothing, asked_then, turn_none, turn_then}
use Rattle.store_model.specs.Turns.{Turns}
use Rattle.turn_sessions.specs.Standing.{Blank}
use Rattle.turn_sessions.specs.Asked.{read_by}
use Rattle.turn_sessions.proofs.Unpacked.{IsGoing, HasEnded}
use Rattle.turn_sessions.proofs.Turnings.{there}
use Rattle.turn_sessions.proofs.Finishing.{less_at, begins_further, goes_further, stops_there, finished}
use Rattle.turn_sessions.proofs.turning.finish.Goals as goal

pub loop-sessions-init : goal.loop-sessions-init
loop-sessions-init g c = record {
  idle = c.requires.idle;
  told = refl;
  count = refl;
  reading = λ names are. are;
  taking = c.requires.taking;
  asked = asked_nothing g.I.Inputs c.args.inputs.now (turn_none (read_by c.args.sessions.now));
  going = λ start was begun names w end last rest turns fewer are. begins_further (g.I.Inputs.told c.args.inputs.now) names c.args.turn.now.place w turns (λ (files : List (List ℕ)) (v : Turns Blank) (k : ℕ). IsGoing g.D.Disk start c.args.disk.now was c.args.store.now begun (g.O.Sink.taken c.args.out.now) g.G.Guarding.kept files v end last (replicate k c.args.turn.now.place ++ rest) c.args.turn.now.refused c.args.sessions.now) fewer;
  limit = refl;
  later = omega arith;
  in_later = omega arith;
  ends_later = omega arith;
  out_later = omega arith;
  steady = refl;
  in_steady = refl;
  ends_steady = refl;
  out_steady = refl;
}

pub loop-sessions-smaller : goal.loop-sessions-smaller
loop-sessions-smaller g c = less_at c.loop-sessions.sessions c.turn_at.new.sessions c.args.turn.now.place (slice_index_or c.loop-sessions.sessions c.args.turn.now.place c.index-sessions-place.result) (there c.loop-sessions.sessions c.args.turn.now.place c.index-sessions-place.result (omega (arith, c.loop-sessions.invariant.count, c.requires.within))) c.loop-sessions-test.true c.in-Ok.ensures.fewer

pub returns-in-Err-clause-asked : goal.returns-in-Err-clause-asked
returns-in-Err-clause-asked g c =
    asked_then g.I.Inputs (λ xs ys one two. turn_then (read_by c.args.sessions.now) (read_by c.loop-sessions.sessions) (read_by c.turn_at.new.sessions) xs ys one two)
    c.loop-sessions.invariant.asked c.in-Err.ensures.asked

pub returns-in-Err-clause-going : goal.returns-in-Err-clause-going
returns-in-Err-clause-going g c start was begun names w end last rest turns fewer are =
    let i = c.loop-sessions.invariant in
    stops_there g.D.Disk start was begun g.G.Guarding.kept end last c.loop-sessions.disk c.loop-sessions.store (g.O.Sink.taken c.loop-sessions.out) c.loop-sessions.refused c.loop-sessions.sessions c.args.turn.now.place (slice_index_or c.loop-sessions.sessions c.args.turn.now.place c.index-sessions-place.result) (there c.loop-sessions.sessions c.args.turn.now.place c.index-sessions-place.result (omega (arith, c.loop-sessions.invariant.count, c.requires.within))) rest names (λ (files : List (List ℕ)). IsGoing g.D.Disk start c.args.disk.now was c.args.store.now begun (g.O.Sink.taken c.args.out.now) g.G.Guarding.kept files w end last (replicate turns c.args.turn.now.place ++ rest) c.args.turn.now.refused c.args.sessions.now) w turns (g.I.Inputs.told c.args.inputs.now) (g.I.Inputs.told c.loop-sessions.inputs) i.told c.loop-sessions-test.true (λ (files : List (List ℕ)). HasEnded g.D.Disk start c.turn_at.new.disk was c.turn_at.new.store begun (g.O.Sink.taken c.turn_at.new.out) c.in-Err.why end last) (i.going start was begun names w end last rest turns fewer are)
    (λ v k. c.in-Err.ensures.going start was begun names v end last (replicate k c.args.turn.now.place ++ rest) (i.reading names are))

pub loop-sessions-preserved : goal.loop-sessions-preserved
loop-sessions-preserved g c =
    let i = c.loop-sessions.invariant in
    let e = c.in-Ok.ensures in
    record {
      idle = e.idle;
      told = e.inputs.same ∙ i.told;
      count = e.count ∙ i.count;
      reading = λ names are. e.reading names (i.reading names are);
      taking = e.taking;
      asked = asked_then g.I.Inputs (λ xs ys one two. turn_then (read_by c.args.sessions.now) (read_by c.loop-sessions.sessions) (read_by c.turn_at.new.sessions) xs ys one two) i.asked e.asked;
      going = λ start was begun names w end last rest turns fewer are.
          goes_further g.D.Disk start was begun g.G.Guarding.kept end last c.loop-sessions.disk c.loop-sessions.store (g.O.Sink.taken c.loop-sessions.out) c.loop-sessions.refused c.loop-sessions.sessions c.args.turn.now.place (slice_index_or c.loop-sessions.sessions c.args.turn.now.place c.index-sessions-place.result) (there c.loop-sessions.sessions c.args.turn.now.place c.index-sessions-place.result (omega (arith, c.loop-sessions.invariant.count, c.requires.within))) rest names (λ (files : List (List ℕ)). IsGoing g.D.Disk start c.args.disk.now was c.args.store.now begun (g.O.Sink.taken c.args.out.now) g.G.Guarding.kept files w end last (replicate turns c.args.turn.now.place ++ rest) c.args.turn.now.refused c.args.sessions.now) w turns (g.I.Inputs.told c.args.inputs.now) (g.I.Inputs.told c.loop-sessions.inputs) i.told c.loop-sessions-test.true (λ (files : List (List ℕ)) (v : Turns Blank) (k : ℕ). IsGoing g.D.Disk start c.turn_at.new.disk was c.turn_at.new.store begun (g.O.Sink.taken c.turn_at.new.out) g.G.Guarding.kept files v end last (replicate k c.args.turn.now.place ++ rest) c.in-Ok.now c.turn_at.new.sessions) (i.going start was begun names w end last rest turns fewer are)
          (λ v k. e.going start was begun names v end last (replicate k c.args.turn.now.place ++ rest) (i.reading names are));
      limit = e.limit ∙ i.limit;
      later = omega (arith, i.later, e.later);
      in_later = omega (arith, i.in_later, e.inputs.later);
      ends_later = omega (arith, i.ends_later, e.inputs.ends_later);
      out_later = omega (arith, i.out_later, e.out.later);
      steady = e.steady ∙ i.steady;
      in_steady = e.inputs.steady ∙ i.in_steady;
      ends_steady = e.inputs.ends_steady ∙ i.ends_steady;
      out_steady = e.out.steady ∙ i.out_steady;
    }

pub returns-clause-going : goal.returns-clause-going
returns-clause-going g c start was begun names w end last rest turns fewer are =
    finished g.D.Disk start was begun g.G.Guarding.kept end last c.loop-sessions.disk c.loop-sessions.store (g.O.Sink.taken c.loop-sessions.out) c.loop-sessions.refused c.loop-sessions.sessions c.args.turn.now.place (slice_index_or c.loop-sessions.sessions c.args.turn.now.place c.index-sessions-place.result) (there c.loop-sessions.sessions c.args.turn.now.place c.index-sessions-place.result (omega (arith, c.loop-sessions.invariant.count, c.requires.within))) rest names (λ (files : List (List ℕ)). IsGoing g.D.Disk start c.args.disk.now was c.args.store.now begun (g.O.Sink.taken c.args.out.now) g.G.Guarding.kept files w end last (replicate turns c.args.turn.now.place ++ rest) c.args.turn.now.refused c.args.sessions.now) w turns (g.I.Inputs.told c.args.inputs.now) c.loop-sessions-test.false (c.loop-sessions.invariant.going start was begun names w end last rest turns fewer are)
