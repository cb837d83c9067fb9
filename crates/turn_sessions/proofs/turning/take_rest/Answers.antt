use Rattle.std.specs.Prelude.{◌<◌, ◌+◌, ◌++◌, ℕ, suc, List, [], length, take, drop, replicate}
use Rattle.std.proofs.Common.{refl, sym, ap, subst, ◌∙◌, arith}
use Rattle.sx_base.specs.Calls.{IfAllTold}
use Rattle.sx_base.proofs.Asking.{asked_nothing, asked_then, turn_none, turn_then}
use Rattle.store_model.specs.Turns.{Turns, after_turns, to_the_end}
use Rattle.store_model.proofs.TurnOrder.{turns_joined}
use Rattle.turn_sessions.specs.Standing.{Blank, blank_cells}
use Rattle.turn_sessions.specs.Asked.{read_by}
use Rattle.turn_sessions.proofs.Unpacked.{IsGoing, HasEnded}
use Rattle.turn_sessions.proofs.Loops.{ends_next, front_here, ends_all, chain, at_end, always_so}
use Rattle.turn_sessions.proofs.Finishing.{some_at, has_fewer}
use Rattle.turn_sessions.proofs.turning.take_rest.Goals as goal

pub loop-place-init : goal.loop-place-init
unfolding after_turns to_the_end
loop-place-init g c = record {
  idle = c.requires.idle;
  told = refl;
  count = refl;
  reading = λ names are. are;
  taking = c.requires.taking;
  asked = asked_nothing g.I.Inputs c.args.inputs.now (turn_none (read_by c.args.sessions.now));
  going = λ start was begun names at_first w end last same less are. always_so (g.I.Inputs.told c.args.inputs.now) names (λ (files : List (List ℕ)). IsGoing g.D.Disk start c.args.disk.now was c.args.store.now begun (g.O.Sink.taken c.args.out.now) g.G.Guarding.kept files w end last (to_the_end 0 at_first) c.args.turned.now.refused c.args.sessions.now);
  limit = refl;
  later = omega arith;
  in_later = omega arith;
  ends_later = omega arith;
  out_later = omega arith;
  steady = refl;
  in_steady = refl;
  ends_steady = refl;
  out_steady = refl;
}

pub returns-in-Err-clause-asked : goal.returns-in-Err-clause-asked
returns-in-Err-clause-asked g c =
    asked_then g.I.Inputs (λ xs ys one two. turn_then (read_by c.args.sessions.now) (read_by c.loop-place.sessions) (read_by c.finish.new.sessions) xs ys one two)
    c.loop-place.invariant.asked c.in-Err.ensures.asked

pub returns-in-Err-clause-going : goal.returns-in-Err-clause-going
returns-in-Err-clause-going g c start was begun names at_first w end last same less are =
    let i = c.loop-place.invariant in
    let lt : c.loop-place.place < length at_first = omega (arith, same, i.count, c.loop-place-test.true) in
    let f = some_at at_first c.loop-place.place lt in
    chain names (λ (files : List (List ℕ)). IsGoing g.D.Disk start c.args.disk.now was c.args.store.now begun (g.O.Sink.taken c.args.out.now) g.G.Guarding.kept files w end last (to_the_end 0 at_first) c.args.turned.now.refused c.args.sessions.now) (λ (files : List (List ℕ)). HasEnded g.D.Disk start c.finish.new.disk was c.finish.new.store begun (g.O.Sink.taken c.finish.new.out) c.in-Err.why end last) (λ (l : List ℕ) (files : List (List ℕ)). IsGoing g.D.Disk start c.loop-place.disk was c.loop-place.store begun (g.O.Sink.taken c.loop-place.out) g.G.Guarding.kept files (after_turns tt blank_cells w (to_the_end 0 (take c.loop-place.place at_first))) end last l c.loop-place.refused c.loop-place.sessions) (to_the_end c.loop-place.place (drop c.loop-place.place at_first)) (replicate (suc (length f.0.items)) c.loop-place.place ++ (to_the_end (c.loop-place.place + 1) (drop (c.loop-place.place + 1) at_first))) (ends_next at_first c.loop-place.place c.loop-place.place f.0 f.1)
    (g.I.Inputs.told c.args.inputs.now) (g.I.Inputs.told c.loop-place.inputs) i.told (i.going start was begun names at_first w end last same less are)
    (c.in-Err.ensures.going start was begun names (after_turns tt blank_cells w (to_the_end 0 (take c.loop-place.place at_first))) end last (to_the_end (c.loop-place.place + 1) (drop (c.loop-place.place + 1) at_first)) (suc (length f.0.items)) (has_fewer at_first (to_the_end 0 (take c.loop-place.place at_first)) w c.loop-place.place f.0 less f.1) (i.reading names are))

pub loop-place-preserved : goal.loop-place-preserved
loop-place-preserved g c =
    let i = c.loop-place.invariant in
    let e = c.in-Ok.ensures in
    record {
      idle = e.idle;
      told = e.inputs.same ∙ i.told;
      count = e.count ∙ i.count;
      reading = λ names are. e.reading names (i.reading names are);
      taking = e.taking;
      asked = asked_then g.I.Inputs (λ xs ys one two. turn_then (read_by c.args.sessions.now) (read_by c.loop-place.sessions) (read_by c.finish.new.sessions) xs ys one two) i.asked e.asked;
      going = λ start was begun names at_first w end last same less are.
          let lt : c.loop-place.place < length at_first = omega (arith, same, i.count, c.loop-place-test.true) in
          let f = some_at at_first c.loop-place.place lt in
          subst (λ (v : Turns Blank). IfAllTold (g.I.Inputs.told c.args.inputs.now) names (λ files. IsGoing g.D.Disk start c.args.disk.now was c.args.store.now begun (g.O.Sink.taken c.args.out.now) g.G.Guarding.kept files w end last (to_the_end 0 at_first) c.args.turned.now.refused c.args.sessions.now → IsGoing g.D.Disk start c.finish.new.disk was c.finish.new.store begun (g.O.Sink.taken c.finish.new.out) g.G.Guarding.kept files v end last (to_the_end (c.loop-place.place + 1) (drop (c.loop-place.place + 1) at_first)) c.in-Ok.now c.finish.new.sessions))
          (sym (turns_joined tt blank_cells w (to_the_end 0 (take c.loop-place.place at_first)) (replicate (suc (length f.0.items)) c.loop-place.place)) ∙ ap (after_turns tt blank_cells w) (sym (front_here at_first c.loop-place.place f.0 f.1)))
          (chain names (λ (files : List (List ℕ)). IsGoing g.D.Disk start c.args.disk.now was c.args.store.now begun (g.O.Sink.taken c.args.out.now) g.G.Guarding.kept files w end last (to_the_end 0 at_first) c.args.turned.now.refused c.args.sessions.now) (λ (files : List (List ℕ)). IsGoing g.D.Disk start c.finish.new.disk was c.finish.new.store begun (g.O.Sink.taken c.finish.new.out) g.G.Guarding.kept files (after_turns tt blank_cells (after_turns tt blank_cells w (to_the_end 0 (take c.loop-place.place at_first))) (replicate (suc (length f.0.items)) c.loop-place.place)) end last (to_the_end (c.loop-place.place + 1) (drop (c.loop-place.place + 1) at_first)) c.in-Ok.now c.finish.new.sessions) (λ (l : List ℕ) (files : List (List ℕ)). IsGoing g.D.Disk start c.loop-place.disk was c.loop-place.store begun (g.O.Sink.taken c.loop-place.out) g.G.Guarding.kept files (after_turns tt blank_cells w (to_the_end 0 (take c.loop-place.place at_first))) end last l c.loop-place.refused c.loop-place.sessions) (to_the_end c.loop-place.place (drop c.loop-place.place at_first)) (replicate (suc (length f.0.items)) c.loop-place.place ++ (to_the_end (c.loop-place.place + 1) (drop (c.loop-place.place + 1) at_first))) (ends_next at_first c.loop-place.place c.loop-place.place f.0 f.1)
          (g.I.Inputs.told c.args.inputs.now) (g.I.Inputs.told c.loop-place.inputs) i.told (i.going start was begun names at_first w end last same less are)
          (e.going start was begun names (after_turns tt blank_cells w (to_the_end 0 (take c.loop-place.place at_first))) end last (to_the_end (c.loop-place.place + 1) (drop (c.loop-place.place + 1) at_first)) (suc (length f.0.items)) (has_fewer at_first (to_the_end 0 (take c.loop-place.place at_first)) w c.loop-place.place f.0 less f.1) (i.reading names are)));
      limit = e.limit ∙ i.limit;
      later = omega (arith, i.later, e.later);
      in_later = omega (arith, i.in_later, e.inputs.later);
      ends_later = omega (arith, i.ends_later, e.inputs.ends_later);
      out_later = omega (arith, i.out_later, e.out.later);
      steady = e.steady ∙ i.steady;
      in_steady = e.inputs.steady ∙ i.in_steady;
      ends_steady = e.inputs.ends_steady ∙ i.ends_steady;
      out_steady = e.out.steady ∙ i.out_steady;
    }

pub returns-clause-going : goal.returns-clause-going
returns-clause-going g c start was begun names at_first w end last same less are =
    let i = c.loop-place.invariant in
    let all = ends_all at_first 0 c.loop-place.place c.loop-place.place (omega (arith, same, i.count, c.loop-place-test.false)) in
    subst (λ (v : Turns Blank). IfAllTold (g.I.Inputs.told c.args.inputs.now) names (λ files. IsGoing g.D.Disk start c.args.disk.now was c.args.store.now begun (g.O.Sink.taken c.args.out.now) g.G.Guarding.kept files w end last (to_the_end 0 at_first) c.args.turned.now.refused c.args.sessions.now → IsGoing g.D.Disk start c.loop-place.disk was c.loop-place.store begun (g.O.Sink.taken c.loop-place.out) g.G.Guarding.kept files v end last [] c.loop-place.refused c.loop-place.sessions)) (ap (after_turns tt blank_cells w) all.0)
    (at_end names (λ (files : List (List ℕ)). IsGoing g.D.Disk start c.args.disk.now was c.args.store.now begun (g.O.Sink.taken c.args.out.now) g.G.Guarding.kept files w end last (to_the_end 0 at_first) c.args.turned.now.refused c.args.sessions.now) (λ (files : List (List ℕ)). IsGoing g.D.Disk start c.args.disk.now was c.args.store.now begun (g.O.Sink.taken c.args.out.now) g.G.Guarding.kept files w end last (to_the_end 0 at_first) c.args.turned.now.refused c.args.sessions.now) (λ (l : List ℕ) (files : List (List ℕ)). IsGoing g.D.Disk start c.loop-place.disk was c.loop-place.store begun (g.O.Sink.taken c.loop-place.out) g.G.Guarding.kept files (after_turns tt blank_cells w (to_the_end 0 (take c.loop-place.place at_first))) end last l c.loop-place.refused c.loop-place.sessions) (to_the_end c.loop-place.place (drop c.loop-place.place at_first)) [] all.1
    (g.I.Inputs.told c.args.inputs.now) (i.going start was begun names at_first w end last same less are))
