use Rattle.std.specs.Prelude.{◌+◌, ◌-◌, ◌++◌, ◌∷◌, ℕ, List, None, take, drop, get_or}
use Rattle.std.proofs.Common.{refl, sym, ap, subst, ◌∙◌, arith}
use Rattle.sx_base.specs.Calls.{IfAllTold}
use Rattle.sx_base.proofs.Asking.{asked_nothing, asked_then, turn_none, turn_then}
use Rattle.store_model.specs.Turns.{Turns, one_turn, after_turns}
use Rattle.turn_sessions.specs.Standing.{Blank, blank_cells}
use Rattle.turn_sessions.specs.Ends.{places_of}
use Rattle.turn_sessions.specs.Asked.{read_by}
use Rattle.turn_sessions.proofs.Unpacked.{IsGoing, HasEnded}
use Rattle.turn_sessions.proofs.Loops.{next_place, places_end, places_all, turns_next, chain, at_end, always_so}
use Rattle.turn_sessions.proofs.turning.take_scheduled.Goals as goal

pub loop-i-init : goal.loop-i-init
unfolding after_turns
loop-i-init g c = record {
  idle = c.requires.idle;
  told = refl;
  count = refl;
  reading = λ names are. are;
  taking = c.requires.taking;
  asked = asked_nothing g.I.Inputs c.args.inputs.now (turn_none (read_by c.args.sessions.now));
  going = λ start was begun names w end last rest are. always_so (g.I.Inputs.told c.args.inputs.now) names (λ (files : List (List ℕ)). IsGoing g.D.Disk start c.args.disk.now was c.args.store.now begun (g.O.Sink.taken c.args.out.now) g.G.Guarding.kept files w end last (places_of c.args.task.now.schedule.now ++ rest) None c.args.sessions.now);
  limit = refl;
  later = omega arith;
  in_later = omega arith;
  ends_later = omega arith;
  out_later = omega arith;
  steady = refl;
  in_steady = refl;
  ends_steady = refl;
  out_steady = refl;
}

pub returns-in-Err-clause-asked : goal.returns-in-Err-clause-asked
returns-in-Err-clause-asked g c =
    asked_then g.I.Inputs (λ xs ys one two. turn_then (read_by c.args.sessions.now) (read_by c.loop-i.sessions) (read_by c.turn_at.new.sessions) xs ys one two)
    c.loop-i.invariant.asked c.in-Err.ensures.asked

pub returns-in-Err-clause-going : goal.returns-in-Err-clause-going
returns-in-Err-clause-going g c start was begun names w end last rest are =
    let i = c.loop-i.invariant in
    chain names (λ (files : List (List ℕ)). IsGoing g.D.Disk start c.args.disk.now was c.args.store.now begun (g.O.Sink.taken c.args.out.now) g.G.Guarding.kept files w end last (places_of c.args.task.now.schedule.now ++ rest) None c.args.sessions.now) (λ (files : List (List ℕ)). HasEnded g.D.Disk start c.turn_at.new.disk was c.turn_at.new.store begun (g.O.Sink.taken c.turn_at.new.out) c.in-Err.why end last) (λ (l : List ℕ) (files : List (List ℕ)). IsGoing g.D.Disk start c.loop-i.disk was c.loop-i.store begun (g.O.Sink.taken c.loop-i.out) g.G.Guarding.kept files (after_turns tt blank_cells w (take c.loop-i.i (places_of c.args.task.now.schedule.now))) end last l c.loop-i.refused c.loop-i.sessions) (drop c.loop-i.i (places_of c.args.task.now.schedule.now) ++ rest) ((get_or c.args.task.now.schedule.now c.loop-i.i 0 - 48) ∷ (drop (c.loop-i.i + 1) (places_of c.args.task.now.schedule.now) ++ rest)) (ap (λ (k : List ℕ). k ++ rest) (next_place c.args.task.now.schedule.now c.loop-i.i 0 c.loop-i-test.true))
    (g.I.Inputs.told c.args.inputs.now) (g.I.Inputs.told c.loop-i.inputs) i.told (i.going start was begun names w end last rest are)
    (c.in-Err.ensures.going start was begun names (after_turns tt blank_cells w (take c.loop-i.i (places_of c.args.task.now.schedule.now))) end last (drop (c.loop-i.i + 1) (places_of c.args.task.now.schedule.now) ++ rest) (i.reading names are))

pub loop-i-preserved : goal.loop-i-preserved
loop-i-preserved g c =
    let i = c.loop-i.invariant in
    let e = c.in-Ok.ensures in
    record {
      idle = e.idle;
      told = e.inputs.same ∙ i.told;
      count = e.count ∙ i.count;
      reading = λ names are. e.reading names (i.reading names are);
      taking = e.taking;
      asked = asked_then g.I.Inputs (λ xs ys one two. turn_then (read_by c.args.sessions.now) (read_by c.loop-i.sessions) (read_by c.turn_at.new.sessions) xs ys one two) i.asked e.asked;
      going = λ start was begun names w end last rest are.
          subst (λ (v : Turns Blank). IfAllTold (g.I.Inputs.told c.args.inputs.now) names (λ files. IsGoing g.D.Disk start c.args.disk.now was c.args.store.now begun (g.O.Sink.taken c.args.out.now) g.G.Guarding.kept files w end last (places_of c.args.task.now.schedule.now ++ rest) None c.args.sessions.now → IsGoing g.D.Disk start c.turn_at.new.disk was c.turn_at.new.store begun (g.O.Sink.taken c.turn_at.new.out) g.G.Guarding.kept files v end last (drop (c.loop-i.i + 1) (places_of c.args.task.now.schedule.now) ++ rest) c.in-Ok.now c.turn_at.new.sessions)) (sym (turns_next w c.args.task.now.schedule.now c.loop-i.i 0 c.loop-i-test.true))
          (chain names (λ (files : List (List ℕ)). IsGoing g.D.Disk start c.args.disk.now was c.args.store.now begun (g.O.Sink.taken c.args.out.now) g.G.Guarding.kept files w end last (places_of c.args.task.now.schedule.now ++ rest) None c.args.sessions.now) (λ (files : List (List ℕ)). IsGoing g.D.Disk start c.turn_at.new.disk was c.turn_at.new.store begun (g.O.Sink.taken c.turn_at.new.out) g.G.Guarding.kept files (one_turn tt blank_cells (after_turns tt blank_cells w (take c.loop-i.i (places_of c.args.task.now.schedule.now))) (get_or c.args.task.now.schedule.now c.loop-i.i 0 - 48)) end last (drop (c.loop-i.i + 1) (places_of c.args.task.now.schedule.now) ++ rest) c.in-Ok.now c.turn_at.new.sessions) (λ (l : List ℕ) (files : List (List ℕ)). IsGoing g.D.Disk start c.loop-i.disk was c.loop-i.store begun (g.O.Sink.taken c.loop-i.out) g.G.Guarding.kept files (after_turns tt blank_cells w (take c.loop-i.i (places_of c.args.task.now.schedule.now))) end last l c.loop-i.refused c.loop-i.sessions) (drop c.loop-i.i (places_of c.args.task.now.schedule.now) ++ rest) ((get_or c.args.task.now.schedule.now c.loop-i.i 0 - 48) ∷ (drop (c.loop-i.i + 1) (places_of c.args.task.now.schedule.now) ++ rest)) (ap (λ (k : List ℕ). k ++ rest) (next_place c.args.task.now.schedule.now c.loop-i.i 0 c.loop-i-test.true))
          (g.I.Inputs.told c.args.inputs.now) (g.I.Inputs.told c.loop-i.inputs) i.told (i.going start was begun names w end last rest are)
          (e.going start was begun names (after_turns tt blank_cells w (take c.loop-i.i (places_of c.args.task.now.schedule.now))) end last (drop (c.loop-i.i + 1) (places_of c.args.task.now.schedule.now) ++ rest) (i.reading names are)));
      limit = e.limit ∙ i.limit;
      later = omega (arith, i.later, e.later);
      in_later = omega (arith, i.in_later, e.inputs.later);
      ends_later = omega (arith, i.ends_later, e.inputs.ends_later);
      out_later = omega (arith, i.out_later, e.out.later);
      steady = e.steady ∙ i.steady;
      in_steady = e.inputs.steady ∙ i.in_steady;
      ends_steady = e.inputs.ends_steady ∙ i.ends_steady;
      out_steady = e.out.steady ∙ i.out_steady;
    }

pub returns-clause-going : goal.returns-clause-going
returns-clause-going g c start was begun names w end last rest are =
    let i = c.loop-i.invariant in
    subst (λ (v : Turns Blank). IfAllTold (g.I.Inputs.told c.args.inputs.now) names (λ files. IsGoing g.D.Disk start c.args.disk.now was c.args.store.now begun (g.O.Sink.taken c.args.out.now) g.G.Guarding.kept files w end last (places_of c.args.task.now.schedule.now ++ rest) None c.args.sessions.now → IsGoing g.D.Disk start c.loop-i.disk was c.loop-i.store begun (g.O.Sink.taken c.loop-i.out) g.G.Guarding.kept files v end last rest c.loop-i.refused c.loop-i.sessions)) (ap (after_turns tt blank_cells w) (places_all c.args.task.now.schedule.now c.loop-i.i (omega (arith, c.loop-i-test.false))))
    (at_end names (λ (files : List (List ℕ)). IsGoing g.D.Disk start c.args.disk.now was c.args.store.now begun (g.O.Sink.taken c.args.out.now) g.G.Guarding.kept files w end last (places_of c.args.task.now.schedule.now ++ rest) None c.args.sessions.now) (λ (files : List (List ℕ)). IsGoing g.D.Disk start c.args.disk.now was c.args.store.now begun (g.O.Sink.taken c.args.out.now) g.G.Guarding.kept files w end last (places_of c.args.task.now.schedule.now ++ rest) None c.args.sessions.now) (λ (l : List ℕ) (files : List (List ℕ)). IsGoing g.D.Disk start c.loop-i.disk was c.loop-i.store begun (g.O.Sink.taken c.loop-i.out) g.G.Guarding.kept files (after_turns tt blank_cells w (take c.loop-i.i (places_of c.args.task.now.schedule.now))) end last l c.loop-i.refused c.loop-i.sessions) (drop c.loop-i.i (places_of c.args.task.now.schedule.now) ++ rest) rest (ap (λ (k : List ℕ). k ++ rest) (places_end c.args.task.now.schedule.now c.loop-i.i (omega (arith, c.loop-i-test.false))))
    (g.I.Inputs.told c.args.inputs.now) (i.going start was begun names w end last rest are))
