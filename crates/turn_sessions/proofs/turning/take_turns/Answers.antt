use Rattle.std.specs.Prelude.{◌++◌, ℕ, List, [], None}
use Rattle.std.proofs.Common.{refl, sym, ◌∙◌}
use Rattle.sx_base.proofs.Asking.{asked_then, turn_then}
use Rattle.store_model.specs.Turns.{after_turns, to_the_end}
use Rattle.turn_sessions.specs.Standing.{blank_cells}
use Rattle.turn_sessions.specs.Ends.{places_of}
use Rattle.turn_sessions.specs.Asked.{read_by}
use Rattle.turn_sessions.proofs.Unpacked.{IsGoing, GoingSays}
use Rattle.turn_sessions.proofs.Loops.{chain}
use Rattle.turn_sessions.proofs.Finishing.{turns_shorter}
use Rattle.turn_sessions.proofs.turning.take_turns.Goals as goal

pub returns-in-Ok-clause-asked : goal.returns-in-Ok-clause-asked
returns-in-Ok-clause-asked g c =
    asked_then g.I.Inputs (λ xs ys one two. turn_then (read_by c.args.sessions.now) (read_by c.take_scheduled.new.sessions) (read_by c.take_rest.new.sessions) xs ys one two)
    c.in-Ok.ensures.asked c.take_rest.ensures.asked

pub returns-in-Ok-clause-going : goal.returns-in-Ok-clause-going
returns-in-Ok-clause-going g c start was begun names at_first w end last count less are =
    let e = c.in-Ok.ensures in
    chain names (λ (files : List (List ℕ)). IsGoing g.D.Disk start c.args.disk.now was c.args.store.now begun (g.O.Sink.taken c.args.out.now) g.G.Guarding.kept files w end last (places_of c.args.task.now.schedule.now ++ to_the_end 0 at_first) None c.args.sessions.now) (λ (files : List (List ℕ)). GoingSays g.D.Disk start c.take_rest.new.disk was c.take_rest.new.store begun (g.O.Sink.taken c.take_rest.new.out) g.G.Guarding.kept files (after_turns tt blank_cells (after_turns tt blank_cells w (places_of c.args.task.now.schedule.now)) (to_the_end 0 at_first)) end last [] c.take_rest.new.sessions c.take_rest.result) (λ (l : List ℕ) (files : List (List ℕ)). IsGoing g.D.Disk start c.take_scheduled.new.disk was c.take_scheduled.new.store begun (g.O.Sink.taken c.take_scheduled.new.out) g.G.Guarding.kept files (after_turns tt blank_cells w (places_of c.args.task.now.schedule.now)) end last l c.in-Ok.refused c.take_scheduled.new.sessions) (to_the_end 0 at_first) (to_the_end 0 at_first) refl
    (g.I.Inputs.told c.args.inputs.now) (g.I.Inputs.told c.take_scheduled.new.inputs) e.inputs.same (e.going start was begun names w end last (to_the_end 0 at_first) are)
    (c.take_rest.ensures.going start was begun names at_first (after_turns tt blank_cells w (places_of c.args.task.now.schedule.now)) end last (count ∙ sym e.count) (turns_shorter at_first (places_of c.args.task.now.schedule.now) w less) (e.reading names are))

pub returns-in-Err-clause-going : goal.returns-in-Err-clause-going
returns-in-Err-clause-going g c start was begun names at_first w end last count less are = c.in-Err.ensures.going start was begun names w end last (to_the_end 0 at_first) are
