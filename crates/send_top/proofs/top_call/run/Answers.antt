use Rattle.std.specs.Prelude.{List, map}
use Rattle.std.specs.String.{string_bytes}
use Rattle.std.proofs.Common.{subst, rules}
use Rattle.send_model.specs.Guards.{Guard}
use Rattle.program_model.specs.Answers.{Answer}
use Rattle.request_answers.specs.Answered.{answer_of}
use Rattle.send_top.specs.Clauses.{Run, run_of, Answers, IsAcknowledged, IsCaused, IsCrashSafe, IsExported, IsMerged, IsSent, MeansNothing, Touches}
use Rattle.send_top.proofs.Clauses.{Before, means_nothing, touches, is_caused, is_answered, is_merged, is_exported, is_sent, is_crash_safe, is_acknowledged}
use Rattle.send_top.proofs.top_call.run.Given.{Over}
use Rattle.send_top.proofs.top_call.run.Goals.{After-status}
use Rattle.send_top.proofs.top_call.run.Goals as goal

-- The run under some guards.
abbrev the_run : (g : Over) (c : After-status g) → List Guard → Run
the_run g c guards = run_of (map string_bytes c.args.words.now) guards c.status.result g.I.Inputs c.args.inputs.now c.answer_to-answer.new.inputs
    g.O.Sink c.args.out.now c.answer_to-answer.new.out g.N.Sink c.args.notes.now c.write_note.new.notes g.D.Disk c.args.disk.now c.answer_to-answer.new.disk

abbrev asked : (g : Over) (c : After-status g) → List Guard
asked g c = map (λ b. (goal.Guard-dyn g (b.vtable, b.value)).kept b.value) c.deref_mut.result.now

abbrev given : (g : Over) (c : After-status g) → Answer
given g c = answer_of c.answer_to-answer.result

before : (g : Over) (c : After-status g) → Before (the_run g c (asked g c)) (given g c)
before g c = record {
  status = c.status.ensures;
  answered = c.answer_to-answer.ensures;
  note = search rules;
  quiet = c.write_note.ensures.quiet;
}

pub returns-clause-usage : goal.returns-clause-usage
returns-clause-usage g c =
    let s : After-status g = (goal.at.returns-clause-usage g c).After-status in
    subst (λ gs. MeansNothing (the_run g s (map (λ b. (goal.Guard-dyn g (b.vtable, b.value)).kept b.value) gs))) c.deref_mut.ensures.value
    (means_nothing (the_run g s (asked g s)) (given g s) (before g s))

pub returns-clause-touches : goal.returns-clause-touches
returns-clause-touches g c =
    let s : After-status g = (goal.at.returns-clause-touches g c).After-status in
    subst (λ gs. Touches (the_run g s (map (λ b. (goal.Guard-dyn g (b.vtable, b.value)).kept b.value) gs))) c.deref_mut.ensures.value
    (touches (the_run g s (asked g s)) (given g s) (before g s))

pub returns-clause-caused : goal.returns-clause-caused
returns-clause-caused g c =
    let s : After-status g = (goal.at.returns-clause-caused g c).After-status in
    subst (λ gs. IsCaused (the_run g s (map (λ b. (goal.Guard-dyn g (b.vtable, b.value)).kept b.value) gs))) c.deref_mut.ensures.value
    (is_caused (the_run g s (asked g s)) (given g s) (before g s))

pub returns-clause-answered : goal.returns-clause-answered
returns-clause-answered g c =
    let s : After-status g = (goal.at.returns-clause-answered g c).After-status in
    subst (λ gs. Answers (the_run g s (map (λ b. (goal.Guard-dyn g (b.vtable, b.value)).kept b.value) gs))) c.deref_mut.ensures.value
    (is_answered (the_run g s (asked g s)) (given g s) (before g s))

pub returns-clause-composed : goal.returns-clause-composed
returns-clause-composed g c =
    let s : After-status g = (goal.at.returns-clause-composed g c).After-status in
    subst (λ gs. IsMerged (the_run g s (map (λ b. (goal.Guard-dyn g (b.vtable, b.value)).kept b.value) gs))) c.deref_mut.ensures.value
    (is_merged (the_run g s (asked g s)) (given g s) (before g s))

pub returns-clause-exported : goal.returns-clause-exported
returns-clause-exported g c =
    let s : After-status g = (goal.at.returns-clause-exported g c).After-status in
    subst (λ gs. IsExported (the_run g s (map (λ b. (goal.Guard-dyn g (b.vtable, b.value)).kept b.value) gs))) c.deref_mut.ensures.value
    (is_exported (the_run g s (asked g s)) (given g s) (before g s))

pub returns-clause-sent : goal.returns-clause-sent
returns-clause-sent g c =
    let s : After-status g = (goal.at.returns-clause-sent g c).After-status in
    subst (λ gs. IsSent (the_run g s (map (λ b. (goal.Guard-dyn g (b.vtable, b.value)).kept b.value) gs))) c.deref_mut.ensures.value
    (is_sent (the_run g s (asked g s)) (given g s) (before g s))

pub returns-clause-crash_safe : goal.returns-clause-crash_safe
returns-clause-crash_safe g c =
    let s : After-status g = (goal.at.returns-clause-crash_safe g c).After-status in
    subst (λ gs. IsCrashSafe (the_run g s (map (λ b. (goal.Guard-dyn g (b.vtable, b.value)).kept b.value) gs))) c.deref_mut.ensures.value
    (is_crash_safe (the_run g s (asked g s)) (given g s) (before g s))

pub returns-clause-acknowledged : goal.returns-clause-acknowledged
returns-clause-acknowledged g c =
    let s : After-status g = (goal.at.returns-clause-acknowledged g c).After-status in
    subst (λ gs. IsAcknowledged (the_run g s (map (λ b. (goal.Guard-dyn g (b.vtable, b.value)).kept b.value) gs))) c.deref_mut.ensures.value
    (is_acknowledged (the_run g s (asked g s)) (given g s) (before g s))
