use Rattle.std.specs.Prelude.{[], map}
use Rattle.std.specs.String.{string_bytes}
use Rattle.std.proofs.Common.{ℕ, subst}
use Rattle.sx_base.specs.Calls.{SteadyIfDone}
use Rattle.sx_base.proofs.Ended.{stopped_steady}
use Rattle.composer.proofs.Asked.{heads_alone, heads_and_all}
use Rattle.composer.proofs.FilesWriting.{survey_stopped}
use Rattle.composer.proofs.Starting.{nothing_traced, nothing_sized, nothing_held, nothing_sayable}
use Rattle.composer.proofs.whole.compose.Goals as goal

pub returns-in-Err-clause-ends : goal.returns-in-Err-clause-ends
returns-in-Err-clause-ends g c = survey_stopped _ (map string_bytes c.args.files.now) [] c.args.overrides.now _ c.in-Err.outcome c.in-Err.ensures.surveyed

pub compose_over-requires-clause-traced : goal.compose_over-requires-clause-traced
compose_over-requires-clause-traced g c tells = nothing_traced _ (map string_bytes c.args.files.now) c.new-core.result c.new-core.ensures

pub compose_over-requires-clause-sized : goal.compose_over-requires-clause-sized
compose_over-requires-clause-sized g c = nothing_sized

pub compose_over-requires-clause-held : goal.compose_over-requires-clause-held
compose_over-requires-clause-held g c tells = nothing_held

pub compose_over-requires-clause-sayable : goal.compose_over-requires-clause-sayable
compose_over-requires-clause-sayable g c tells = nothing_sayable

pub returns-in-Err-clause-steady : goal.returns-in-Err-clause-steady
returns-in-Err-clause-steady g c = stopped_steady _ _ c.in-Err.outcome c.in-Err.ensures.stops

pub returns-in-Err-clause-ends_steady : goal.returns-in-Err-clause-ends_steady
returns-in-Err-clause-ends_steady g c = stopped_steady _ _ c.in-Err.outcome c.in-Err.ensures.stops

pub returns-in-Err-clause-out_steady : goal.returns-in-Err-clause-out_steady
returns-in-Err-clause-out_steady g c = stopped_steady _ _ c.in-Err.outcome c.in-Err.ensures.stops

pub returns-clause-steady : goal.returns-clause-steady
returns-clause-steady g c = subst (λ (n : ℕ). SteadyIfDone n (g.I.Inputs.faults c.compose_over.new.inputs) c.compose_over.result) c.in-Ok.ensures.steady c.compose_over.ensures.steady

pub returns-clause-ends_steady : goal.returns-clause-ends_steady
returns-clause-ends_steady g c = subst (λ (n : ℕ). SteadyIfDone n (g.I.Inputs.ends c.compose_over.new.inputs) c.compose_over.result) c.in-Ok.ensures.ends_steady c.compose_over.ensures.ends_steady

pub returns-in-Err-clause-asked : goal.returns-in-Err-clause-asked
returns-in-Err-clause-asked g c = heads_alone g.I.Inputs (map string_bytes c.args.files.now) c.args.inputs.now c.survey.new.inputs c.in-Err.ensures.asked

pub returns-clause-asked : goal.returns-clause-asked
returns-clause-asked g c =
    heads_and_all g.I.Inputs (map string_bytes c.args.files.now) c.args.inputs.now c.survey.new.inputs c.compose_over.new.inputs c.in-Ok.ensures.same c.in-Ok.ensures.asked c.compose_over.ensures.asked
