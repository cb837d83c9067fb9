-- Why a command did not go out, as the end of a run.
use Rattle.sx_base.specs.declared.outcome.Outcome.{Outcome}
use Rattle.sx_base.specs.declared.outcome.Outcome.TheVariants as ended
use Rattle.clone_pieces.specs.declared.stops.SendStop.{SendStop}
use Rattle.clone_pieces.specs.declared.stops.SendStop.TheVariants as stop

abbrev pub outcome_with : SendStop → Outcome
outcome_with stop.InputFault = ended.InputFault
outcome_with (stop.InputChanged file place) = ended.InputChanged file place
outcome_with stop.OutputFault = ended.OutputFault
outcome_with stop.NoMemory = ended.NoMemory
